-- What an answer takes of the calls to come.
use Rattle.std.proofs.Common.{◌≡◌, ℕ, suc, zero, ◌+◌, ◌-◌, ◌^◌, ◌<◌, ◌≤◌, List, [], ◌∷◌, Bool, true, false, not, max, cond, nat_lt, nat_le, ◌&&◌, find, Option, Some, None, ap, sym, ◌∙◌, arith, refl}
use Rattle.std.specs.Option.{option_map_or}
use Rattle.std.proofs.lemmas.Bool.Decides.{nat_tests}
use Rattle.std.proofs.lemmas.Grind.{common_steps}
use Rattle.resh_luck.specs.declared.row.Kind.{Kind}
use Rattle.resh_luck.specs.declared.row.Kind.TheVariants.{Commit, Deliver}
use Rattle.resh_luck.specs.declared.row.PlanRow.{PlanRow}
use Rattle.resh_luck.specs.declared.row.PlanFate.{PlanFate}
use Rattle.resh_luck.specs.declared.row.PlanFate.TheVariants as plan
use Rattle.resh_luck.specs.declared.fate.Fate.{Fate}
use Rattle.resh_luck.specs.declared.fate.Fate.TheVariants as fate
use Rattle.resh_luck.specs.Fates.{Told, met, has_call, same_kind, as_fate, next_fate, after_commit, next_count}
use Rattle.resh_ending.specs.Calls.{greatest, calls, FateCalls}

abbrev fate_at : Kind → ℕ → List PlanRow → Option PlanFate
fate_at kind k rows = option_map_or (λ row. Some row.fate) (find (has_call kind k) rows) None

reaches : (b : Bool) (first k last : ℕ) → (b && nat_le first k && nat_le k last) ≡ true → k ≤ last
reaches true first k last e = grind (arith, nat_tests)
reaches false first k last e = cc

first_or : (kind : Kind) (k : ℕ) (row : PlanRow) (rest : Option PlanRow) (p : PlanFate) (most : ℕ) (b : Bool) → has_call kind k row ≡ b
    → (option_map_or (λ r. Some r.fate) rest None ≡ Some p → k ≤ most)
    → option_map_or (λ r. Some r.fate) (cond b (Some row) rest) None ≡ Some p → k ≤ max row.last most
first_or kind k row rest p most true h ih e = let fits = reaches (same_kind row.kind kind) row.first k row.last h in omega arith
first_or kind k row rest p most false h ih e = let fits = ih e in omega arith

found : (kind : Kind) (k : ℕ) (rows : List PlanRow) (p : PlanFate) → fate_at kind k rows ≡ Some p → k ≤ greatest rows
unfolding greatest
found kind k [] p e = cc
found kind k (row ∷ rows) p e = first_or kind k row (find (has_call kind k) rows) p (greatest rows) (has_call kind k row) refl (found kind k rows p) e

pub calls-met : (rows : List PlanRow) (kind : Kind) (k : ℕ) (p : PlanFate) → met rows kind k ≡ Some p → k ≤ greatest rows
unfolding met
calls-met rows kind k p e = found kind k rows p e

-- the two counts of calls that a luck has had
spent : (most a b : ℕ) → a < 2 ^ 32 → a + 1 ≤ most → (most - next_count a) + (most - b) < (most - a) + (most - b)
spent most a b small within = grind (arith, nat_tests)

kept : (most a b : ℕ) → (most - next_count a) + (most - b) ≤ (most - a) + (most - b)
kept most a b = grind (arith, nat_tests)

some_fate : (o : Option PlanFate) (b : Bool) (before now : ℕ) → now ≤ before → (b ≡ true → (p : PlanFate) → o ≡ Some p → now < before) → FateCalls (cond b (as_fate o) fate.Kept) before now
some_fate o false before now le lt = le
some_fate None true before now le lt = le
some_fate (Some plan.CrashedBefore) true before now le lt = lt refl plan.CrashedBefore refl
some_fate (Some plan.CrashedAfter) true before now le lt = lt refl plan.CrashedAfter refl
some_fate (Some plan.Failed) true before now le lt = lt refl plan.Failed refl
some_fate (Some plan.Lost) true before now le lt = le
some_fate (Some plan.Twice) true before now le lt = le

pub calls-commit : (t : Told) → FateCalls (next_fate t) (calls t) (calls (after_commit t))
unfolding calls
calls-commit t =
    let most = greatest t.rows in
    some_fate (met t.rows Commit (t.commits + 1)) (nat_lt t.commits (2 ^ 32)) _ _ (kept most t.commits t.deliveries)
    (λ small p e. spent most t.commits t.deliveries (below t.commits small) (calls-met t.rows Commit (t.commits + 1) p e))
  where
    below : (n : ℕ) → nat_lt n (2 ^ 32) ≡ true → n < 2 ^ 32
    below n e = grind (arith, nat_tests)
