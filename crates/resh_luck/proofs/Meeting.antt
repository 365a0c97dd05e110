-- The first row that has a call.
use Rattle.std.proofs.Common.{◌≡◌, ℕ, zero, suc, ◌+◌, ◌<◌, ◌≤◌, ◌&&◌, List, [], ◌∷◌, length, drop, get_or, Bool, true, false, Some, None, ap, arith, refl, drop-cons, add-one, nat_le}
use Rattle.std.proofs.lemmas.Bool.{leb-true, le-leb}
use Rattle.resh_luck.specs.declared.row.Kind.{Kind}
use Rattle.resh_luck.specs.declared.row.PlanRow.{PlanRow}
use Rattle.resh_luck.specs.Fates.{met, has_call, same_kind}

pub met_here : (rows : List PlanRow) (i : ℕ) (d : PlanRow) (kind : Kind) (k : ℕ) → i < length rows → has_call kind k (get_or rows i d) ≡ true
    → met (drop i rows) kind k ≡ Some (get_or rows i d).fate
unfolding met
met_here rows i d kind k within e = rw (drop-cons rows i d) (rw e)

pub met_later : (rows : List PlanRow) (i : ℕ) (d : PlanRow) (kind : Kind) (k : ℕ) → i < length rows → has_call kind k (get_or rows i d) ≡ false
    → met (drop i rows) kind k ≡ met (drop (i + 1) rows) kind k
unfolding met
met_later rows i d kind k within e = rw (drop-cons rows i d) (rw (e, add-one))

none_left : (rows : List PlanRow) (i : ℕ) → length rows ≤ i → drop i rows ≡ []
none_left [] zero h = refl
none_left [] (suc i) h = refl
none_left (row ∷ rows) zero h = absurd (omega (arith, h))
none_left (row ∷ rows) (suc i) h = none_left rows i (omega (arith, h))

pub met_nowhere : (rows : List PlanRow) (i : ℕ) (kind : Kind) (k : ℕ) → length rows ≤ i → met (drop i rows) kind k ≡ None
unfolding met
met_nowhere rows i kind k h = ap (λ rest. met rest kind k) (none_left rows i h)

-- a row that has a call has the later ones up to its last
pub still_has : (row : PlanRow) (kind : Kind) (call k : ℕ) → has_call kind call row ≡ true → call ≤ k → k < row.last + 1 → has_call kind k row ≡ true
still_has row kind call k has from to = by (same_kind row.kind kind) (nat_le row.first call) refl has
  where
    by : (a b : Bool) → nat_le row.first call ≡ b → (a && b && nat_le call row.last) ≡ true → (a && nat_le row.first k && nat_le k row.last) ≡ true
    by true true f e =
        let first : nat_le row.first k ≡ true = le-leb row.first k (omega (arith, leb-true row.first call f, from)) in
        let last : nat_le k row.last ≡ true = le-leb k row.last (omega (arith, to)) in
        rw (first, last) refl
    by true false f e = cc
    by false b f e = cc
