-- What the first clash that was found decides of a switch and of a drop.
use Rattle.std.proofs.Common.{◌≡◌, ℕ, Bool, true, false, not, ◌&&◌, Option, Some, None, eqb, refl, sym, ap, subst, ◌∙◌}
use Rattle.std.proofs.lemmas.Bool.{eqb-true, eq-eqb, and_parts}
use Rattle.std.specs.Bool.{Decides}
use Rattle.std.specs.Cmp.{Equal-is}
use Rattle.std.specs.Option.{MatchOption, is_some}
use Rattle.std.specs.Ordering.{is_eq}
use Rattle.resh_value.specs.Order.{compare_of}
use Rattle.resh_value.specs.OrderLaws.{compare_itself, compare_same}
use Rattle.resh_value.specs.declared.value.Value.{Value}
use Rattle.resh_chunks.specs.Chunks.{Chunks}
use Rattle.resh_bag.specs.Bag.{Bag}
use Rattle.resh_bag.specs.Placement.{HasNoClash, IsFirstClash}
use Rattle.resh_model.specs.States.{is_at}
use Rattle.resh_model.specs.declared.clash.Clash.{Clash}
use Rattle.resh_model.proofs.placing.Clashing.{one_first}

module _ (new_map : Chunks) (bag : Bag) where
  abbrev pub IsFound : Option Clash → Type 0
  IsFound found = MatchOption found (HasNoClash new_map bag) (λ c. IsFirstClash new_map bag c.shard.0 c.id)

  -- a switch may come exactly where no clash was found
  pub switch_decided : {P : Type 0} (p : P) (b : Bool) (found : Option Clash) → is_some found ≡ not b → IsFound found → Decides b (P × HasNoClash new_map bag)
  switch_decided p true None e none = (λ t. (p, none), λ q. refl)
  switch_decided p false None e none = cc
  switch_decided p true (Some c) e first = cc
  switch_decided p false (Some c) e first = (λ t. cc, λ q. absurd (q.1 c.shard.0 c.id first.clash))

  module _ (shard : ℕ) (id : Value) where
    same_clash : (c : Clash) → IsFirstClash new_map bag c.shard.0 c.id → is_at (Some c) shard id ≡ true → IsFirstClash new_map bag shard id
    same_clash c first e =
        let parts = and_parts (eqb c.shard.0 shard) (is_eq (compare_of c.id id)) e in
        let ids : c.id ≡ id = compare_same c.id id ((Equal-is (compare_of c.id id)).0 parts.1) in
        subst (λ s. IsFirstClash new_map bag s id) (eqb-true c.shard.0 shard parts.0) (subst (IsFirstClash new_map bag c.shard.0) ids first)

    clash_same : (c : Clash) → IsFirstClash new_map bag c.shard.0 c.id → IsFirstClash new_map bag shard id → is_at (Some c) shard id ≡ true
    clash_same c first other =
        let same = one_first new_map bag c.shard.0 shard c.id id first other in
        (λ i. eqb c.shard.0 (sym same.0 i) && is_eq (compare_of c.id (sym same.1 i)))
        ∙ ap (λ b. b && is_eq (compare_of c.id c.id)) (eq-eqb c.shard.0 c.shard.0 refl) ∙ ap is_eq (compare_itself c.id)

    -- a drop for a clash may come exactly where that clash was found
    pub clash_decided : {P : Type 0} (p : P) (found : Option Clash) → IsFound found → Decides (is_at found shard id) (P × IsFirstClash new_map bag shard id)
    clash_decided p None none = (λ e. cc, λ q. absurd (none shard id q.1.clash))
    clash_decided p (Some c) first = (λ e. (p, same_clash c first e), λ q. clash_same c first q.1)
