-- A walk goes on turn by turn.
use Rattle.std.proofs.Common.{◌≡◌, ℕ, suc, ◌+◌, ◌<◌, ◌≤◌, List, [], ◌∷◌, length, drop, get_or, refl, sym, ap, subst, ◌∙◌, arith}
use Rattle.std.proofs.Math.Numerals.{add-one}
use Rattle.std.proofs.Math.Seq.{drop-cons}
use Rattle.std.proofs.lemmas.List.{drop_all}
use Rattle.resh_setup.specs.declared.setup.Setup.{Setup}
use Rattle.resh_setup.specs.declared.turn.Turn.{Turn}
use Rattle.resh_bag.specs.Bag.{IsPlaced}
use Rattle.resh_model.specs.Orders.{State, opening, turned, walked, last_state, Allows, AllowsAll}
use Rattle.resh_model.proofs.orders.Placed.{stays_placed}

-- from a state on, the turns that are left lead to the last state, and may come exactly where all of them may
pub record Onward (setup : Setup) (order : List Turn) (state : State) (rest : List Turn) : Type 0 where
  pub leads : walked setup state rest ≡ last_state setup order
  pub all : AllowsAll setup state rest → AllowsAll setup (opening setup) order
  pub rest_of : AllowsAll setup (opening setup) order → AllowsAll setup state rest
  pub placed : IsPlaced state.map state.bag

module _ (setup : Setup) (order : List Turn) where
  pub from_opening : (state : State) → state ≡ opening setup → Onward setup order state order
  from_opening state is = subst (λ s. Onward setup order s order) (sym is) (record { leads = refl; all = λ a. a; rest_of = λ a. a; placed = stays_placed.opens setup })

  next_turn : (i : ℕ) (t : Turn) → i < length order → t ≡ get_or order i t → drop i order ≡ t ∷ drop (i + 1) order
  next_turn i t within is = drop-cons order i t within ∙ (λ j. sym is j ∷ drop (sym (add-one i) j) order)

  pub one_turn : (state : State) (i : ℕ) (t : Turn) → i < length order → t ≡ get_or order i t → Onward setup order state (drop i order) → Allows setup state t
      → (new : State) → new ≡ turned setup state t → Onward setup order new (drop (i + 1) order)
  one_turn state i t within is onward allowed new made =
      let o : Onward setup order state (t ∷ drop (i + 1) order) = subst (Onward setup order state) (next_turn i t within is) onward in
      subst (λ s. Onward setup order s (drop (i + 1) order)) (sym made)
      (record { leads = o.leads; all = λ a. o.all (allowed, a); rest_of = λ a. (o.rest_of a).1; placed = stays_placed.turns setup state t o.placed })

  pub refused_turn : (state : State) (i : ℕ) (t : Turn) → i < length order → t ≡ get_or order i t → Onward setup order state (drop i order) → (Allows setup state t → ⊥) → AllowsAll setup (opening setup) order → ⊥
  refused_turn state i t within is onward refused all =
      let o : Onward setup order state (t ∷ drop (i + 1) order) = subst (Onward setup order state) (next_turn i t within is) onward in
      refused (o.rest_of all).0

  pub at_end : (state : State) (i : ℕ) → length order ≤ i → Onward setup order state (drop i order) → AllowsAll setup (opening setup) order × (state ≡ last_state setup order)
  at_end state i le onward =
      let o : Onward setup order state [] = subst (Onward setup order state) (drop_all i order le) onward in
      (o.all tt, o.leads)
