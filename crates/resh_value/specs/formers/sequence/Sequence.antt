-- A `Sequence` may hold the type that holds it: its value is the list of its items, in their order.
use Rattle.std.specs.Prelude.{◌≡◌, List, [], ◌∷◌}
use mathlib.Core.Path.{refl, sym, ap}
use mathlib.Core.Former.{Former, this, list, via, children}
use base.Stored.{code_map}
use denote.RattleType.{RattleType}
use denote.HoleLaws.{Alike}
use denote.HolePlaces.{Recodes, struct_places}
use denote.Hole.Carrier.{listed}
use denote.Hole.Fix.{over}
use denote.Param.Weighed.{Weighed, w_list}
use denote.Model.Placed.{view_places}
use Rattle.std.specs.formers.vec.Vec.{mapped}
use Rattle.resh_value.specs.HeapList.{heap_list, list_stays}
use Rattle.resh_value.specs.declared.sequence.Sequence.TheInside.{Inside}
use Rattle.resh_value.specs.declared.sequence.Sequence.TheView.{view, invariant}
use Rattle.resh_value.specs.contracts.sequence.Sequence as sequence
use Rattle.resh_value.specs.contracts.sequence.Sequence.TheInside as inside

-- what contracts see
abbrev pub the_former : Former {0} → Former {0}
the_former item = list item

abbrev pub the_weighed : {item : Former {0}} → Weighed item → Weighed (the_former item)
the_weighed of_item = w_list of_item

pub the_empty : List ⊥
the_empty = []

abbrev pub the_items : (X : Type 0) → List X → List X
the_items X xs = xs

pub the_items_listed : (X : Type 0) (xs : List X) → listed _ (children (the_former this) X xs) ≡ the_items X xs
the_items_listed X [] = refl
the_items_listed X (x ∷ xs) = ap (λ rest. x ∷ rest) (the_items_listed X xs)

-- what the struct keeps
abbrev kept : Former {0}
kept = via (heap_list this) Inside (λ X s. s.items) (λ X xs. record { items = xs }) (λ X s. refl) (λ X xs. refl)

module _ (R S : RattleType) (h : R.Denot → S.Denot) where
  -- the struct stays where its items stay
  kept_stays : Alike R S h → Alike (inside.the_row R) (inside.the_row S) (kept.map R.Denot S.Denot h)
  kept_stays a = struct_places (inside.the_type R) (inside.the_type S) (mapped h, tt) (kept.map R.Denot S.Denot h)
      (λ s. refl) refl (list_stays R S h a, tt)

  pub the_places : Alike R S h
      → Alike (sequence.the_row R) (sequence.the_row S) ((the_former this).map R.Denot S.Denot h)
  the_places a =
      view_places kept (the_former this) view (λ X Y k s. refl) (λ X s. refl) R.Denot S.Denot h
      (sequence.the_row R).coded (sequence.the_row S).coded
      (invariant R.Denot) (invariant S.Denot) (λ s p q. refl) (λ s p q. refl) (λ s _. tt) (λ s _. tt)
      (over (inside.the_row R)) (over (inside.the_row S)) (kept_stays a)

  -- a list's code is that of its items
  pub the_codes_placed : Recodes R S h
      → Recodes (sequence.the_row R) (sequence.the_row S) ((the_former this).map R.Denot S.Denot h)
  the_codes_placed same xs = sym (code_map R.coded.code S.coded.code h (λ x. sym (same x)) xs)
