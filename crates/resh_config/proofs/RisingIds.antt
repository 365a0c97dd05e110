-- Where each `_id` is below the next, no two documents have one place.
use Rattle.std.proofs.Common.{◌≡◌, ◌∙◌, false, cond, Some, None, List, [], ◌∷◌, ◌++◌, length, refl, sym, ap}
use Rattle.std.specs.Prelude.{⊤, ◌&&◌, ◌||◌, ◌==◌}
use Rattle.std.proofs.Math.Bool.{and-false}
use Rattle.std.specs.List.{list_any}
use Rattle.std.specs.Ordering.{is_eq, ordering_reverse}
use Rattle.std.specs.declared.cmp.Ordering.TheVariants.{Less}
use Rattle.resh_value.specs.Lookup.{id_of}
use Rattle.resh_value.specs.Order.{compare_of}
use Rattle.resh_value.specs.OrderLaws.{compare_total}
use Rattle.resh_value.specs.declared.value.Value.{Value}
use Rattle.resh_chunks.specs.Chunks.{Chunks, owner_of}
use Rattle.resh_setup.specs.Documents.{Document, same_place, first_same}
use Rattle.resh_config.specs.Documents.{IsBelow, IdsRise}

-- each `_id` is below this one
abbrev AreBelow : List Document → Value → Type 0
AreBelow [] v = ⊤
AreBelow (b ∷ before) v = (compare_of (id_of b) v ≡ Less) × AreBelow before v

-- the same of the first of these, where there is one
abbrev AreBelowFirst : List Document → List Document → Type 0
AreBelowFirst before [] = ⊤
AreBelowFirst before (d ∷ later) = AreBelow before (id_of d)

above_is_other : (d b : Document) → compare_of (id_of b) (id_of d) ≡ Less → is_eq (compare_of (id_of d) (id_of b)) ≡ false
above_is_other d b e = ap is_eq (compare_total.antisymm (id_of d) (id_of b) ∙ ap ordering_reverse e)

none_same : (chunks : Chunks) (d : Document) (before : List Document) → AreBelow before (id_of d) → list_any (same_place chunks d) before ≡ false
none_same chunks d [] h = refl
none_same chunks d (b ∷ before) h =
    let other : same_place chunks d b ≡ false = ap (λ t. (owner_of chunks d == owner_of chunks b) && t) (above_is_other d b h.0) ∙ and-false (owner_of chunks d == owner_of chunks b) in
    λ i. other i || none_same chunks d before h.1 i

stay_below : (before : List Document) (v w : Value) → compare_of v w ≡ Less → AreBelow before v → AreBelow before w
stay_below [] v w e h = tt
stay_below (b ∷ before) v w e h = (compare_total.trans (id_of b) v w h.0 e, stay_below before v w e h.1)

one_more : (before : List Document) (d : Document) (v : Value) → AreBelow before v → compare_of (id_of d) v ≡ Less → AreBelow (before ++ d ∷ []) v
one_more [] d v h e = (e, tt)
one_more (b ∷ before) d v h e = (h.0, one_more before d v h.1 e)

first_above : (before : List Document) (d : Document) (later : List Document) → AreBelow before (id_of d) → IsBelow d later → AreBelowFirst (before ++ d ∷ []) later
first_above before d [] h e = tt
first_above before d (next ∷ later) h e = one_more before d (id_of next) (stay_below before (id_of d) (id_of next) e h) e

none_from : (chunks : Chunks) (before ds : List Document) → AreBelowFirst before ds → IdsRise ds → first_same chunks before ds ≡ None
none_from chunks before [] h rise = refl
none_from chunks before (d ∷ later) h rise =
    ap (λ b. cond b (Some (length before)) (first_same chunks (before ++ d ∷ []) later)) (none_same chunks d before h)
    ∙ none_from chunks (before ++ d ∷ []) later (first_above before d later h rise.0) rise.1

none_below : (ds : List Document) → AreBelowFirst [] ds
none_below [] = tt
none_below (d ∷ later) = tt

pub none_same_rising : (chunks : Chunks) (ds : List Document) → IdsRise ds → None ≡ first_same chunks [] ds
none_same_rising chunks ds rise = sym (none_from chunks [] ds (none_below ds) rise)
