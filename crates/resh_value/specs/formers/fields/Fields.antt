-- `Fields` as a type that may hold the type that holds it, by its values.
use Rattle.std.specs.Prelude.{◌≡◌, ℕ, List, [], ◌∷◌, map}
use mathlib.Core.Path.{refl, sym, ap, subst}
use mathlib.Core.Former.{Former, this, const, pair, list, via, children}
use base.Stored.{code_map, coded×, coded_list, coded_ℕ, gcons}
use denote.RattleType.{RattleType}
use denote.HoleLaws.{Alike}
use denote.HolePlaces.{Recodes, struct_places, laid}
use denote.Hole.Carrier.{listed}
use denote.Hole.Fix.{over}
use denote.Param.Weighed.{Weighed, w_list, w_pair, w_const}
use denote.Model.Placed.{view_places}
use denote.Struct.Tuple.{Tuple, tuple_type}
use Rattle.std.specs.formers.vec.Vec.{mapped}
use Rattle.std.specs.List.Sorted.{IsStrictlySortedBy, IsStrictlySortedBy-prop}
use Rattle.std.specs.Map.{keys_of, values_of}
use Rattle.resh_value.specs.declared.fields.Fields.TheInside.{Inside}
use Rattle.resh_value.specs.declared.fields.Fields.TheView.{view, invariant}
use Rattle.resh_value.specs.contracts.fields.Fields as C
use Rattle.resh_value.specs.contracts.fields.Fields.TheInside as I
use Rattle.resh_value.specs.contracts.words.Words as words
use Rattle.resh_value.specs.HeapList.{heap_list, list_stays}
use Rattle.resh_value.specs.Names.{name_cmp}

-- a name beside one of g's values
abbrev named : Former {0} → Former {0}
named g = pair (const (List ℕ)) g

abbrev pub the_former : Former {0} → Former {0}
the_former g = list (named g)

abbrev pub the_weighed : {g : Former {0}} → Weighed g → Weighed (the_former g)
the_weighed w = w_list (w_pair (w_const (List ℕ)) w)

pub the_empty : List (List ℕ × ⊥)
the_empty = []

abbrev pub the_items : (X : Type 0) → List (List ℕ × X) → List X
the_items X d = values_of d

pub the_items_listed : (X : Type 0) (d : List (List ℕ × X)) → listed _ (children (the_former this) X d) ≡ the_items X d
the_items_listed X [] = refl
the_items_listed X (f ∷ fs) = ap (λ l. f.1 ∷ l) (the_items_listed X fs)

abbrev inside : Former {0}
inside = via (heap_list (named this)) Inside (λ X a. a.pairs) (λ X v. record { pairs = v }) (λ X a. refl) (λ X v. refl)

-- a field whose value goes along h
abbrev along : {X Y : Type 0} → (X → Y) → List ℕ × X → List ℕ × Y
along h f = (f.0, h f.1)

names_stay : {X Y : Type 0} (h : X → Y) (fs : List (List ℕ × X)) → keys_of (map (along h) fs) ≡ keys_of fs
names_stay h [] = refl
names_stay h (f ∷ fs) = ap (λ l. f.0 ∷ l) (names_stay h fs)

abbrev pair_of : RattleType → RattleType
pair_of R = Tuple (words.the_row ∷ R ∷ [])

module _ (R S : RattleType) (h : R.Denot → S.Denot) where
  pair_places : Alike R S h → Alike (pair_of R) (pair_of S) (along h)
  pair_places a = struct_places (tuple_type (words.the_row ∷ R ∷ [])) (tuple_type (words.the_row ∷ S ∷ []))
      ((λ n. n), (h, tt)) (along h) (λ d. refl) refl
      ((refl, (λ n. refl, λ n. refl)), (laid _ _ _ a, tt))

  pub the_places : Alike R S h → Alike (C.the_row R) (C.the_row S) ((the_former this).map R.Denot S.Denot h)
  the_places a = view_places inside (the_former this) view (λ X Y k u. refl) (λ X u. refl) R.Denot S.Denot h
      (C.the_row R).coded (C.the_row S).coded
      (invariant R.Denot) (invariant S.Denot) (λ u. IsStrictlySortedBy-prop name_cmp _)
      (λ u. IsStrictlySortedBy-prop name_cmp _)
      (λ u. subst (IsStrictlySortedBy name_cmp) (sym (names_stay h u.pairs.items)))
      (λ u. subst (IsStrictlySortedBy name_cmp) (names_stay h u.pairs.items))
      (over (I.the_row R)) (over (I.the_row S))
      (struct_places (I.the_type R) (I.the_type S) (mapped (along h), tt) (inside.map R.Denot S.Denot h)
      (λ d. refl) refl (list_stays (pair_of R) (pair_of S) (along h) (pair_places a), tt))

  pub the_codes_placed : Recodes R S h → Recodes (C.the_row R) (C.the_row S) ((the_former this).map R.Denot S.Denot h)
  the_codes_placed e d =
      sym (code_map (coded× (coded_list coded_ℕ) R.coded).code (coded× (coded_list coded_ℕ) S.coded).code (along h)
      (λ f i. gcons ((coded_list coded_ℕ).code f.0) (sym (e f.1) i)) d)
