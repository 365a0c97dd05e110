-- The names that a walk gives rise, as those of the map that it went through.
use Rattle.std.proofs.Common.{◌≡◌, ℕ, List, [], ◌∷◌, String, Global, map, Ok, Err, Less, string_bytes, string_cmp, refl, sym, ap, subst}
use Rattle.std.specs.List.{AllByRecursion}
use Rattle.std.specs.List.Sorted.{IsStrictlySortedBy}
use Rattle.std.specs.Map.{keys_of}
use Rattle.serde_json.specs.View.{view, members_view}
use Rattle.serde_json.specs.declared.value.Value.{Value as Json}
use Rattle.resh_value.specs.Names.{name_cmp, HasRisingNames}
use Rattle.resh_value.specs.Outcome.{and_then}
use Rattle.resh_value.specs.Paths.{to_name}
use Rattle.resh_value.specs.FromJson.{Read, value_at, members_at}
use Rattle.resh_value.specs.Walk.{at_step}
use Rattle.resh_value.specs.declared.value.Value.{Value}

abbrev pub Entry : Type 0
Entry = String Global × Json

-- where a member and the rest were read, the rest has the names after the first
first_name : (name : List ℕ) (v : Read Value) (rest : Read (List (List ℕ × Value))) (fs : List (List ℕ × Value)) (names : List (List ℕ))
    → ((gs : List (List ℕ × Value)) → rest ≡ Ok gs → keys_of gs ≡ names)
    → and_then (λ x. and_then (λ gs. Ok ((name, x) ∷ gs)) rest) v ≡ Ok fs → keys_of fs ≡ name ∷ names
first_name name (Ok x) (Ok gs) [] names later is = cc
first_name name (Ok x) (Ok gs) (f ∷ fs) names later is =
    let head : (name, x) ≡ f = cc in
    let tail : gs ≡ fs = cc in
    rw (← head, ← tail) (ap (λ ns. name ∷ ns) (later gs refl))
first_name name (Ok x) (Err e) fs names later is = cc
first_name name (Err e) rest fs names later is = cc

names_read : (level : ℕ) (es : List Entry) (fs : List (List ℕ × Value)) → members_at level (members_view es) ≡ Ok fs → keys_of fs ≡ map string_bytes (keys_of es)
names_read level [] [] is = refl
names_read level [] (f ∷ fs) is = cc
names_read level (e ∷ es) fs is =
    first_name (string_bytes e.0) (at_step (to_name (string_bytes e.0)) (value_at level (view e.1))) (members_at level (members_view es)) fs
    (map string_bytes (keys_of es)) (λ gs. names_read level es gs) is

above : (k : String Global) (ks : List (String Global)) → AllByRecursion (λ y. string_cmp k y ≡ Less) ks → AllByRecursion (λ y. name_cmp (string_bytes k) y ≡ Less) (map string_bytes ks)
above k [] h = tt
above k (x ∷ ks) h = (h.0, above k ks h.1)

bytes_rise : (ks : List (String Global)) → IsStrictlySortedBy string_cmp ks → IsStrictlySortedBy name_cmp (map string_bytes ks)
unfolding IsStrictlySortedBy
bytes_rise [] h = tt
bytes_rise (k ∷ ks) h = (above k ks h.0, bytes_rise ks h.1)

pub names_rise : (level : ℕ) (es : List Entry) (fs : List (List ℕ × Value)) → IsStrictlySortedBy string_cmp (keys_of es) → members_at level (members_view es) ≡ Ok fs → HasRisingNames fs
names_rise level es fs sorted is = subst (IsStrictlySortedBy name_cmp) (sym (names_read level es fs is)) (bytes_rise (keys_of es) sorted)
