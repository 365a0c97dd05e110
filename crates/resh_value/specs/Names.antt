-- The order of names, by their bytes.
use Rattle.std.specs.Prelude.{ℕ, Bool, List, nat_eq}
use Rattle.std.specs.Ordering.{nat_cmp}
use Rattle.std.specs.Cmp.Lexicographic.{slice_cmp, pointwise}
use Rattle.std.specs.declared.cmp.Ordering.{Ordering}
use Rattle.std.specs.List.Sorted.{IsStrictlySortedBy}
use Rattle.std.specs.Map.{keys_of}

-- names are compared by bytes, and the one that ends first is less
abbrev pub name_cmp : List ℕ → List ℕ → Ordering
name_cmp = slice_cmp nat_cmp

-- each name is above the one before it
abbrev pub HasRisingNames : {X : Type 0} → List (List ℕ × X) → Type 0
HasRisingNames fields = IsStrictlySortedBy name_cmp (keys_of fields)

abbrev pub same_name : List ℕ → List ℕ → Bool
same_name = pointwise nat_eq
