-- Paths in their order, none of which begins another.
use Rattle.std.specs.Prelude.{◌≡◌, true, List}
use Rattle.std.specs.declared.cmp.Ordering.{Ordering}
use Rattle.std.specs.Ordering.{is_eq}
use Rattle.std.specs.Cmp.Lexicographic.{slice_cmp}
use Rattle.std.specs.List.{list_any, starts_with}
use Rattle.resh_value.specs.Names.{name_cmp, same_name}
use Rattle.resh_ops.specs.Paths.{Path}

-- paths are compared name by name, and the one that ends first is less
abbrev pub path_cmp : Path → Path → Ordering
path_cmp = slice_cmp name_cmp

abbrev pub IsAmong : Path → List Path → Type 0
IsAmong path paths = list_any (λ p. is_eq (path_cmp path p)) paths ≡ true

abbrev pub AreApart : List Path → Type 0
AreApart paths = (p q : Path) → IsAmong p paths → IsAmong q paths → starts_with same_name q p ≡ true → p ≡ q
