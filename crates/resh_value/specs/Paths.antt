-- Paths into a JSON value, as JSON Pointers (RFC 6901).
use Rattle.std.specs.Prelude.{ℕ, List, [], ◌∷◌, cond, ◌==◌, flat_map, decimal}

-- `~` is written `~0`, and `/` is `~1`
abbrev pub pointer_escape : ℕ → List ℕ
pointer_escape byte = cond (byte == 126) (126 ∷ 48 ∷ []) (cond (byte == 47) (126 ∷ 49 ∷ []) (byte ∷ []))

-- one step of a path: to the member of a name, and to the item at a place
abbrev pub to_name : List ℕ → List ℕ
to_name name = 47 ∷ flat_map pointer_escape name

abbrev pub to_place : ℕ → List ℕ
to_place place = 47 ∷ decimal place
