-- Lines, and the names that stand in them.
use Rattle.std.specs.Prelude.{ℕ, List, [], ◌∷◌, ◌++◌, map, slice_index_or}
use Rattle.resh_setup.specs.declared.client.Client.{Client}

-- a line and its line feed
abbrev pub line : List ℕ → List ℕ
line text = text ++ 10 ∷ []

-- the name at a place, or nothing where there is none
abbrev pub name_at : List (List ℕ) → ℕ → List ℕ
name_at names place = slice_index_or names place []

abbrev pub names_of : List Client → List (List ℕ)
names_of clients = map (λ client. client.name) clients
