-- The documents of a generated setup.
use Rattle.std.specs.Prelude.{ℕ, pos, ◌+◌, ◌*◌, ◌%◌, List, [], ◌∷◌, map, codes}
use Rattle.std.specs.List.{range_with_len}
use Rattle.resh_value.specs.declared.value.Value.{Value}
use Rattle.resh_value.specs.declared.value.Value.TheVariants.{Int}
use Rattle.resh_gen.specs.Draws.{drawn}

abbrev pub Document : Type 0
Document = List (List ℕ × Value)

-- a field with a whole number that isn't negative
abbrev pub field : List ℕ → ℕ → List ℕ × Value
field name n = (name, Int (pos n))

-- `{"_id":ID,"n":0,"x":X,"y":Y}`
abbrev pub document : ℕ → ℕ → ℕ → Document
document id x y = field (codes "_id") id ∷ field (codes "n") 0 ∷ field (codes "x") x ∷ field (codes "y") y ∷ []

-- the values under `x` and `y` of the document of an index
abbrev pub x_of : ℕ → ℕ → ℕ
x_of number index = drawn number (2 * index) % 1000

abbrev pub y_of : ℕ → ℕ → ℕ
y_of number index = drawn number (2 * index + 1) % 1000

abbrev pub document_at : ℕ → ℕ → Document
document_at number index = document index (x_of number index) (y_of number index)

-- the first so many documents
unfoldable pub first_documents : ℕ → ℕ → List Document
first_documents number count = map (document_at number) (range_with_len 0 count)
