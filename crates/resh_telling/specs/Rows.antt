-- The cells of one recipient, in lists by recipient.
use Rattle.std.specs.Prelude.{ℕ, List, [], map, slice_index_or, slice_set}

abbrev pub row_of : {X : Type 0} → List (List X) → ℕ → List X
row_of rows recipient = slice_index_or rows recipient []

-- each cell of a recipient changed
abbrev pub on_row : {X : Type 0} → ℕ → (X → X) → List (List X) → List (List X)
on_row recipient f rows = slice_set rows recipient (map f (row_of rows recipient))

-- one cell of a recipient changed
abbrev pub at_place : {X : Type 0} → ℕ → (X → X) → X → List X → List X
at_place place f default row = slice_set row place (f (slice_index_or row place default))

abbrev pub in_row : {X : Type 0} → ℕ → ℕ → (X → X) → X → List (List X) → List (List X)
in_row recipient place f default rows =
    slice_set rows recipient (at_place place f default (row_of rows recipient))
