-- How many levels of documents and arrays a value has.
use Rattle.std.specs.Prelude.{ℕ, suc, max, List, [], ◌∷◌, map}
use Rattle.resh_value.specs.declared.value.Value.{Value, fold-Value}
use Rattle.resh_value.specs.declared.value.Value.TheOpen.{Value-F}

abbrev pub greatest : List ℕ → ℕ
greatest [] = 0
greatest (n ∷ ns) = max n (greatest ns)

abbrev pub levels_step : Value-F ℕ → ℕ
levels_step Value-F.Null = 0
levels_step (Value-F.Int n) = 0
levels_step (Value-F.Text text) = 0
levels_step (Value-F.Doc fields) = suc (greatest (map (λ f. f.1) fields))
levels_step (Value-F.List items) = suc (greatest items)
levels_step (Value-F.Oid bytes) = 0
levels_step (Value-F.Bool b) = 0
levels_step (Value-F.Date n) = 0

unfoldable pub levels_of : Value → ℕ
levels_of = fold-Value ℕ levels_step

-- a document without embedded values has one level
abbrev pub document_levels : List (List ℕ × Value) → ℕ
document_levels fields = suc (greatest (map (λ f. levels_of f.1) fields))
