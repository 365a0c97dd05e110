-- The text of a value: compact JSON, names in byte order.
use Rattle.std.specs.Prelude.{ℕ, ◌/◌, ◌%◌, List, [], ◌∷◌, ◌++◌, flat_map, map, codes}
use Rattle.std.specs.Fmt.{signed_decimal}
use Rattle.std.specs.Char.{digit_char}
use Rattle.json.specs.Token.{Token, begin_object, end_object, begin_array, end_array, key, string, number, boolean, null}
use Rattle.json.specs.Print.{print}
use Rattle.resh_value.specs.declared.value.Value.{Value, fold-Value}
use Rattle.resh_value.specs.declared.value.Value.TheOpen.{Value-F}

-- two lower-case digits a byte
abbrev pub hex_of : List ℕ → List ℕ
hex_of bytes = flat_map (λ b. digit_char (b / 16) ∷ digit_char (b % 16) ∷ []) bytes

-- an object's tokens, from those of its values
abbrev pub object_tokens : List (List ℕ × List Token) → List Token
object_tokens fields = begin_object ∷ (flat_map (λ f. key f.0 ∷ f.1) fields ++ end_object ∷ [])

abbrev pub array_tokens : List (List Token) → List Token
array_tokens items = begin_array ∷ (flat_map (λ ts. ts) items ++ end_array ∷ [])

-- `{"NAME":"TEXT"}`
abbrev pub tag_tokens : List ℕ → List Token → List Token
tag_tokens name content = begin_object ∷ key name ∷ (content ++ end_object ∷ [])

-- the tokens of a value, from those of the values inside
abbrev pub tokens_step : Value-F (List Token) → List Token
tokens_step Value-F.Null = null ∷ []
tokens_step (Value-F.Int n) = number (signed_decimal n) ∷ []
tokens_step (Value-F.Text text) = string text ∷ []
tokens_step (Value-F.Doc fields) = object_tokens fields
tokens_step (Value-F.List items) = array_tokens items
tokens_step (Value-F.Oid bytes) = tag_tokens (codes "$oid") (string (hex_of bytes) ∷ [])
tokens_step (Value-F.Bool b) = boolean b ∷ []
tokens_step (Value-F.Date n) =
    tag_tokens (codes "$date") (tag_tokens (codes "$numberLong") (string (signed_decimal n) ∷ []))

unfoldable pub tokens_of : Value → List Token
tokens_of = fold-Value (List Token) tokens_step

abbrev pub document_tokens : List (List ℕ × Value) → List Token
document_tokens fields = object_tokens (map (λ f. (f.0, tokens_of f.1)) fields)

abbrev pub text_of : Value → List ℕ
text_of v = print (tokens_of v)

abbrev pub document_text : List (List ℕ × Value) → List ℕ
document_text fields = print (document_tokens fields)
