-- Objects that stand for one value by their only name.
use Rattle.std.specs.Prelude.{ℕ, ◌+◌, ◌*◌, ◌^◌, ℤ, Bool, ◌&&◌, cond, ◌==◌, nat_lt, nat_le, List, [], ◌∷◌, length, drop, Option, Some, None, option_map, option_and_then, codes}
use Rattle.std.specs.Char.{digit_value, is_ascii_digit, is_ascii_hexdigit}
use Rattle.std.specs.List.{list_all}
use Rattle.std.specs.Str.Parse.{starts_with_minus, digits_value, signed_digits_value}
use Rattle.serde_json.specs.Data.{Data, Members, no_members, member}
use Rattle.serde_json.specs.Find.{as_str, as_object}
use Rattle.resh_value.specs.Names.{same_name}
use Rattle.resh_value.specs.declared.value.Value.{Value}
use Rattle.resh_value.specs.declared.value.Value.TheVariants.{Int, Oid, Date}

-- the digits of a whole number, after its minus sign
abbrev pub digits_of : List ℕ → List ℕ
digits_of text = cond (starts_with_minus text) (drop 1 text) text

-- one to nineteen decimal digits
abbrev pub is_numeral : List ℕ → Bool
is_numeral digits = nat_lt 0 (length digits) && nat_le (length digits) 19 && list_all is_ascii_digit digits

-- a signed number of so many bits holds it
abbrev pub is_in_bits : ℕ → List ℕ → Bool
is_in_bits bits text =
    cond (starts_with_minus text) (nat_le (digits_value 10 (digits_of text)) (2 ^ bits))
    (nat_lt (digits_value 10 (digits_of text)) (2 ^ bits))

abbrev pub whole_of : ℕ → List ℕ → Option ℤ
whole_of bits text = cond (is_numeral (digits_of text) && is_in_bits bits text)
    (Some (signed_digits_value 10 text)) None

-- two hexadecimal digits a byte
abbrev pub bytes_of_hex : List ℕ → List ℕ
bytes_of_hex [] = []
bytes_of_hex (high ∷ []) = []
bytes_of_hex (high ∷ low ∷ rest) = (digit_value high * 16 + digit_value low) ∷ bytes_of_hex rest

abbrev pub oid_of : List ℕ → Option (List ℕ)
oid_of text = cond ((length text == 24) && list_all is_ascii_hexdigit text) (Some (bytes_of_hex text)) None

abbrev pub oid_in : Data → Option Value
oid_in content = option_map Oid (option_and_then oid_of (as_str content))

abbrev pub whole_in : ℕ → Data → Option ℤ
whole_in bits content = option_and_then (whole_of bits) (as_str content)

-- the instant of `{"$numberLong": ..}`
abbrev pub instant_of : Members → Option Value
instant_of (member name content no_members) =
    cond (same_name name (codes "$numberLong")) (option_map Date (whole_in 63 content)) None
instant_of no_members = None
instant_of (member name content (member other more rest)) = None

abbrev pub date_in : Data → Option Value
date_in content = option_and_then instant_of (as_object content)

-- what an object of one name stands for: the outer answer is whether the name is a tag's, and the inner one is
-- what the content gives
abbrev pub tagged : List ℕ → Data → Option (Option Value)
tagged name content =
    cond (same_name name (codes "$oid")) (Some (oid_in content))
    (cond (same_name name (codes "$numberLong")) (Some (option_map Int (whole_in 63 content)))
    (cond (same_name name (codes "$numberInt")) (Some (option_map Int (whole_in 31 content)))
    (cond (same_name name (codes "$date")) (Some (date_in content)) None)))

abbrev pub tag_of : Members → Option (Option Value)
tag_of no_members = None
tag_of (member name content no_members) = tagged name content
tag_of (member name content (member other more rest)) = None
