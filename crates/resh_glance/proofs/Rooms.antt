-- The room that tokens need.
use Rattle.std.proofs.Common.{◌≡◌, ℕ, ◌+◌, ◌*◌, ◌-◌, ◌^◌, min, ◌<◌, ◌≤◌, ℤ, pos, negsuc, Bool, true, false, List, [], ◌∷◌, ◌++◌, length, flat_map, map, take, get_or, sym, ap, ◌∙◌, arith, length-append}
use Rattle.std.specs.Prelude.{codes, int_lt, nat_lt}
use Rattle.std.proofs.lemmas.Bool.{le-ltb}
use Rattle.std.proofs.lemmas.List.{take_more}
use Rattle.std.specs.Fmt.{signed_decimal}
use Rattle.std.specs.Int.Signed.{mag}
use Rattle.std.proofs.lemmas.Fmt.{length_signed_le, length-decimal-le}
use Rattle.json.specs.Token.{Token, begin_object, end_object, begin_array, end_array, key, string, number, boolean, null, bad}
use Rattle.json.specs.Print.{escape_byte, escape, quoted, token_text, ends, separator, print_from, print}
use Rattle.json.specs.Tree.{room}
use Rattle.json.proofs.Printed.Trees.{room-append}
use Rattle.resh_value.specs.Text.{tokens_of, document_tokens, array_tokens, tag_tokens, hex_of}
use Rattle.resh_value.specs.declared.value.Value.{Value}
use Rattle.resh_glance.specs.Room.{Covers}

length-separator : (c : Bool) (t : Token) → length (separator c t) ≤ 1
length-separator true begin_object = omega arith
length-separator true end_object = omega arith
length-separator true begin_array = omega arith
length-separator true end_array = omega arith
length-separator true (key s) = omega arith
length-separator true (string s) = omega arith
length-separator true (number s) = omega arith
length-separator true (boolean b) = omega arith
length-separator true null = omega arith
length-separator true bad = omega arith
length-separator false t = omega arith

-- what is printed has no more bytes than the room for its tokens
pub length-print_from : (c : Bool) (ts : List Token) → length (print_from c ts) ≤ room ts
unfolding print_from
length-print_from c [] = omega arith
length-print_from c (t ∷ ts) =
    omega (arith, length-separator c t, length-print_from (ends t) ts, length-append (separator c t) (token_text t ++ print_from (ends t) ts), length-append (token_text t) (print_from (ends t) ts))

length-escape_byte : (x : ℕ) → length (escape_byte x) ≤ 6
unfolding escape_byte
length-escape_byte x = grind arith

pub length-escape : (s : List ℕ) → length (escape s) ≤ 6 * length s
length-escape [] = omega arith
length-escape (x ∷ s) = omega (arith, length-escape_byte x, length-escape s, length-append (escape_byte x) (escape s))

-- ---- one token

pub room-key : (s : List ℕ) → room (key s ∷ []) ≤ 6 * length s + 4
room-key s = omega (arith, length-escape s, length-append (escape s) (34 ∷ []), length-append (quoted s) (58 ∷ []))

pub room-string : (s : List ℕ) → room (string s ∷ []) ≤ 6 * length s + 3
room-string s = omega (arith, length-escape s, length-append (escape s) (34 ∷ []))

-- ---- lists of tokens

-- a field more
pub room-field : (before : List (List ℕ × Value)) (f : List ℕ × Value)
    → room (document_tokens (before ++ f ∷ [])) ≡ room (document_tokens before) + room (key f.0 ∷ []) + room (tokens_of f.1)
room-field [] f = omega (arith, room-append (tokens_of f.1 ++ []) (end_object ∷ []), room-append (tokens_of f.1) [])
room-field (g ∷ before) f =
    let fields = λ (l : List (List ℕ × Value)). flat_map (λ (f : List ℕ × List Token). key f.0 ∷ f.1) (map (λ (f : List ℕ × Value). (f.0, tokens_of f.1)) l) in
    omega (
      arith,
      room-field before f,
      room-append (tokens_of g.1 ++ fields before) (end_object ∷ []),
      room-append (tokens_of g.1) (fields before),
      room-append (tokens_of g.1 ++ fields (before ++ f ∷ [])) (end_object ∷ []),
      room-append (tokens_of g.1) (fields (before ++ f ∷ [])),
      room-append (fields before) (end_object ∷ []),
      room-append (fields (before ++ f ∷ [])) (end_object ∷ []),
    )

-- an item more
pub room-item : (before : List Value) (v : Value) → room (array_tokens (map tokens_of (before ++ v ∷ []))) ≡ room (array_tokens (map tokens_of before)) + room (tokens_of v)
room-item [] v = omega (arith, room-append (tokens_of v ++ []) (end_array ∷ []), room-append (tokens_of v) [])
room-item (w ∷ before) v =
    let items = λ (l : List Value). flat_map (λ (ts : List Token). ts) (map tokens_of l) in
    omega (
      arith,
      room-item before v,
      room-append (tokens_of w ++ items before) (end_array ∷ []),
      room-append (tokens_of w) (items before),
      room-append (tokens_of w ++ items (before ++ v ∷ [])) (end_array ∷ []),
      room-append (tokens_of w) (items (before ++ v ∷ [])),
      room-append (items before) (end_array ∷ []),
      room-append (items (before ++ v ∷ [])) (end_array ∷ []),
    )

-- ---- objects of one name

pub room-oid : (hex : List ℕ) → room (tag_tokens (codes "$oid") (string hex ∷ [])) ≤ 6 * length hex + 15
unfolding escape_byte
room-oid hex = omega (arith, room-string hex)

pub length-hex_of : (bytes : List ℕ) → length (hex_of bytes) ≡ 2 * length bytes
length-hex_of [] = omega arith
length-hex_of (b ∷ bytes) = omega (arith, length-hex_of bytes)

pub room-date : (digits : List ℕ) → room (tag_tokens (codes "$date") (tag_tokens (codes "$numberLong") (string digits ∷ []))) ≤ 6 * length digits + 35
unfolding escape_byte
room-date digits = omega (arith, room-string digits)

-- ---- numbers

pub length-minus : (n : ℤ) → mag n < 2 ^ 63 → length (signed_decimal n) ≤ 20
length-minus n small = length_signed_le 19 n (omega arith) small

pub length-plus : (n : ℤ) → int_lt n (pos 0) ≡ false → mag n < 2 ^ 63 → length (signed_decimal n) ≤ 19
length-plus (pos n) e small = length-decimal-le 19 n (omega arith) (omega arith) (omega arith)
length-plus (negsuc n) e small = cc

pub covers-date : (n : ℤ) (count : ℕ) → Covers count (number (signed_decimal n) ∷ []) → count ≤ 21
    → Covers (count * 6 + 35) (tag_tokens (codes "$date") (tag_tokens (codes "$numberLong") (string (signed_decimal n) ∷ [])))
covers-date n count h small = omega (arith, room-date (signed_decimal n), h)

-- ---- one more

pub covers-field : (count of_name of_value named after : ℕ) (fields : List (List ℕ × Value)) (i : ℕ) (f : List ℕ × Value) → i < length fields → f ≡ get_or fields i f
    → Covers count (document_tokens (take i fields)) → Covers of_name (key f.0 ∷ []) → Covers of_value (tokens_of f.1)
    → named ≡ min (count + of_name) (2 ^ 64 - 1) → after ≡ min (named + of_value) (2 ^ 64 - 1) → Covers after (document_tokens (take (i + 1) fields))
covers-field count of_name of_value named after fields i f within is h name value first second =
    let more : take (i + 1) fields ≡ take i fields ++ f ∷ [] = take_more fields i f within ∙ ap (λ (g : List ℕ × Value). take i fields ++ g ∷ []) (sym is) in
    omega (arith, ap (λ (l : List (List ℕ × Value)). room (document_tokens l)) more, room-field (take i fields) f, h, name, value, first, second)

pub covers-item : (count of_item after : ℕ) (items : List Value) (i : ℕ) (v : Value) → i < length items → v ≡ get_or items i v
    → Covers count (array_tokens (map tokens_of (take i items))) → Covers of_item (tokens_of v)
    → after ≡ min (count + of_item) (2 ^ 64 - 1) → Covers after (array_tokens (map tokens_of (take (i + 1) items)))
covers-item count of_item after items i v within is h item sum =
    let more : take (i + 1) items ≡ take i items ++ v ∷ [] = take_more items i v within ∙ ap (λ (w : Value). take i items ++ w ∷ []) (sym is) in
    omega (arith, ap (λ (l : List Value). room (array_tokens (map tokens_of l))) more, room-item (take i items) v, h, item, sum)

-- ---- the whole

-- where the room that suffices is below the limit, so is the text
pub is_short : (count limit : ℕ) (ts : List Token) → Covers count ts → limit < 2 ^ 64 → count < limit → false ≡ nat_lt limit (length (print ts))
is_short count limit ts h fits less = sym (le-ltb limit (length (print ts)) (omega (arith, length-print_from false ts, h)))
