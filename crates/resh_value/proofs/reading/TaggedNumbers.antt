-- Numerals, hexadecimal digits and objects of one name.
use Rattle.std.proofs.Common.{◌≡◌, ℕ, zero, suc, ◌+◌, ◌*◌, ◌^◌, ◌<◌, ℤ, pos, neg_ℤ, Bool, true, false, ◌&&◌, cond, ◌==◌, nat_lt, nat_le, List, [], ◌∷◌, length, drop, get_or, slice_get, Some, None, FitsSigned, refl, sym, ap, ap₂, ◌∙◌, subst, arith}
use Rattle.std.specs.Char.{digit_value, is_ascii_digit}
use Rattle.std.specs.List.{list_all}
use Rattle.std.specs.Str.Parse.{IsNumeral, AllDigits, starts_with_minus, without_leading_sign, digits_value, signed_digits_value}
use Rattle.std.proofs.lemmas.Bool.Decides.{nat_tests}
use Rattle.std.proofs.lemmas.List.FromFn.{fill_by_all}
use Rattle.std.proofs.lemmas.Nat.{pow_pos}
use mir.Syntax.{Width}
use mir.Val.{hbits}
use Rattle.serde_json.specs.View.{members_view}
use Rattle.resh_value.specs.Tags.{digits_of, is_numeral, is_in_bits, whole_of, bytes_of_hex, instant_of, tag_of}
use Rattle.resh_value.proofs.reading.RisingNames.{Entry}

both : (a b : Bool) → (a && b) ≡ true → (a ≡ true) × (b ≡ true)
both true b h = (refl, h)
both false b h = cc

-- ---- numerals

digit_below : (c : ℕ) → is_ascii_digit c ≡ true → digit_value c < 10
digit_below c h = grind (arith, nat_tests)

plus_is_none : (c : ℕ) → is_ascii_digit c ≡ true → (c == 43) ≡ true → ⊥
plus_is_none c h is = grind (arith, nat_tests)

all_digits : (ds : List ℕ) → list_all is_ascii_digit ds ≡ true → AllDigits 10 ds
all_digits [] h = tt
all_digits (c ∷ cs) h =
    let parts = both (is_ascii_digit c) (list_all is_ascii_digit cs) h in
    (digit_below c parts.0, all_digits cs parts.1)

some : (n : ℕ) → nat_lt 0 n ≡ true → 0 < n
some n h = grind (arith, nat_tests)

numeral_parts : (ds : List ℕ) → is_numeral ds ≡ true → (0 < length ds) × (list_all is_ascii_digit ds ≡ true)
numeral_parts ds h =
    let parts = both (nat_lt 0 (length ds) && nat_le (length ds) 19) (list_all is_ascii_digit ds) h in
    (some (length ds) (both (nat_lt 0 (length ds)) (nat_le (length ds) 19) parts.0).0, parts.1)

no_plus : (minus plus : Bool) (c : ℕ) (cs : List ℕ) → is_numeral (cond minus cs (c ∷ cs)) ≡ true → (c == 43) ≡ plus → cond minus cs (drop (cond plus 1 0) (c ∷ cs)) ≡ cond minus cs (c ∷ cs)
no_plus true plus c cs h is = refl
no_plus false false c cs h is = refl
no_plus false true c cs h is =
    absurd (plus_is_none c (both (is_ascii_digit c) (list_all is_ascii_digit cs) (numeral_parts (c ∷ cs) h).1).0 is)

sign_gone : (text : List ℕ) → is_numeral (digits_of text) ≡ true → without_leading_sign text ≡ digits_of text
sign_gone [] h = refl
sign_gone (c ∷ cs) h = no_plus (c == 45) (c == 43) c cs h refl

is_fit : (w : Width) (minus : Bool) (n : ℕ) → cond minus (nat_le n (2 ^ hbits w)) (nat_lt n (2 ^ hbits w)) ≡ true → FitsSigned w (cond minus (neg_ℤ (pos n)) (pos n))
is_fit w false n h = record { sfits = grind (arith, nat_tests) }
is_fit w true zero h = record { sfits = pow_pos (hbits w) }
is_fit w true (suc n) h = record { sfits = grind (arith, nat_tests) }

left_out : (held : Bool) (z : ℤ) → (held ≡ true → ⊥) → None ≡ cond held (Some z) None
left_out true z h = absurd (h refl)
left_out false z h = refl

-- a numeral that the reading of signed numbers refuses is out of range
pub unread : (w : Width) (text : List ℕ) → is_numeral (digits_of text) ≡ true → ((IsNumeral 10 (without_leading_sign text) × FitsSigned w (signed_digits_value 10 text)) → ⊥) → None ≡ whole_of (hbits w) text
unread w text numeral refused =
    let same = sign_gone text numeral in
    let parts = numeral_parts (digits_of text) numeral in
    rw numeral (left_out (is_in_bits (hbits w) text) (signed_digits_value 10 text) (λ held. refused (
      subst (IsNumeral 10) (sym same) (parts.0, all_digits (digits_of text) parts.1),
      rw same (is_fit w (starts_with_minus text) (digits_value 10 (digits_of text)) held),
    )))

-- ---- hexadecimal digits

-- the byte of the digits at 2 * k and after it
abbrev pub pair_at : List ℕ → ℕ → ℕ
pair_at text k = digit_value (get_or text (2 * k) 0) * 16 + digit_value (get_or text (2 * k + 1) 0)

length-bytes_of_hex : (n : ℕ) (text : List ℕ) → length text ≡ 2 * n → length (bytes_of_hex text) ≡ n
length-bytes_of_hex zero [] h = refl
length-bytes_of_hex zero (a ∷ text) h = absurd (omega arith)
length-bytes_of_hex (suc n) [] h = absurd (omega arith)
length-bytes_of_hex (suc n) (a ∷ []) h = absurd (omega arith)
length-bytes_of_hex (suc n) (a ∷ b ∷ text) h = ap suc (length-bytes_of_hex n text (omega arith))

two_on : (a b : ℕ) (text : List ℕ) (i j : ℕ) → j ≡ suc (suc i) → get_or (a ∷ b ∷ text) j 0 ≡ get_or text i 0
two_on a b text i j e = ap (λ n. get_or (a ∷ b ∷ text) n 0) e

get_or-bytes_of_hex : (n : ℕ) (text : List ℕ) (k : ℕ) → length text ≡ 2 * n → k < n → get_or (bytes_of_hex text) k 0 ≡ pair_at text k
get_or-bytes_of_hex zero text k h l = absurd (omega arith)
get_or-bytes_of_hex (suc n) [] k h l = absurd (omega arith)
get_or-bytes_of_hex (suc n) (a ∷ []) k h l = absurd (omega arith)
get_or-bytes_of_hex (suc n) (a ∷ b ∷ text) zero h l = refl
get_or-bytes_of_hex (suc n) (a ∷ b ∷ text) (suc k) h l =
    get_or-bytes_of_hex n text k (omega arith) (omega arith) ∙ sym (ap₂ (λ x y. digit_value x * 16 + digit_value y)
    (two_on a b text (2 * k) (2 * suc k) (omega arith)) (two_on a b text (2 * k + 1) (2 * suc k + 1) (omega arith)))

-- bytes that are right at each place are the text's
pub hex_by_place : (n : ℕ) (text bytes : List ℕ) → length text ≡ 2 * n → length bytes ≡ n → ((k : ℕ) → k < n → get_or bytes k 0 ≡ pair_at text k) → bytes ≡ bytes_of_hex text
hex_by_place n text bytes even long each =
    fill_by_all (pair_at text) bytes n 0 long each
    ∙ sym (fill_by_all (pair_at text) (bytes_of_hex text) n 0 (length-bytes_of_hex n text even) (λ k l. get_or-bytes_of_hex n text k even l))

-- ---- objects of one name

pub alone : (es : List Entry) (e : Entry) → length es ≡ 1 → slice_get es 0 ≡ Some e → es ≡ e ∷ []
alone [] e one first = absurd (omega arith)
alone (x ∷ []) e one first = let same : x ≡ e = cc in ap (λ y. y ∷ []) same
alone (x ∷ y ∷ es) e one first = absurd (omega arith)

pub no_date : (es : List Entry) → (length es ≡ 1 → ⊥) → None ≡ instant_of (members_view es)
no_date [] h = refl
no_date (x ∷ []) h = absurd (h refl)
no_date (x ∷ y ∷ es) h = refl

pub no_tag : (es : List Entry) → (length es ≡ 1 → ⊥) → None ≡ tag_of (members_view es)
no_tag [] h = refl
no_tag (x ∷ []) h = absurd (h refl)
no_tag (x ∷ y ∷ es) h = refl
