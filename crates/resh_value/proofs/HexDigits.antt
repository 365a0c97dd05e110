-- The digits that write bytes, place by place.
use Rattle.std.proofs.Common.{◌≡◌, ℕ, zero, suc, ◌*◌, ◌/◌, ◌%◌, ◌<◌, ◌==◌, cond, List, [], ◌∷◌, length, get_or, refl, sym, ap₂, ◌∙◌, arith}
use Rattle.std.specs.Char.{digit_char}
use Rattle.std.proofs.lemmas.List.FromFn.{fill_by_all}
use Rattle.resh_value.specs.Text.{hex_of}

-- the digit at a place: the high half of its byte, or the low one
abbrev pub digit_of : List ℕ → ℕ → ℕ
digit_of bytes k = cond (k % 2 == 0) (digit_char (get_or bytes (k / 2) 0 / 16)) (digit_char (get_or bytes (k / 2) 0 % 16))

length-hex_of : (bytes : List ℕ) → length (hex_of bytes) ≡ 2 * length bytes
length-hex_of [] = refl
length-hex_of (b ∷ bytes) = omega (arith, length-hex_of bytes)

digit_after : (b : ℕ) (bytes : List ℕ) (k : ℕ) → digit_of bytes k ≡ digit_of (b ∷ bytes) (suc (suc k))
digit_after b bytes k =
    let half : suc (suc k) / 2 ≡ suc (k / 2) = omega arith in
    let odd : suc (suc k) % 2 ≡ k % 2 = omega arith in
    sym (ap₂ (λ i r. cond (r == 0) (digit_char (get_or (b ∷ bytes) i 0 / 16)) (digit_char (get_or (b ∷ bytes) i 0 % 16))) half odd)

get_or-hex_of : (bytes : List ℕ) (k : ℕ) → k < 2 * length bytes → get_or (hex_of bytes) k 0 ≡ digit_of bytes k
get_or-hex_of [] k l = absurd (omega arith)
get_or-hex_of (b ∷ bytes) zero l = refl
get_or-hex_of (b ∷ bytes) (suc zero) l = refl
get_or-hex_of (b ∷ bytes) (suc (suc k)) l = get_or-hex_of bytes k (omega arith) ∙ digit_after b bytes k

-- digits that are right at each place are the bytes'
pub digits_by_place : (bytes digits : List ℕ) → length digits ≡ 2 * length bytes → ((k : ℕ) → k < 2 * length bytes → get_or digits k 0 ≡ digit_of bytes k) → digits ≡ hex_of bytes
digits_by_place bytes digits long each =
    fill_by_all (digit_of bytes) digits (2 * length bytes) 0 long each
    ∙ sym (fill_by_all (digit_of bytes) (hex_of bytes) (2 * length bytes) 0 (length-hex_of bytes) (λ k l. get_or-hex_of bytes k l))
