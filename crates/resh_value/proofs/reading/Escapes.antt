-- What escaping does to a character of a name.
use Rattle.std.proofs.Common.{◌≡◌, ℕ, suc, ◌<◌, List, [], ◌∷◌, ◌++◌, length, get_or, flat_map, encode_utf8, sym, ◌∙◌, refl, arith, append-nil}
use Rattle.std.proofs.lemmas.Bool.Decides.{nat_tests}
use Rattle.std.proofs.lemmas.Str.{inside_one}
use Rattle.resh_value.specs.Paths.{pointer_escape}

plain_byte : (b : ℕ) → (b ≡ 126 → ⊥) → (b ≡ 47 → ⊥) → pointer_escape b ≡ b ∷ []
plain_byte b tilde slash = grind (arith, nat_tests)

plain_bytes : (bs : List ℕ) → ((k : ℕ) → k < length bs → (get_or bs k 0 ≡ 126 → ⊥) × (get_or bs k 0 ≡ 47 → ⊥)) → flat_map pointer_escape bs ≡ bs
plain_bytes [] h = refl
plain_bytes (b ∷ bs) h =
    rw (plain_byte b (h 0 (omega arith)).0 (h 0 (omega arith)).1, plain_bytes bs (λ k l. h (suc k) (omega arith)))

-- a character other than `~` and `/` has neither byte
pub plain_char : (c : ℕ) → (c ≡ 126 → ⊥) → (c ≡ 47 → ⊥) → flat_map pointer_escape (encode_utf8 c) ≡ encode_utf8 c
plain_char c tilde slash =
    let whole : encode_utf8 c ≡ encode_utf8 c ++ [] = sym (append-nil (encode_utf8 c)) in
    plain_bytes (encode_utf8 c) (λ k l. (
      λ e. tilde (inside_one c [] (encode_utf8 c) k whole l (omega arith) ∙ e),
      λ e. slash (inside_one c [] (encode_utf8 c) k whole l (omega arith) ∙ e),
    ))
