-- Results in a row, and answers that want of memory may replace.
use Rattle.std.specs.Prelude.{◌≡◌, ◌≢◌, Result, Ok, Err, MatchResult}

abbrev pub and_then : {A B E : Type 0} → (A → Result B E) → Result A E → Result B E
and_then f (Ok x) = f x
and_then f (Err e) = Err e

-- what is read first, and what is read after it
infixl 10 ◌>>=◌
abbrev pub ◌>>=◌ : {A B E : Type 0} → Result A E → (A → Result B E) → Result B E
r >>= next = and_then next r

abbrev pub in_err : {A E D : Type 0} → (E → D) → Result A E → Result A D
in_err f (Ok x) = Ok x
in_err f (Err e) = Err (f e)

-- the answer is the one wanted, but for want of memory
abbrev pub Gives : {A E : Type 0} → E → Result A E → Result A E → Type 0
Gives no_memory answer wanted = MatchResult answer (λ x. wanted ≡ Ok x) (λ e. e ≢ no_memory → wanted ≡ Err e)
