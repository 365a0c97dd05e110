-- The sum of bytes modulo a number, one byte more at a time.
use Rattle.std.proofs.Common.{◌≡◌, ℕ, ◌+◌, ◌<◌, ◌%◌, List, [], ◌∷◌, ◌++◌, length, take, get_or, sym, ap, ◌∙◌}
use Rattle.std.proofs.lemmas.List.{take_more}
use Rattle.std.proofs.lemmas.List.Sums.{fold-append}
use Rattle.std.proofs.Math.Nat.{mod-add-mod}
use Rattle.std.specs.List.{sum}

sum_behind : (xs : List ℕ) (x : ℕ) → sum (xs ++ x ∷ []) ≡ sum xs + x
sum_behind xs x = fold-append (λ a b. a + b) 0 xs (x ∷ [])

pub sum_more : (xs : List ℕ) (i n : ℕ) → i < length xs → (sum (take i xs) % n + get_or xs i 0) % n ≡ sum (take (i + 1) xs) % n
sum_more xs i n h = mod-add-mod (sum (take i xs)) n (get_or xs i 0) ∙ ap (λ s. s % n) (sym (sum_behind (take i xs) (get_or xs i 0))) ∙ ap (λ ys. sum ys % n) (sym (take_more xs i 0 h))
