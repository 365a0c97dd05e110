use Rattle.std.proofs.Common.{◌≡◌, ℕ, ◌+◌, ◌*◌, ◌<◌, length, get_or}
use Rattle.std.specs.Char.{digit_value}
use Rattle.resh_value.proofs.tags.bytes_of_hex.Given as goal

abbrev pub invariant-loop-i : goal.invariant-loop-i
invariant-loop-i l =
    (length l.bytes ≡ 12) × ((k : ℕ) → k < l.i → get_or l.bytes k 0 ≡ digit_value (get_or l.digits (2 * k) 0) * 16 + digit_value (get_or l.digits (2 * k + 1) 0))
