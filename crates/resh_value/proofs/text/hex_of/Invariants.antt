use Rattle.std.proofs.Common.{◌≡◌, ℕ, ◌<◌, length, get_or}
use Rattle.resh_value.proofs.HexDigits.{digit_of}
use Rattle.resh_value.proofs.text.hex_of.Given as goal

abbrev pub invariant-loop-place : goal.invariant-loop-place
invariant-loop-place l =
    (length l.digits ≡ 24) × ((k : ℕ) → k < l.place → get_or l.digits k 0 ≡ digit_of l.bytes k) × ((k : ℕ) → get_or l.digits k 0 < 128)
