-- Sums that are added to in turn.
use Rattle.std.specs.Prelude.{ℕ, ◌+◌, ◌%◌, ◌^◌}
use Rattle.resh_turn.specs.declared.story.Made.{Made}

-- the sum after one more number
abbrev pub added : ℕ → Made ℕ → ℕ
added total step = (total + step.step) % 2 ^ 64
