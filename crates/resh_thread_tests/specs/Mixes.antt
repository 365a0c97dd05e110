-- Values into which numbers are mixed in turn.
use Rattle.std.specs.Prelude.{ℕ, ◌+◌, ◌*◌, ◌%◌, ◌^◌}
use Rattle.resh_turn.specs.declared.story.Made.{Made}

-- the value after one more number
abbrev pub mixed : ℕ → Made ℕ → ℕ
mixed value step = (value * 3 % 2 ^ 64 + step.step) % 2 ^ 64
