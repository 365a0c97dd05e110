-- The numbers that a generated setup is made of: a linear congruential generator, of whose states the upper bits count.
use Rattle.std.specs.Prelude.{ℕ, zero, suc, ◌+◌, ◌*◌, ◌/◌, ◌%◌, ◌^◌}

-- the state after a state
abbrev pub next : ℕ → ℕ
next state = (state * 6364136223846793005 + 1442695040888963407) % 2 ^ 64

-- the state after so many, from a number
unfoldable pub state_at : ℕ → ℕ → ℕ
state_at number zero = number
state_at number (suc place) = next (state_at number place)

-- the number drawn at a place: the upper 31 bits of the state behind it
abbrev pub drawn : ℕ → ℕ → ℕ
drawn number place = state_at number (place + 1) / 2 ^ 33
