-- Room for a text, counted in 64 bits.
use Rattle.std.specs.Prelude.{ℕ, ◌-◌, ◌^◌, ◌≤◌, min, List}
use Rattle.json.specs.Token.{Token}
use Rattle.json.specs.Tree.{room}

-- a count that stops at 2^64 - 1 is no less than the room that these tokens need, up to there
abbrev pub Covers : ℕ → List Token → Type 0
Covers count tokens = min (room tokens) (2 ^ 64 - 1) ≤ count
