-- What reserving in several stashes gives.
use Rattle.std.specs.Prelude.{◌≤◌, ℕ, List}
use Rattle.resh_stash.specs.Stored.{StashOf}
use Rattle.resh_rules.specs.Pools.{spare_of}

-- a pool of these stashes has room for so many where its output has
abbrev pub HaveRoom : List StashOf → ℕ → Type 0
HaveRoom stashes n = (output : StashOf) → n ≤ output.spare → n ≤ spare_of output stashes
