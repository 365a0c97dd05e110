use Rattle.std.proofs.Common.{◌≡◌, ◌≤◌, take, vec_len, vec_capacity}
use Rattle.resh_value.specs.Change.{without_fields}
use Rattle.resh_value.specs.Names.{HasRisingNames}
use Rattle.resh_value.proofs.pairs.take_pairs.Given as goal

abbrev pub invariant-loop-name : goal.invariant-loop-name
invariant-loop-name g l =
    (l.pairs.items ≡ without_fields l.initial.pairs.items (take l.name-index l.names))
    × HasRisingNames l.pairs.items
    × (vec_len l.pairs ≤ vec_len l.initial.pairs)
    × (vec_capacity l.pairs ≡ vec_capacity l.initial.pairs)
