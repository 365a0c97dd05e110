use Rattle.std.proofs.Common.{◌≡◌, ◌≤◌, ◌+◌, length, vec_len, vec_capacity}
use Rattle.resh_value.specs.Change.{with_fields}
use Rattle.resh_value.specs.Names.{HasRisingNames}
use Rattle.resh_value.proofs.pairs.put_pairs.Given as goal

abbrev pub invariant-loop-name : goal.invariant-loop-name
invariant-loop-name g l =
    (with_fields l.pairs.items l.name-iterator.rest.items ≡ with_fields l.fn.pairs.items l.fn.assign.items)
    × HasRisingNames l.pairs.items
    × (vec_len l.pairs + length l.name-iterator.rest.items ≤ vec_capacity l.pairs)
