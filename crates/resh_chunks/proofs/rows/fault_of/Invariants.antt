use Rattle.std.proofs.Common.{◌≡◌, ◌+◌, length, None}
use Rattle.std.specs.Option.{option_copied}
use Rattle.resh_chunks.specs.Chunks.{rows_fault}
use Rattle.resh_chunks.proofs.rows.fault_of.Given as goal

abbrev pub invariant-loop-rest : goal.invariant-loop-rest
invariant-loop-rest l = record {
  same : rows_fault l.names l.shards None 0 l.rows ≡ rows_fault l.names l.shards (option_copied l.before) l.row_number l.rest;
  count : l.row_number + length l.rest ≡ length l.rows;
}

abbrev pub decreases-loop-rest : goal.decreases-loop-rest
decreases-loop-rest l = length l.rest
