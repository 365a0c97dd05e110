use Rattle.std.proofs.Common.{◌≡◌, []}
use Rattle.resh_model.specs.Seats.{handed_out}
use Rattle.resh_model.proofs.seat.empty_parts.Given as goal

abbrev pub invariant-loop-shard : goal.invariant-loop-shard
invariant-loop-shard l = l.parts.items ≡ handed_out l._shard []
