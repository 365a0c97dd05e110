use Rattle.std.proofs.Common.{◌≡◌, ◌<◌}
use Rattle.std.specs.List.{All}
use Rattle.resh_model.specs.Seats.{handed_out}
use Rattle.resh_model.proofs.seat.hand_out.Given as goal

abbrev pub invariant-loop-seat : goal.invariant-loop-seat
invariant-loop-seat l = record { parts : l.parts.items ≡ handed_out l.shards l.yielded; known : All (λ s. s.shard.0 < l.shards) l.seat-iterator.rest.items }
