use Rattle.std.proofs.Common.{length, take, ◌-◌, ◌≤◌}
use Rattle.std.specs.Io.KnownBytes.{Appends}
use Rattle.resh_io.proofs.writing.write_all.Given as goal

-- what is sent so far is written, and the sink's count hasn't fallen
abbrev pub invariant-loop-sent : goal.invariant-loop-sent
invariant-loop-sent g l =
    (l.sent ≤ length l.bytes) × Appends (g.K.Sink.written l.initial.sink) (g.K.Sink.written l.sink) (take l.sent l.bytes) × (g.K.Sink.faults l.initial.sink ≤ g.K.Sink.faults l.sink)

abbrev pub decreases-loop-sent : goal.decreases-loop-sent
decreases-loop-sent g l = length l.bytes - l.sent
