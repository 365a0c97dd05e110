use Rattle.std.proofs.Common.{◌+◌, ◌-◌, ◌≤◌, vec_len}
use Rattle.std.specs.Io.KnownBytes.{Consumes}
use Rattle.resh_io.proofs.reading.read_all.Given as goal

-- what was read is all here, within the limit, and the source's count hasn't fallen
abbrev pub invariant-loop-bytes : goal.invariant-loop-bytes
invariant-loop-bytes g l =
    (vec_len l.bytes ≤ l.limit) × Consumes (g.S.Source.left l.initial.source) (g.S.Source.left l.source) l.bytes.items × (g.S.Source.faults l.initial.source ≤ g.S.Source.faults l.source)

abbrev pub decreases-loop-bytes : goal.decreases-loop-bytes
decreases-loop-bytes g l = l.limit + 1 - vec_len l.bytes
