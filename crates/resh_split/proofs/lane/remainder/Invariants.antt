use Rattle.std.proofs.Common.{◌≡◌, ◌<◌, take}
use Rattle.resh_feed.specs.Lanes.{lane_of}
use Rattle.resh_split.proofs.lane.remainder.Given as goal

abbrev pub invariant-loop-byte : goal.invariant-loop-byte
invariant-loop-byte l = (l.rest ≡ lane_of (take l.byte-index l.bytes) l.lanes) × (l.rest < l.lanes)
