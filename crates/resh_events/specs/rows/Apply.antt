-- A lane takes the piece at its position for a donor, by the rules. The piece is given with the event: that it was cut
-- is told by the piece itself, and the lane alone is held.
use Rattle.std.specs.Prelude.{ℕ, ◌==◌, Bool, false, ◌&&◌, List, [], ◌∷◌, Option, Some, None}
use Rattle.resh_value.specs.declared.value.ShardId.{ShardId}
use Rattle.resh_oplog.specs.declared.entry.What.{What}
use Rattle.resh_oplog.specs.declared.entry.What.TheVariants as what
use Rattle.resh_oplog.specs.declared.piece.Piece.{Piece}
use Rattle.resh_rules.specs.Pools.{rule_in, stashed}
use Rattle.resh_rules.specs.declared.rule.Rule.{Rule}
use Rattle.resh_lane.specs.Lanes.{LaneOf, number_of, taken}
use Rattle.resh_cells.specs.Cells.{lane_in, on_lane}
use Rattle.resh_cells.specs.declared.cluster.Cluster.{Cluster}
use Rattle.resh_cells.specs.declared.cell.Cell.{Cell}
use Rattle.resh_cells.specs.declared.cell.Cell.TheVariants as named
use Rattle.resh_setup.specs.declared.seen.Seen.{Seen}
use Rattle.resh_setup.specs.declared.seen.Seen.TheVariants.{Idle, Applied, Took}
use Rattle.resh_setup.specs.declared.seen.WriteKind.{WriteKind}
use Rattle.resh_setup.specs.declared.seen.WriteKind.TheVariants as write

-- the lane is told that its links are open, and the piece is this donor's
abbrev pub is_given : LaneOf → ℕ → Piece → Bool
is_given lane d piece = lane.started && (piece.donor.0 == d)

-- the piece stands at the lane's position
abbrev pub is_at : LaneOf → Piece → Bool
is_at lane piece = piece.position == number_of lane.at piece.donor.0

-- a final entry has no piece
abbrev pub write_of : What → WriteKind
write_of (what.Insert document) = write.Insert
write_of (what.Update id change) = write.Update
write_of (what.Delete id) = write.Delete
write_of what.Final = write.Delete

abbrev pub rule_seen : WriteKind → ℕ → Option ShardId → ℕ → ℕ → Seen
rule_seen kind number None place stash = Applied kind number place stash
rule_seen kind number (Some donor) place stash = Took kind donor place stash

-- what it writes, the rule that it meets, its place, and what waits in the lane's stashes after it
abbrev pub piece_seen : LaneOf → Piece → Seen
piece_seen lane piece =
    let rule : Rule = rule_in piece.donor.0 piece.id piece.what lane.pool in
    rule_seen (write_of piece.what) rule.number rule.took piece.place (stashed (taken piece lane).pool.stashes)

module _ (cluster : Cluster) (r d l : ℕ) where
  abbrev pub may : Option Piece → Bool
  may None = false
  may (Some piece) = is_given (lane_in cluster r l) d piece && is_at (lane_in cluster r l) piece

  abbrev pub change : Option Piece → Cluster
  change None = cluster
  change (Some piece) = on_lane r l (taken piece) cluster

  abbrev pub seen : Option Piece → Seen
  seen None = Idle
  seen (Some piece) = piece_seen (lane_in cluster r l) piece

abbrev pub holds : ℕ → ℕ → List Cell
holds r l = named.Lane r l ∷ []
