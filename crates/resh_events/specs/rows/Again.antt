-- A lane is given a piece of any position that was ever cut: it takes it at its own position, and else nothing changes.
use Rattle.std.specs.Prelude.{ℕ, ◌==◌, Bool, false, ◌&&◌, cond, nat_lt, List, [], ◌∷◌, Option, Some, None}
use Rattle.resh_oplog.specs.declared.piece.Piece.{Piece}
use Rattle.resh_lane.specs.Lanes.{LaneOf, number_of, taken}
use Rattle.resh_cells.specs.Cells.{lane_in, on_lane}
use Rattle.resh_cells.specs.declared.cluster.Cluster.{Cluster}
use Rattle.resh_cells.specs.declared.cell.Cell.{Cell}
use Rattle.resh_cells.specs.declared.cell.Cell.TheVariants as named
use Rattle.resh_setup.specs.declared.seen.Seen.{Seen}
use Rattle.resh_setup.specs.declared.seen.Seen.TheVariants.{Idle, Repeated, Ahead}
use Rattle.resh_events.specs.rows.Apply.{is_at, is_given, piece_seen}

abbrev pub given_seen : LaneOf → Piece → Seen
given_seen lane piece =
    let at : ℕ = number_of lane.at piece.donor.0 in
    cond (is_at lane piece) (piece_seen lane piece) (cond (nat_lt piece.position at) (Repeated at) (Ahead at))

module _ (cluster : Cluster) (r d l : ℕ) where
  abbrev pub may : ℕ → Option Piece → Bool
  may position None = false
  may position (Some piece) = is_given (lane_in cluster r l) d piece && (piece.position == position)

  -- the lane would take it
  abbrev pub takes : Option Piece → Bool
  takes None = false
  takes (Some piece) = is_at (lane_in cluster r l) piece

  abbrev pub change : Option Piece → Cluster
  change None = cluster
  change (Some piece) = cond (is_at (lane_in cluster r l) piece) (on_lane r l (taken piece) cluster) cluster

  abbrev pub seen : Option Piece → Seen
  seen None = Idle
  seen (Some piece) = given_seen (lane_in cluster r l) piece

abbrev pub holds : ℕ → ℕ → List Cell
holds r l = named.Lane r l ∷ []
