-- The applies of one lane end: each that goes on leaves less to do.
use Rattle.std.specs.Prelude.{◌≡◌, ◌<◌, ℕ, ◌+◌, ◌-◌, ◌*◌, true, cond, max, List, [], ◌∷◌}
use Rattle.resh_value.specs.declared.value.ShardId.{ShardId}
use Rattle.resh_oplog.specs.declared.piece.Piece.{Piece}
use Rattle.resh_lane.specs.Lanes.{number_of}
use Rattle.resh_setup.specs.declared.event.Event.TheVariants.{Apply}
use Rattle.resh_setup.specs.declared.plan.Who.TheVariants.{Lane}
use Rattle.resh_setup.specs.declared.setup.Setup.{Setup}
use Rattle.resh_cells.specs.Cells.{lane_in, link_in}
use Rattle.resh_cells.specs.Cuts.{cut_for}
use Rattle.resh_cells.specs.declared.cluster.Cluster.{Cluster}
use Rattle.resh_events.specs.Lucks.{Lucks, told_of}
use Rattle.resh_events.specs.Runs.{Moment, Run, after_all}
use Rattle.resh_events.specs.Sweep.{Makes, goes_on}
use Rattle.resh_ending.specs.Calls.{calls}
use Rattle.resh_ending.specs.Shapes.{IsShaped}

-- the position behind those of some pieces
unfoldable pub top : List Piece → ℕ
top [] = 0
top (piece ∷ pieces) = max (piece.position + 1) (top pieces)

-- so many calls may each take a lane back to its first position; and it stands at one below the top
unfoldable pub left_by : ℕ → ℕ → ℕ → ℕ
left_by calls top at = 1 + calls * (top + 1) + (top - at)

module _ (setup : Setup) where
  -- what is left to do: nothing, once the link has failed
  abbrev pub applies_left : Cluster → Lucks → ShardId → ShardId → ℕ → ℕ
  applies_left cluster lucks r d l =
      cond (link_in cluster r.0 d.0).link.failed 0
      (left_by (calls (told_of setup lucks (Lane r d l))) (top (cut_for (link_in cluster r.0 d.0).sent l))
      (number_of (lane_in cluster r.0 l).at d.0))

-- an apply that goes on leaves less
abbrev pub AppliesEnd : Type 0
AppliesEnd = (setup : Setup) (run : Run) (r d : ShardId) (l : ℕ) (moments : List Moment)
    → IsShaped setup run.cluster → run.owed ≡ [] → goes_on setup run.cluster r d l ≡ true
    → Makes setup run (Apply r d l) moments
    → applies_left setup (after_all setup run moments).cluster (after_all setup run moments).lucks r d l
    < applies_left setup run.cluster run.lucks r d l
