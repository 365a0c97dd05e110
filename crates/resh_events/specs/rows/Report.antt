-- A recipient reports: that its clone is kept, that it is near, or that it is consistent, with the least `_id` that
-- waits in a stash.
use Rattle.std.specs.Prelude.{ℕ, Bool, false, ◌&&◌, List, [], ◌∷◌, ◌++◌, Option, Some, None}
use Rattle.std.specs.List.{list_all}
use Rattle.resh_value.specs.declared.value.Value.{Value}
use Rattle.resh_rules.specs.Pools.{first_stashed, lesser}
use Rattle.resh_lane.specs.Lanes.{LaneOf}
use Rattle.resh_recip.specs.States as recipient
use Rattle.resh_fetcher.specs.Links.{LinkOf, is_cloned}
use Rattle.resh_coord.specs.Control.{may_report, with_report}
use Rattle.resh_coord.specs.declared.phase.Phase.{Phase}
use Rattle.resh_coord.specs.declared.phase.Phase.TheVariants as phase
use Rattle.resh_setup.specs.declared.setup.Setup.{Setup}
use Rattle.resh_cells.specs.Cells.{lanes_of, links_of, on_control, on_shard}
use Rattle.resh_cells.specs.declared.cluster.Cluster.{Cluster}
use Rattle.resh_cells.specs.declared.cluster.LinkCell.{LinkCell}
use Rattle.resh_cells.specs.Clocks.{lane_cells, link_cells}
use Rattle.resh_cells.specs.declared.cell.Cell.{Cell}
use Rattle.resh_cells.specs.declared.cell.Cell.TheVariants as named
use Rattle.resh_setup.specs.declared.seen.Seen.{Seen}
use Rattle.resh_setup.specs.declared.seen.Seen.TheVariants.{Idle, Cloned, Near, Consistent, Clash}

-- every link of a recipient passes
abbrev pub all_links : (LinkOf → Bool) → List LinkCell → Bool
all_links passes cells = list_all (λ (cell : LinkCell). passes cell.link) cells

-- what a phase asks of them: the clone part kept, near, or the final entry kept
abbrev pub are_ready : Phase → List LinkCell → Bool
are_ready phase.Cloning cells = all_links is_cloned cells
are_ready phase.Applying cells = all_links (λ l. l.near) cells
are_ready phase.BlockingWrites cells = all_links (λ l. l.kept.finished) cells
are_ready other cells = false

-- the least `_id` that waits in a stash of some lanes
abbrev pub first_waiting : List LaneOf → Option Value
first_waiting [] = None
first_waiting (lane ∷ lanes) = lesser (first_stashed lane.pool.stashes) (first_waiting lanes)

-- it is noted once writes are blocked
abbrev pub clash_in : Phase → List LaneOf → Option Value
clash_in phase.BlockingWrites lanes = first_waiting lanes
clash_in other lanes = None

-- the recipient's own move
abbrev pub moved_on : Phase → recipient.State → recipient.State
moved_on phase.Cloning state = recipient.cloned state
moved_on phase.BlockingWrites state = recipient.consistent state
moved_on other state = state

abbrev pub consistent_seen : Option Value → Seen
consistent_seen None = Consistent
consistent_seen (Some id) = Clash id

abbrev pub seen_in : Phase → List LaneOf → Seen
seen_in phase.Cloning lanes = Cloned
seen_in phase.Applying lanes = Near
seen_in phase.BlockingWrites lanes = consistent_seen (first_waiting lanes)
seen_in other lanes = Idle

module _ (cluster : Cluster) (r : ℕ) where
  -- it hasn't reported in this phase, and its links are ready
  abbrev pub may : Bool
  may = may_report cluster.control r && are_ready cluster.control.phase (links_of cluster r)

  abbrev pub change : Cluster
  change = on_control (with_report r (clash_in cluster.control.phase (lanes_of cluster r)))
      (on_shard r (λ cell. record cell { recipient = moved_on cluster.control.phase cell.recipient }) cluster)

  abbrev pub seen : Seen
  seen = seen_in cluster.control.phase (lanes_of cluster r)

-- the coordinator, the shard, and all lanes and links whose recipient it is
abbrev pub holds : Setup → ℕ → List Cell
holds setup r = named.Coordinator ∷ named.Shard r ∷ lane_cells setup r ++ link_cells setup r
