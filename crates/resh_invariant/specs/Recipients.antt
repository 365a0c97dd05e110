-- What every event keeps of a recipient: its links and its lanes.
use Rattle.std.specs.Prelude.{◌≡◌, ◌≤◌, ◌<◌, ⊤, ℕ, Bool, true, false, List, [], length, Option, None, slice_index_or}
use Rattle.std.specs.List.{AllByRecursion}
use Rattle.resh_value.specs.declared.value.Value.{Value}
use Rattle.resh_cells.specs.Cells.{no_lane, no_link}
use Rattle.resh_cells.specs.declared.cluster.LinkCell.{LinkCell}
use Rattle.resh_coord.specs.declared.phase.Phase.{Phase}
use Rattle.resh_coord.specs.declared.phase.Phase.TheVariants.{BlockingWrites, Committing}
use Rattle.resh_donor.specs.States as donor
use Rattle.resh_events.specs.Opening.{opening_lane, opening_link}
use Rattle.resh_events.specs.rows.Clone.{donates}
use Rattle.resh_events.specs.rows.Report.{first_waiting}
use Rattle.resh_feed.specs.Items.{has_final}
use Rattle.resh_fetcher.specs.Links.{LinkOf}
use Rattle.resh_fetcher.specs.Standing.{LinkFits}
use Rattle.resh_lane.specs.Feeds.{FitsFeeds}
use Rattle.resh_lane.specs.Lanes.{IsLane, LaneOf, number_of}
use Rattle.resh_oplog.specs.declared.piece.Piece.{Piece}
use Rattle.resh_place.specs.Cuts.{AreCutFrom}
use Rattle.resh_progress.specs.Kinds.{ToDonate, ToInstall}
use Rattle.resh_progress.specs.Tellings.{has}
use Rattle.resh_rules.specs.Pools.{IsPool}
use Rattle.resh_setup.specs.declared.setup.Setup.{Setup}
use Rattle.resh_shard.specs.Writes.{shard_id}
use Rattle.resh_invariant.specs.Courses.{Course, is_unused}
use Rattle.resh_invariant.specs.Sources.{Source, feed_by, feeds_on}

-- a link is its recipient's and its donor's
pub record IsLinkFor (setup : Setup) (r d : ℕ) (l : LinkOf) : Type 0 where
  pub recipient : l.recipient ≡ shard_id r
  pub donor : l.donor ≡ shard_id d
  pub lanes : l.lanes ≡ setup.lanes
  pub batch : l.batch ≡ setup.batch

-- it was told the fetch time, and stands in its feed
pub record ReadsOn (setup : Setup) (course : Course) (source : Source) (l : LinkOf) : Type 0 where
  pub time : l.fetch_time ≡ course.fetch_time
  pub fits : LinkFits setup.lanes source.documents source.entries l

-- nothing was got of a feed
pub record IsUntouched (cell : LinkCell) : Type 0 where
  pub place : cell.link.kept.place ≡ 0
  pub out : cell.link.out ≡ None
  pub buffer : cell.link.buffer ≡ []
  pub read_out : cell.link.read_out ≡ false
  pub kept_out : cell.link.kept.read_out ≡ false
  pub sent : AllByRecursion (λ (pieces : List Piece). pieces ≡ []) cell.sent

-- a recipient's link to a donor, by what its own machine was told: it begins when its recipient is told the fetch time,
-- and each piece that was cut stands in the feed
pub record IsLinkKept (setup : Setup) (r d : ℕ) (course : Course) (own : donor.State) (source : Source)
    (cell : LinkCell) : Type 0 where
  pub owned : IsLinkFor setup r d cell.link
  pub cuts : length cell.sent ≡ setup.lanes
  pub started : cell.link.started ≡ has own.told ToDonate
  pub opened : cell.link.is_open ≡ true → has own.told ToDonate ≡ true
  pub reads : has own.told ToDonate ≡ true → ReadsOn setup course source cell.link
  pub sent : AreCutFrom setup.lanes (shard_id d) (feed_by source) cell.sent
  pub untold : source.donating ≡ false → IsUntouched cell
  pub unused : course.decision ≡ None → has own.told ToDonate ≡ false → cell ≡ opening_link setup r d

-- a recipient's lane: it fits its feeds as long as it is started
pub record IsLaneKept (setup : Setup) (l : ℕ) (own : donor.State) (sources : ℕ → Source) (lane : LaneOf) : Type 0 where
  pub sound : IsLane lane
  pub pool : IsPool lane.pool
  pub chunks : lane.pool.chunks ≡ setup.old_map
  pub stashes : length lane.pool.stashes ≡ length setup.shards
  pub started : lane.started ≡ donates own.phase
  pub fits : donates own.phase ≡ true → FitsFeeds lane (feeds_on setup.lanes l sources)
  pub untold : (d : ℕ) → d < length setup.shards → (sources d).donating ≡ false → number_of lane.high d ≡ 0
  pub unused : is_unused own.phase ≡ true → lane ≡ opening_lane setup

-- it has taken the whole of every feed
pub record HasAll (setup : Setup) (sources : ℕ → Source) (links : List LinkCell) (lanes : List LaneOf) : Type 0 where
  pub finished : (d : ℕ) → d < length setup.shards → (slice_index_or links d no_link).link.kept.finished ≡ true
  pub ended : (d : ℕ) → d < length setup.shards → has_final (sources d).entries ≡ true
  pub at : (l d : ℕ) → l < setup.lanes → d < length setup.shards
      → number_of (slice_index_or lanes l no_lane).at d ≡ length (feeds_on setup.lanes l sources d)

-- who reported while writes were blocked has the whole, and noted the least `_id` that waits; who has yet to install
-- has it
abbrev pub IsReported : Setup → Phase → Bool → Option Value → donor.State → (ℕ → Source) → List LinkCell → List LaneOf
    → Type 0
IsReported setup BlockingWrites reported clash own sources links lanes =
    reported ≡ true → HasAll setup sources links lanes × (clash ≡ first_waiting lanes)
IsReported setup Committing reported clash own sources links lanes =
    has own.told ToInstall ≡ false → HasAll setup sources links lanes
IsReported setup other reported clash own sources links lanes = ⊤

-- a recipient, by the coordinator's course, its report and clash, and what its own machine was told
pub record IsRecipientKept (setup : Setup) (r : ℕ) (course : Course) (reported : Bool) (clash : Option Value)
    (own : donor.State) (sources : ℕ → Source) (links : List LinkCell) (lanes : List LaneOf) : Type 0 where
  pub link_count : length links ≡ length setup.shards
  pub lane_count : length lanes ≡ setup.lanes
  pub each_link : (d : ℕ) → d < length setup.shards
      → IsLinkKept setup r d course own (sources d) (slice_index_or links d no_link)
  pub each_lane : (l : ℕ) → l < setup.lanes → IsLaneKept setup l own sources (slice_index_or lanes l no_lane)
  -- a kept record never passes its lanes
  pub behind : (d l : ℕ) → d < length setup.shards → l < setup.lanes
      → number_of (slice_index_or links d no_link).link.kept.lanes l ≤ number_of (slice_index_or lanes l no_lane).at d
  pub reports : IsReported setup course.phase reported clash own sources links lanes
