-- What every event keeps of a donor.
use Rattle.std.specs.Prelude.{◌≡◌, ◌≤◌, ◌<◌, ℕ, Bool, true, false, List, length, None}
use Rattle.resh_cells.specs.Belonging.{IsShardOf}
use Rattle.resh_cells.specs.declared.cluster.ShardCell.{ShardCell}
use Rattle.resh_feed.specs.Items.{Document, has_final}
use Rattle.resh_oplog.specs.Logs.{IsLog}
use Rattle.resh_progress.specs.Kinds.{ToPrepare, ToDonate, ToBlock, ToInstall}
use Rattle.resh_progress.specs.Tellings.{has}
use Rattle.resh_setup.specs.declared.setup.Setup.{Setup}
use Rattle.resh_story.specs.Stories.{HasStory, IsNamedAfter, IsWholeFeed, clones_of, entries_for}
use Rattle.resh_invariant.specs.Courses.{Course, IsDonorIn, Serves, is_early, is_over}
use Rattle.resh_invariant.specs.Items.{AreItemsOf, HasItems}
use Rattle.resh_invariant.specs.Sources.{feed_by, source_by}

-- a shard of a setup, by the coordinator's course and time, with its own clock; the documents of the fetch time are given
-- by recipient
pub record IsDonorKept (setup : Setup) (s : ℕ) (course : Course) (told : Bool) (time : ℕ)
    (clones : ℕ → List Document) (clock : ℕ) (cell : ShardCell) : Type 0 where
  pub of : IsShardOf setup s cell.shard
  pub donor : IsDonorIn course.phase course.decision told cell.donor
  pub serves : Serves cell.donor cell.shard
  -- its log and versions tell what it holds, and are items of its own until the new map is in force
  pub story : HasStory clock cell.shard
  pub log : IsLog cell.shard.log.entries
  pub stored : has cell.donor.told ToInstall ≡ false
      → HasItems setup.old_map s cell.shard.versions cell.shard.log.entries
  -- entries name recipients from some time on that the coordinator has passed, and after the fetch time
  pub prepared : has cell.donor.told ToPrepare ≡ true
      → (since : ℕ) × (since ≤ time) × IsNamedAfter since cell.shard.log.entries
  pub named : course.decision ≡ None → is_early course.phase ≡ false
      → IsNamedAfter course.fetch_time cell.shard.log.entries
  -- it is past the fetch time once it was told it, and tells what stood then until it is told the end
  pub past : has cell.donor.told ToDonate ≡ true → course.fetch_time ≤ clock
  pub floor : is_over cell.donor.phase ≡ false → cell.shard.versions.floor ≤ course.fetch_time
  pub cloned : cell.shard.versions.floor ≤ course.fetch_time → (r : ℕ) → r < length setup.shards
      → clones r ≡ clones_of cell.shard course.fetch_time r
  -- final entries come when writes are blocked, one for each recipient, and until the end nothing comes behind them
  pub unsealed : has cell.donor.told ToBlock ≡ false → has_final cell.shard.log.entries ≡ false
  pub whole : is_over cell.donor.phase ≡ false → (r : ℕ) → IsWholeFeed cell.shard course.fetch_time r
  pub sealed : has cell.donor.told ToBlock ≡ true → (r : ℕ) → r < length setup.shards
      → has_final (entries_for cell.shard course.fetch_time r) ≡ true
  -- what it feeds are items of its own
  pub items : (r : ℕ) → r < length setup.shards
      → AreItemsOf setup.old_map s (feed_by (source_by course.fetch_time cell (clones r) r))
