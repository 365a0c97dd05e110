-- What a recipient reads: of each donor the documents of the fetch time and the later entries that come to it.
use Rattle.std.specs.Prelude.{ℕ, Bool, cond, nat_le, List}
use Rattle.resh_cells.specs.Cells.{shard_in}
use Rattle.resh_cells.specs.declared.cluster.Cluster.{Cluster}
use Rattle.resh_cells.specs.declared.cluster.ShardCell.{ShardCell}
use Rattle.resh_feed.specs.Feeds.{items_of, whats}
use Rattle.resh_feed.specs.Items.{Document, up_to_final}
use Rattle.resh_feed.specs.Lanes.{lane_feed}
use Rattle.resh_oplog.specs.declared.entry.Entry.{Entry}
use Rattle.resh_oplog.specs.declared.entry.What.{What}
use Rattle.resh_progress.specs.Kinds.{ToDonate}
use Rattle.resh_progress.specs.Tellings.{has}
use Rattle.resh_story.specs.Stories.{clones_of, entries_for}

-- a donor for a recipient: whether it was told the fetch time, the documents that it had then, and its later entries up
-- to the final one
pub record Source : Type 0 where
  pub donating : Bool
  pub documents : List Document
  pub entries : List Entry

abbrev pub feed_by : Source → List What
feed_by source = whats (items_of source.documents source.entries)

-- the donors' feeds on a lane
abbrev pub feeds_on : ℕ → ℕ → (ℕ → Source) → ℕ → List What
feeds_on lanes lane sources donor = lane_feed lanes lane (feed_by (sources donor))

-- the documents of the fetch time by donor and recipient. They outlive the versions that told them: a donor that
-- installed or was released doesn't keep what stood at the fetch time.
abbrev pub Clones : Type 0
Clones = ℕ → ℕ → List Document

-- the documents that a donor's versions tell of a time
abbrev pub told_clones : Cluster → Clones
told_clones cluster donor recipient = clones_of (shard_in cluster donor).shard cluster.control.fetch_time recipient

-- they are these as far as versions tell them, else what was told before
abbrev pub clones_after : Cluster → Clones → Clones
clones_after cluster clones donor recipient =
    cond (nat_le (shard_in cluster donor).shard.versions.floor cluster.control.fetch_time)
    (told_clones cluster donor recipient) (clones donor recipient)

abbrev pub source_by : ℕ → ShardCell → List Document → ℕ → Source
source_by fetch_time cell documents recipient = record {
  donating = has cell.donor.told ToDonate;
  documents = documents;
  entries = up_to_final (entries_for cell.shard fetch_time recipient);
}

abbrev pub sources_of : Clones → Cluster → ℕ → ℕ → Source
sources_of clones cluster recipient donor =
    source_by cluster.control.fetch_time (shard_in cluster donor) (clones donor recipient) recipient
