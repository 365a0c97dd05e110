-- The opening state of a setup: each document with its owner by the old map, and nothing told, read or replied.
use Rattle.std.specs.Prelude.{ℕ, ◌==◌, List, [], length, map, filter, replicate}
use Rattle.std.specs.List.{fold, range_with_len}
use Rattle.resh_chunks.specs.Chunks.{owner_of}
use Rattle.resh_versions.specs.Chains.{Document}
use Rattle.resh_rules.specs.Pools.{empty_pool}
use Rattle.resh_lane.specs.Lanes as lane
use Rattle.resh_donor.specs.States as donor
use Rattle.resh_recip.specs.States as recipient
use Rattle.resh_fetcher.specs.Links.{fresh}
use Rattle.resh_coord.specs.Control as control
use Rattle.resh_bag.specs.Answer.{text_limit}
use Rattle.resh_shard.specs.Shards.{opened, with_loaded}
use Rattle.resh_shard.specs.Writes.{shard_id}
use Rattle.resh_setup.specs.declared.setup.Setup.{Setup}
use Rattle.resh_cells.specs.Cells.{no_client}
use Rattle.resh_cells.specs.declared.cluster.Cluster.{Cluster}
use Rattle.resh_cells.specs.declared.cluster.Clocks.{Clocks}
use Rattle.resh_cells.specs.declared.cluster.ShardCell.{ShardCell}
use Rattle.resh_cells.specs.declared.cluster.LinkCell.{LinkCell}

module _ (setup : Setup) where
  abbrev pub shards : ℕ
  shards = length setup.shards

  -- something for each shard, lane or client
  abbrev pub each : {X : Type 0} → ℕ → (ℕ → X) → List X
  each many one = map one (range_with_len 0 many)

  -- the documents of the file that a shard owns by the old map
  abbrev pub documents_at : ℕ → List Document
  documents_at s = filter (λ d. owner_of setup.old_map d == s) setup.documents

  abbrev pub opening_shard : ℕ → ShardCell
  opening_shard s = record {
    shard = fold with_loaded (opened (shard_id s) setup.old_map setup.new_map text_limit) (documents_at s);
    donor = donor.at_first;
    recipient = recipient.at_first;
  }

  abbrev pub opening_lane : lane.LaneOf
  opening_lane = lane.fresh (empty_pool setup.old_map shards) shards

  abbrev pub opening_link : ℕ → ℕ → LinkCell
  opening_link r d = record { link = fresh (shard_id r) (shard_id d) setup.lanes setup.batch; sent = replicate setup.lanes [] }

  -- every clock stands at 0
  abbrev pub opening_clocks : Clocks
  opening_clocks = record {
    control = 0;
    shards = replicate shards 0;
    lanes = replicate shards (replicate setup.lanes 0);
    links = replicate shards (replicate shards 0);
    clients = replicate (length setup.clients) 0;
  }

  abbrev pub opening : Cluster
  opening = record {
    control = control.at_first shards;
    shards = each shards opening_shard;
    lanes = replicate shards (replicate setup.lanes opening_lane);
    links = each shards (λ r. each shards (opening_link r));
    clients = replicate (length setup.clients) no_client;
    clocks = opening_clocks;
  }
