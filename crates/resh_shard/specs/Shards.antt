-- A shard, and what each call but those of commands leaves of it.
use Rattle.std.specs.Prelude.{ℕ, ◌-◌, Bool, true, false, cond, List, [], ◌∷◌, length, map, take, Option, Some, None, is_some}
use Rattle.std.specs.FinMap.{empty}
use Rattle.std.specs.List.{range_with_len}
use Rattle.std.specs.Ordering.{is_lt}
use Rattle.resh_value.specs.Lookup.{id_of}
use Rattle.resh_value.specs.declared.value.ShardId.{ShardId}
use Rattle.resh_value.specs.declared.value.Value.{Value}
use Rattle.resh_chunks.specs.Chunks.{Chunks}
use Rattle.resh_stamp.specs.Times.{stamp_cmp}
use Rattle.resh_stamp.specs.declared.stamp.Mark.{Mark}
use Rattle.resh_stamp.specs.declared.stamp.Stamp.{Stamp}
use Rattle.resh_oplog.specs.Logs.{LogOf, last_mark}
use Rattle.resh_oplog.specs.declared.entry.Entry.{Entry}
use Rattle.resh_oplog.specs.declared.entry.What.TheVariants.{Final}
use Rattle.resh_versions.specs.Chains.{Document, version}
use Rattle.resh_versions.specs.Standing.{now, pruned, standing_now, stored_from, with_version, without_last}
use Rattle.resh_bag.specs.Bag.{Bag}
use Rattle.resh_bag.specs.Parts.{bag_over}
use Rattle.resh_shard.specs.Writes.{contents, entries_of, shard_id, with_entries, written}
use Rattle.resh_shard.specs.declared.act.TakeIn.{TakeIn}
use Rattle.resh_shard.specs.declared.act.TakeIn.TheVariants.{Taken, Duplicate}
use Rattle.resh_shard.specs.declared.act.Which.{Which}
use Rattle.resh_shard.specs.declared.act.Which.TheVariants.{Old, New}
use Rattle.resh_shard.specs.declared.act.Write.{Write}
use Rattle.resh_shard.specs.declared.act.Write.TheVariants.{Puts, Takes}
use Rattle.resh_shard.specs.declared.state.ShardState.{ShardState}

abbrev pub Shard : Type 0
Shard = ShardState

-- a shard that holds nothing and serves under its old map
abbrev pub opened : ShardId → Chunks → Chunks → ℕ → Shard
opened id old_map new_map limit = record {
  old_map = old_map;
  new_map = new_map;
  limit = limit;
  versions = record { chains = empty; floor = 0 };
  log = record { donor = id; entries = [] };
  which = Old;
  blocked = false;
  names = false;
}

abbrev pub map_by : Which → Chunks → Chunks → Chunks
map_by Old old_map new_map = old_map
map_by New old_map new_map = new_map

-- the map in force
abbrev pub map_of : Shard → Chunks
map_of shard = map_by shard.which shard.old_map shard.new_map

abbrev pub number_of : Shard → ℕ
number_of shard = shard.log.donor.0

-- the documents that it holds now, by `_id`
abbrev pub documents_of : Shard → List Document
documents_of shard = standing_now shard.versions None

-- what it holds now, as the bag of this shard alone
abbrev pub bag_of : Shard → Bag
bag_of shard = bag_over (λ number. documents_of shard) (number_of shard ∷ [])

-- a stamp is above the one of a mark, if one is given
abbrev pub is_later : Option Mark → Stamp → Bool
is_later None stamp = true
is_later (Some mark) stamp = is_lt (stamp_cmp mark.stamp stamp)

-- the stamp is above that of the last entry
abbrev pub is_next : Shard → Stamp → Bool
is_next shard stamp = is_later (last_mark shard.log.entries) stamp

-- a document that stands from the beginning
abbrev pub with_loaded : Shard → Document → Shard
with_loaded shard d = record shard { versions = with_version shard.versions (id_of d) (version 0 (Some d)) }

-- a write, and its entries from a part on
abbrev pub wrote : Stamp → ℕ → Write → Shard → Shard
wrote stamp part w shard = record shard {
  versions = written shard.versions stamp.time w;
  log = with_entries shard.log
      (entries_of shard.names shard.log.donor stamp part (contents shard.new_map w));
}

-- a document that moves in stands where its `_id` isn't held; its entry is the second of the move
abbrev pub taking_in : Shard → Document → TakeIn
taking_in shard d = cond (is_some (now shard.versions (id_of d))) Duplicate Taken

abbrev pub taken_in : Stamp → Document → Shard → Shard
taken_in stamp d shard = cond (is_some (now shard.versions (id_of d))) shard (wrote stamp 1 (Puts d) shard)

-- a document that moves out; its entry is the first of the move
abbrev pub taken_out_at : Stamp → Option Document → Shard → Shard
taken_out_at stamp None shard = shard
taken_out_at stamp (Some d) shard = wrote stamp 0 (Takes d) shard

abbrev pub taken_out : Stamp → Value → Shard → Shard
taken_out stamp id shard = taken_out_at stamp (now shard.versions id) shard

abbrev pub without_entries : ℕ → LogOf → LogOf
without_entries most log = record log { entries = take (length log.entries - most) log.entries }

-- the last version of an `_id` and the last entry are taken back
abbrev pub undone_in : Value → Shard → Shard
undone_in id shard = record shard {
  versions = without_last shard.versions id;
  log = without_entries 1 shard.log;
}

abbrev pub prepared : Shard → Shard
prepared shard = record shard { names = true }

-- the entry after which nothing more is logged for a recipient
abbrev pub final_entry : ShardId → Stamp → ℕ → Entry
final_entry donor stamp shard =
    record { stamp = stamp; part = shard; donor = donor; to = Some (shard_id shard); what = Final }

abbrev pub final_entries : Shard → Stamp → List Entry
final_entries shard stamp = map (final_entry shard.log.donor stamp) (range_with_len 0 shard.new_map.shards)

abbrev pub blocked_at : Stamp → Shard → Shard
blocked_at stamp shard =
    record shard { blocked = true; log = with_entries shard.log (final_entries shard stamp) }

-- only these documents stand, and the new map is in force
abbrev pub installed : ℕ → List Document → Shard → Shard
installed time documents shard =
    record shard { versions = stored_from time documents; which = New; blocked = false }

abbrev pub released : Shard → Shard
released shard = record shard { which = Old; blocked = false }

abbrev pub pruned_to : ℕ → Shard → Shard
pruned_to time shard = record shard { versions = pruned time shard.versions }
