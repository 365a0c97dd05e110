-- A write of one document: what is logged of it, and what stands after it.
use Rattle.std.specs.Prelude.{ℕ, ◌+◌, Bool, cond, List, [], ◌∷◌, ◌++◌, Option, Some, None}
use Rattle.resh_value.specs.Lookup.{id_of}
use Rattle.resh_value.specs.declared.value.ShardId.{ShardId}
use Rattle.resh_chunks.specs.Chunks.{Chunks, owner_of}
use Rattle.resh_stamp.specs.declared.stamp.Stamp.{Stamp}
use Rattle.resh_oplog.specs.Logs.{LogOf}
use Rattle.resh_oplog.specs.declared.entry.Entry.{Entry}
use Rattle.resh_oplog.specs.declared.entry.What.{What}
use Rattle.resh_oplog.specs.declared.entry.What.TheVariants.{Insert, Update, Delete}
use Rattle.resh_versions.specs.Chains.{version}
use Rattle.resh_versions.specs.Standing.{VersionsOf, with_removal, with_version}
use Rattle.resh_shard.specs.declared.act.Write.{Write}
use Rattle.resh_shard.specs.declared.act.Write.TheVariants.{Puts, Takes, Turns, Rekeys}

abbrev pub shard_id : ℕ → ShardId
shard_id shard = record { 0 = shard }

-- what is logged of a write, each with the shard that it goes to: an insert to the owner of its document by the new
-- map, an update and a delete to the owner of the document before
abbrev pub contents : Chunks → Write → List (ℕ × What)
contents new_map (Puts d) = (owner_of new_map d, Insert d) ∷ []
contents new_map (Takes d) = (owner_of new_map d, Delete (id_of d)) ∷ []
contents new_map (Turns d change e) = (owner_of new_map d, Update (id_of d) change) ∷ []
contents new_map (Rekeys d e) = (owner_of new_map d, Delete (id_of d)) ∷ (owner_of new_map e, Insert e) ∷ []

-- the recipient that an entry names, once they are named
abbrev pub recipient : Bool → ℕ → Option ShardId
recipient names shard = cond names (Some (shard_id shard)) None

abbrev pub entry_of : Bool → ShardId → Stamp → ℕ → ℕ × What → Entry
entry_of names donor stamp part content =
    record { stamp = stamp; part = part; donor = donor; to = recipient names content.0; what = content.1 }

-- the entries of a write, from a part on
abbrev pub entries_of : Bool → ShardId → Stamp → ℕ → List (ℕ × What) → List Entry
entries_of names donor stamp part [] = []
entries_of names donor stamp part (content ∷ rest) =
    entry_of names donor stamp part content ∷ entries_of names donor stamp (part + 1) rest

abbrev pub with_entries : LogOf → List Entry → LogOf
with_entries log more = record log { entries = log.entries ++ more }

-- the versions after a write
abbrev pub written : VersionsOf → ℕ → Write → VersionsOf
written versions time (Puts d) = with_version versions (id_of d) (version time (Some d))
written versions time (Takes d) = with_removal versions time (id_of d)
written versions time (Turns d change e) = with_version versions (id_of e) (version time (Some e))
written versions time (Rekeys d e) = with_version versions (id_of e) (version time (Some e))
