-- What the table of events keeps of a shard's story, and what it leaves of its feeds.
use Rattle.std.specs.Prelude.{◌≡◌, ◌≢◌, ◌≤◌, ◌<◌, ◌^◌, ◌==◌, ℕ, true, false, cond, nat_lt, List, [], ◌∷◌, ◌++◌, map, filter, Some, None, slice_index_or}
use Rattle.std.specs.FinMap.{FinMap, empty, get, values}
use Rattle.std.specs.List.{AllByRecursion, flat_map, fold}
use Rattle.resh_value.specs.Order.{compare_of}
use Rattle.resh_value.specs.Whole.{is_whole}
use Rattle.resh_value.specs.declared.value.ShardId.{ShardId}
use Rattle.resh_value.specs.declared.value.Value.{Value}
use Rattle.resh_chunks.specs.Chunks.{Chunks}
use Rattle.resh_stamp.specs.declared.stamp.Stamp.{Stamp}
use Rattle.resh_oplog.specs.Logs.{IsLog, is_for}
use Rattle.resh_oplog.specs.declared.entry.Entry.{Entry}
use Rattle.resh_feed.specs.Effects.{effects_on}
use Rattle.resh_feed.specs.Items.{has_final}
use Rattle.resh_versions.specs.Chains.{Document, IsStored}
use Rattle.resh_versions.specs.Standing.{IsFiled, StandsUnder, last_of, now}
use Rattle.resh_bag.specs.Answer.{Doing, doing}
use Rattle.resh_bag.specs.Parts.{bag_over, is_among}
use Rattle.resh_bag.specs.WholeLaws.{BringsWhole}
use Rattle.resh_command.specs.declared.command.Command.{Command}
use Rattle.resh_shard.specs.Decisions.{done}
use Rattle.resh_shard.specs.Laws.{whats_for}
use Rattle.resh_shard.specs.Shards.{Shard, blocked_at, documents_of, final_entry, installed, opened, prepared, pruned_to, released, taken_in, taken_out, with_loaded, wrote}
use Rattle.resh_shard.specs.Writes.{contents, entries_of}
use Rattle.resh_shard.specs.declared.act.Write.{Write}
use Rattle.resh_story.specs.Stories.{HasStory, IsNamedAfter, IsWholeFeed, clones_of, entries_for, feed_from, held_for}
use Rattle.resh_story.specs.Writing.{Acts, IsDoingAt, IsWriteAt, MayWrite}

-- a shard that has loaded whole documents and nothing else has its story, from the first time on
abbrev pub OpensStory : Type 0
OpensStory = (id : ShardId) (old_map new_map : Chunks) (limit : ℕ) (documents : List Document)
    → AllByRecursion IsStored documents
    → HasStory 0 (fold with_loaded (opened id old_map new_map limit) documents)

-- what a command that brings whole documents does, by what several shards hold, acts on what they hold
abbrev pub CommandsAct : Type 0
CommandsAct = (own : ℕ → Shard) (shards : List ℕ) (chunks : Chunks) (command : Command)
    → ((s : ℕ) → is_among shards s ≡ true → IsFiled (own s).versions.chains) → BringsWhole command
    → Acts own shards (doing chunks (bag_over (λ s. documents_of (own s)) shards) command)

-- what is done of a command, and what a move takes in and takes out, is one write at most
pub record WritesOnce : Type 0 where
  pub does : (stamp : Stamp) (doing : Doing) (shard : Shard) → IsFiled shard.versions.chains → IsDoingAt shard doing
      → MayWrite stamp shard (done stamp doing shard)
  pub takes_in : (stamp : Stamp) (d : Document) (shard : Shard) → is_whole d ≡ true
      → MayWrite stamp shard (taken_in stamp d shard)
  pub takes_out : (stamp : Stamp) (id : Value) (shard : Shard) → IsFiled shard.versions.chains
      → MayWrite stamp shard (taken_out stamp id shard)

-- a write later than a shard's clock keeps its story, whether its entries name recipients or not, and so does all that
-- the shard is told, and a later clock
pub record KeepsStory : Type 0 where
  pub writes : (clock : ℕ) (stamp : Stamp) (before after : Shard) → HasStory clock before → clock < stamp.time
      → MayWrite stamp before after → HasStory stamp.time after
  pub prepares : (clock : ℕ) (shard : Shard) → HasStory clock shard → HasStory clock (prepared shard)
  pub prunes : (clock time : ℕ) (shard : Shard) → HasStory clock shard → time ≤ clock
      → HasStory clock (pruned_to time shard)
  pub blocks : (clock : ℕ) (stamp : Stamp) (shard : Shard) → HasStory clock shard → clock ≤ stamp.time
      → HasStory stamp.time (blocked_at stamp shard)
  pub installs : (clock time : ℕ) (documents : List Document) (shard : Shard) → HasStory clock shard → clock ≤ time
      → AllByRecursion IsStored documents → HasStory time (installed time documents shard)
  pub releases : (clock : ℕ) (shard : Shard) → HasStory clock shard → HasStory clock (released shard)
  pub waits : (clock time : ℕ) (shard : Shard) → HasStory clock shard → clock ≤ time → HasStory time shard

-- no entry is later than the clock, so from there on all later ones name recipients; once new ones do, they go on so
pub record KeepsNaming : Type 0 where
  pub starts : (clock : ℕ) (shard : Shard) → HasStory clock shard → IsNamedAfter clock shard.log.entries
  pub stays : (time later : ℕ) (log : List Entry) → IsNamedAfter time log → time ≤ later → IsNamedAfter later log
  pub writes : (time : ℕ) (stamp : Stamp) (before after : Shard) → IsNamedAfter time before.log.entries
      → before.names ≡ true → MayWrite stamp before after → IsNamedAfter time after.log.entries
  pub blocks : (time : ℕ) (stamp : Stamp) (shard : Shard) → IsNamedAfter time shard.log.entries
      → IsNamedAfter time (blocked_at stamp shard).log.entries

-- a log goes on holding what a log may, where a stamp is later than all of it and its numbers are of 32 bits
pub record KeepsLog : Type 0 where
  pub writes : (clock : ℕ) (stamp : Stamp) (before after : Shard) → IsLog before.log.entries → HasStory clock before
      → clock < stamp.time → stamp.node < 2 ^ 32 → MayWrite stamp before after → IsLog after.log.entries
  pub blocks : (clock : ℕ) (stamp : Stamp) (shard : Shard) → IsLog shard.log.entries → HasStory clock shard
      → clock < stamp.time → stamp.node < 2 ^ 32 → shard.new_map.shards ≤ 2 ^ 32
      → IsLog (blocked_at stamp shard).log.entries

-- a write logs no final entry, and blocking logs one for each recipient: with none, and with those, feeds are whole
pub record KeepsFinals : Type 0 where
  pub writes : (stamp : Stamp) (before after : Shard) → has_final before.log.entries ≡ false
      → MayWrite stamp before after → has_final after.log.entries ≡ false
  pub whole : (shard : Shard) (time recipient : ℕ) → has_final shard.log.entries ≡ false
      → IsWholeFeed shard time recipient
  pub blocks : (stamp : Stamp) (shard : Shard) (time recipient : ℕ) → has_final shard.log.entries ≡ false
      → IsWholeFeed (blocked_at stamp shard) time recipient
  pub seals : (stamp : Stamp) (shard : Shard) (time recipient : ℕ) → time < stamp.time
      → recipient < shard.new_map.shards
      → has_final (entries_for (blocked_at stamp shard) time recipient) ≡ true

-- a whole feed from a time on that can be read leaves what the shard holds now and comes to the recipient
abbrev pub FeedsTell : Type 0
FeedsTell = (clock time recipient : ℕ) (shard : Shard) (id : Value) → HasStory clock shard
    → shard.versions.floor ≤ time → IsNamedAfter time shard.log.entries → IsWholeFeed shard time recipient
    → effects_on id (feed_from shard time recipient) None ≡ held_for shard recipient id

-- the entries of a write that are destined to a recipient
abbrev pub entries_to : ℕ → Stamp → ℕ → Write → Shard → List Entry
entries_to recipient stamp part w shard =
    filter (λ entry. is_for recipient entry.to)
    (entries_of shard.names shard.log.donor stamp part (contents shard.new_map w))

-- a write puts its entries for a recipient behind what is told from an earlier time on, and changes nothing before them
pub record FeedsGrow : Type 0 where
  pub clones : (stamp : Stamp) (part : ℕ) (w : Write) (shard : Shard) (time recipient : ℕ)
      → IsFiled shard.versions.chains → IsWriteAt shard w → time < stamp.time
      → clones_of (wrote stamp part w shard) time recipient ≡ clones_of shard time recipient
  pub logged : (stamp : Stamp) (part : ℕ) (w : Write) (shard : Shard) (time recipient : ℕ) → time < stamp.time
      → entries_for (wrote stamp part w shard) time recipient
      ≡ entries_for shard time recipient ++ entries_to recipient stamp part w shard
  pub fed : (stamp : Stamp) (part : ℕ) (w : Write) (shard : Shard) (time recipient : ℕ)
      → IsFiled shard.versions.chains → IsWriteAt shard w → time < stamp.time
      → shard.names ≡ true → has_final shard.log.entries ≡ false
      → feed_from (wrote stamp part w shard) time recipient
      ≡ feed_from shard time recipient ++ whats_for (λ number. number == recipient) (contents shard.new_map w)

-- the final entry for a recipient, where there is such a shard
abbrev pub final_to : ℕ → Stamp → Shard → List Entry
final_to recipient stamp shard =
    cond (nat_lt recipient shard.new_map.shards) (final_entry shard.log.donor stamp recipient ∷ []) []

-- pruning leaves what is told from the new floor on, and blocking puts a final entry behind it
pub record FeedsEnd : Type 0 where
  pub pruned : (floor time recipient : ℕ) (shard : Shard) → IsFiled shard.versions.chains
      → (pruned_to floor shard).versions.floor ≤ time
      → clones_of (pruned_to floor shard) time recipient ≡ clones_of shard time recipient
  pub logged : (stamp : Stamp) (shard : Shard) (time recipient : ℕ) → time < stamp.time
      → entries_for (blocked_at stamp shard) time recipient
      ≡ entries_for shard time recipient ++ final_to recipient stamp shard
  pub fed : (stamp : Stamp) (shard : Shard) (time recipient : ℕ) → time < stamp.time
      → has_final shard.log.entries ≡ false
      → feed_from (blocked_at stamp shard) time recipient
      ≡ feed_from shard time recipient ++ map (λ entry. entry.what) (final_to recipient stamp shard)

-- a shard that installs holds the documents that it is given, and no others, of several of one `_id` the last one
abbrev pub InstallsLast : Type 0
InstallsLast = (time : ℕ) (documents : List Document) (shard : Shard) (id : Value)
    → now (pruned_to time (installed time documents shard)).versions id ≡ last_of documents id

-- each document of an output may stand under its `_id`
abbrev pub IsOutput : FinMap compare_of Document → Type 0
IsOutput output = (id : Value) (d : Document) → get output id ≡ Some d → StandsUnder id d

-- several outputs' documents, one after another, can be stored, and the last one of an `_id` that one output alone has
-- is what that output has
pub record JoinsOutputs : Type 0 where
  pub stored : (outputs : List (FinMap compare_of Document)) → AllByRecursion IsOutput outputs
      → AllByRecursion IsStored (flat_map values outputs)
  pub last : (outputs : List (FinMap compare_of Document)) (lane : ℕ) (id : Value) → AllByRecursion IsOutput outputs
      → ((other : ℕ) → other ≢ lane → get (slice_index_or outputs other empty) id ≡ None)
      → last_of (flat_map values outputs) id ≡ get (slice_index_or outputs lane empty) id
