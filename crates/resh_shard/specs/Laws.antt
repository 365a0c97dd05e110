-- What holds of what a shard does: against the collection, against slots, and of its log.
use Rattle.std.specs.Prelude.{◌≡◌, ◌≢◌, ◌≤◌, ◌==◌, ℕ, Bool, true, false, cond, List, [], ◌∷◌, ◌++◌, length, map, filter, Option, Some, None, is_some}
use Rattle.std.specs.List.{range_with_len}
use Rattle.resh_value.specs.Lookup.{id_of}
use Rattle.resh_value.specs.Whole.{is_whole}
use Rattle.resh_value.specs.declared.value.ShardId.{ShardId}
use Rattle.resh_value.specs.declared.value.Value.{Value}
use Rattle.resh_chunks.specs.Chunks.{Chunks, owner_of}
use Rattle.resh_stamp.specs.declared.stamp.Stamp.{Stamp}
use Rattle.resh_oplog.specs.Logs.{is_for, mark_of}
use Rattle.resh_oplog.specs.declared.entry.What.{What}
use Rattle.resh_feed.specs.Effects.{effects_on}
use Rattle.resh_versions.specs.Chains.{Document}
use Rattle.resh_versions.specs.Standing.{IsFiled, now}
use Rattle.resh_ops.specs.declared.operator.Action.{Action}
use Rattle.resh_command.specs.declared.command.Command.{Command}
use Rattle.resh_command.specs.declared.command.Command.TheVariants.{Update}
use Rattle.resh_command.specs.declared.reply.Reply.TheVariants.{Duplicate}
use Rattle.resh_bag.specs.Answer.{Doing, replaces, says, bag_after, doing, text_limit}
use Rattle.resh_bag.specs.Bag.{Bag, held}
use Rattle.resh_bag.specs.Parts.{bag_over}
use Rattle.resh_bag.specs.WholeLaws.{BringsWhole}
use Rattle.resh_shard.specs.Decisions.{IsAsked, decided, done, doing_on}
use Rattle.resh_shard.specs.Shards.{Shard, bag_of, documents_of, map_of, number_of, taken_in, taken_out}
use Rattle.resh_shard.specs.Writes.{contents, entries_of, with_entries}
use Rattle.resh_shard.specs.declared.act.Decision.{Decision}
use Rattle.resh_shard.specs.declared.act.Decision.TheVariants.{Writes, Leaves, Says}
use Rattle.resh_shard.specs.declared.act.Write.TheVariants.{Puts, Takes, Rekeys}

-- what is logged of a doing
abbrev pub contents_by : Shard → Decision → List (ℕ × What)
contents_by shard (Writes w reply) = contents shard.new_map w
contents_by shard (Leaves to d) = []
contents_by shard (Says reply) = []

abbrev pub contents_of : Shard → Doing → List (ℕ × What)
contents_of shard doing = contents_by shard (decided shard doing)

-- a shard whose documents stand under their own `_id`s, by the limit of stored documents, which is asked a command that
-- brings whole documents and whose result stays
pub record Serves (shard : Shard) (command : Command) : Type 0 where
  pub filed : IsFiled shard.versions.chains
  pub limit : shard.limit ≡ text_limit
  pub asked : IsAsked shard command
  pub brings : BringsWhole command
  pub stays : (to : ShardId) (d : Document) → decided shard (doing_on shard command) ≢ Leaves to d

-- by that limit a command does what it does to the collection
abbrev pub DoesAsCollection : Type 0
DoesAsCollection = (shard : Shard) (command : Command) → shard.limit ≡ text_limit
    → doing_on shard command ≡ doing (map_of shard) (bag_of shard) command

-- the shard holds then what the collection has there
abbrev pub HoldsAsCollection : Type 0
HoldsAsCollection = (shard : Shard) (stamp : Stamp) (command : Command) → Serves shard command
    → bag_of (done stamp (doing_on shard command) shard) ≡ bag_after (bag_of shard) (doing_on shard command)

-- what is logged, of the contents for the shards that pass a test
abbrev pub whats_for : (ℕ → Bool) → List (ℕ × What) → List What
whats_for passes contents = map (λ content. content.1) (filter (λ content. passes content.0) contents)

-- the document, where its owner by a map passes
abbrev pub comes : (ℕ → Bool) → Chunks → Option Document → Option Document
comes passes chunks None = None
comes passes chunks (Some d) = cond (passes (owner_of chunks d)) (Some d) None

-- what is logged for some shards has on each slot, where those documents stand that come to them by the new map, the
-- effect that the doing has on the collection
abbrev pub LogsItsEffect : Type 0
LogsItsEffect = (shard : Shard) (command : Command) → Serves shard command → (passes : ℕ → Bool) (id : Value)
    → effects_on id (whats_for passes (contents_of shard (doing_on shard command)))
    (comes passes shard.new_map (held (bag_of shard) (number_of shard) id))
    ≡ comes passes shard.new_map
    (held (bag_after (bag_of shard) (doing_on shard command)) (number_of shard) id)

-- a log after a command is the log before with the entries of what it did: two at most, which have the stamp of the
-- command and the parts from 0 on
pub record LogGrows : Type 0 where
  pub log : (shard : Shard) (stamp : Stamp) (doing : Doing)
      → (done stamp doing shard).log ≡ with_entries shard.log
      (entries_of shard.names shard.log.donor stamp 0 (contents_of shard doing))
  pub few : (shard : Shard) (doing : Doing) → length (contents_of shard doing) ≤ 2
  pub marks : (names : Bool) (donor : ShardId) (stamp : Stamp) (part : ℕ) (contents : List (ℕ × What))
      → map mark_of (entries_of names donor stamp part contents)
      ≡ map (λ part. record { stamp = stamp; part = part }) (range_with_len part (length contents))

-- the entries have these contents; those that are destined to a recipient are the ones whose owner it is, and none is
-- before entries name recipients
pub record EntriesHaveContents : Type 0 where
  pub all : (names : Bool) (donor : ShardId) (stamp : Stamp) (part : ℕ) (contents : List (ℕ × What))
      → map (λ entry. entry.what) (entries_of names donor stamp part contents) ≡ whats_for (λ shard. true) contents
  pub destined : (donor : ShardId) (stamp : Stamp) (part recipient : ℕ) (contents : List (ℕ × What))
      → map (λ entry. entry.what)
      (filter (λ entry. is_for recipient entry.to) (entries_of true donor stamp part contents))
      ≡ whats_for (λ shard. shard == recipient) contents
  pub unnamed : (donor : ShardId) (stamp : Stamp) (part recipient : ℕ) (contents : List (ℕ × What))
      → filter (λ entry. is_for recipient entry.to) (entries_of false donor stamp part contents) ≡ []

-- two shards' documents as one bag
abbrev pub bag_of_both : Shard → Shard → Bag
bag_of_both one other = bag_over
    (λ number. cond (number == number_of one) (documents_of one) (documents_of other))
    (number_of one ∷ number_of other ∷ [])

-- the halves of a move together: what is logged of them is what is logged of a document that is changed in a key, and
-- the two shards hold then what the collection has there
pub record MovesInHalves : Type 0 where
  pub logged : (new_map : Chunks) (before after : Document)
      → contents new_map (Takes before) ++ contents new_map (Puts after) ≡ contents new_map (Rekeys before after)
  pub held : (from to : Shard) (stamp : Stamp) (before after : Document)
      → IsFiled from.versions.chains → IsFiled to.versions.chains → is_whole after ≡ true
      → number_of from ≢ number_of to
      → now from.versions (id_of before) ≡ Some before → now to.versions (id_of after) ≡ None
      → bag_of_both (taken_out stamp (id_of before) from) (taken_in stamp after to)
      ≡ bag_after (bag_of_both from to) (replaces (number_of from) before (number_of to) after)

-- an update whose result belongs to another shard moves it there in the collection too, unless its `_id` is held there
abbrev pub MovesAsCollection : Type 0
MovesAsCollection = (from to : Shard) (f : Document) (update : List Action) (before after : Document)
    → from.limit ≡ text_limit → IsFiled from.versions.chains → IsFiled to.versions.chains
    → number_of from ≢ number_of to
    → doing_on from (Update f update) ≡ replaces (number_of from) before (number_of to) after
    → doing (map_of from) (bag_of_both from to) (Update f update)
    ≡ cond (is_some (now to.versions (id_of after))) (says Duplicate)
    (replaces (number_of from) before (number_of to) after)

-- what is done on one shard leaves what the others hold
abbrev pub LeavesOthers : Type 0
LeavesOthers = (own changed : ℕ → List Document) (shards : List ℕ) (shard other : ℕ) (id : Value)
    → ((number : ℕ) → number ≢ shard → changed number ≡ own number) → other ≢ shard
    → held (bag_over changed shards) other id ≡ held (bag_over own shards) other id

-- a command changes a shard's documents and its log, and nothing else
pub record ChangesNothingElse : Type 0 where
  pub number : (shard : Shard) (stamp : Stamp) (doing : Doing)
      → (done stamp doing shard).log.donor ≡ shard.log.donor
  pub old_map : (shard : Shard) (stamp : Stamp) (doing : Doing) → (done stamp doing shard).old_map ≡ shard.old_map
  pub new_map : (shard : Shard) (stamp : Stamp) (doing : Doing) → (done stamp doing shard).new_map ≡ shard.new_map
  pub which : (shard : Shard) (stamp : Stamp) (doing : Doing) → (done stamp doing shard).which ≡ shard.which
  pub blocked : (shard : Shard) (stamp : Stamp) (doing : Doing) → (done stamp doing shard).blocked ≡ shard.blocked
  pub names : (shard : Shard) (stamp : Stamp) (doing : Doing) → (done stamp doing shard).names ≡ shard.names
  pub filed : (shard : Shard) (stamp : Stamp) (command : Command) → Serves shard command
      → IsFiled (done stamp (doing_on shard command) shard).versions.chains
