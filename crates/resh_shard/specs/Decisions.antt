-- What a command comes to on a shard.
use Rattle.std.specs.Prelude.{◌≡◌, ⊤, ℕ, Bool, true, false, ◌||◌, ◌==◌, cond, List}
use Rattle.std.specs.List.{list_any}
use Rattle.std.specs.Ordering.{is_eq}
use Rattle.resh_value.specs.Change.{is_named}
use Rattle.resh_value.specs.Order.{compare_documents}
use Rattle.resh_value.specs.Whole.{has_rising_names, is_whole}
use Rattle.resh_value.specs.declared.change.Change.{Change}
use Rattle.resh_chunks.specs.Chunks.{owner_of}
use Rattle.resh_ops.specs.Updates.{updated}
use Rattle.resh_stamp.specs.declared.stamp.Stamp.{Stamp}
use Rattle.resh_versions.specs.Chains.{Document}
use Rattle.resh_command.specs.declared.command.Command.{Command}
use Rattle.resh_command.specs.declared.command.Command.TheVariants.{Insert, Update, Delete, Find, Count, Abort}
use Rattle.resh_command.specs.declared.reply.Reply.TheVariants.{Matched}
use Rattle.resh_bag.specs.Answer.{Doing, adds, replaces, removes, says, doing, hit, on_hit, reply_of, result_doing, with_key}
use Rattle.resh_shard.specs.Differences.{change_between}
use Rattle.resh_shard.specs.Shards.{Shard, bag_of, map_of, number_of, wrote}
use Rattle.resh_shard.specs.Writes.{shard_id}
use Rattle.resh_shard.specs.declared.act.Act.{Act}
use Rattle.resh_shard.specs.declared.act.Act.TheVariants as act
use Rattle.resh_shard.specs.declared.act.Decision.{Decision}
use Rattle.resh_shard.specs.declared.act.Decision.TheVariants.{Writes, Leaves, Says}
use Rattle.resh_shard.specs.declared.act.Write.{Write}
use Rattle.resh_shard.specs.declared.act.Write.TheVariants.{Puts, Takes, Turns, Rekeys}

-- an inserted document can be stored and belongs to this shard by the map in force; an abort is no shard's command
abbrev pub IsAsked : Shard → Command → Type 0
IsAsked shard (Insert d) = (is_whole d ≡ true) × (owner_of (map_of shard) d ≡ number_of shard)
IsAsked shard (Update f update) = ⊤
IsAsked shard (Delete f) = ⊤
IsAsked shard (Find f) = ⊤
IsAsked shard (Count f) = ⊤
IsAsked shard Abort = ⊥

-- what a command does to the documents of this shard alone, by the map in force; an update's result keeps to the
-- shard's limit
abbrev pub doing_on : Shard → Command → Doing
doing_on shard (Update f update) = with_key (map_of shard) f (on_hit
    (λ d. result_doing (map_of shard) (bag_of shard) (owner_of (map_of shard) f) d (updated shard.limit update d))
    (hit (map_of shard) (bag_of shard) f))
doing_on shard command = doing (map_of shard) (bag_of shard) command

-- a change names a field of a key
abbrev pub names_one : List (List ℕ) → Change → Bool
names_one pattern change = list_any (λ name. is_named change.assign change.unset name) pattern

abbrev pub names_key : Shard → Change → Bool
names_key shard change = names_one shard.old_map.pattern change || names_one shard.new_map.pattern change

-- an update whose result stays on the shard: as a change, unless that names a field of either key
abbrev pub turned : Shard → Document → Document → Write
turned shard d e =
    cond (names_key shard (change_between d e)) (Rekeys d e) (Turns d (change_between d e) e)

-- where the result is the same document, nothing is written
abbrev pub decided_turn : Shard → Document → Document → Decision
decided_turn shard d e =
    cond (is_eq (compare_documents d e)) (Says (Matched false)) (Writes (turned shard d e) (Matched true))

-- what the shard does of it: a write and a reply, a reply alone, or nothing where the result belongs to another shard
abbrev pub decided : Shard → Doing → Decision
decided shard (adds n d) = Writes (Puts d) (reply_of (adds n d))
decided shard (replaces n d t e) = cond (t == n) (decided_turn shard d e) (Leaves (shard_id t) e)
decided shard (removes n d) = Writes (Takes d) (reply_of (removes n d))
decided shard (says reply) = Says reply

-- the shard after it
abbrev pub done_by : Stamp → Decision → Shard → Shard
done_by stamp (Writes w reply) shard = wrote stamp 0 w shard
done_by stamp (Leaves to d) shard = shard
done_by stamp (Says reply) shard = shard

abbrev pub done : Stamp → Doing → Shard → Shard
done stamp doing shard = done_by stamp (decided shard doing) shard

-- the answer
abbrev pub act_by : Decision → Act
act_by (Writes w reply) = act.Done reply
act_by (Leaves to d) = act.Leaves to d
act_by (Says reply) = act.Done reply

-- a result of another owner leaves; else the reply is the doing's
abbrev pub answered : Doing → Act
answered (replaces n d t e) = cond (t == n) (act.Done (reply_of (replaces n d t e))) (act.Leaves (shard_id t) e)
answered doing = act.Done (reply_of doing)

-- what is stored and logged of a write is whole
abbrev pub IsWholeWrite : Write → Type 0
IsWholeWrite (Puts d) = is_whole d ≡ true
IsWholeWrite (Takes d) = ⊤
IsWholeWrite (Turns d change e) = (has_rising_names change.assign ≡ true) × (is_whole e ≡ true)
IsWholeWrite (Rekeys d e) = is_whole e ≡ true

abbrev pub IsWholeDecision : Decision → Type 0
IsWholeDecision (Writes w reply) = IsWholeWrite w
IsWholeDecision (Leaves to d) = is_whole d ≡ true
IsWholeDecision (Says reply) = ⊤

-- a document that leaves can be stored where it comes
abbrev pub IsWholeAct : Act → Type 0
IsWholeAct (act.Done reply) = ⊤
IsWholeAct (act.Leaves to d) = is_whole d ≡ true
IsWholeAct act.Blocked = ⊤
