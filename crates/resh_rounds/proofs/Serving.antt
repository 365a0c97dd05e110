-- Every event keeps how shards serve by the phase, and who knows the new map.
use Rattle.std.proofs.Common.{◌≡◌, ◌<◌, ℕ, zero, suc, ◌+◌, ◌==◌, Bool, true, false, not, ◌&&◌, cond, List, [], ◌∷◌, ◌++◌, length, replicate, Option, Some, None, is_some, nat_eq, refl, sym, ap, subst, ◌∙◌, slice_index_or, slice_set}
use Rattle.std.specs.List.{fold, list_all}
use native.Mathlib.Omega.{arith}
use Rattle.resh_value.specs.Lookup.{id_of}
use Rattle.resh_value.specs.declared.value.ShardId.{ShardId}
use Rattle.resh_value.specs.declared.value.Value.{Value}
use Rattle.resh_oplog.specs.declared.piece.Piece.{Piece}
use Rattle.resh_stamp.specs.declared.stamp.Stamp.{Stamp}
use Rattle.resh_progress.specs.declared.message.Message.{Message}
use Rattle.resh_progress.specs.declared.message.Message.TheVariants.{Prepare, Donate, Block, Install, Release}
use Rattle.resh_lane.specs.Lanes as lane
use Rattle.resh_fetcher.specs.Links as link
use Rattle.resh_coord.specs.Control.{Agrees, Control, aborted, advanced, all_true, begins, begun, decided_at, first_clash, is_true_at, left, may_advance, may_leave, message_in, unless_decided, with_crash, with_phase, with_report, with_told}
use Rattle.resh_coord.specs.declared.cause.Cause.{Cause}
use Rattle.resh_coord.specs.declared.cause.Cause.TheVariants.{Asked}
use Rattle.resh_coord.specs.declared.cause.End.{End}
use Rattle.resh_coord.specs.declared.cause.End.TheVariants.{Committed, Aborted}
use Rattle.resh_coord.specs.declared.phase.Phase.{Phase}
use Rattle.resh_coord.specs.declared.phase.Phase.TheVariants.{Initializing, PreparingToDonate, Cloning, Applying, BlockingWrites, Committing, Aborting, Done}
use Rattle.resh_command.specs.declared.command.Command.{Command}
use Rattle.resh_command.specs.declared.reply.Reply.{Reply}
use Rattle.resh_command.specs.declared.reply.Reply.TheVariants as reply
use Rattle.resh_bag.specs.Answer.{Doing, adds, replaces, removes, says, reply_of}
use Rattle.resh_bag.specs.Bag.{Document}
use Rattle.resh_model.specs.Orders.{is_abort}
use Rattle.resh_versions.specs.Standing.{now}
use Rattle.resh_shard.specs.Decisions.{decided, done, done_by}
use Rattle.resh_shard.specs.Shards.{Shard, blocked_at, prepared, pruned_to, taken_in, taken_out, taken_out_at, with_loaded, wrote}
use Rattle.resh_shard.specs.declared.act.Decision.{Decision}
use Rattle.resh_shard.specs.declared.act.Decision.TheVariants.{Writes, Leaves, Says}
use Rattle.resh_shard.specs.declared.act.Which.{Which}
use Rattle.resh_shard.specs.declared.act.Which.TheVariants.{Old, New}
use Rattle.resh_shard.specs.declared.act.Write.TheVariants.{Puts}
use Rattle.resh_setup.specs.declared.event.Event.{Event}
use Rattle.resh_setup.specs.declared.event.Event.TheVariants.{Client, Begin, Tell, Retell, Advance, Clone, Fetch, Cut, Apply, Again, Record, Crash, Report, Fail}
use Rattle.resh_setup.specs.declared.plan.Who.TheVariants.{Coordinator, Link, Lane}
use Rattle.resh_setup.specs.declared.setup.Setup.{Setup}
use Rattle.resh_setup.specs.declared.trace.Met.{Met}
use Rattle.resh_setup.specs.declared.trace.Met.TheVariants.{Row, CrashedBefore, CrashedAfter, Failed, Lost, NoMemory, NoMemoryInMove}
use Rattle.resh_cells.specs.Belonging.{IsClusterOf}
use Rattle.resh_cells.specs.Cells.{client_in, lane_in, lanes_of, no_client, no_shard, on_client, on_control, on_lane, on_link, on_links, on_shard, shard_in, with_lanes, with_shard}
use Rattle.resh_cells.specs.declared.cluster.ClientCell.{ClientCell}
use Rattle.resh_cells.specs.declared.cluster.Cluster.{Cluster}
use Rattle.resh_cells.specs.declared.cluster.ShardCell.{ShardCell}
use Rattle.resh_events.specs.Luck as luck
use Rattle.resh_events.specs.Luck.{Asks, asks, quiet, commits, delivers, counted, wanting}
use Rattle.resh_events.specs.Opening.{documents_at, opening, opening_shard}
use Rattle.resh_events.specs.Runs.{Moment, Run, after}
use Rattle.resh_events.specs.Table.{change}
use Rattle.resh_events.specs.Targets.{all_at, all_targets, doing_of, has_map, is_free, next_command, same_map}
use Rattle.resh_events.specs.rows.Again as again
use Rattle.resh_events.specs.rows.Apply as apply
use Rattle.resh_events.specs.rows.Apply.{is_at}
use Rattle.resh_events.specs.rows.Client as client
use Rattle.resh_events.specs.rows.Client.{Coming, coming, waits, refreshes, comes}
use Rattle.resh_events.specs.rows.Fail as fail
use Rattle.resh_events.specs.rows.Report as report
use Rattle.resh_events.specs.rows.Tell as tell
use Rattle.resh_keeping.proofs.Places.{each_all, length-each, length-set}
use Rattle.resh_rounds.specs.Serving.{IsManned, IsServing, ServesIn}
use Rattle.resh_ending.proofs.Places.{length-replicate, set_alike, set_here, within}

-- how a shard serves
abbrev which_at : Cluster → ℕ → Which
which_at cluster s = (shard_in cluster s).shard.which

abbrev blocked_in : Cluster → ℕ → Bool
blocked_in cluster s = (shard_in cluster s).shard.blocked

abbrev knows_at : Cluster → ℕ → Which
knows_at cluster c = (client_in cluster c).knows

-- the same of another shard that serves alike
serves_alike : (p : Phase) (t : Bool) (e : Option End) (w x : Which) (b c : Bool) → x ≡ w → c ≡ b → ServesIn p t e w b → ServesIn p t e x c
serves_alike p t e w x b c which blocked h =
    subst (λ (y : Which). ServesIn p t e y c) (sym which) (subst (λ (y : Bool). ServesIn p t e w y) (sym blocked) h)

-- an event that changes neither the phase, nor who is told, nor how shards serve, nor who knows the new map
record Flat (one other : Cluster) : Type 0 where
  control : (other.control.phase ≡ one.control.phase) × (other.control.told ≡ one.control.told)
      × (other.control.decision ≡ one.control.decision)
  many : length other.shards ≡ length one.shards
  which : (s : ℕ) → which_at other s ≡ which_at one s
  blocked : (s : ℕ) → blocked_in other s ≡ blocked_in one s
  knows : (c : ℕ) → knows_at other c ≡ knows_at one c

flat_then : (one other last : Cluster) → Flat one other → Flat other last → Flat one last
flat_then one other last h k = record {
  control = (k.control.0 ∙ h.control.0, k.control.1 ∙ h.control.1, k.control.2 ∙ h.control.2);
  many = k.many ∙ h.many;
  which = λ s. k.which s ∙ h.which s;
  blocked = λ s. k.blocked s ∙ h.blocked s;
  knows = λ c. k.knows c ∙ h.knows c;
}

flat_same : (one other : Cluster) → other.control ≡ one.control → other.shards ≡ one.shards → other.clients ≡ one.clients
    → Flat one other
flat_same one other control shards clients = record {
  control = (ap (λ (c : Control). c.phase) control, ap (λ (c : Control). c.told) control, ap (λ (c : Control). c.decision) control);
  many = ap (λ (l : List ShardCell). length l) shards;
  which = λ s. ap (λ (l : List ShardCell). (slice_index_or l s no_shard).shard.which) shards;
  blocked = λ s. ap (λ (l : List ShardCell). (slice_index_or l s no_shard).shard.blocked) shards;
  knows = λ c. ap (λ (l : List ClientCell). (slice_index_or l c no_client).knows) clients;
}

flat_shard : (s : ℕ) (f : ShardCell → ShardCell) (cluster : Cluster)
    → (f (shard_in cluster s)).shard.which ≡ which_at cluster s → (f (shard_in cluster s)).shard.blocked ≡ blocked_in cluster s
    → Flat cluster (on_shard s f cluster)
flat_shard s f cluster which blocked = record {
  control = (refl, refl, refl);
  many = length-set cluster.shards s (f (shard_in cluster s));
  which = λ k. set_alike (λ (cell : ShardCell). cell.shard.which) cluster.shards s k (f (shard_in cluster s)) no_shard which;
  blocked = λ k. set_alike (λ (cell : ShardCell). cell.shard.blocked) cluster.shards s k (f (shard_in cluster s)) no_shard blocked;
  knows = λ c. refl;
}

flat_client : (c : ℕ) (f : ClientCell → ClientCell) (cluster : Cluster) → (f (client_in cluster c)).knows ≡ knows_at cluster c
    → Flat cluster (on_client c f cluster)
flat_client c f cluster knows = record {
  control = (refl, refl, refl);
  many = refl;
  which = λ s. refl;
  blocked = λ s. refl;
  knows = λ k. set_alike (λ (cell : ClientCell). cell.knows) cluster.clients c k (f (client_in cluster c)) no_client knows;
}

flat_control : (f : Control → Control) (cluster : Cluster) → (f cluster.control).phase ≡ cluster.control.phase
    → (f cluster.control).told ≡ cluster.control.told → (f cluster.control).decision ≡ cluster.control.decision
    → Flat cluster (on_control f cluster)
flat_control f cluster phase told decision = record {
  control = (phase, told, decision);
  many = refl;
  which = λ s. refl;
  blocked = λ s. refl;
  knows = λ c. refl;
}

flat_serving : (one other : Cluster) → Flat one other → IsServing one → IsServing other
flat_serving one other flat is = record {
  agrees = subst (λ (p : Phase). Agrees p other.control.decision) (sym flat.control.0)
      (subst (λ (e : Option End). Agrees one.control.phase e) (sym flat.control.2) is.agrees);
  shards = λ s lt. subst (λ (p : Phase). ServesIn p (is_true_at other.control.told s) other.control.decision (which_at other s) (blocked_in other s))
      (sym flat.control.0)
      (subst (λ (told : List Bool). ServesIn one.control.phase (is_true_at told s) other.control.decision (which_at other s) (blocked_in other s))
      (sym flat.control.1)
      (subst (λ (e : Option End). ServesIn one.control.phase (is_true_at one.control.told s) e (which_at other s) (blocked_in other s))
      (sym flat.control.2)
      (serves_alike one.control.phase (is_true_at one.control.told s) one.control.decision (which_at one s) (which_at other s)
      (blocked_in one s) (blocked_in other s) (flat.which s) (flat.blocked s)
      (is.shards s (subst (λ (n : ℕ). s < n) flat.many lt)))));
  clients = λ c h. flat.control.2 ∙ is.clients c (sym (flat.knows c) ∙ h);
}

-- writes
done_which : (stamp : Stamp) (doing : Doing) (shard : Shard) → (done stamp doing shard).which ≡ shard.which
done_which stamp doing shard = by (decided shard doing)
  where
    by : (x : Decision) → (done_by stamp x shard).which ≡ shard.which
    by (Writes w reply) = refl
    by (Leaves to d) = refl
    by (Says reply) = refl

done_blocked : (stamp : Stamp) (doing : Doing) (shard : Shard) → (done stamp doing shard).blocked ≡ shard.blocked
done_blocked stamp doing shard = by (decided shard doing)
  where
    by : (x : Decision) → (done_by stamp x shard).blocked ≡ shard.blocked
    by (Writes w reply) = refl
    by (Leaves to d) = refl
    by (Says reply) = refl

in_which : (stamp : Stamp) (d : Document) (shard : Shard) → (taken_in stamp d shard).which ≡ shard.which
in_which stamp d shard = by (is_some (now shard.versions (id_of d)))
  where
    by : (t : Bool) → (cond t shard (wrote stamp 1 (Puts d) shard)).which ≡ shard.which
    by true = refl
    by false = refl

in_blocked : (stamp : Stamp) (d : Document) (shard : Shard) → (taken_in stamp d shard).blocked ≡ shard.blocked
in_blocked stamp d shard = by (is_some (now shard.versions (id_of d)))
  where
    by : (t : Bool) → (cond t shard (wrote stamp 1 (Puts d) shard)).blocked ≡ shard.blocked
    by true = refl
    by false = refl

out_which : (stamp : Stamp) (id : Value) (shard : Shard) → (taken_out stamp id shard).which ≡ shard.which
out_which stamp id shard = by (now shard.versions id)
  where
    by : (found : Option Document) → (taken_out_at stamp found shard).which ≡ shard.which
    by None = refl
    by (Some d) = refl

out_blocked : (stamp : Stamp) (id : Value) (shard : Shard) → (taken_out stamp id shard).blocked ≡ shard.blocked
out_blocked stamp id shard = by (now shard.versions id)
  where
    by : (found : Option Document) → (taken_out_at stamp found shard).blocked ≡ shard.blocked
    by None = refl
    by (Some d) = refl

flat_done : (stamp : Stamp) (s : ℕ) (doing : Doing) (cluster : Cluster) → Flat cluster (client.done_at stamp s doing cluster)
flat_done stamp s doing cluster =
    flat_shard s (with_shard (done stamp doing)) cluster (done_which stamp doing (shard_in cluster s).shard)
    (done_blocked stamp doing (shard_in cluster s).shard)

flat_moved : (stamp : Stamp) (from : ℕ) (before : Document) (to : ℕ) (later : Document) (cluster : Cluster)
    → Flat cluster (client.moved stamp from before to later cluster)
flat_moved stamp from before to later cluster =
    let taken : Cluster = on_shard to (with_shard (taken_in stamp later)) cluster in
    flat_then cluster taken _
    (flat_shard to (with_shard (taken_in stamp later)) cluster (in_which stamp later (shard_in cluster to).shard)
    (in_blocked stamp later (shard_in cluster to).shard))
    (flat_shard from (with_shard (taken_out stamp (id_of before))) taken (out_which stamp (id_of before) (shard_in taken from).shard)
    (out_blocked stamp (id_of before) (shard_in taken from).shard))

flat_did : (stamp : Stamp) (doing : Doing) (cluster : Cluster) → Flat cluster (client.did stamp doing cluster)
flat_did stamp (adds s d) cluster = flat_done stamp s (adds s d) cluster
flat_did stamp (replaces s d t e) cluster = by (t == s)
  where
    by : (is : Bool) → Flat cluster
        (cond is (client.done_at stamp s (replaces s d t e) cluster) (client.moved stamp s d t e cluster))
    by true = flat_done stamp s (replaces s d t e) cluster
    by false = flat_moved stamp s d t e cluster
flat_did stamp (removes s d) cluster = flat_done stamp s (removes s d) cluster
flat_did stamp (says reply) cluster = flat_same cluster cluster refl refl refl

flat_reply : (c : ℕ) (r : Reply) (cluster : Cluster) → Flat cluster (client.with_reply c r cluster)
flat_reply c r cluster = flat_client c (λ (k : ClientCell). record k { replies = k.replies ++ r ∷ [] }) cluster refl

-- a decision to drop comes in an early phase, where no shard serves under the new map
early : (p : Phase) (t : Bool) (e : Option End) (w : Which) (b : Bool) → e ≡ None → Agrees p e → ServesIn p t e w b → w ≡ Old
early Initializing t e w b none agrees h = h
early PreparingToDonate t e w b none agrees h = h
early Cloning t e w b none agrees h = h
early Applying t e w b none agrees h = h
early BlockingWrites t e w b none agrees h = h
early Committing t e w b none agrees h = cc
early Aborting t e w b none agrees h = h.0
early Done t e w b none agrees h = let some : is_some e ≡ true = agrees in cc

unmarked_at : (marks : List Bool) (s : ℕ) → is_true_at (replicate (length marks) false) s ≡ false
unmarked_at [] s = refl
unmarked_at (mark ∷ marks) zero = refl
unmarked_at (mark ∷ marks) (suc s) = unmarked_at marks s

not_both : (t : Bool) → t ≡ false → t ≡ true → ⊥
not_both true e h = cc
not_both false e h = cc

drop_serving : (cause : Cause) (cluster : Cluster) → IsServing cluster → cluster.control.decision ≡ None
    → IsServing (on_control (aborted cause) cluster)
drop_serving cause cluster is none = record {
  agrees = (cause, refl);
  shards = λ s lt. (
    early cluster.control.phase (is_true_at cluster.control.told s) cluster.control.decision (which_at cluster s) (blocked_in cluster s)
        none is.agrees (is.shards s lt),
    λ h. absurd (not_both (is_true_at (replicate (length cluster.control.told) false) s) (unmarked_at cluster.control.told s) h),
  );
  clients = λ c h. let all : cluster.control.decision ≡ Some Committed = is.clients c h in cc;
}

none_of : (e : Option End) → is_some e ≡ false → e ≡ None
none_of None h = refl
none_of (Some end) h = cc

unless_serving : (cause : Cause) (cluster : Cluster) → IsServing cluster → IsServing (on_control (unless_decided cause) cluster)
unless_serving cause cluster is = by (is_some cluster.control.decision) refl
  where
    by : (t : Bool) → is_some cluster.control.decision ≡ t
        → IsServing (record cluster { control = cond t cluster.control (aborted cause cluster.control) })
    by true some = flat_serving cluster _ (flat_same cluster _ refl refl refl) is
    by false some = drop_serving cause cluster is (none_of cluster.control.decision some)

-- the coordinator begins, and leaves a phase
no_one_knows : (cluster : Cluster) → IsServing cluster → cluster.control.decision ≡ None → (c : ℕ) → knows_at cluster c ≡ New → ⊥
no_one_knows cluster is none c h = let all : cluster.control.decision ≡ Some Committed = is.clients c h in cc

-- nothing is decided in an early phase
abbrev is_early : Phase → Bool
is_early Initializing = true
is_early PreparingToDonate = true
is_early Cloning = true
is_early Applying = true
is_early BlockingWrites = true
is_early Committing = false
is_early Aborting = false
is_early Done = false

undecided : (p : Phase) (e : Option End) → is_early p ≡ true → Agrees p e → e ≡ None
undecided Initializing e h agrees = agrees
undecided PreparingToDonate e h agrees = agrees
undecided Cloning e h agrees = agrees
undecided Applying e h agrees = agrees
undecided BlockingWrites e h agrees = agrees
undecided Committing e h agrees = cc
undecided Aborting e h agrees = cc
undecided Done e h agrees = cc

agrees_early : (p : Phase) (e : Option End) → is_early p ≡ true → e ≡ None → Agrees p e
agrees_early Initializing e h none = none
agrees_early PreparingToDonate e h none = none
agrees_early Cloning e h none = none
agrees_early Applying e h none = none
agrees_early BlockingWrites e h none = none
agrees_early Committing e h none = cc
agrees_early Aborting e h none = cc
agrees_early Done e h none = cc

serves_early : (p : Phase) (t : Bool) (e : Option End) (w : Which) (b : Bool) → is_early p ≡ true → w ≡ Old → ServesIn p t e w b
serves_early Initializing t e w b h old = old
serves_early PreparingToDonate t e w b h old = old
serves_early Cloning t e w b h old = old
serves_early Applying t e w b h old = old
serves_early BlockingWrites t e w b h old = old
serves_early Committing t e w b h old = cc
serves_early Aborting t e w b h old = cc
serves_early Done t e w b h old = cc

old_in : (cluster : Cluster) → IsServing cluster → is_early cluster.control.phase ≡ true → (s : ℕ) → s < length cluster.shards
    → which_at cluster s ≡ Old
old_in cluster is h s lt =
    early cluster.control.phase (is_true_at cluster.control.told s) cluster.control.decision (which_at cluster s) (blocked_in cluster s)
    (undecided cluster.control.phase cluster.control.decision h is.agrees) is.agrees (is.shards s lt)

-- from an early phase to another
on_serving : (p : Phase) (c : Control) (cluster : Cluster) → IsServing cluster → is_early cluster.control.phase ≡ true
    → is_early p ≡ true → c.phase ≡ p → c.decision ≡ cluster.control.decision → IsServing (record cluster { control = c })
on_serving p c cluster is was will phase decision = record {
  agrees = subst (λ (q : Phase). Agrees q c.decision) (sym phase)
      (agrees_early p c.decision will (decision ∙ undecided cluster.control.phase cluster.control.decision was is.agrees));
  shards = λ s lt. subst (λ (q : Phase). ServesIn q (is_true_at c.told s) c.decision (which_at cluster s) (blocked_in cluster s)) (sym phase)
      (serves_early p (is_true_at c.told s) c.decision (which_at cluster s) (blocked_in cluster s) will (old_in cluster is was s lt));
  clients = λ k h. decision ∙ is.clients k h;
}

commit_serving : (c : Control) (cluster : Cluster) → IsServing cluster → is_early cluster.control.phase ≡ true
    → c.phase ≡ Committing → c.decision ≡ Some Committed → c.told ≡ replicate (length cluster.control.told) false
    → IsServing (record cluster { control = c })
commit_serving c cluster is was phase decision told = record {
  agrees = subst (λ (q : Phase). Agrees q c.decision) (sym phase) decision;
  shards = λ s lt. subst (λ (q : Phase). ServesIn q (is_true_at c.told s) c.decision (which_at cluster s) (blocked_in cluster s)) (sym phase)
      (subst (λ (t : Bool). ServesIn Committing t c.decision (which_at cluster s) (blocked_in cluster s))
      (sym (ap (λ (marks : List Bool). is_true_at marks s) told ∙ unmarked_at cluster.control.told s)) tt);
  clients = λ k h. decision;
}

decided_serving : (cluster : Cluster) (shard : ℕ) (o : Option Value) (clashes : List (Option Value)) → IsServing cluster
    → is_early cluster.control.phase ≡ true
    → IsServing (on_control (λ (c : Control). decided_at shard o (record c { clashes = clashes })) cluster)
decided_serving cluster shard None clashes is was = commit_serving _ cluster is was refl refl refl
decided_serving cluster shard (Some id) clashes is was =
    let noted : Cluster = on_control (λ (c : Control). record c { clashes = clashes }) cluster in
    drop_serving _ noted
    (flat_serving cluster noted (flat_control (λ (c : Control). record c { clashes = clashes }) cluster refl refl refl) is)
    (undecided cluster.control.phase cluster.control.decision was is.agrees)

-- who was told, where all were
marked_at : (marks : List Bool) (s : ℕ) → all_true marks ≡ true → s < length marks → is_true_at marks s ≡ true
marked_at [] s all lt = absurd (never s lt)
  where
    never : (k : ℕ) → k < 0 → ⊥
    never k lt = omega arith
marked_at (mark ∷ marks) zero all lt = front mark (all_true marks) all
  where
    front : (a b : Bool) → (a && b) ≡ true → a ≡ true
    front true b h = refl
    front false b h = cc
marked_at (mark ∷ marks) (suc s) all lt = marked_at marks s (rest mark (all_true marks) all) (sooner s (length marks) lt)
  where
    sooner : (a b : ℕ) → suc a < suc b → a < b
    sooner a b lt = omega arith

    rest : (a b : Bool) → (a && b) ≡ true → b ≡ true
    rest true b h = h
    rest false b h = cc

done_committed : (t : Bool) (e : Option End) (w : Which) (b : Bool) → t ≡ true → e ≡ Some Committed → ServesIn Committing t e w b
    → ServesIn Done false e w b
done_committed true e w b all is h = subst (λ (x : Option End). ServesIn Done false x w b) (sym is) h
done_committed false e w b all is h = cc

done_aborted : (t : Bool) (e : Option End) (w : Which) (b : Bool) (cause : Cause) → t ≡ true → e ≡ Some (Aborted cause)
    → ServesIn Aborting t e w b → ServesIn Done false e w b
done_aborted t e w b cause all is h = subst (λ (x : Option End). ServesIn Done false x w b) (sym is) (h.0, h.1 all)

any_told : (t : Bool) (e : Option End) (w : Which) (b : Bool) → ServesIn Done false e w b → ServesIn Done t e w b
any_told t None w b h = h
any_told t (Some Committed) w b h = h
any_told t (Some (Aborted cause)) w b h = h

module _ (setup : Setup) where
  told_in : (cluster : Cluster) (s : ℕ) → IsManned setup cluster → IsClusterOf setup cluster → all_true cluster.control.told ≡ true
      → s < length cluster.shards → is_true_at cluster.control.told s ≡ true
  told_in cluster s manned of all lt =
      marked_at cluster.control.told s all (subst (λ (n : ℕ). s < n) (of.count ∙ sym manned.told) lt)

  end_committed : (cluster : Cluster) → IsManned setup cluster → IsClusterOf setup cluster → IsServing cluster
      → cluster.control.phase ≡ Committing → all_true cluster.control.told ≡ true
      → IsServing (on_control (with_phase Done) cluster)
  end_committed cluster manned of is phase all =
      let end : cluster.control.decision ≡ Some Committed
      = subst (λ (p : Phase). Agrees p cluster.control.decision) phase is.agrees in
      record {
        agrees = ap (λ (e : Option End). is_some e) end;
        shards = λ s lt. any_told (is_true_at (replicate (length cluster.control.told) false) s) cluster.control.decision
            (which_at cluster s) (blocked_in cluster s)
            (done_committed (is_true_at cluster.control.told s) cluster.control.decision (which_at cluster s) (blocked_in cluster s)
            (told_in cluster s manned of all lt) end
            (subst (λ (p : Phase). ServesIn p (is_true_at cluster.control.told s) cluster.control.decision (which_at cluster s)
            (blocked_in cluster s)) phase (is.shards s lt)));
        clients = is.clients;
      }

  end_aborted : (cluster : Cluster) → IsManned setup cluster → IsClusterOf setup cluster → IsServing cluster
      → cluster.control.phase ≡ Aborting → all_true cluster.control.told ≡ true
      → IsServing (on_control (with_phase Done) cluster)
  end_aborted cluster manned of is phase all =
      let end : (cause : Cause) × (cluster.control.decision ≡ Some (Aborted cause))
      = subst (λ (p : Phase). Agrees p cluster.control.decision) phase is.agrees in
      record {
        agrees = ap (λ (e : Option End). is_some e) end.1;
        shards = λ s lt. any_told (is_true_at (replicate (length cluster.control.told) false) s) cluster.control.decision
            (which_at cluster s) (blocked_in cluster s)
            (done_aborted (is_true_at cluster.control.told s) cluster.control.decision (which_at cluster s) (blocked_in cluster s) end.0
            (told_in cluster s manned of all lt) end.1
            (subst (λ (p : Phase). ServesIn p (is_true_at cluster.control.told s) cluster.control.decision (which_at cluster s)
            (blocked_in cluster s)) phase (is.shards s lt)));
        clients = is.clients;
      }

  was_early : (p : Phase) (cluster : Cluster) → cluster.control.phase ≡ p → is_early p ≡ true → is_early cluster.control.phase ≡ true
  was_early p cluster is h = ap is_early is ∙ h

  left_serving : (p : Phase) (time : ℕ) (cluster : Cluster) → IsManned setup cluster → IsClusterOf setup cluster → IsServing cluster
      → cluster.control.phase ≡ p → may_leave p cluster.control.told cluster.control.reported ≡ true
      → IsServing (on_control (left p time) cluster)
  left_serving Initializing time cluster manned of is phase may = cc
  left_serving PreparingToDonate time cluster manned of is phase may =
      on_serving Cloning _ cluster is (was_early PreparingToDonate cluster phase refl) refl refl refl
  left_serving Cloning time cluster manned of is phase may =
      on_serving Applying _ cluster is (was_early Cloning cluster phase refl) refl refl refl
  left_serving Applying time cluster manned of is phase may =
      on_serving BlockingWrites _ cluster is (was_early Applying cluster phase refl) refl refl refl
  left_serving BlockingWrites time cluster manned of is phase may =
      decided_serving cluster (first_clash cluster.control.clashes)
      (slice_index_or cluster.control.clashes (first_clash cluster.control.clashes) None)
      (slice_set cluster.control.clashes (first_clash cluster.control.clashes) None) is (was_early BlockingWrites cluster phase refl)
  left_serving Committing time cluster manned of is phase may = end_committed cluster manned of is phase may
  left_serving Aborting time cluster manned of is phase may = end_aborted cluster manned of is phase may
  left_serving Done time cluster manned of is phase may = cc

  advanced_serving : (time : ℕ) (cluster : Cluster) → IsManned setup cluster → IsClusterOf setup cluster → IsServing cluster
      → IsServing (on_control (advanced time) cluster)
  advanced_serving time cluster manned of is = by (may_advance cluster.control) refl
    where
      by : (t : Bool) → may_advance cluster.control ≡ t
          → IsServing (record cluster { control = cond t (left cluster.control.phase time cluster.control) cluster.control })
      by true may = left_serving cluster.control.phase time cluster manned of is refl may
      by false may = flat_serving cluster _ (flat_same cluster _ refl refl refl) is

starts : (p : Phase) → begins p ≡ true → is_early p ≡ true
starts Initializing h = refl
starts PreparingToDonate h = cc
starts Cloning h = cc
starts Applying h = cc
starts BlockingWrites h = cc
starts Committing h = cc
starts Aborting h = cc
starts Done h = cc

begun_serving : (cluster : Cluster) → IsServing cluster → IsServing (on_control begun cluster)
begun_serving cluster is = by (begins cluster.control.phase) refl
  where
    by : (t : Bool) → begins cluster.control.phase ≡ t
        → IsServing (record cluster { control = cond t (with_phase PreparingToDonate cluster.control) cluster.control })
    by true may = on_serving PreparingToDonate _ cluster is (starts cluster.control.phase may) refl refl refl
    by false may = flat_serving cluster _ (flat_same cluster _ refl refl refl) is

-- a shard is told what the phase says
set_other : {X : Type 0} (xs : List X) (i j : ℕ) (y d : X) → (i ≡ j → ⊥) → slice_index_or (slice_set xs i y) j d ≡ slice_index_or xs j d
set_other [] i j y d h = refl
set_other (x ∷ xs) zero zero y d h = absurd (h refl)
set_other (x ∷ xs) zero (suc j) y d h = refl
set_other (x ∷ xs) (suc i) zero y d h = refl
set_other (x ∷ xs) (suc i) (suc j) y d h = set_other xs i j y d (λ e. h (ap suc e))

equal : (a b : ℕ) → nat_eq a b ≡ true → a ≡ b
equal a b e = grind arith

is_equal : (a b : ℕ) → a ≡ b → nat_eq a b ≡ true
is_equal a b e = grind arith

apart : (a b : ℕ) → nat_eq a b ≡ false → a ≡ b → ⊥
apart a b e q = not_both (nat_eq a b) e (is_equal a b q)

-- the shard and its mark set, where what is set serves in the phase
told_serving : (s : ℕ) (f : ShardCell → ShardCell) (cluster : Cluster) → IsServing cluster
    → ((t : Bool) → s < length cluster.shards → ServesIn cluster.control.phase t cluster.control.decision
    (f (shard_in cluster s)).shard.which (f (shard_in cluster s)).shard.blocked)
    → IsServing (on_control (with_told s) (on_shard s f cluster))
told_serving s f cluster is here = record {
  agrees = is.agrees;
  shards = λ k lt. at k (nat_eq s k) refl (subst (λ (n : ℕ). k < n) (length-set cluster.shards s (f (shard_in cluster s))) lt);
  clients = is.clients;
}
  where
    cell : ℕ → ShardCell
    cell k = slice_index_or (slice_set cluster.shards s (f (shard_in cluster s))) k no_shard

    mark : ℕ → Bool
    mark k = slice_index_or (slice_set cluster.control.told s true) k false

    at : (k : ℕ) (t : Bool) → nat_eq s k ≡ t → k < length cluster.shards
        → ServesIn cluster.control.phase (mark k) cluster.control.decision (cell k).shard.which (cell k).shard.blocked
    at k true e lt =
        let same : s ≡ k = equal s k e in
        let lts : s < length cluster.shards = subst (λ (n : ℕ). n < length cluster.shards) (sym same) lt in
        let is_set : cell s ≡ f (shard_in cluster s) = set_here cluster.shards s (f (shard_in cluster s)) no_shard lts in
        subst (λ (n : ℕ). ServesIn cluster.control.phase (mark n) cluster.control.decision (cell n).shard.which (cell n).shard.blocked) same
        (subst (λ (x : ShardCell). ServesIn cluster.control.phase (mark s) cluster.control.decision x.shard.which x.shard.blocked)
        (sym is_set) (here (mark s) lts))
    at k false e lt =
        subst (λ (x : ShardCell). ServesIn cluster.control.phase (mark k) cluster.control.decision x.shard.which x.shard.blocked)
        (sym (set_other cluster.shards s k (f (shard_in cluster s)) no_shard (apart s k e)))
        (subst (λ (t : Bool). ServesIn cluster.control.phase t cluster.control.decision (which_at cluster k) (blocked_in cluster k))
        (sym (set_other cluster.control.told s k true false (apart s k e))) (is.shards k lt))

-- a shard that keeps its map is told in an early phase
early_serving : (s : ℕ) (f : ShardCell → ShardCell) (cluster : Cluster) → IsServing cluster → is_early cluster.control.phase ≡ true
    → (f (shard_in cluster s)).shard.which ≡ which_at cluster s → IsServing (on_control (with_told s) (on_shard s f cluster))
early_serving s f cluster is h which =
    told_serving s f cluster is
    (λ t lt. serves_early cluster.control.phase t cluster.control.decision (f (shard_in cluster s)).shard.which
    (f (shard_in cluster s)).shard.blocked h (which ∙ old_in cluster is h s lt))

ended_flat : (s : ℕ) (cluster : Cluster) → Flat cluster (tell.ended s cluster)
ended_flat s cluster = flat_same cluster _ refl refl refl

installs : (p : Phase) (t : Bool) (e : Option End) → p ≡ Committing → ServesIn p t e New false
installs p true e is = subst (λ (q : Phase). ServesIn q true e New false) (sym is) (refl, refl)
installs p false e is = subst (λ (q : Phase). ServesIn q false e New false) (sym is) tt

releases : (p : Phase) (t : Bool) (e : Option End) → p ≡ Aborting → ServesIn p t e Old false
releases p t e is = subst (λ (q : Phase). ServesIn q t e Old false) (sym is) (refl, λ h. refl)

message_serving : (p : Phase) (stamp : Stamp) (cluster : Cluster) (s : ℕ) → IsServing cluster → cluster.control.phase ≡ p
    → IsServing (tell.told_if stamp s (message_in p cluster.control.fetch_time) cluster)
message_serving Initializing stamp cluster s is phase = is
message_serving PreparingToDonate stamp cluster s is phase =
    early_serving s (λ cell. with_shard prepared (tell.on_donor Prepare cell)) cluster is (ap is_early phase) refl
message_serving Cloning stamp cluster s is phase =
    let time : ℕ = cluster.control.fetch_time in
    let started : Cluster = on_links s (λ l. link.started l time) (tell.on_lanes s (lane.with_started true) cluster) in
    early_serving s (λ cell. with_shard (pruned_to time) (tell.on_both (Donate time) cell)) started
    (flat_serving cluster started (flat_same cluster started refl refl refl) is) (ap is_early phase) refl
message_serving Applying stamp cluster s is phase = is
message_serving BlockingWrites stamp cluster s is phase =
    early_serving s (λ cell. with_shard (blocked_at stamp) (tell.on_donor Block cell)) cluster is (ap is_early phase) refl
message_serving Committing stamp cluster s is phase =
    told_serving s (λ cell. with_shard (tell.with_outputs stamp.time (tell.outputs (lanes_of cluster s))) (tell.on_both Install cell))
    (tell.ended s cluster) (flat_serving cluster (tell.ended s cluster) (ended_flat s cluster) is)
    (λ t lt. installs cluster.control.phase t cluster.control.decision phase)
message_serving Aborting stamp cluster s is phase =
    told_serving s (λ cell. with_shard (tell.with_old_map stamp.time) (tell.on_both Release cell))
    (tell.ended s cluster) (flat_serving cluster (tell.ended s cluster) (ended_flat s cluster) is)
    (λ t lt. releases cluster.control.phase t cluster.control.decision phase)
message_serving Done stamp cluster s is phase = is

tell_serving : (stamp : Stamp) (cluster : Cluster) (s : ℕ) → IsServing cluster → IsServing (tell.change stamp cluster s)
tell_serving stamp cluster s is = message_serving cluster.control.phase stamp cluster s is refl

-- a client hears of the new map from a shard that serves under it
pub record Fails (cluster : Cluster) (passes : ShardCell → Bool) : Type 0 where
  pub shard : ℕ
  pub fails : passes (shard_in cluster shard) ≡ false

not_all : (cluster : Cluster) (passes : ShardCell → Bool) (shards : List ℕ) → all_at cluster passes shards ≡ false
    → Fails cluster passes
not_all cluster passes [] h = cc
not_all cluster passes (s ∷ shards) h = by (passes (shard_in cluster s)) refl (λ e. not_all cluster passes shards e)
  where
    rest : (a b : Bool) → a ≡ true → (a && b) ≡ false → b ≡ false
    rest true b is e = e
    rest false b is e = cc

    by : (t : Bool) → passes (shard_in cluster s) ≡ t → (all_at cluster passes shards ≡ false → Fails cluster passes)
        → Fails cluster passes
    by true is more = more (rest (passes (shard_in cluster s)) (all_at cluster passes shards) is h)
    by false is more = record { shard = s; fails = is }

abbrev is_new : Which → Bool
is_new Old = false
is_new New = true

other_map : (w : Which) → same_map w Old ≡ false → is_new w ≡ true
other_map Old h = cc
other_map New h = refl

in_force : (p : Phase) (t : Bool) (e : Option End) (w : Which) (b : Bool) → is_new w ≡ true → Agrees p e → ServesIn p t e w b
    → e ≡ Some Committed
in_force Committing t e w b is agrees h = agrees
in_force Aborting t e w b is agrees h = let old : w ≡ Old = h.0 in cc
in_force Done t None w b is agrees h = cc
in_force Done t (Some Committed) w b is agrees h = refl
in_force Done t (Some (Aborted cause)) w b is agrees h = let old : w ≡ Old = h.0 in cc
in_force Initializing t e w b is agrees h = let old : w ≡ Old = h in cc
in_force PreparingToDonate t e w b is agrees h = let old : w ≡ Old = h in cc
in_force Cloning t e w b is agrees h = let old : w ≡ Old = h in cc
in_force Applying t e w b is agrees h = let old : w ≡ Old = h in cc
in_force BlockingWrites t e w b is agrees h = let old : w ≡ Old = h in cc

new_in_force : (cluster : Cluster) (s : ℕ) → IsServing cluster → is_new (which_at cluster s) ≡ true
    → cluster.control.decision ≡ Some Committed
new_in_force cluster s is h =
    let lt : s < length cluster.shards = within (λ (cell : ShardCell). is_new cell.shard.which) cluster.shards s no_shard refl h in
    in_force cluster.control.phase (is_true_at cluster.control.told s) cluster.control.decision (which_at cluster s) (blocked_in cluster s) h
    is.agrees (is.shards s lt)

heard : (cluster : Cluster) (w : Which) (shards : List ℕ) → IsServing cluster → (w ≡ New → cluster.control.decision ≡ Some Committed)
    → all_at cluster (has_map w) shards ≡ false → cluster.control.decision ≡ Some Committed
heard cluster Old shards is knows h =
    let one : Fails cluster (has_map Old) = not_all cluster (has_map Old) shards h in
    new_in_force cluster one.shard is (other_map (which_at cluster one.shard) one.fails)
heard cluster New shards is knows h = knows refl

refreshed : (a b : Bool) → cond (not a) waits (cond (not b) refreshes comes) ≡ refreshes → b ≡ false
refreshed true true h = cc
refreshed true false h = refl
refreshed false true h = cc
refreshed false false h = refl

refresh_serving : (setup : Setup) (cluster : Cluster) (c : ℕ) (command : Command) → IsServing cluster
    → coming setup cluster c command ≡ refreshes → IsServing (client.with_new_map c cluster)
refresh_serving setup cluster c command is h =
    let targets : List ℕ = all_targets setup cluster c command in
    let all : cluster.control.decision ≡ Some Committed
    = heard cluster (knows_at cluster c) targets is (is.clients c)
    (refreshed (all_at cluster is_free targets) (all_at cluster (has_map (knows_at cluster c)) targets) h) in
    record { agrees = is.agrees; shards = is.shards; clients = λ k e. all }

answered_serving : (setup : Setup) (cluster : Cluster) (stamp : Stamp) (c : ℕ) (command : Command) → IsServing cluster
    → IsServing (client.answered setup cluster stamp c command)
answered_serving setup cluster stamp c command is = by (is_abort command)
  where
    by : (t : Bool) → IsServing
        (cond t (client.abort_asked c cluster) (client.done setup cluster stamp c (doing_of setup cluster c command)))
    by true =
        let cause : Cause = Asked c (client.next_number cluster c) in
        let dropped : Cluster = on_control (unless_decided cause) cluster in
        flat_serving dropped _ (flat_reply c (client.abort_reply cluster.control.decision) dropped) (unless_serving cause cluster is)
    by false =
        let doing : Doing = doing_of setup cluster c command in
        flat_serving cluster _
        (flat_then cluster (client.did stamp doing cluster) _ (flat_did stamp doing cluster)
        (flat_reply c (reply_of doing) (client.did stamp doing cluster))) is

command_serving : (setup : Setup) (cluster : Cluster) (stamp : Stamp) (c : ℕ) → IsServing cluster
    → IsServing (client.change setup cluster stamp c)
command_serving setup cluster stamp c is = by (next_command setup cluster c)
  where
    come : (command : Command) (x : Coming) → coming setup cluster c command ≡ x
        → IsServing (client.change_by setup cluster stamp c command x)
    come command waits h = is
    come command refreshes h = refresh_serving setup cluster c command is h
    come command comes h = answered_serving setup cluster stamp c command is

    by : (next : Option Command) → IsServing (client.change_of setup cluster stamp c next)
    by None = is
    by (Some command) = come command (coming setup cluster c command) refl

flat_apply : (cluster : Cluster) (r d l : ℕ) (piece : Option Piece) → Flat cluster (apply.change cluster r d l piece)
flat_apply cluster r d l None = flat_same cluster cluster refl refl refl
flat_apply cluster r d l (Some piece) = flat_same cluster _ refl refl refl

flat_again : (cluster : Cluster) (r d l : ℕ) (piece : Option Piece) → Flat cluster (again.change cluster r d l piece)
flat_again cluster r d l None = flat_same cluster cluster refl refl refl
flat_again cluster r d l (Some piece) = by (is_at (lane_in cluster r l) piece)
  where
    by : (t : Bool) → Flat cluster (cond t (on_lane r l (lane.taken piece) cluster) cluster)
    by true = flat_same cluster _ refl refl refl
    by false = flat_same cluster cluster refl refl refl

flat_report : (cluster : Cluster) (r : ℕ) → Flat cluster (report.change cluster r)
flat_report cluster r =
    let phase : Phase = cluster.control.phase in
    let moved : ShardCell → ShardCell = λ cell. record cell { recipient = report.moved_on phase cell.recipient } in
    flat_then cluster (on_shard r moved cluster) _ (flat_shard r moved cluster refl refl)
    (flat_control (with_report r (report.clash_in phase (lanes_of cluster r))) (on_shard r moved cluster) refl refl refl)

fail_serving : (cluster : Cluster) (named : Option (ShardId × ShardId)) (cause : Cause) → IsServing cluster
    → IsServing (fail.change cluster named cause)
fail_serving cluster None cause is = unless_serving cause cluster is
fail_serving cluster (Some named) cause is =
    let broken : Cluster = on_link named.0.0 named.1.0 link.failed cluster in
    unless_serving cause broken (flat_serving cluster broken (flat_same cluster broken refl refl refl) is)

module _ (setup : Setup) (stamp : Stamp) where
  row_serving : (cluster : Cluster) (event : Event) (piece : Option Piece) → IsManned setup cluster → IsClusterOf setup cluster
      → IsServing cluster → IsServing (change setup stamp cluster event piece)
  unfolding change
  row_serving cluster (Client c) piece manned of is = command_serving setup cluster stamp c is
  row_serving cluster Begin piece manned of is = begun_serving cluster is
  row_serving cluster (Tell s) piece manned of is = tell_serving stamp cluster s.0 is
  row_serving cluster (Retell s message) piece manned of is = is
  row_serving cluster Advance piece manned of is = advanced_serving setup stamp.time cluster manned of is
  row_serving cluster (Clone r d) piece manned of is = flat_serving cluster _ (flat_same cluster _ refl refl refl) is
  row_serving cluster (Fetch r d) piece manned of is = flat_serving cluster _ (flat_same cluster _ refl refl refl) is
  row_serving cluster (Cut r d) piece manned of is = flat_serving cluster _ (flat_same cluster _ refl refl refl) is
  row_serving cluster (Apply r d l) piece manned of is = flat_serving cluster _ (flat_apply cluster r.0 d.0 l piece) is
  row_serving cluster (Again r d l position) piece manned of is = flat_serving cluster _ (flat_again cluster r.0 d.0 l piece) is
  row_serving cluster (Record r d) piece manned of is = flat_serving cluster _ (flat_same cluster _ refl refl refl) is
  row_serving cluster (Crash r d) piece manned of is = flat_serving cluster _ (flat_same cluster _ refl refl refl) is
  row_serving cluster (Report r) piece manned of is = flat_serving cluster _ (flat_report cluster r.0) is
  row_serving cluster (Fail named cause) piece manned of is = fail_serving cluster named cause is

  counted_serving : (asked : Asks) (cluster : Cluster) → IsServing cluster → IsServing (counted setup asked cluster)
  counted_serving quiet cluster is = is
  counted_serving (commits Coordinator) cluster is = flat_serving cluster _ (flat_control with_crash cluster refl refl refl) is
  counted_serving (commits (Link r d)) cluster is = is
  counted_serving (commits (Lane r d l)) cluster is = is
  counted_serving (delivers who) cluster is = is

  wanting_serving : (event : Event) (cluster : Cluster) → IsServing cluster → IsServing (wanting setup event cluster)
  wanting_serving (Client c) cluster is = flat_serving cluster _ (flat_reply c reply.NoMemory cluster) is
  wanting_serving other cluster is = is

  met_serving : (cluster : Cluster) (event : Event) (piece : Option Piece) (met : Met) → IsManned setup cluster
      → IsClusterOf setup cluster → IsServing cluster → IsServing (luck.change setup stamp cluster event piece met)
  met_serving cluster event piece Row manned of is = row_serving cluster event piece manned of is
  met_serving cluster event piece CrashedBefore manned of is = counted_serving (asks cluster event piece) cluster is
  met_serving cluster event piece CrashedAfter manned of is =
      counted_serving (asks cluster event piece) (change setup stamp cluster event piece)
      (row_serving cluster event piece manned of is)
  met_serving cluster event piece Failed manned of is = is
  met_serving cluster event piece Lost manned of is = is
  met_serving cluster event piece NoMemory manned of is = wanting_serving event cluster is
  met_serving cluster event piece NoMemoryInMove manned of is = wanting_serving event cluster is

pub stays_serving : (setup : Setup) (run : Run) (m : Moment) → IsManned setup run.cluster → IsClusterOf setup run.cluster
    → IsServing run.cluster → IsServing (after setup run m).cluster
unfolding after
stays_serving setup run m manned of is =
    flat_serving (luck.change setup m.made.stamp run.cluster m.made.event m.given.piece m.made.met) _ (flat_same _ _ refl refl refl)
    (met_serving setup m.made.stamp run.cluster m.made.event m.given.piece m.made.met manned of is)

-- at first
loaded_which : (documents : List Document) (shard : Shard) → (fold with_loaded shard documents).which ≡ shard.which
loaded_which [] shard = refl
loaded_which (d ∷ documents) shard = loaded_which documents (with_loaded shard d)

knows_old : (n c : ℕ) → is_new (slice_index_or (replicate n no_client) c no_client).knows ≡ false
knows_old zero c = refl
knows_old (suc n) zero = refl
knows_old (suc n) (suc c) = knows_old n c

pub opens_serving : (setup : Setup) → IsServing (opening setup)
opens_serving setup = record {
  agrees = refl;
  shards = λ s lt. each_all (λ n (cell : ShardCell). cell.shard.which ≡ Old) (opening_shard setup) no_shard 0 (length setup.shards)
      (λ k. loaded_which (documents_at setup k) _) s (subst (λ (n : ℕ). s < n) (length-each (opening_shard setup) 0 (length setup.shards)) lt);
  clients = λ c h. let old : is_new (knows_at (opening setup) c) ≡ false = knows_old (length setup.clients) c in cc;
}
