-- What a command does on one shard, and on two where its document moves.
use Rattle.std.proofs.Common.{◌≡◌, ◌≢◌, ◌==◌, ◌&&◌, ℕ, Bool, true, false, cond, [], ◌∷◌, not, codes, Option, Some, None, Result, Ok, Err, is_some, refl, sym, ap, subst, ◌∙◌, Less, Equal, Greater}
use Rattle.std.specs.Ordering.{is_eq}
use Rattle.std.specs.declared.cmp.Ordering.{Ordering}
use Rattle.std.specs.FinMap.{empty}
use Rattle.resh_value.specs.Lookup.{field_of, id_of}
use Rattle.resh_value.specs.Order.{compare_documents}
use Rattle.resh_value.specs.OrderLaws.{documents_same}
use Rattle.resh_value.specs.declared.value.ShardId.{ShardId}
use Rattle.resh_chunks.specs.Chunks.{Chunks, owner_of}
use Rattle.resh_ops.specs.Updates.{updated}
use Rattle.resh_ops.specs.declared.faults.ChangeFault.{ChangeFault}
use Rattle.resh_command.specs.declared.command.Command.{Command}
use Rattle.resh_command.specs.declared.command.Command.TheVariants.{Insert, Update, Delete, Find, Count, Abort}
use Rattle.resh_command.specs.declared.reply.Reply.{Reply}
use Rattle.resh_command.specs.declared.reply.Reply.TheVariants as reply
use Rattle.resh_versions.specs.Standing.{IsFiled, now}
use Rattle.resh_bag.specs.Answer.{Doing, adds, replaces, removes, says, doing, has_key, hit, insert_doing, on_hit, reply_of, result_doing, text_limit}
use Rattle.resh_bag.specs.Bag.{Bag, Document, held}
use Rattle.resh_bag.specs.Findings.{IsReplaced}
use Rattle.resh_bag.specs.Parts.{has_pattern, put_all, targets}
use Rattle.resh_bag.proofs.answers.Finding.{doings_find}
use Rattle.resh_bag.proofs.shards.ByShard.{same_number}
use Rattle.resh_bag.proofs.shards.Locality.{matched_owner}
use Rattle.resh_shard.specs.Decisions.{answered, doing_on}
use Rattle.resh_shard.specs.Laws.{bag_of_both}
use Rattle.resh_shard.specs.Shards.{Shard, bag_of, documents_of, map_of, number_of}
use Rattle.resh_shard.specs.Writes.{shard_id}
use Rattle.resh_shard.specs.declared.act.Act.{Act}
use Rattle.resh_shard.specs.declared.act.Act.TheVariants as act
use Rattle.resh_shard.proofs.Found.{does_as_collection}
use Rattle.resh_shard.proofs.Held.{held_here, stands_named}
use Rattle.resh_shard.proofs.Moved.{moves_as_collection}
use Rattle.resh_router.specs.Targets.{by_owner, target_of}
use Rattle.resh_router.specs.declared.goal.Target.TheVariants as goal
use Rattle.resh_router.specs.Laws.{is_reading}
use Rattle.resh_events.specs.Targets.{leaves_to}

-- the shard on which something is done
abbrev pub IsAt : ℕ → Doing → Type 0
IsAt n (adds s d) = s ≡ n
IsAt n (replaces s d t e) = s ≡ n
IsAt n (removes s d) = s ≡ n
IsAt n (says reply) = Unit {0}

one_of_one : (a b : ℕ) → a ∷ [] ≡ b ∷ [] → a ≡ b
one_of_one a b e = cc

-- a command for one shard is done there
module _ (chunks : Chunks) (bag : Bag) (n : ℕ) where
  keyed : (f : Document) (x : Doing) → (owner_of chunks f ≡ n → IsAt n x) → (b : Bool) → cond b (owner_of chunks f ∷ []) (0 ∷ []) ≡ n ∷ [] → IsAt n (cond b x (says reply.NoKey))
  keyed f x at true e = at (one_of_one (owner_of chunks f) n e)
  keyed f x at false e = tt

  inserted : (d : Document) (o : Option Document) → owner_of chunks d ≡ n → IsAt n (insert_doing (owner_of chunks d) d o)
  inserted d None e = e
  inserted d (Some other) e = tt

  deleted : (f : Document) (o : Option Document) → owner_of chunks f ≡ n → IsAt n (on_hit (λ d. removes (owner_of chunks f) d) o)
  deleted f None e = tt
  deleted f (Some d) e = e

  chosen : (s : ℕ) (d t : Document) (to : ℕ) (b : Bool) → s ≡ n → IsAt n (cond b (says reply.Duplicate) (replaces s d to t))
  chosen s d t to true e = tt
  chosen s d t to false e = e

  resulted : (s : ℕ) (d : Document) (r : Result Document ChangeFault) → s ≡ n → IsAt n (result_doing chunks bag s d r)
  resulted s d (Err fault) e = tt
  resulted s d (Ok t) e = chosen s d t (owner_of chunks t) (not (owner_of chunks t == s) && is_some (held bag (owner_of chunks t) (id_of t))) e

  changed : (f : Document) (g : Document → Result Document ChangeFault) (o : Option Document) → owner_of chunks f ≡ n
      → IsAt n (on_hit (λ d. result_doing chunks bag (owner_of chunks f) d (g d)) o)
  changed f g None e = tt
  changed f g (Some d) e = resulted (owner_of chunks f) d (g d) e

  pub done_there : (command : Command) → targets chunks command ≡ n ∷ [] → IsAt n (doing chunks bag command)
  done_there (Insert d) e = inserted d (held bag (owner_of chunks d) (id_of d)) (one_of_one (owner_of chunks d) n e)
  done_there (Update f u) e =
      keyed f (on_hit (λ d. result_doing chunks bag (owner_of chunks f) d (updated text_limit u d)) (hit chunks bag f)) (λ at. changed f (updated text_limit u) (hit chunks bag f) at) (has_key chunks f) e
  done_there (Delete f) e = keyed f (on_hit (λ d. removes (owner_of chunks f) d) (hit chunks bag f)) (λ at. deleted f (hit chunks bag f) at) (has_key chunks f) e
  done_there (Find f) e = tt
  done_there (Count f) e = tt
  done_there Abort e = tt

both_true : (a b : Bool) → (a && b) ≡ true → (a ≡ true) × (b ≡ true)
both_true true b h = (refl, h)
both_true false b h = cc

-- what a shard replies
same_reply : (a b : Reply) → act.Done a ≡ act.Done b → b ≡ a
same_reply a b e = cc

pub record Stays (x : Doing) (reply : Reply) : Type 0 where
  pub said : reply ≡ reply_of x
  pub stays : leaves_to x ≡ []

pub replied : (x : Doing) (reply : Reply) → answered x ≡ act.Done reply → Stays x reply
replied (adds s d) reply e = record { said = same_reply (reply_of (adds s d)) reply e; stays = refl }
replied (removes s d) reply e = record { said = same_reply (reply_of (removes s d)) reply e; stays = refl }
replied (says other) reply e = record { said = same_reply other reply e; stays = refl }
replied (replaces s d t f) reply e = by (t == s) refl e
  where
    by : (b : Bool) → (t == s) ≡ b → cond b (act.Done (reply_of (replaces s d t f))) (act.Leaves (shard_id t) f) ≡ act.Done reply → Stays (replaces s d t f) reply
    by true f' h = record { said = same_reply (reply_of (replaces s d t f)) reply h; stays = ap (λ b. cond b [] (t ∷ [])) f' }
    by false f' h = cc

-- what leaves a shard
pub record Goes (x : Doing) (to : ℕ) (document : Document) : Type 0 where
  pub from : ℕ
  pub before : Document
  pub is : x ≡ replaces from before to document
  pub apart : (to == from) ≡ false

left_to : (a b : ℕ) (d e : Document) → act.Leaves (shard_id a) d ≡ act.Leaves (shard_id b) e → (a ≡ b) × (d ≡ e)
left_to a b d e h = (λ i. (owner (h i)).0, ap document h)
  where
    owner : Act → ShardId
    owner (act.Leaves to d) = to
    owner other = shard_id 0

    document : Act → Document
    document (act.Leaves to d) = d
    document other = []

pub gone : (x : Doing) (to : ℕ) (document : Document) → answered x ≡ act.Leaves (shard_id to) document → Goes x to document
gone (adds s d) to document e = cc
gone (removes s d) to document e = cc
gone (says other) to document e = cc
gone (replaces s d t f) to document e = by (t == s) refl e
  where
    by : (b : Bool) → (t == s) ≡ b → cond b (act.Done (reply_of (replaces s d t f))) (act.Leaves (shard_id t) f) ≡ act.Leaves (shard_id to) document → Goes (replaces s d t f) to document
    by true g h = cc
    by false g h =
        let w = left_to t to f document h in
        record { from = s; before = d; is = λ i. replaces s d (w.0 i) (w.1 i); apart = ap (λ n. n == s) (sym w.0) ∙ g }

-- what is said where a filter lacks a field of the key
pub no_key_says : (x : Doing) → reply_of x ≡ reply.NoKey → x ≡ says reply.NoKey
no_key_says (adds s d) e = cc
no_key_says (removes s d) e = cc
no_key_says (replaces s d t f) e = cc
no_key_says (says other) e = ap says e

-- a command for all shards is a reading
pub all_reads : (chunks : Chunks) (command : Command) → target_of chunks command ≡ Some goal.All → is_reading command ≡ true
all_reads chunks (Insert d) e = cc
all_reads chunks (Update f u) e = by (has_key chunks f) e
  where
    by : (b : Bool) → Some (cond b (by_owner chunks f) goal.NoKey) ≡ Some goal.All → false ≡ true
    by true h = cc
    by false h = cc
all_reads chunks (Delete f) e = by (has_key chunks f) e
  where
    by : (b : Bool) → Some (cond b (by_owner chunks f) goal.NoKey) ≡ Some goal.All → false ≡ true
    by true h = cc
    by false h = cc
all_reads chunks (Find f) e = refl
all_reads chunks (Count f) e = refl
all_reads chunks Abort e = cc

-- two shards, one of which a document leaves
module _ (from to : Shard) (command : Command) (before after : Document) (limit : from.limit ≡ text_limit) (filed : IsFiled from.versions.chains)
    (is : doing_on from command ≡ replaces (number_of from) before (number_of to) after) (apart : (number_of to == number_of from) ≡ false) where
  abbrev at_from : Doing
  at_from = doing (map_of from) (bag_of from) command

  as_bag : at_from ≡ replaces (number_of from) before (number_of to) after
  as_bag = sym (does_as_collection from command limit) ∙ is

  pub found : IsReplaced (map_of from) (bag_of from) command (number_of from) before (number_of to) after
  found = doings_find.replaced (map_of from) (bag_of from) command (number_of from) before (number_of to) after as_bag

  not_same : number_of from ≢ number_of to
  not_same e = let on : (number_of to == number_of from) ≡ true = subst (λ n. (n == number_of from) ≡ true) e (same_number (number_of from)) in let off : true ≡ false = sym on ∙ apart in cc

  -- both shards' documents in one bag
  pub both_are : bag_of_both from to ≡ put_all (number_of from) (documents_of from) (put_all (number_of to) (documents_of to) empty)
  both_are i =
      put_all (number_of from) (cond (same_number (number_of from) i) (documents_of from) (documents_of to))
      (put_all (number_of to) (cond (apart i) (documents_of from) (documents_of to)) empty)

  pub moves_are : IsFiled to.versions.chains → doing (map_of from) (put_all (number_of from) (documents_of from) (put_all (number_of to) (documents_of to) empty)) command
      ≡ cond (is_some (now to.versions (id_of after))) (says reply.Duplicate) (replaces (number_of from) before (number_of to) after)
  moves_are filed_to =
      ap (doing (map_of from) (put_all (number_of from) (documents_of from) (put_all (number_of to) (documents_of to) empty))) found.is
      ∙ ap (λ b. doing (map_of from) b (Update found.filter found.update)) (sym both_are)
      ∙ moves_as_collection from to found.filter found.update before after limit filed filed_to not_same (sym (ap (doing_on from) found.is) ∙ is)

  -- the document that leaves stands under the filter's `_id`
  pub named_by : id_of before ≡ id_of found.filter
  named_by =
      stands_named from.versions filed (id_of found.filter) before (sym (held_here from.versions filed (number_of from) (id_of found.filter)) ∙ found.hit.there)

  -- it has another owner than its result, and so it differs from it
  differs : (r : Ordering) → compare_documents before after ≡ r → has_pattern (map_of from) found.filter ≡ true → is_eq r ≡ false
  differs Less e all = refl
  differs Greater e all = refl
  differs Equal e all =
      let same = documents_same before after e in
      absurd (not_same (found.hit.owner ∙ sym (matched_owner (map_of from) found.filter before found.hit.passes all) ∙ ap (owner_of (map_of from)) same ∙ sym found.owner))

  pattern_all : (b : Bool) → has_key (map_of from) found.filter ≡ b → has_pattern (map_of from) found.filter ≡ true
  pattern_all true e = (both_true (is_some (field_of found.filter (codes "_id"))) (has_pattern (map_of from) found.filter) e).1
  pattern_all false e =
      let said : says reply.NoKey ≡ replaces (number_of from) before (number_of to) after =
      sym (ap (λ b. cond b (on_hit (λ d. result_doing (map_of from) (bag_of from) (owner_of (map_of from) found.filter) d (updated text_limit found.update d)) (hit (map_of from) (bag_of from) found.filter)) (says reply.NoKey)) e)
      ∙ sym (ap (doing (map_of from) (bag_of from)) found.is) ∙ as_bag in cc

  pub changes : reply_of (replaces (number_of from) before (number_of to) after) ≡ reply.Matched true
  changes = ap (λ b. reply.Matched (not b)) (differs (compare_documents before after) refl (pattern_all (has_key (map_of from) found.filter) refl))
