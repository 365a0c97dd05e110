-- What an event adds to the replies, to the logs and to the documents that stand.
use Rattle.std.proofs.Common.{◌≡◌, ◌<◌, ◌≤◌, ◌==◌, ⊎_elim, ℕ, zero, suc, ◌+◌, ◌*◌, Bool, true, false, cond, List, [], ◌∷◌, ◌++◌, length, Some, refl, sym, ap, subst, ◌∙◌, slice_get, slice_index_or, arith}
use Rattle.std.proofs.lemmas.Option.{slice_get_within}
use Rattle.resh_value.specs.Lookup.{id_of}
use Rattle.resh_bag.specs.Answer.{Doing, adds, replaces, removes, says}
use Rattle.resh_bag.specs.Bag.{Document}
use Rattle.resh_cells.specs.Cells.{client_in, no_client, no_shard, on_shard, shard_in, with_shard}
use Rattle.resh_cells.specs.declared.cluster.ClientCell.{ClientCell}
use Rattle.resh_cells.specs.declared.cluster.Cluster.{Cluster}
use Rattle.resh_cells.specs.declared.cluster.ShardCell.{ShardCell}
use Rattle.resh_command.specs.declared.command.Command.{Command}
use Rattle.resh_command.specs.declared.reply.Reply.{Reply}
use Rattle.resh_ending.proofs.Places.{set_here}
use Rattle.resh_events.specs.Targets.{next_command}
use Rattle.resh_events.specs.rows.Client as client
use Rattle.resh_invariant.proofs.Ones.{at_set}
use Rattle.resh_model.specs.Orders.{commands_of}
use Rattle.resh_progress.specs.Kinds.{ToBlock, ToInstall}
use Rattle.resh_progress.specs.Tellings.{has}
use Rattle.resh_rounds.specs.Sums.{upto}
use Rattle.resh_rounds.proofs.Sums.{length_more, upto_less}
use Rattle.resh_setup.specs.declared.client.Client.{Client}
use Rattle.resh_setup.specs.declared.setup.Setup.{Setup}
use Rattle.resh_shard.specs.Decisions.{done}
use Rattle.resh_shard.specs.Shards.{Shard, taken_in, taken_out}
use Rattle.resh_stamp.specs.declared.stamp.Stamp.{Stamp}
use Rattle.resh_story.proofs.Slots.{same_number}
use Rattle.resh_leading.specs.Leading.{IsCounted, answered_in}
use Rattle.resh_leading.proofs.Places.{set_pair}
use Rattle.resh_leading.proofs.Storing.{IsFew, chains_in, done_few, in_few, out_few}

never : {A : Type 0} → true ≡ false → A
never e = cc

-- the final entries that a shard has logged
abbrev pub finals : ℕ → ShardCell → ℕ
finals n cell = cond (has cell.donor.told ToBlock) n 0

-- a shard's part in an event, by how many commands it answers
pub record Grows (n more : ℕ) (one other : ShardCell) : Type 0 where
  pub logs : length other.shard.log.entries + finals n one ≤ length one.shard.log.entries + 2 * more + finals n other
  pub stores : has other.donor.told ToInstall ≡ false
      → (has one.donor.told ToInstall ≡ false) × (chains_in other.shard.versions ≤ chains_in one.shard.versions + more)

pub grows_same : (n more : ℕ) (cell : ShardCell) → Grows n more cell cell
grows_same n more cell = record {
  logs = wide (length cell.shard.log.entries) (finals n cell) more;
  stores = λ e. (e, wider (chains_in cell.shard.versions) more);
}
  where
    wide : (a f m : ℕ) → a + f ≤ a + 2 * m + f
    wide a f m = omega arith

    wider : (a m : ℕ) → a ≤ a + m
    wider a m = omega arith

-- one write of a shard
pub grows_few : (n : ℕ) (f : Shard → Shard) (cell : ShardCell) → IsFew cell.shard (f cell.shard) → Grows n 1 cell (with_shard f cell)
grows_few n f cell few = record {
  logs = two (length cell.shard.log.entries) (length (f cell.shard).log.entries) (finals n cell) few.log;
  stores = λ e. (e, one (chains_in cell.shard.versions) (chains_in (f cell.shard).versions) few.chains);
}
  where
    two : (a b f : ℕ) → b ≤ a + 2 → b + f ≤ a + 2 * 1 + f
    two a b f le = omega (arith, le)

    one : (a b : ℕ) → b ≤ suc a → b ≤ a + 1
    one a b le = omega (arith, le)

-- what an event adds to a cluster
pub record Counts (setup : Setup) (one other : Cluster) : Type 0 where
  pub more : ℕ
  pub cells : (s : ℕ) → Grows (length setup.shards) more (shard_in one s) (shard_in other s)
  pub answered : answered_in setup one + more ≤ answered_in setup other
  pub answers : (c : ℕ) → length (client_in one c).replies ≤ length (commands_of (slice_get setup.clients c))
      → length (client_in other c).replies ≤ length (commands_of (slice_get setup.clients c))

module _ (setup : Setup) where
  none : (a : ℕ) → a + 0 ≤ a
  none a = omega arith

  pub counts_same : (one other : Cluster) → other.shards ≡ one.shards → other.clients ≡ one.clients → Counts setup one other
  counts_same one other shards clients = record {
    more = 0;
    cells = λ s. subst (λ (l : List ShardCell). Grows (length setup.shards) 0 (shard_in one s) (slice_index_or l s no_shard)) (sym shards)
        (grows_same (length setup.shards) 0 (shard_in one s));
    answered = subst
        (λ (l : List ClientCell). answered_in setup one + 0 ≤ upto (length setup.clients) (λ c. length (slice_index_or l c no_client).replies))
        (sym clients) (none (answered_in setup one));
    answers = λ c h. subst
        (λ (l : List ClientCell). length (slice_index_or l c no_client).replies ≤ length (commands_of (slice_get setup.clients c))) (sym clients) h;
  }

  pub counts_as : (one other last : Cluster) → last.shards ≡ other.shards → last.clients ≡ other.clients → Counts setup one other
      → Counts setup one last
  counts_as one other last shards clients counts = record {
    more = counts.more;
    cells = λ s. subst (λ (l : List ShardCell). Grows (length setup.shards) counts.more (shard_in one s) (slice_index_or l s no_shard)) (sym shards)
        (counts.cells s);
    answered = subst
        (λ (l : List ClientCell). answered_in setup one + counts.more
        ≤ upto (length setup.clients) (λ c. length (slice_index_or l c no_client).replies))
        (sym clients) counts.answered;
    answers = λ c h. subst
        (λ (l : List ClientCell). length (slice_index_or l c no_client).replies ≤ length (commands_of (slice_get setup.clients c))) (sym clients)
        (counts.answers c h);
  }

  -- one shard, and no reply
  pub counts_shard : (s : ℕ) (f : ShardCell → ShardCell) (cluster : Cluster)
      → Grows (length setup.shards) 0 (shard_in cluster s) (f (shard_in cluster s)) → Counts setup cluster (on_shard s f cluster)
  counts_shard s f cluster grows = record {
    more = 0;
    cells = set_pair (λ k. Grows (length setup.shards) 0) cluster.shards s (f (shard_in cluster s)) no_shard (λ k. grows_same (length setup.shards) 0) grows;
    answered = none (answered_in setup cluster);
    answers = λ c h. h;
  }

  -- a client that has a command left is there
  inside : (clients : List Client) (c k : ℕ) (command : Command) → slice_get (commands_of (slice_get clients c)) k ≡ Some command
      → c < length clients
  inside [] c k command e = cc
  inside (x ∷ xs) zero k command e = first (length xs)
    where
      first : (n : ℕ) → 0 < suc n
      first n = omega arith
  inside (x ∷ xs) (suc c) k command e = later c (length xs) (inside xs c k command e)
    where
      later : (a b : ℕ) → a < b → suc a < suc b
      later a b lt = omega (arith, lt)

  -- a reply to a command that was left
  module _ (c : ℕ) (reply : Reply) (cluster : Cluster) (command : Command) (count : length cluster.clients ≡ length setup.clients)
      (next : next_command setup cluster c ≡ Some command) where
    abbrev answered_cell : ClientCell
    answered_cell = record (client_in cluster c) { replies = (client_in cluster c).replies ++ reply ∷ [] }

    longer : length answered_cell.replies ≡ suc (length (client_in cluster c).replies)
    longer = length_more (client_in cluster c).replies reply

    is_client : c < length setup.clients
    is_client = inside setup.clients c (length (client_in cluster c).replies) command next

    pub reply_counts : answered_in setup cluster + 1 ≤ answered_in setup (client.with_reply c reply cluster)
    reply_counts =
        at_least (answered_in setup cluster) (answered_in setup (client.with_reply c reply cluster))
        (upto_less (length setup.clients) (λ k. length (client_in cluster k).replies)
        (λ k. length (client_in (client.with_reply c reply cluster) k).replies) c is_client
        (set_pair (λ k (x y : ClientCell). length x.replies ≤ length y.replies) cluster.clients c answered_cell no_client
        (λ k x. least (length x.replies)) (grown (length (client_in cluster c).replies) (length answered_cell.replies) longer))
        (subst (λ (cell : ClientCell). length (client_in cluster c).replies < length cell.replies)
        (sym (set_here cluster.clients c answered_cell no_client (subst (λ n. c < n) (sym count) is_client)))
        (more (length (client_in cluster c).replies) (length answered_cell.replies) longer)))
      where
        at_least : (a b : ℕ) → a < b → a + 1 ≤ b
        at_least a b lt = omega (arith, lt)

        least : (a : ℕ) → a ≤ a
        least a = omega arith

        grown : (a b : ℕ) → b ≡ suc a → a ≤ b
        grown a b e = omega (arith, e)

        more : (a b : ℕ) → b ≡ suc a → a < b
        more a b e = omega (arith, e)

    pub reply_answers : (k : ℕ) → length (client_in cluster k).replies ≤ length (commands_of (slice_get setup.clients k))
        → length (client_in (client.with_reply c reply cluster) k).replies ≤ length (commands_of (slice_get setup.clients k))
    reply_answers =
        set_pair (λ k (x y : ClientCell). length x.replies ≤ length (commands_of (slice_get setup.clients k))
        → length y.replies ≤ length (commands_of (slice_get setup.clients k))) cluster.clients c answered_cell no_client (λ k x h. h)
        (λ h. below (length (client_in cluster c).replies) (length answered_cell.replies) (length (commands_of (slice_get setup.clients c))) longer
        (slice_get_within (commands_of (slice_get setup.clients c)) (length (client_in cluster c).replies) command next))
      where
        below : (a b n : ℕ) → b ≡ suc a → a < n → b ≤ n
        below a b n e lt = omega (arith, e, lt)

  -- what a command does
  abbrev pub Did : Cluster → Cluster → Type 0
  Did one other = (s : ℕ) → Grows (length setup.shards) 1 (shard_in one s) (shard_in other s)

  did_at : (s : ℕ) (f : Shard → Shard) (cluster : Cluster) → IsFew (shard_in cluster s).shard (f (shard_in cluster s).shard)
      → Did cluster (on_shard s (with_shard f) cluster)
  did_at s f cluster few =
      set_pair (λ k. Grows (length setup.shards) 1) cluster.shards s (with_shard f (shard_in cluster s)) no_shard
      (λ k. grows_same (length setup.shards) 1) (grows_few (length setup.shards) f (shard_in cluster s) few)

  moved_grows : (stamp : Stamp) (from : ℕ) (before : Document) (to : ℕ) (later : Document) (cluster : Cluster) → (to == from) ≡ false
      → Did cluster (client.moved stamp from before to later cluster)
  moved_grows stamp from before to later cluster apart s =
      ⊎_elim
      (λ same. subst (λ (c : ShardCell). Grows (length setup.shards) 1 (shard_in cluster s) c) (sym same)
      (did_at to (taken_in stamp later) cluster (in_few stamp later (shard_in cluster to).shard) s))
      (λ there. subst (λ (c : ShardCell). Grows (length setup.shards) 1 (shard_in cluster s) c) (sym there.1)
      (subst (λ i. Grows (length setup.shards) 1 (shard_in cluster i) taken) (sym there.0) at_from))
      (at_set mid.shards from s taken no_shard)
    where
      mid : Cluster
      mid = on_shard to (with_shard (taken_in stamp later)) cluster

      taken : ShardCell
      taken = with_shard (taken_out stamp (id_of before)) (shard_in mid from)

      at_from : Grows (length setup.shards) 1 (shard_in cluster from) taken
      at_from =
          ⊎_elim
          (λ same. subst (λ (c : ShardCell). Grows (length setup.shards) 1 (shard_in cluster from) (with_shard (taken_out stamp (id_of before)) c))
          (sym same)
          (grows_few (length setup.shards) (taken_out stamp (id_of before)) (shard_in cluster from)
          (out_few stamp (id_of before) (shard_in cluster from).shard)))
          (λ there. never (sym (same_number from) ∙ ap (λ n. n == from) there.0 ∙ apart))
          (at_set cluster.shards to from (with_shard (taken_in stamp later) (shard_in cluster to)) no_shard)

  pub did_grows : (stamp : Stamp) (doing : Doing) (cluster : Cluster) → Did cluster (client.did stamp doing cluster)
  did_grows stamp (adds s d) cluster = did_at s (done stamp (adds s d)) cluster (done_few stamp (adds s d) (shard_in cluster s).shard)
  did_grows stamp (replaces s d t e) cluster = by (t == s) refl
    where
      by : (is : Bool) → (t == s) ≡ is
          → Did cluster (cond is (client.done_at stamp s (replaces s d t e) cluster) (client.moved stamp s d t e cluster))
      by true is = did_at s (done stamp (replaces s d t e)) cluster (done_few stamp (replaces s d t e) (shard_in cluster s).shard)
      by false is = moved_grows stamp s d t e cluster is
  did_grows stamp (removes s d) cluster = did_at s (done stamp (removes s d)) cluster (done_few stamp (removes s d) (shard_in cluster s).shard)
  did_grows stamp (says reply) cluster = λ s. grows_same (length setup.shards) 1 (shard_in cluster s)

  -- so the counts stand
  pub counted_on : (one other : Cluster) → Counts setup one other → IsCounted setup one → IsCounted setup other
  counted_on one other counts is = record {
    answers = λ c lt. counts.answers c (is.answers c lt);
    logs = λ s lt. logs (length (shard_in one s).shard.log.entries) (length (shard_in other s).shard.log.entries) (answered_in setup one)
        (answered_in setup other) counts.more (finals (length setup.shards) (shard_in one s)) (finals (length setup.shards) (shard_in other s))
        (counts.cells s).logs (is.logs s lt) counts.answered;
    stores = λ s lt off.
        let grows = (counts.cells s).stores off in
        stores (length setup.documents) (chains_in (shard_in one s).shard.versions) (chains_in (shard_in other s).shard.versions)
        (answered_in setup one) (answered_in setup other) counts.more grows.1 (is.stores s lt grows.0) counts.answered;
  }
    where
      logs : (x y a b m f g : ℕ) → y + f ≤ x + 2 * m + g → x ≤ 2 * a + f → a + m ≤ b → y ≤ 2 * b + g
      logs x y a b m f g h k l = omega (arith, h, k, l)

      stores : (n x y a b m : ℕ) → y ≤ x + m → x ≤ n + a → a + m ≤ b → y ≤ n + b
      stores n x y a b m h k l = omega (arith, h, k, l)
