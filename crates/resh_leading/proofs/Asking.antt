-- A client's event leaves what leads on.
use Rattle.std.proofs.Common.{◌≡◌, ◌≤◌, ◌==◌, ℕ, ◌+◌, Bool, true, false, cond, List, length, Option, Some, None, is_some, refl, sym, ap, subst, ◌∙◌, slice_get, slice_index_or, slice_set, arith}
use Rattle.resh_bag.specs.Answer.{Doing, adds, replaces, removes, says, reply_of}
use Rattle.resh_cells.specs.Cells.{client_in, no_client, no_shard, on_control, shard_in, with_shard}
use Rattle.resh_cells.specs.declared.cluster.ClientCell.{ClientCell}
use Rattle.resh_cells.specs.declared.cluster.Cluster.{Cluster}
use Rattle.resh_cells.specs.declared.cluster.ShardCell.{ShardCell}
use Rattle.resh_command.specs.declared.command.Command.{Command}
use Rattle.resh_command.specs.declared.reply.Reply.{Reply}
use Rattle.resh_command.specs.declared.reply.Reply.TheVariants as reply
use Rattle.resh_coord.specs.Control.{Control, unless_decided}
use Rattle.resh_coord.specs.declared.cause.Cause.{Cause}
use Rattle.resh_coord.specs.declared.cause.Cause.TheVariants.{Asked}
use Rattle.resh_donor.specs.States as donor
use Rattle.resh_ending.proofs.Places.{set_alike}
use Rattle.resh_events.specs.Targets.{doing_of, next_command}
use Rattle.resh_events.specs.rows.Client as client
use Rattle.resh_events.specs.rows.Client.{Coming, coming, waits, refreshes, comes}
use Rattle.resh_model.specs.Orders.{commands_of, is_abort}
use Rattle.resh_progress.specs.Kinds.{ToDonate}
use Rattle.resh_progress.specs.Tellings.{has}
use Rattle.resh_rounds.specs.Sums.{upto}
use Rattle.resh_rounds.proofs.Sums.{upto_most}
use Rattle.resh_setup.specs.declared.setup.Setup.{Setup}
use Rattle.resh_shard.specs.Shards.{taken_in}
use Rattle.resh_shard.specs.declared.act.Which.TheVariants.{New}
use Rattle.resh_stamp.specs.declared.stamp.Stamp.{Stamp}
use Rattle.resh_leading.specs.Leading.{answered_in}
use Rattle.resh_leading.proofs.Counting.{Counts, Did, counts_same, did_grows, grows_same, reply_answers, reply_counts}
use Rattle.resh_leading.proofs.Linking.{Leads, donates_at, links_same, unless_undecided}
use Rattle.resh_leading.proofs.Places.{set_pair}

-- what a write leaves alone
record Aside (one other : Cluster) : Type 0 where
  control : other.control ≡ one.control
  links : other.links ≡ one.links
  clients : other.clients ≡ one.clients
  donates : (s : ℕ) → donates_at other s ≡ donates_at one s

donates_set : (cells : List ShardCell) (s k : ℕ) (cell : ShardCell) → cell.donor ≡ (slice_index_or cells s no_shard).donor
    → has (slice_index_or (slice_set cells s cell) k no_shard).donor.told ToDonate ≡ has (slice_index_or cells k no_shard).donor.told ToDonate
donates_set cells s k cell same =
    set_alike (λ (c : ShardCell). has c.donor.told ToDonate) cells s k cell no_shard (ap (λ (x : donor.State). has x.told ToDonate) same)

did_aside : (stamp : Stamp) (doing : Doing) (cluster : Cluster) → Aside cluster (client.did stamp doing cluster)
did_aside stamp (adds s d) cluster =
    record { control = refl; links = refl; clients = refl; donates = λ k. donates_set cluster.shards s k _ refl }
did_aside stamp (replaces s d t e) cluster = by (t == s)
  where
    by : (is : Bool) → Aside cluster
        (cond is (client.done_at stamp s (replaces s d t e) cluster) (client.moved stamp s d t e cluster))
    by true = record { control = refl; links = refl; clients = refl; donates = λ k. donates_set cluster.shards s k _ refl }
    by false = record {
      control = refl;
      links = refl;
      clients = refl;
      donates = λ k.
          let taken : ShardCell = with_shard (taken_in stamp e) (shard_in cluster t) in
          donates_set (slice_set cluster.shards t taken) s k _ refl ∙ donates_set cluster.shards t k taken refl;
    }
did_aside stamp (removes s d) cluster =
    record { control = refl; links = refl; clients = refl; donates = λ k. donates_set cluster.shards s k _ refl }
did_aside stamp (says reply) cluster = record { control = refl; links = refl; clients = refl; donates = λ k. refl }

module _ (setup : Setup) (cluster : Cluster) where
  pub same_leads : (other : Cluster) → other.shards ≡ cluster.shards → other.clients ≡ cluster.clients → other.links ≡ cluster.links
      → other.control ≡ cluster.control → Leads setup cluster other
  same_leads other shards clients links control = record {
    counts = counts_same setup cluster other shards clients;
    undecided = λ e. ap (λ (c : Control). c.decision) (sym control) ∙ e;
    links = links_same setup cluster other links
        (λ s on. ap (λ (l : List ShardCell). has (slice_index_or l s no_shard).donor.told ToDonate) (sym shards) ∙ on);
  }

  -- a reply, after no more than one write of a shard
  reply_leads : (c : ℕ) (answer : Reply) (mid : Cluster) (command : Command) → length cluster.clients ≡ length setup.clients
      → next_command setup cluster c ≡ Some command → mid.clients ≡ cluster.clients → Did setup cluster mid
      → Counts setup cluster (client.with_reply c answer mid)
  reply_leads c answer mid command count next clients did =
      let many : length mid.clients ≡ length setup.clients = ap (λ (l : List ClientCell). length l) clients ∙ count in
      let asked : next_command setup mid c ≡ Some command
      = ap (λ (l : List ClientCell). slice_get (commands_of (slice_get setup.clients c)) (length (slice_index_or l c no_client).replies)) clients
      ∙ next in
      record {
        more = 1;
        cells = did;
        answered = subst (λ (l : List ClientCell). upto (length setup.clients) (λ k. length (slice_index_or l k no_client).replies) + 1
            ≤ answered_in setup (client.with_reply c answer mid)) clients (reply_counts setup c answer mid command many asked);
        answers = λ k h. reply_answers setup c answer mid command many asked k
            (subst (λ (l : List ClientCell). length (slice_index_or l k no_client).replies ≤ length (commands_of (slice_get setup.clients k)))
            (sym clients) h);
      }

  pub replied_leads : (c : ℕ) (answer : Reply) (command : Command) → length cluster.clients ≡ length setup.clients
      → next_command setup cluster c ≡ Some command → Leads setup cluster (client.with_reply c answer cluster)
  replied_leads c answer command count next = record {
    counts = reply_leads c answer cluster command count next refl (λ s. grows_same (length setup.shards) 1 (shard_in cluster s));
    undecided = λ e. e;
    links = links_same setup cluster (client.with_reply c answer cluster) refl (λ s on. on);
  }

  abort_leads : (c : ℕ) (command : Command) → length cluster.clients ≡ length setup.clients
      → next_command setup cluster c ≡ Some command → Leads setup cluster (client.abort_asked c cluster)
  abort_leads c command count next =
      let cause : Cause = Asked c (client.next_number cluster c) in
      let dropped : Cluster = on_control (unless_decided cause) cluster in
      record {
        counts = reply_leads c (client.abort_reply cluster.control.decision) dropped command count next refl
            (λ s. grows_same (length setup.shards) 1 (shard_in cluster s));
        undecided = λ e. absurd (unless_undecided cause cluster.control e);
        links = links_same setup cluster (client.abort_asked c cluster) refl (λ s on. on);
      }

  done_leads : (stamp : Stamp) (c : ℕ) (doing : Doing) (command : Command) → length cluster.clients ≡ length setup.clients
      → next_command setup cluster c ≡ Some command → Leads setup cluster (client.done setup cluster stamp c doing)
  done_leads stamp c doing command count next =
      let mid : Cluster = client.did stamp doing cluster in
      let aside : Aside cluster mid = did_aside stamp doing cluster in
      record {
        counts = reply_leads c (reply_of doing) mid command count next aside.clients (did_grows setup stamp doing cluster);
        undecided = λ e. ap (λ (x : Control). x.decision) (sym aside.control) ∙ e;
        links = links_same setup cluster (client.with_reply c (reply_of doing) mid) aside.links (λ s on. sym (aside.donates s) ∙ on);
      }

  map_leads : (c : ℕ) → Leads setup cluster (client.with_new_map c cluster)
  map_leads c = record {
    counts = record {
      more = 0;
      cells = λ s. grows_same (length setup.shards) 0 (shard_in cluster s);
      answered = plain (answered_in setup cluster) (answered_in setup (client.with_new_map c cluster))
          (upto_most (length setup.clients) (λ k. length (client_in cluster k).replies)
          (λ k. length (client_in (client.with_new_map c cluster) k).replies)
          (set_pair (λ k (x y : ClientCell). length x.replies ≤ length y.replies) cluster.clients c (record (client_in cluster c) { knows = New })
          no_client (λ k x. least (length x.replies)) (least (length (client_in cluster c).replies))));
      answers = set_pair
          (λ k (x y : ClientCell). length x.replies ≤ length (commands_of (slice_get setup.clients k))
          → length y.replies ≤ length (commands_of (slice_get setup.clients k)))
          cluster.clients c (record (client_in cluster c) { knows = New }) no_client (λ k x h. h) (λ h. h);
    };
    undecided = λ e. e;
    links = links_same setup cluster (client.with_new_map c cluster) refl (λ s on. on);
  }
    where
      plain : (a b : ℕ) → a ≤ b → a + 0 ≤ b
      plain a b le = omega (arith, le)

      least : (a : ℕ) → a ≤ a
      least a = omega arith

  pub command_leads : (stamp : Stamp) (c : ℕ) → length cluster.clients ≡ length setup.clients
      → Leads setup cluster (client.change setup cluster stamp c)
  command_leads stamp c count = by (next_command setup cluster c) refl
    where
      answered : (command : Command) → next_command setup cluster c ≡ Some command → (t : Bool)
          → Leads setup cluster
          (cond t (client.abort_asked c cluster) (client.done setup cluster stamp c (doing_of setup cluster c command)))
      answered command next true = abort_leads c command count next
      answered command next false = done_leads stamp c (doing_of setup cluster c command) command count next

      come : (command : Command) (x : Coming) → next_command setup cluster c ≡ Some command
          → Leads setup cluster (client.change_by setup cluster stamp c command x)
      come command waits next = same_leads cluster refl refl refl refl
      come command refreshes next = map_leads c
      come command comes next = answered command next (is_abort command)

      by : (o : Option Command) → next_command setup cluster c ≡ o → Leads setup cluster (client.change_of setup cluster stamp c o)
      by None next = same_leads cluster refl refl refl refl
      by (Some command) next = come command (coming setup cluster c command) next

  -- a command that is refused
  pub refused_leads : (c : ℕ) → length cluster.clients ≡ length setup.clients → is_some (next_command setup cluster c) ≡ true
      → Leads setup cluster (client.with_reply c reply.NoMemory cluster)
  refused_leads c count some = by (next_command setup cluster c) refl some
    where
      by : (o : Option Command) → next_command setup cluster c ≡ o → is_some o ≡ true
          → Leads setup cluster (client.with_reply c reply.NoMemory cluster)
      by None next e = cc
      by (Some command) next e = replied_leads c reply.NoMemory command count next
