-- What a client's command leads to: it waits, or the client hears of the new map, or is answered. Once all is done it
-- doesn't wait, and a client that knows the new map doesn't hear of it again.
use Rattle.std.proofs.Common.{◌≡◌, ◌<◌, ◌≤◌, ◌⊎◌, inl, inr, ℕ, zero, suc, ◌+◌, ◌-◌, ◌==◌, Bool, true, false, not, ◌&&◌, cond, List, [], ◌∷◌, ◌++◌, length, Option, Some, None, is_none, is_some, refl, sym, ap, subst, ◌∙◌, slice_get, slice_index_or, slice_set}
use Rattle.std.specs.Prelude.{⊤, Result, Ok, Err}
use Rattle.std.specs.List.{range_with_len}
use native.Mathlib.Omega.{arith}
use Rattle.resh_value.specs.Lookup.{id_of}
use Rattle.resh_chunks.specs.Chunks.{Chunks, chunk_fault, owner_of}
use Rattle.resh_ops.specs.Updates.{updated}
use Rattle.resh_ops.specs.declared.faults.ChangeFault.{ChangeFault}
use Rattle.resh_stamp.specs.declared.stamp.Stamp.{Stamp}
use Rattle.resh_coord.specs.Control.{Agrees, is_true_at}
use Rattle.resh_coord.specs.declared.cause.Cause.{Cause}
use Rattle.resh_coord.specs.declared.cause.Cause.TheVariants.{Asked}
use Rattle.resh_coord.specs.declared.cause.End.{End}
use Rattle.resh_coord.specs.declared.cause.End.TheVariants.{Committed, Aborted}
use Rattle.resh_coord.specs.declared.phase.Phase.{Phase}
use Rattle.resh_coord.specs.declared.phase.Phase.TheVariants.{Done}
use Rattle.resh_command.specs.declared.command.Command.{Command}
use Rattle.resh_command.specs.declared.command.Command.TheVariants.{Insert, Update, Delete, Find, Count, Abort}
use Rattle.resh_command.specs.declared.reply.Reply.{Reply}
use Rattle.resh_command.specs.declared.reply.Reply.TheVariants.{Duplicate, NoKey}
use Rattle.resh_bag.specs.Answer.{Doing, adds, replaces, removes, says, doing, has_key, hit, insert_doing, on_hit, reply_of, result_doing, text_limit, with_key}
use Rattle.resh_bag.specs.Bag.{Bag, Document, held}
use Rattle.resh_bag.specs.Parts.{bag_over, has_pattern, targets}
use Rattle.resh_bag.proofs.shards.Owners.{owner_there}
use Rattle.resh_model.specs.Orders.{commands_of, is_abort}
use Rattle.resh_shard.specs.Shards.{map_by}
use Rattle.resh_shard.specs.declared.act.Which.{Which}
use Rattle.resh_shard.specs.declared.act.Which.TheVariants.{Old, New}
use Rattle.resh_setup.specs.Validity.{IsValid}
use Rattle.resh_setup.specs.declared.setup.Setup.{Setup}
use Rattle.resh_cells.specs.Cells.{client_in, no_client, no_shard, on_client, on_control, shard_in}
use Rattle.resh_cells.specs.declared.cluster.ClientCell.{ClientCell}
use Rattle.resh_cells.specs.declared.cluster.Cluster.{Cluster}
use Rattle.resh_cells.specs.declared.cluster.ShardCell.{ShardCell}
use Rattle.resh_events.specs.Targets.{all_at, all_targets, doing_by, doing_of, documents_at, first_targets, has_map, is_free, known_map, leaves_to, move_targets, next_command, same_map, serve}
use Rattle.resh_events.specs.rows.Client as client
use Rattle.resh_events.specs.rows.Client.{Coming, coming, waits, refreshes, comes}
use Rattle.resh_ending.proofs.Applying.{lt_by}
use Rattle.resh_ending.proofs.Places.{set_here, within}
use Rattle.resh_rounds.specs.Serving.{IsRunning, IsServing, ServesIn}
use Rattle.resh_rounds.specs.Supplies.{client_left, maps_left}
use Rattle.resh_rounds.proofs.Stepping.{asked_of, asked_within, got_within}
use Rattle.resh_rounds.proofs.Sums.{length_more}

-- shards of a cluster
abbrev AreIn : ℕ → List ℕ → Type 0
AreIn n [] = ⊤
AreIn n (s ∷ shards) = (s < n) × AreIn n shards

in_both : (n : ℕ) (xs ys : List ℕ) → AreIn n xs → AreIn n ys → AreIn n (xs ++ ys)
in_both n [] ys h k = k
in_both n (x ∷ xs) ys h k = (h.0, in_both n xs ys h.1 k)

in_if : (n : ℕ) (t : Bool) (xs ys : List ℕ) → AreIn n xs → AreIn n ys → AreIn n (cond t xs ys)
in_if n true xs ys h k = h
in_if n false xs ys h k = k

in_range : (n from many : ℕ) → from + many ≤ n → AreIn n (range_with_len from many)
in_range n from zero h = tt
in_range n from (suc many) h = (here n from many h, in_range n (from + 1) many (next n from many h))
  where
    here : (n from many : ℕ) → from + suc many ≤ n → from < n
    here n from many h = omega arith

    next : (n from many : ℕ) → from + suc many ≤ n → from + 1 + many ≤ n
    next n from many h = omega arith

some_shard : (k n : ℕ) → k < n → 0 < n
some_shard k n lt = omega arith

whole_range : (n : ℕ) → 0 + n ≤ n
whole_range n = omega arith

module _ (chunks : Chunks) (none : chunk_fault chunks ≡ None) where
  owner_in : (d : Document) → AreIn chunks.shards (owner_of chunks d ∷ [])
  owner_in d = (owner_there chunks none d, tt)

  zero_in : AreIn chunks.shards (0 ∷ [])
  zero_in = (some_shard (owner_of chunks []) chunks.shards (owner_there chunks none []), tt)

  targets_in : (command : Command) → AreIn chunks.shards (targets chunks command)
  targets_in (Insert d) = owner_in d
  targets_in (Update f u) = in_if chunks.shards (has_key chunks f) (owner_of chunks f ∷ []) (0 ∷ []) (owner_in f) zero_in
  targets_in (Delete f) = in_if chunks.shards (has_key chunks f) (owner_of chunks f ∷ []) (0 ∷ []) (owner_in f) zero_in
  targets_in (Find f) =
      in_if chunks.shards (has_pattern chunks f) (owner_of chunks f ∷ []) (range_with_len 0 chunks.shards) (owner_in f)
      (in_range chunks.shards 0 chunks.shards (whole_range chunks.shards))
  targets_in (Count f) =
      in_if chunks.shards (has_pattern chunks f) (owner_of chunks f ∷ []) (range_with_len 0 chunks.shards) (owner_in f)
      (in_range chunks.shards 0 chunks.shards (whole_range chunks.shards))
  targets_in Abort = tt

  -- where an update's result goes
  keyed_in : (f : Document) (x : Doing) → AreIn chunks.shards (leaves_to x) → AreIn chunks.shards (leaves_to (with_key chunks f x))
  keyed_in f x h = by (has_key chunks f)
    where
      by : (t : Bool) → AreIn chunks.shards (leaves_to (cond t x (says NoKey)))
      by true = h
      by false = tt

  result_in : (bag : Bag) (s : ℕ) (d : Document) (r : Result Document ChangeFault)
      → AreIn chunks.shards (leaves_to (result_doing chunks bag s d r))
  result_in bag s d (Err fault) = tt
  result_in bag s d (Ok e) =
      by (not (owner_of chunks e == s) && is_some (held bag (owner_of chunks e) (id_of e))) (owner_of chunks e == s)
    where
      goes : (t : Bool) → AreIn chunks.shards (cond t [] (owner_of chunks e ∷ []))
      goes true = tt
      goes false = owner_in e

      by : (t u : Bool) → AreIn chunks.shards (leaves_to (cond t (says Duplicate) (replaces s d (owner_of chunks e) e)))
      by true u = tt
      by false u = goes (owner_of chunks e == s)

  doing_in : (bag : Bag) (command : Command) → AreIn chunks.shards (leaves_to (doing chunks bag command))
  doing_in bag (Insert d) = by (held bag (owner_of chunks d) (id_of d))
    where
      by : (o : Option Document) → AreIn chunks.shards (leaves_to (insert_doing (owner_of chunks d) d o))
      by None = tt
      by (Some e) = tt
  doing_in bag (Update f u) = keyed_in f _ (by (hit chunks bag f))
    where
      by : (o : Option Document) → AreIn chunks.shards (leaves_to
          (on_hit (λ d. result_doing chunks bag (owner_of chunks f) d (updated text_limit u d)) o))
      by None = tt
      by (Some d) = result_in bag (owner_of chunks f) d (updated text_limit u d)
  doing_in bag (Delete f) = keyed_in f _ (by (hit chunks bag f))
    where
      by : (o : Option Document) → AreIn chunks.shards (leaves_to (on_hit (λ d. removes (owner_of chunks f) d) o))
      by None = tt
      by (Some d) = tt
  doing_in bag (Find f) = tt
  doing_in bag (Count f) = tt
  doing_in bag Abort = tt

-- all that a client's command goes to
known_in : (setup : Setup) (cluster : Cluster) (c : ℕ) (command : Command)
    → chunk_fault (known_map setup cluster c) ≡ None
    → AreIn (known_map setup cluster c).shards (all_targets setup cluster c command)
known_in setup cluster c command none =
    let chunks : Chunks = known_map setup cluster c in
    in_both chunks.shards (first_targets setup cluster c command) (move_targets setup cluster c command)
    (targets_in chunks none command)
    (in_if chunks.shards (serve cluster (client_in cluster c).knows (first_targets setup cluster c command))
    (leaves_to (doing_by setup cluster c (first_targets setup cluster c command) command)) []
    (doing_in chunks none (bag_over (documents_at cluster) (first_targets setup cluster c command)) command) tt)

-- every shard passes, or those of the cluster
all_pass : (cluster : Cluster) (passes : ShardCell → Bool) (shards : List ℕ) → ((s : ℕ) → passes (shard_in cluster s) ≡ true)
    → all_at cluster passes shards ≡ true
all_pass cluster passes [] all = refl
all_pass cluster passes (s ∷ shards) all = on (passes (shard_in cluster s)) _ (all s) (all_pass cluster passes shards all)
  where
    on : (a b : Bool) → a ≡ true → b ≡ true → (a && b) ≡ true
    on true b h k = k
    on false b h k = cc

those_pass : (cluster : Cluster) (passes : ShardCell → Bool) (n : ℕ) (shards : List ℕ) → AreIn n shards
    → ((s : ℕ) → s < n → passes (shard_in cluster s) ≡ true) → all_at cluster passes shards ≡ true
those_pass cluster passes n [] are all = refl
those_pass cluster passes n (s ∷ shards) are all =
    on (passes (shard_in cluster s)) _ (all s are.0) (those_pass cluster passes n shards are.1 all)
  where
    on : (a b : Bool) → a ≡ true → b ≡ true → (a && b) ≡ true
    on true b h k = k
    on false b h k = cc

-- once all is done
done_unblocked : (t : Bool) (e : Option End) (w : Which) (b : Bool) → is_some e ≡ true → ServesIn Done t e w b → b ≡ false
done_unblocked t None w b some h = cc
done_unblocked t (Some Committed) w b some h = h.1
done_unblocked t (Some (Aborted cause)) w b some h = h.1

done_new : (t : Bool) (e : Option End) (w : Which) (b : Bool) → e ≡ Some Committed → ServesIn Done t e w b → w ≡ New
done_new t e w b is h =
    let end : ServesIn Done t (Some Committed) w b = subst (λ (x : Option End). ServesIn Done t x w b) is h in
    end.0

module _ (setup : Setup) (cluster : Cluster) (valid : IsValid setup) (is : IsRunning setup cluster)
    (over : cluster.control.phase ≡ Done) where
  in_done : (s : ℕ) → s < length cluster.shards → ServesIn Done (is_true_at cluster.control.told s) cluster.control.decision
      (shard_in cluster s).shard.which (shard_in cluster s).shard.blocked
  in_done s lt = subst (λ (p : Phase). ServesIn p (is_true_at cluster.control.told s) cluster.control.decision
      (shard_in cluster s).shard.which (shard_in cluster s).shard.blocked) over (is.serving.shards s lt)

  decided : is_some cluster.control.decision ≡ true
  decided = subst (λ (p : Phase). Agrees p cluster.control.decision) over is.serving.agrees

  free : (s : ℕ) → is_free (shard_in cluster s) ≡ true
  free s = by (shard_in cluster s).shard.blocked refl
    where
      by : (b : Bool) → (shard_in cluster s).shard.blocked ≡ b → not b ≡ true
      by false e = refl
      by true e =
          let lt : s < length cluster.shards = within (λ (cell : ShardCell). cell.shard.blocked) cluster.shards s no_shard refl e in
          let not_so : (shard_in cluster s).shard.blocked ≡ false
          = done_unblocked (is_true_at cluster.control.told s) cluster.control.decision (shard_in cluster s).shard.which
          (shard_in cluster s).shard.blocked decided (in_done s lt) in
          cc

  new_at : (s : ℕ) → cluster.control.decision ≡ Some Committed → s < length setup.shards → has_map New (shard_in cluster s) ≡ true
  new_at s end lt =
      ap (λ (w : Which). same_map w New)
      (done_new (is_true_at cluster.control.told s) cluster.control.decision (shard_in cluster s).shard.which
      (shard_in cluster s).shard.blocked end (in_done s (subst (λ (n : ℕ). s < n) (sym is.of.count) lt)))

  -- a client that knows the new map hears of no other
  new_known : (c : ℕ) (command : Command) → (client_in cluster c).knows ≡ New
      → all_at cluster (has_map New) (all_targets setup cluster c command) ≡ true
  new_known c command knows =
      let map : known_map setup cluster c ≡ setup.new_map = ap (λ (w : Which). map_by w setup.old_map setup.new_map) knows in
      let are : AreIn setup.new_map.shards (all_targets setup cluster c command)
      = subst (λ (m : Chunks). AreIn m.shards (all_targets setup cluster c command)) map
      (known_in setup cluster c command (ap chunk_fault map ∙ valid.new.whole)) in
      those_pass cluster (has_map New) setup.new_map.shards (all_targets setup cluster c command) are
      (λ s lt. new_at s (is.serving.clients c knows) (subst (λ (n : ℕ). s < n) valid.new.count lt))

  pub never_waits : (c : ℕ) (command : Command) → coming setup cluster c command ≡ waits → ⊥
  never_waits c command h =
      by (all_at cluster is_free (all_targets setup cluster c command)) (all_at cluster (has_map (client_in cluster c).knows) (all_targets setup cluster c command))
      (all_pass cluster is_free (all_targets setup cluster c command) free) h
    where
      by : (a b : Bool) → a ≡ true → cond (not a) waits (cond (not b) refreshes comes) ≡ waits → ⊥
      by true true e q = cc
      by true false e q = cc
      by false b e q = cc

  pub never_again : (c : ℕ) (command : Command) → (client_in cluster c).knows ≡ New → coming setup cluster c command ≡ refreshes → ⊥
  never_again c command knows h =
      by (all_at cluster is_free (all_targets setup cluster c command)) (all_at cluster (has_map (client_in cluster c).knows) (all_targets setup cluster c command))
      (subst (λ (w : Which). all_at cluster (has_map w) (all_targets setup cluster c command) ≡ true) (sym knows) (new_known c command knows)) h
    where
      by : (a b : Bool) → b ≡ true → cond (not a) waits (cond (not b) refreshes comes) ≡ refreshes → ⊥
      by true true e q = cc
      by true false e q = cc
      by false true e q = cc
      by false false e q = cc

-- what is left of a client that is answered, or hears of the new map
one_reply : (n k m : ℕ) → k < n → (n - suc k) + m < (n - k) + m
one_reply n k m lt = omega arith

one_map : (n : ℕ) → n + 0 < n + 1
one_map n = omega arith

pub answer_less : (n c : ℕ) (r : Reply) (cluster other : Cluster) → other.clients ≡ cluster.clients → c < length cluster.clients
    → length (client_in cluster c).replies < n
    → client_left n (client_in (client.with_reply c r other) c) < client_left n (client_in cluster c)
answer_less n c r cluster other same lt left =
    let with : ClientCell → ClientCell = λ k. record k { replies = k.replies ++ r ∷ [] } in
    let cell : ClientCell = client_in cluster c in
    let is : client_in (client.with_reply c r other) c ≡ with cell
    = ap (λ (cs : List ClientCell). slice_index_or (slice_set cs c (with (slice_index_or cs c no_client))) c no_client) same
    ∙ set_here cluster.clients c (with cell) no_client lt in
    subst (λ (k : ClientCell). client_left n k < client_left n cell) (sym is)
    (subst (λ (k : ℕ). (n - k) + maps_left cell.knows < (n - length cell.replies) + maps_left cell.knows)
    (sym (length_more cell.replies r)) (one_reply n (length cell.replies) (maps_left cell.knows) left))

pub map_less : (n c : ℕ) (cluster : Cluster) → c < length cluster.clients → (client_in cluster c).knows ≡ Old
    → client_left n (client_in (client.with_new_map c cluster) c) < client_left n (client_in cluster c)
map_less n c cluster lt knows =
    let cell : ClientCell = client_in cluster c in
    let heard : ClientCell = record cell { knows = New } in
    subst (λ (k : ClientCell). client_left n k < client_left n cell) (sym (set_here cluster.clients c heard no_client lt))
    (subst (λ (w : Which). (n - length cell.replies) + 0 < (n - length cell.replies) + maps_left w) (sym knows)
    (one_map (n - length cell.replies)))

set_same : {X : Type 0} (xs : List X) (i : ℕ) (d : X) → slice_set xs i (slice_index_or xs i d) ≡ xs
set_same [] i d = refl
set_same (x ∷ xs) zero d = refl
set_same (x ∷ xs) (suc i) d = ap (λ t. x ∷ t) (set_same xs i d)

pub map_known : (c : ℕ) (cluster : Cluster) → (client_in cluster c).knows ≡ New
    → (client.with_new_map c cluster).clients ≡ cluster.clients
map_known c cluster knows =
    let cell : ClientCell = client_in cluster c in
    let same : (let k : ClientCell = record cell { knows = New } in k) ≡ cell
    = ap (λ (w : Which). let k : ClientCell = record cell { knows = w } in k) (sym knows) in
    ap (λ (k : ClientCell). slice_set cluster.clients c k) same ∙ set_same cluster.clients c no_client

-- a client that has a command left, among the clients
pub asks_in : (setup : Setup) (cluster : Cluster) (c : ℕ) (command : Command) → next_command setup cluster c ≡ Some command
    → (c < length setup.clients) × (length (client_in cluster c).replies < asked_of setup c)
asks_in setup cluster c command is =
    let some : is_some (next_command setup cluster c) ≡ true = ap (λ (o : Option Command). is_some o) is in (
      asked_within setup.clients c (length (client_in cluster c).replies) some,
      got_within (commands_of (slice_get setup.clients c)) (length (client_in cluster c).replies) some,
    )
