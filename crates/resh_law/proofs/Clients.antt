-- A client asks, or is refused.
use Rattle.std.proofs.Common.{◌≡◌, ◌≤◌, ◌<◌, ℕ, zero, suc, ◌+◌, ◌*◌, ◌^◌, ◌==◌, Bool, true, false, ◌&&◌, cond, nat_lt, nat_le, List, [], ◌∷◌, ◌++◌, length, map, filter, Option, Some, None, refl, sym, subst, arith, rules}
use Rattle.std.proofs.Math.Nat.{mul-le-mul_left}
use Rattle.std.specs.List.{range_with_len}
use Rattle.std.specs.Prelude.{is_some, slice_get}
use Rattle.resh_bag.specs.Answer.{Doing, adds, replaces, removes, says}
use Rattle.resh_bag.specs.Parts.{is_among}
use Rattle.resh_cells.specs.Clocks.{clock_of, first_number, number_of, with_clocks}
use Rattle.resh_cells.specs.declared.cell.Cell.{Cell}
use Rattle.resh_cells.specs.declared.cell.Cell.TheVariants as cell
use Rattle.resh_cells.specs.declared.cluster.Clocks.{Clocks}
use Rattle.resh_cells.specs.declared.cluster.Cluster.{Cluster}
use Rattle.resh_client_rows.specs.Laws.{AreSet, ClientRowsKeep, KeepsTurns, shards_for, turns_by}
use Rattle.resh_command.specs.declared.command.Command.{Command}
use Rattle.resh_command.specs.declared.command.Command.TheVariants.{Insert, Update, Delete, Find, Count, Abort}
use Rattle.resh_events.specs.Targets.{doing_of, next_command}
use Rattle.resh_events.specs.Turns.{mark_of}
use Rattle.resh_events.specs.rows.Client as client
use Rattle.resh_events.specs.rows.Client.{Coming, coming, comes, refreshes, waits}
use Rattle.resh_events.specs.rows.Refused as refused
use Rattle.resh_model.specs.Orders.{State, commands_of, is_abort}
use Rattle.resh_setup.specs.Validity.{IsValid}
use Rattle.resh_setup.specs.declared.client.Client.{Client}
use Rattle.resh_setup.specs.declared.setup.Setup.{Setup}
use Rattle.resh_setup.specs.declared.turn.Turn.{Turn}
use Rattle.resh_setup.specs.declared.turn.Turn.TheVariants as turn
use Rattle.resh_stamp.specs.declared.stamp.Stamp.{Stamp}
use Rattle.resh_invariant.specs.Keeping.{Keeps}
use Rattle.resh_invariant.specs.Sources.{Clones}
use Rattle.resh_invariant.proofs.Ones.{both, never}
use Rattle.resh_law.proofs.Clocks.{AreBefore, IsIn, all_in, later, set_to, shard_among, shard_set}
use Rattle.resh_law.proofs.Marking.{unmarked}

-- a client's row keeps clocks
did_clocks : (stamp : Stamp) (doing : Doing) (cluster : Cluster) → (client.did stamp doing cluster).clocks ≡ cluster.clocks
did_clocks stamp (adds s d) cluster = refl
did_clocks stamp (replaces s d t e) cluster = by (t == s)
  where
    by : (same : Bool) → (cond same (client.done_at stamp s (replaces s d t e) cluster) (client.moved stamp s d t e cluster)).clocks ≡ cluster.clocks
    by true = refl
    by false = refl
did_clocks stamp (removes s d) cluster = refl
did_clocks stamp (says reply) cluster = refl

module _ (setup : Setup) (cluster : Cluster) (stamp : Stamp) (c : ℕ) where
  answered_clocks : (command : Command) (t : Bool)
      → (cond t (client.abort_asked c cluster) (client.done setup cluster stamp c (doing_of setup cluster c command))).clocks ≡ cluster.clocks
  answered_clocks command true = refl
  answered_clocks command false = did_clocks stamp (doing_of setup cluster c command) cluster

  come_clocks : (command : Command) (coming : Coming) → (client.change_by setup cluster stamp c command coming).clocks ≡ cluster.clocks
  come_clocks command waits = refl
  come_clocks command refreshes = refl
  come_clocks command comes = answered_clocks command (is_abort command)

  next_clocks : (next : Option Command) → (client.change_of setup cluster stamp c next).clocks ≡ cluster.clocks
  next_clocks None = refl
  next_clocks (Some command) = come_clocks command (coming setup cluster c command)

-- the shards to which a command goes are among the cells that it holds
module _ (setup : Setup) (cluster : Cluster) (c s : ℕ) (there : s < length setup.shards) where
  in_cells : (shards : List ℕ) → is_among shards s ≡ true
      → IsIn (cell.Shard s) (map cell.Shard (filter (is_among shards) (range_with_len 0 (length setup.shards))) ++ cell.Client c ∷ [])
  in_cells shards on = shard_among (is_among shards) 0 (length setup.shards) s (cell.Client c ∷ []) (omega arith) (omega arith) on

  held_for : (command : Command) → is_among (shards_for setup cluster c (Some command)) s ≡ true
      → IsIn (cell.Shard s) (client.cells_of setup cluster c (Some command))
  held_for Abort on = never (sym on)
  held_for (Insert document) on = in_cells (shards_for setup cluster c (Some (Insert document))) on
  held_for (Update filter update) on = in_cells (shards_for setup cluster c (Some (Update filter update))) on
  held_for (Delete filter) on = in_cells (shards_for setup cluster c (Some (Delete filter))) on
  held_for (Find filter) on = in_cells (shards_for setup cluster c (Some (Find filter))) on
  held_for (Count filter) on = in_cells (shards_for setup cluster c (Some (Count filter))) on

  held : (next : Option Command) → is_among (shards_for setup cluster c next) s ≡ true → IsIn (cell.Shard s) (client.cells_of setup cluster c next)
  held None on = never (sym on)
  held (Some command) on = held_for command on

-- the number of the first cell is small
few_products : (n l c : ℕ) → n ≤ 8 → l ≤ 16 → c < 16 → 1 + n + n * l + n * n + c < 2 ^ 32
few_products n l c few lanes clients =
    let one : n * l ≤ n * 16 = mul-le-mul_left n lanes in
    let other : n * n ≤ n * 8 = mul-le-mul_left n few in
    omega arith

less : (a b : ℕ) → nat_le a b ≡ true → a ≤ b
less a b h = search (arith, rules)

few_shards : (setup : Setup) → IsValid setup → length setup.shards ≤ 8
few_shards setup valid =
    less (length setup.shards) 8
    (both (nat_lt 0 (length setup.shards)) (nat_le (length setup.shards) 8)
    (both (nat_lt 0 (length setup.shards) && nat_le (length setup.shards) 8) _ valid.shards).0).1

asks_there : (clients : List Client) (c k : ℕ) → is_some (slice_get (commands_of (slice_get clients c)) k) ≡ true → c < length clients
asks_there [] c k is = never (sym is)
asks_there (x ∷ clients) zero k is = omega arith
asks_there (x ∷ clients) (suc c) k is = let lt = asks_there clients c k is in omega arith

first_small : (setup : Setup) (c : ℕ) (p : ℕ → Bool) (from many : ℕ) → from + many ≤ 8 → number_of setup (cell.Client c) < 2 ^ 32
    → first_number setup (map cell.Shard (filter p (range_with_len from many)) ++ cell.Client c ∷ []) < 2 ^ 32
first_small setup c p from zero few small = small
first_small setup c p from (suc many) few small = by (p from) (first_small setup c p (from + 1) many (further from many few) small)
  where
    further : (a b : ℕ) → a + suc b ≤ 8 → a + 1 + b ≤ 8
    further a b h = omega arith

    low : (a b : ℕ) → a + suc b ≤ 8 → 1 + a < 2 ^ 32
    low a b h = omega arith

    by : (b : Bool) → first_number setup (map cell.Shard (filter p (range_with_len (from + 1) many)) ++ cell.Client c ∷ []) < 2 ^ 32
        → first_number setup
        (map cell.Shard (cond b (from ∷ filter p (range_with_len (from + 1) many)) (filter p (range_with_len (from + 1) many))) ++ cell.Client c ∷ [])
        < 2 ^ 32
    by true rest = low from many few
    by false rest = rest

module _ (setup : Setup) (valid : IsValid setup) (cluster : Cluster) (c : ℕ) (is : client.may setup cluster c ≡ true) where
  own_small : number_of setup (cell.Client c) < 2 ^ 32
  own_small =
      few_products (length setup.shards) setup.lanes c (few_shards setup valid) valid.sizes.few_lanes
      (within c (length setup.clients) (asks_there setup.clients c _ is) valid.clients.few)
    where
      within : (a b : ℕ) → a < b → b ≤ 16 → a < 16
      within a b lt le = omega arith

  zero_small : 0 < 2 ^ 32
  zero_small = omega arith

  none_more : (n : ℕ) → n ≤ 8 → 0 + n ≤ 8
  none_more n le = omega arith

  node_for : (command : Command) (t : Bool) (shards : List ℕ)
      → first_number setup (cond t (cell.Coordinator ∷ cell.Client c ∷ [])
      (map cell.Shard (filter (is_among shards) (range_with_len 0 (length setup.shards))) ++ cell.Client c ∷ [])) < 2 ^ 32
  node_for command true shards = zero_small
  node_for command false shards = first_small setup c (is_among shards) 0 (length setup.shards)
      (none_more (length setup.shards) (few_shards setup valid)) own_small

  node_small : (next : Option Command) → first_number setup (client.cells_of setup cluster c next) < 2 ^ 32
  node_small None = own_small
  node_small (Some command) = node_for command (is_abort command) (shards_for setup cluster c (Some command))

module _ (rows : ClientRowsKeep) (setup : Setup) (valid : IsValid setup) (state : State) (clones : Clones) (cluster : Cluster)
    (keeps : Keeps setup state clones cluster) (stamp : Stamp) (c : ℕ) (is : client.may setup cluster c ≡ true) where
  module _ (before : AreBefore stamp.time cluster.clocks (client.holds setup cluster c))
      (node : stamp.node ≡ first_number setup (client.holds setup cluster c)) where
    abbrev clocks : Clocks
    clocks = set_to stamp.time cluster.clocks (client.holds setup cluster c)

    are_set : AreSet setup cluster stamp clocks (shards_for setup cluster c (next_command setup cluster c))
    are_set s lt on =
        let there : IsIn (cell.Shard s) (client.holds setup cluster c) = held setup cluster c s lt (next_command setup cluster c) on in (
          all_in (λ x. clock_of cluster.clocks x < stamp.time) (cell.Shard s) (client.holds setup cluster c) before there,
          shard_set stamp.time s cluster.clocks (client.holds setup cluster c) (subst (λ n. s < n) (sym keeps.clock_count) lt) there,
        )

    pub ask_keeps : KeepsTurns setup state (turns_by setup cluster stamp c)
        (with_clocks stamp.time (client.holds setup cluster c) (client.change setup cluster stamp c))
    ask_keeps =
        subst
        (λ (ks : Clocks). KeepsTurns setup state (turns_by setup cluster stamp c)
        (record (client.change setup cluster stamp c) { clocks = set_to stamp.time ks (client.holds setup cluster c) }))
        (sym (next_clocks setup cluster stamp c (next_command setup cluster c)))
        (rows.asks setup state clones cluster c stamp clocks valid keeps is
        (later stamp.time cluster.clocks (client.holds setup cluster c) before) are_set
        (subst (λ n. n < 2 ^ 32) (sym node) (node_small setup valid cluster c is (next_command setup cluster c))))

  -- with any cells held
  pub refuse_keeps : (cells : List Cell) → Keeps setup state clones (with_clocks stamp.time cells cluster)
      → KeepsTurns setup state (turn.Command c true ∷ mark_of cluster.control.decision cluster.control.decision)
      (with_clocks stamp.time cells (refused.change setup cluster c))
  refuse_keeps cells waited =
      subst (λ (marks : List Turn). KeepsTurns setup state (turn.Command c true ∷ marks) (with_clocks stamp.time cells (refused.change setup cluster c)))
      (sym (unmarked cluster.control.decision))
      (rows.refuses setup state clones (with_clocks stamp.time cells cluster) c waited is)
