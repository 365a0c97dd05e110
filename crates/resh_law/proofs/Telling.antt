-- A shard is told something.
use Rattle.std.proofs.Common.{◌≡◌, ◌≤◌, ◌<◌, ◌^◌, ℕ, true, false, not, nat_lt, List, ◌∷◌, length, Option, Some, None, refl, sym, subst, ◌∙◌, arith}
use Rattle.std.specs.Prelude.{is_some}
use Rattle.resh_cells.specs.Clocks.{clock_of, with_clocks}
use Rattle.resh_cells.specs.declared.cell.Cell.{Cell}
use Rattle.resh_cells.specs.declared.cell.Cell.TheVariants as cell
use Rattle.resh_cells.specs.declared.cluster.Clocks.{Clocks}
use Rattle.resh_cells.specs.declared.cluster.Cluster.{Cluster}
use Rattle.resh_coord.specs.Control.{is_true_at, may_tell, message_in, message_of}
use Rattle.resh_coord.specs.declared.phase.Phase.{Phase}
use Rattle.resh_coord.specs.declared.phase.Phase.TheVariants as phase
use Rattle.resh_events.specs.rows.Tell as tell
use Rattle.resh_model.specs.Orders.{State}
use Rattle.resh_progress.specs.declared.message.Message.{Message}
use Rattle.resh_progress.specs.declared.message.Message.TheVariants.{Prepare, Donate, Block, Install, Release}
use Rattle.resh_setup.specs.Validity.{IsValid}
use Rattle.resh_setup.specs.declared.setup.Setup.{Setup}
use Rattle.resh_stamp.specs.declared.stamp.Stamp.{Stamp}
use Rattle.resh_invariant.specs.Keeping.{Keeps}
use Rattle.resh_invariant.specs.Sources.{Clones}
use Rattle.resh_invariant.proofs.Framing.{there_set}
use Rattle.resh_invariant.proofs.Ones.{both, never}
use Rattle.resh_tell_rows.specs.Laws.{TellRowsKeep}
use Rattle.resh_tell_rows.proofs.Marking.{tests}
use Rattle.resh_law.proofs.Clocks.{AreBefore, later, set_to, stays_set}
use Rattle.resh_law.proofs.Marking.{KeepsMark, keeps_unmarked}

module _ (stamp : Stamp) (cells : List Cell) (s : ℕ) (cluster : Cluster) where
  -- clocks are set before or after
  told_set : (message : Option Message) → tell.told_if stamp s message (with_clocks stamp.time cells cluster)
      ≡ with_clocks stamp.time cells (tell.told_if stamp s message cluster)
  told_set None = refl
  told_set (Some Prepare) = refl
  told_set (Some (Donate time)) = refl
  told_set (Some Block) = refl
  told_set (Some Install) = refl
  told_set (Some Release) = refl

  told_with : (message : Option Message)
      → record (tell.told_if stamp s message cluster) { clocks = set_to stamp.time cluster.clocks cells }
      ≡ with_clocks stamp.time cells (tell.told_if stamp s message cluster)
  told_with None = refl
  told_with (Some Prepare) = refl
  told_with (Some (Donate time)) = refl
  told_with (Some Block) = refl
  told_with (Some Install) = refl
  told_with (Some Release) = refl

  -- nothing is decided by it
  told_decides : (message : Option Message) → (tell.told_if stamp s message cluster).control.decision ≡ cluster.control.decision
  told_decides None = refl
  told_decides (Some Prepare) = refl
  told_decides (Some (Donate time)) = refl
  told_decides (Some Block) = refl
  told_decides (Some Install) = refl
  told_decides (Some Release) = refl

equal : (a b c : ℕ) → a ≡ c → b ≡ c → a ≤ b
equal a b c one other = omega arith

later_than : (a b c : ℕ) → a ≤ b → b < c → a < c
later_than a b c le lt = omega arith

no_node : 0 < 2 ^ 32
no_node = omega arith

module _ (rows : TellRowsKeep) (setup : Setup) (valid : IsValid setup) (state : State) (clones : Clones) (cluster : Cluster)
    (keeps : Keeps setup state clones cluster) (stamp : Stamp) (rest : List Cell) (s : ℕ)
    (before : AreBefore stamp.time cluster.clocks (cell.Coordinator ∷ cell.Shard s ∷ rest))
    (waited : Keeps setup state clones (with_clocks stamp.time (cell.Coordinator ∷ cell.Shard s ∷ rest) cluster))
    (node : stamp.node ≡ 0) (is : tell.may cluster s ≡ true) where
  abbrev cells : List Cell
  cells = cell.Coordinator ∷ cell.Shard s ∷ rest

  abbrev clocks : Clocks
  clocks = set_to stamp.time cluster.clocks cells

  abbrev waiting : Cluster
  waiting = with_clocks stamp.time cells cluster

  abbrev next : Cluster
  next = with_clocks stamp.time cells (tell.change stamp cluster s)

  in_clocks : s < length cluster.clocks.shards
  in_clocks = subst (λ n. s < n) (sym keeps.clock_count) (tests setup state clones cluster keeps s is).0

  control_set : clock_of clocks cell.Coordinator ≡ stamp.time
  control_set = stays_set stamp.time _ rest cell.Coordinator refl

  own_set : clock_of clocks (cell.Shard s) ≡ stamp.time
  own_set = stays_set stamp.time _ rest (cell.Shard s) (there_set cluster.clocks.shards s stamp.time 0 in_clocks)

  fetched : cluster.control.fetch_time < stamp.time
  fetched = later_than cluster.control.fetch_time (clock_of cluster.clocks cell.Coordinator) stamp.time keeps.decided.fetch before.0

  -- a phase without a message
  speaks : is_some (message_of cluster.control) ≡ true
  speaks =
      let may = both (may_tell cluster.control s) (not (is_true_at cluster.control.told s)) is in
      (both (is_some (message_of cluster.control)) (nat_lt s (length cluster.control.told)) may.0).0

  silent : {A : Type 0} (p : Phase) → cluster.control.phase ≡ p → is_some (message_in p cluster.control.fetch_time) ≡ false → A
  silent p e off = never (sym (subst (λ q. is_some (message_in q cluster.control.fetch_time) ≡ true) e speaks) ∙ off)

  set_before : Keeps setup state clones (tell.change stamp waiting s) → Keeps setup state clones next
  set_before told = subst (λ x. Keeps setup state clones x) (told_set stamp cells s cluster (message_of cluster.control)) told

  by_phase : (p : Phase) → cluster.control.phase ≡ p → Keeps setup state clones next
  by_phase phase.Initializing e = silent phase.Initializing e refl
  by_phase phase.PreparingToDonate e =
      set_before (rows.prepare setup state clones waiting s stamp waited e is (equal _ _ stamp.time own_set control_set))
  by_phase phase.Cloning e =
      set_before (rows.donate setup state clones waiting s stamp waited e is (equal _ _ stamp.time control_set own_set))
  by_phase phase.Applying e = silent phase.Applying e refl
  by_phase phase.BlockingWrites e =
      subst (λ x. Keeps setup state clones x) (told_with stamp cells s cluster (message_of cluster.control))
      (rows.block setup state clones cluster s stamp clocks valid keeps e is (later stamp.time cluster.clocks cells before)
      before.0 before.1.0 own_set (subst (λ n. n < 2 ^ 32) (sym node) no_node))
  by_phase phase.Committing e = set_before (rows.install setup state clones waiting s stamp valid waited e is own_set fetched)
  by_phase phase.Aborting e = set_before (rows.release setup state clones waiting s stamp waited e is own_set)
  by_phase phase.Done e = silent phase.Done e refl

  pub tell_keeps : KeepsMark setup state cluster.control.decision next
  tell_keeps =
      keeps_unmarked setup state cluster.control.decision clones next (told_decides stamp cells s cluster (message_of cluster.control))
      (by_phase cluster.control.phase refl)
