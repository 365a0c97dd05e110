-- A failure is heard.
use Rattle.std.proofs.Common.{◌≡◌, ℕ, true, cond, List, Option, Some, None, refl, sym, ap, subst, ◌∙◌}
use Rattle.std.specs.Prelude.{is_some}
use Rattle.resh_cells.specs.Clocks.{with_clocks}
use Rattle.resh_cells.specs.declared.cell.Cell.{Cell}
use Rattle.resh_cells.specs.declared.cluster.Cluster.{Cluster}
use Rattle.resh_client_rows.specs.Laws.{KeepsTurns}
use Rattle.resh_coord.specs.Control.{Control, aborted, unless_decided}
use Rattle.resh_coord.specs.declared.cause.Cause.{Cause}
use Rattle.resh_coord.specs.declared.cause.Cause.TheVariants as cause
use Rattle.resh_coord.specs.declared.cause.End.{End}
use Rattle.resh_coord.specs.declared.phase.Phase.{Phase}
use Rattle.resh_coord.specs.declared.phase.Phase.TheVariants as phase
use Rattle.resh_events.specs.Turns.{mark_of}
use Rattle.resh_events.specs.rows.Fail as fail
use Rattle.resh_model.specs.Orders.{AllowsDrop, Fate, State, undecided}
use Rattle.resh_setup.specs.declared.setup.Setup.{Setup}
use Rattle.resh_invariant.specs.Courses.{IsStage}
use Rattle.resh_invariant.specs.Keeping.{Keeps}
use Rattle.resh_invariant.specs.Sources.{Clones}
use Rattle.resh_invariant.proofs.Ones.{never}
use Rattle.resh_control_rows.specs.Laws.{ControlRowsKeep, after_failure}
use Rattle.resh_law.proofs.Marking.{KeepsMark}

some_none : {X : Type 0} (x : X) → Some x ≡ None → ⊥
some_none x e = cc

-- where nothing is decided, the order has decided nothing
none_decided : (p : Phase) (decision : Option End) (fate : Fate) → decision ≡ None → IsStage p decision fate → fate ≡ undecided
none_decided phase.Initializing decision fate none stage = stage.1
none_decided phase.PreparingToDonate decision fate none stage = stage.1
none_decided phase.Cloning decision fate none stage = stage.1
none_decided phase.Applying decision fate none stage = stage.1
none_decided phase.BlockingWrites decision fate none stage = stage.1
none_decided phase.Committing decision fate none stage = absurd (some_none _ (sym stage.0 ∙ none))
none_decided phase.Aborting decision fate none stage = absurd (some_none _ (sym stage.1 ∙ none))
none_decided phase.Done decision fate none stage = absurd (some_none _ (sym stage.1 ∙ none))

failure_allowed : (setup : Setup) (state : State) (named : Option fail.Link) (why : Cause) → fail.may named why ≡ true
    → state.fate ≡ undecided → AllowsDrop setup state why
failure_allowed setup state named (cause.Failed node why) is none = none
failure_allowed setup state named cause.NoMemory is none = none
failure_allowed setup state named (cause.Clash shard id) is none = never (sym is)
failure_allowed setup state named (cause.Asked client number) is none = never (sym is)

module _ (time : ℕ) (cells : List Cell) (cluster : Cluster) (why : Cause) where
  fail_set : (named : Option fail.Link) → fail.change (with_clocks time cells cluster) named why
      ≡ with_clocks time cells (fail.change cluster named why)
  fail_set None = refl
  fail_set (Some named) = refl

  fail_control : (named : Option fail.Link) → (fail.change cluster named why).control ≡ unless_decided why cluster.control
  fail_control None = refl
  fail_control (Some named) = refl

-- what it decides
decides : (why : Cause) (control : Control) (decision : Option End) → control.decision ≡ decision
    → mark_of control.decision (unless_decided why control).decision
    ≡ mark_of decision (cond (is_some decision) control (aborted why control)).decision
decides why control decision e = ap (λ d. mark_of d (cond (is_some d) control (aborted why control)).decision) e

module _ (rows : ControlRowsKeep) (setup : Setup) (state : State) (clones : Clones) (cluster : Cluster) (time : ℕ) (cells : List Cell)
    (waited : Keeps setup state clones (with_clocks time cells cluster)) (named : Option fail.Link) (why : Cause)
    (is : fail.may named why ≡ true) where
  abbrev next : Cluster
  next = with_clocks time cells (fail.change cluster named why)

  turns : (decision : Option End) → cluster.control.decision ≡ decision
      → mark_of decision (cond (is_some decision) cluster.control (aborted why cluster.control)).decision
      ≡ mark_of cluster.control.decision next.control.decision
  turns decision e =
      sym (ap (λ (control : Control). mark_of cluster.control.decision control.decision) (fail_control time cells cluster why named)
      ∙ decides why cluster.control decision e)

  kept : (decision : Option End) → cluster.control.decision ≡ decision → Keeps setup (after_failure decision why state) clones next
  kept decision e =
      subst (λ d. Keeps setup (after_failure d why state) clones next) e
      (subst (λ x. Keeps setup (after_failure cluster.control.decision why state) clones x) (fail_set time cells cluster why named)
      (rows.fail setup state clones (with_clocks time cells cluster) named why waited))

  by : (decision : Option End) → cluster.control.decision ≡ decision → KeepsMark setup state cluster.control.decision next
  by None e =
      let none = none_decided cluster.control.phase cluster.control.decision state.fate e waited.decided.stage in
      subst (λ ts. KeepsTurns setup state ts next) (turns None e)
      ((failure_allowed setup state named why is none, tt), (clones, kept None e))
  by (Some end) e = subst (λ ts. KeepsTurns setup state ts next) (turns (Some end) e) (tt, (clones, kept (Some end) e))

  pub fail_keeps : KeepsMark setup state cluster.control.decision (with_clocks time cells (fail.change cluster named why))
  fail_keeps = by cluster.control.decision refl
