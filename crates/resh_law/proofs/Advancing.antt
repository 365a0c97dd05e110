-- The coordinator begins, and leaves its phases.
use Rattle.std.proofs.Common.{◌≡◌, ℕ, Bool, true, false, cond, [], ◌∷◌, None, refl, sym, ap, subst, ◌∙◌}
use Rattle.resh_cells.specs.Clocks.{with_clocks}
use Rattle.resh_cells.specs.declared.cell.Cell.TheVariants as cell
use Rattle.resh_cells.specs.declared.cluster.Cluster.{Cluster}
use Rattle.resh_client_rows.specs.Laws.{KeepsTurns}
use Rattle.resh_coord.specs.Control.{Control, advanced, begins, begun, left, may_advance, may_leave, with_phase}
use Rattle.resh_coord.specs.declared.phase.Phase.{Phase}
use Rattle.resh_coord.specs.declared.phase.Phase.TheVariants as phase
use Rattle.resh_events.specs.Turns.{mark_of}
use Rattle.resh_events.specs.rows.Advance as advance
use Rattle.resh_events.specs.rows.Begin as begin
use Rattle.resh_model.specs.Orders.{State}
use Rattle.resh_setup.specs.Validity.{IsValid}
use Rattle.resh_setup.specs.declared.setup.Setup.{Setup}
use Rattle.resh_stamp.specs.declared.stamp.Stamp.{Stamp}
use Rattle.resh_invariant.specs.Courses.{IsStage}
use Rattle.resh_invariant.specs.Keeping.{Keeps}
use Rattle.resh_invariant.specs.Sources.{Clones, told_clones}
use Rattle.resh_invariant.proofs.Ones.{never}
use Rattle.resh_control_rows.specs.Laws.{ControlRowsKeep, is_plain}
use Rattle.resh_mark_rows.specs.Laws.{MarkRowsKeep, mark_by}
use Rattle.resh_law.proofs.Marking.{KeepsMark, keeps_unmarked}

begun_decides : (control : Control) → (begun control).decision ≡ control.decision
begun_decides control = by (begins control.phase)
  where
    by : (t : Bool) → (cond t (with_phase phase.PreparingToDonate control) control).decision ≡ control.decision
    by true = refl
    by false = refl

left_decides : (p : Phase) (time : ℕ) (control : Control) → is_plain p ≡ true → (left p time control).decision ≡ control.decision
left_decides phase.Initializing time control plain = refl
left_decides phase.PreparingToDonate time control plain = refl
left_decides phase.Cloning time control plain = refl
left_decides phase.Applying time control plain = refl
left_decides phase.BlockingWrites time control plain = never (sym plain)
left_decides phase.Committing time control plain = refl
left_decides phase.Aborting time control plain = refl
left_decides phase.Done time control plain = refl

-- a phase that may be left is left
advanced_is : (time : ℕ) (control : Control) (p : Phase) → may_advance control ≡ true → control.phase ≡ p
    → (advanced time control).decision ≡ (left p time control).decision
advanced_is time control p is e =
    ap (λ t. (cond t (left control.phase time control) control).decision) is ∙ ap (λ q. (left q time control).decision) e

module _ (control_rows : ControlRowsKeep) (mark_rows : MarkRowsKeep) (setup : Setup) (valid : IsValid setup) (state : State)
    (clones : Clones) (cluster : Cluster) (stamp : Stamp)
    (waited : Keeps setup state clones (with_clocks stamp.time (cell.Coordinator ∷ []) cluster)) where
  abbrev waiting : Cluster
  waiting = with_clocks stamp.time (cell.Coordinator ∷ []) cluster

  pub begin_keeps : begin.may cluster ≡ true
      → KeepsMark setup state cluster.control.decision (with_clocks stamp.time (cell.Coordinator ∷ []) (begin.change cluster))
  begin_keeps is =
      keeps_unmarked setup state cluster.control.decision clones (with_clocks stamp.time (cell.Coordinator ∷ []) (begin.change cluster))
      (begun_decides cluster.control) (control_rows.begin setup state clones waiting waited is)

  module _ (is : advance.may cluster ≡ true) where
    abbrev next : Cluster
    next = with_clocks stamp.time (cell.Coordinator ∷ []) (advance.change stamp cluster)

    decides : (p : Phase) → cluster.control.phase ≡ p → is_plain p ≡ true → next.control.decision ≡ cluster.control.decision
    decides p e plain = advanced_is stamp.time cluster.control p is e ∙ left_decides p stamp.time cluster.control plain

    plainly : (p : Phase) → cluster.control.phase ≡ p → is_plain p ≡ true → KeepsMark setup state cluster.control.decision next
    plainly p e plain =
        keeps_unmarked setup state cluster.control.decision clones next (decides p e plain)
        (control_rows.advance setup state clones waiting stamp waited is (subst (λ q. is_plain q ≡ true) (sym e) plain))

    stays : {A : Type 0} (p : Phase) → cluster.control.phase ≡ p
        → may_leave p cluster.control.told cluster.control.reported ≡ false → A
    stays p e off = never (sym (subst (λ q. may_leave q cluster.control.told cluster.control.reported ≡ true) e is) ∙ off)

    -- the fetch time, and the mark
    fetches : cluster.control.phase ≡ phase.PreparingToDonate → KeepsMark setup state cluster.control.decision next
    fetches e =
        keeps_unmarked setup state cluster.control.decision (told_clones (advance.change stamp waiting)) next
        (advanced_is stamp.time cluster.control phase.PreparingToDonate is e)
        (mark_rows.fetch_time setup state clones waiting stamp waited is e refl)

    marks : cluster.control.phase ≡ phase.BlockingWrites → KeepsMark setup state cluster.control.decision next
    marks e =
        let stage : IsStage phase.BlockingWrites cluster.control.decision state.fate =
        subst (λ p. IsStage p cluster.control.decision state.fate) e waited.decided.stage in
        let kept = mark_rows.mark setup state clones waiting stamp valid waited is e in
        let turns : mark_by cluster.control ≡ mark_of cluster.control.decision next.control.decision =
        ap (λ now. mark_of None now) (sym (advanced_is stamp.time cluster.control phase.BlockingWrites is e))
        ∙ ap (λ before. mark_of before next.control.decision) (sym stage.0) in
        subst (λ ts. KeepsTurns setup state ts next) turns (kept.0, (clones, kept.1))

    by_phase : (p : Phase) → cluster.control.phase ≡ p → KeepsMark setup state cluster.control.decision next
    by_phase phase.Initializing e = stays phase.Initializing e refl
    by_phase phase.PreparingToDonate e = fetches e
    by_phase phase.Cloning e = plainly phase.Cloning e refl
    by_phase phase.Applying e = plainly phase.Applying e refl
    by_phase phase.BlockingWrites e = marks e
    by_phase phase.Committing e = plainly phase.Committing e refl
    by_phase phase.Aborting e = plainly phase.Aborting e refl
    by_phase phase.Done e = stays phase.Done e refl

    pub advance_keeps : KeepsMark setup state cluster.control.decision
        (with_clocks stamp.time (cell.Coordinator ∷ []) (advance.change stamp cluster))
    advance_keeps = by_phase cluster.control.phase refl
