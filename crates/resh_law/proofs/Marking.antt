-- An event with the mark that it decides.
use Rattle.std.proofs.Common.{◌≡◌, [], Option, Some, None, refl, sym, subst}
use Rattle.resh_cells.specs.declared.cluster.Cluster.{Cluster}
use Rattle.resh_client_rows.specs.Laws.{KeepsTurns}
use Rattle.resh_coord.specs.declared.cause.End.{End}
use Rattle.resh_events.specs.Turns.{mark_of}
use Rattle.resh_model.specs.Orders.{State}
use Rattle.resh_setup.specs.declared.setup.Setup.{Setup}
use Rattle.resh_invariant.specs.Keeping.{Keeps}
use Rattle.resh_invariant.specs.Sources.{Clones}

-- the invariant is kept with the mark, by what was decided before
abbrev pub KeepsMark : Setup → State → Option End → Cluster → Type 0
KeepsMark setup state before next = KeepsTurns setup state (mark_of before next.control.decision) next

-- what decides nothing is no turn
pub unmarked : (decision : Option End) → mark_of decision decision ≡ []
unmarked None = refl
unmarked (Some end) = refl

pub keeps_unmarked : (setup : Setup) (state : State) (before : Option End) (clones : Clones) (next : Cluster)
    → next.control.decision ≡ before → Keeps setup state clones next → KeepsMark setup state before next
keeps_unmarked setup state before clones next same keeps =
    subst (λ now. KeepsTurns setup state (mark_of before now) next) (sym same)
    (subst (λ turns. KeepsTurns setup state turns next) (sym (unmarked before)) (tt, (clones, keeps)))
