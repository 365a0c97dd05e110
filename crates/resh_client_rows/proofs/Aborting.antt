-- A client asks for an abort: where nothing is decided it is accepted, and the operation is dropped.
use Rattle.std.proofs.Common.{◌≡◌, ◌+◌, ℕ, true, false, cond, ◌∷◌, length, Option, Some, None, is_some, refl, sym, ap, subst, ◌∙◌}
use Rattle.resh_cells.specs.Cells.{on_control}
use Rattle.resh_cells.specs.declared.cluster.Clocks.{Clocks}
use Rattle.resh_cells.specs.declared.cluster.Cluster.{Cluster}
use Rattle.resh_command.specs.declared.command.Command.TheVariants.{Abort}
use Rattle.resh_command.specs.declared.reply.Reply.TheVariants.{AbortAccepted, AbortTooLate}
use Rattle.resh_coord.specs.Control.{aborted}
use Rattle.resh_coord.specs.declared.cause.Cause.{Cause}
use Rattle.resh_coord.specs.declared.cause.Cause.TheVariants.{Asked}
use Rattle.resh_coord.specs.declared.cause.End.{End}
use Rattle.resh_events.specs.Turns.{mark_of}
use Rattle.resh_events.specs.rows.Client as client
use Rattle.resh_events.specs.rows.Client.{abort_asked, abort_reply, next_number, with_reply}
use Rattle.resh_model.specs.Orders as orders
use Rattle.resh_model.specs.Orders.{State, asked, dropped, replied, replies_to, served}
use Rattle.resh_setup.specs.declared.setup.Setup.{Setup}
use Rattle.resh_setup.specs.declared.turn.Turn.TheVariants as turn
use Rattle.resh_control_rows.proofs.Dropping.{drop_keeps}
use Rattle.resh_invariant.specs.Frames.{AreLater}
use Rattle.resh_invariant.specs.Keeping.{Keeps}
use Rattle.resh_invariant.specs.Sources.{Clones}
use Rattle.resh_invariant.proofs.Framing.{clocks_keep}
use Rattle.resh_client_rows.specs.Laws.{KeepsTurns}
use Rattle.resh_client_rows.proofs.Asked.{allowed, is_ended, not_decided, was_kept}
use Rattle.resh_client_rows.proofs.Replying.{reply_keeps}

module _ (setup : Setup) (state : State) (clones : Clones) (cluster : Cluster) (keeps : Keeps setup state clones cluster) (c : ℕ) (may : client.may setup cluster c ≡ true)
    (clocks : Clocks) (rise : AreLater cluster.clocks clocks) (next : orders.next_command setup state c ≡ Some Abort) where
  abbrev cause : Cause
  cause = Asked c (next_number cluster c)

  -- the cluster after it, by what was decided
  abbrev by_end : Option End → Cluster
  by_end o = with_reply c (abort_reply o) (on_control (λ control. cond (is_some o) control (aborted cause control)) cluster)

  abbrev Goal : Option End → Type 0
  Goal o = KeepsTurns setup state (turn.Command c false ∷ mark_of o (by_end o).control.decision) (record (by_end o) { clocks = clocks })

  -- the order's state after the command
  abbrev turned : State
  turned = served c false (orders.next_command setup state c) state

  accepted : cluster.control.decision ≡ None → Goal None
  accepted none = (
    (
      allowed setup state clones cluster keeps c may false,
      (ap (λ (x : State). x.fate) turns ∙ ap (λ rs. asked c (length rs + 1)) (sym (was_kept setup state clones cluster keeps c may).answers), tt),
    ),
    (
      clones,
      subst (λ (x : State). Keeps setup (dropped cause x) clones (record (by_end None) { clocks = clocks })) (sym turns)
          (clocks_keep setup (replied c AbortAccepted (dropped cause state)) clones (by_end None)
          (reply_keeps setup (dropped cause state) clones (record cluster { control = aborted cause cluster.control }) (drop_keeps setup state clones cluster keeps cause none) c AbortAccepted)
          clocks rise),
    ),
  )
    where
      turns : turned ≡ replied c AbortAccepted (record state { fate = asked c (length (replies_to state c) + 1) })
      turns =
          ap (λ o. served c false o state) next
          ∙ ap (λ f. orders.abort_asked c f state) (not_decided cluster.control.phase cluster.control.decision state.fate none keeps.decided.stage)

  too_late : (end : End) → cluster.control.decision ≡ Some end → Goal (Some end)
  too_late end is = (
    (allowed setup state clones cluster keeps c may false, tt),
    (
      clones,
      subst (λ (x : State). Keeps setup x clones (record (by_end (Some end)) { clocks = clocks })) (sym turns)
          (clocks_keep setup (replied c AbortTooLate state) clones (by_end (Some end)) (reply_keeps setup state clones cluster keeps c AbortTooLate) clocks rise),
    ),
  )
    where
      turns : turned ≡ replied c AbortTooLate state
      turns =
          ap (λ o. served c false o state) next
          ∙ ap (λ f. orders.abort_asked c f state) (is_ended cluster.control.phase cluster.control.decision state.fate end is keeps.decided.stage).1

  by_decision : (o : Option End) → cluster.control.decision ≡ o → Goal o
  by_decision None none = accepted none
  by_decision (Some end) is = too_late end is

  pub abort_keeps : KeepsTurns setup state (turn.Command c false ∷ mark_of cluster.control.decision (abort_asked c cluster).control.decision) (record (abort_asked c cluster) { clocks = clocks })
  abort_keeps = by_decision cluster.control.decision refl
