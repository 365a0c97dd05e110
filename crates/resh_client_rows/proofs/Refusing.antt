-- A client's command is refused for want of memory.
use Rattle.std.proofs.Common.{◌≡◌, ℕ, true, [], ◌∷◌, Option, Some, None, is_some, refl, sym, ap, subst, ◌∙◌}
use Rattle.resh_cells.specs.declared.cluster.Cluster.{Cluster}
use Rattle.resh_command.specs.declared.command.Command.{Command}
use Rattle.resh_command.specs.declared.reply.Reply.TheVariants.{NoMemory}
use Rattle.resh_events.specs.rows.Client as client
use Rattle.resh_events.specs.rows.Refused as refused
use Rattle.resh_model.specs.Orders as orders
use Rattle.resh_model.specs.Orders.{State, replied, served}
use Rattle.resh_setup.specs.declared.setup.Setup.{Setup}
use Rattle.resh_setup.specs.declared.turn.Turn.TheVariants as turn
use Rattle.resh_invariant.specs.Keeping.{Keeps}
use Rattle.resh_invariant.specs.Sources.{Clones}
use Rattle.resh_invariant.proofs.Ones.{never}
use Rattle.resh_client_rows.specs.Laws.{KeepsTurns}
use Rattle.resh_client_rows.proofs.Asked.{allowed, same_next}
use Rattle.resh_client_rows.proofs.Replying.{reply_keeps}

module _ (setup : Setup) (state : State) (clones : Clones) (cluster : Cluster) (keeps : Keeps setup state clones cluster) (c : ℕ) (may : client.may setup cluster c ≡ true) where
  -- the order replies so
  refuses : (o : Option Command) → is_some o ≡ true → served c true o state ≡ replied c NoMemory state
  refuses None h = never (sym h)
  refuses (Some command) h = refl

  pub refuse_keeps : KeepsTurns setup state (turn.Command c true ∷ []) (refused.change setup cluster c)
  refuse_keeps = (
    (allowed setup state clones cluster keeps c may true, tt),
    (
      clones,
      subst (λ (x : State). Keeps setup x clones (refused.change setup cluster c))
          (sym (refuses (orders.next_command setup state c) (ap is_some (same_next setup state clones cluster keeps c may) ∙ may)))
          (reply_keeps setup state clones cluster keeps c NoMemory),
    ),
  )
