-- What a client asks next is the same in the order and in the table, and the order may take it.
use Rattle.std.proofs.Common.{◌≡◌, ◌<◌, ℕ, zero, suc, Bool, true, List, [], ◌∷◌, length, Option, Some, None, is_some, sym, ap, subst, ◌∙◌, arith}
use Rattle.std.specs.List.{slice_get}
use Rattle.resh_cells.specs.Cells.{client_in}
use Rattle.resh_cells.specs.declared.cluster.Cluster.{Cluster}
use Rattle.resh_command.specs.declared.command.Command.{Command}
use Rattle.resh_coord.specs.declared.cause.End.{End}
use Rattle.resh_coord.specs.declared.cause.End.TheVariants.{Committed, Aborted}
use Rattle.resh_coord.specs.declared.phase.Phase.{Phase}
use Rattle.resh_coord.specs.declared.phase.Phase.TheVariants as phase
use Rattle.resh_events.specs.Targets.{next_command}
use Rattle.resh_events.specs.rows.Client as client
use Rattle.resh_model.specs.Orders as orders
use Rattle.resh_model.specs.Orders.{Allows, Fate, HasNext, IsFree, State, commands_of, ended, replies_to, undecided}
use Rattle.resh_setup.specs.declared.client.Client.{Client}
use Rattle.resh_setup.specs.declared.setup.Setup.{Setup}
use Rattle.resh_setup.specs.declared.turn.Turn.TheVariants as turn
use Rattle.resh_invariant.specs.Courses.{IsStage}
use Rattle.resh_invariant.specs.Keeping.{IsClientKept, Keeps}
use Rattle.resh_invariant.specs.Sources.{Clones}
use Rattle.resh_invariant.proofs.Ones.{never}

some_none : {X : Type 0} (x : X) → Some x ≡ None → ⊥
some_none x e = cc

-- no abort waits for its drop; nothing is decided of the order where nothing is of the table, and else its end is
is_free : (p : Phase) (decision : Option End) (fate : Fate) → IsStage p decision fate → IsFree fate
is_free phase.Initializing decision fate stage = subst IsFree (sym stage.1) tt
is_free phase.PreparingToDonate decision fate stage = subst IsFree (sym stage.1) tt
is_free phase.Cloning decision fate stage = subst IsFree (sym stage.1) tt
is_free phase.Applying decision fate stage = subst IsFree (sym stage.1) tt
is_free phase.BlockingWrites decision fate stage = subst IsFree (sym stage.1) tt
is_free phase.Committing decision fate stage = subst IsFree (sym stage.1) tt
is_free phase.Aborting decision fate stage = subst IsFree (sym stage.2) tt
is_free phase.Done decision fate stage = subst IsFree (sym stage.2) tt

pub not_decided : (p : Phase) (decision : Option End) (fate : Fate) → decision ≡ None → IsStage p decision fate → fate ≡ undecided
not_decided phase.Initializing decision fate none stage = stage.1
not_decided phase.PreparingToDonate decision fate none stage = stage.1
not_decided phase.Cloning decision fate none stage = stage.1
not_decided phase.Applying decision fate none stage = stage.1
not_decided phase.BlockingWrites decision fate none stage = stage.1
not_decided phase.Committing decision fate none stage = absurd (some_none _ (sym stage.0 ∙ none))
not_decided phase.Aborting decision fate none stage = absurd (some_none _ (sym stage.1 ∙ none))
not_decided phase.Done decision fate none stage = absurd (some_none _ (sym stage.1 ∙ none))

pub is_ended : (p : Phase) (decision : Option End) (fate : Fate) (end : End) → decision ≡ Some end → IsStage p decision fate → (other : End) × (fate ≡ ended other)
is_ended phase.Initializing decision fate end is stage = absurd (some_none end (sym is ∙ stage.0))
is_ended phase.PreparingToDonate decision fate end is stage = absurd (some_none end (sym is ∙ stage.0))
is_ended phase.Cloning decision fate end is stage = absurd (some_none end (sym is ∙ stage.0))
is_ended phase.Applying decision fate end is stage = absurd (some_none end (sym is ∙ stage.0))
is_ended phase.BlockingWrites decision fate end is stage = absurd (some_none end (sym is ∙ stage.0))
is_ended phase.Committing decision fate end is stage = (Committed, stage.1)
is_ended phase.Aborting decision fate end is stage = (Aborted stage.0, stage.2)
is_ended phase.Done decision fate end is stage = (stage.0, stage.2)

first : (b : ℕ) → 0 < suc b
first b = omega arith

later : (a b : ℕ) → a < b → suc a < suc b
later a b lt = omega arith

-- who asks is a client
client_there : (cs : List Client) (c n : ℕ) → is_some (slice_get (commands_of (slice_get cs c)) n) ≡ true → c < length cs
client_there [] c n h = never (sym h)
client_there (x ∷ cs) zero n h = first (length cs)
client_there (x ∷ cs) (suc c) n h = later c (length cs) (client_there cs c n h)

module _ (setup : Setup) (state : State) (clones : Clones) (cluster : Cluster) (keeps : Keeps setup state clones cluster) (c : ℕ) (may : client.may setup cluster c ≡ true) where
  pub client_in_setup : c < length setup.clients
  client_in_setup = client_there setup.clients c (length (client_in cluster c).replies) may

  pub was_kept : IsClientKept cluster.control.decision (replies_to state c) (client_in cluster c)
  was_kept = keeps.clients c client_in_setup

  pub same_next : orders.next_command setup state c ≡ next_command setup cluster c
  same_next = ap (λ rs. slice_get (commands_of (slice_get setup.clients c)) (length rs)) (sym was_kept.answers)

  has_next : HasNext (orders.next_command setup state c)
  has_next = by (orders.next_command setup state c) (ap is_some same_next ∙ may)
    where
      by : (o : Option Command) → is_some o ≡ true → HasNext o
      by None h = never (sym h)
      by (Some command) h = tt

  pub allowed : (refused : Bool) → Allows setup state (turn.Command c refused)
  allowed refused = (is_free cluster.control.phase cluster.control.decision state.fate keeps.decided.stage, has_next)
