-- The law over every schedule.
use Rattle.std.specs.Prelude.{◌≡◌, true, List, map, Some}
use Rattle.resh_bag.specs.Bag.{Document}
use Rattle.resh_cells.specs.declared.cluster.Cluster.{Cluster}
use Rattle.resh_command.specs.declared.reply.Reply.{Reply}
use Rattle.resh_coord.specs.declared.cause.End.{End}
use Rattle.resh_events.specs.Runs.{Moment, Run, after, after_all, opening_run}
use Rattle.resh_events.specs.Schedules.{IsSchedule, Stands}
use Rattle.resh_events.specs.Sweep.{is_over}
use Rattle.resh_events.specs.Turns.{order_of, turns_of}
use Rattle.resh_model.specs.Orders.{IsLawful, State, holdings_of, last_state, opening}
use Rattle.resh_setup.specs.Validity.{IsValid}
use Rattle.resh_setup.specs.declared.setup.Setup.{Setup}
use Rattle.resh_setup.specs.declared.turn.Turn.{Turn}
use Rattle.resh_shard.specs.Shards.{documents_of}
use Rattle.resh_client_rows.specs.Laws.{IsKept, KeepsTurns}

-- what each client was answered, and what each shard holds
abbrev pub replies_in : Cluster → List (List Reply)
replies_in cluster = map (λ c. c.replies) cluster.clients

abbrev pub holdings_in : Cluster → List (List Document)
holdings_in cluster = map (λ c. documents_of c.shard) cluster.shards

pub record EveryScheduleKeeps : Type 0 where
  -- an event that may be made keeps the invariant with its turns, which may come
  pub moment : (setup : Setup) (state : State) (run : Run) (m : Moment) → IsValid setup
      → IsKept setup state run.cluster → Stands setup run m
      → KeepsTurns setup state (turns_of setup run m) (after setup run m).cluster
  -- and so do all events from the opening state on
  pub schedule : (setup : Setup) (moments : List Moment) → IsValid setup
      → IsSchedule setup (opening_run setup) moments
      → KeepsTurns setup (opening setup) (order_of setup (opening_run setup) moments)
      (after_all setup (opening_run setup) moments).cluster

-- at its end a schedule is the walk of its order
pub record IsWalkOf (setup : Setup) (cluster : Cluster) (order : List Turn) : Type 0 where
  pub end : End
  pub decided : cluster.control.decision ≡ Some end
  pub lawful : IsLawful setup order end
  pub replies : replies_in cluster ≡ (last_state setup order).answers
  pub holdings : holdings_in cluster ≡ holdings_of (last_state setup order)

-- where the coordinator is done and no command is left
abbrev pub SchedulesEnd : Type 0
SchedulesEnd = (setup : Setup) (moments : List Moment) → IsValid setup → IsSchedule setup (opening_run setup) moments
    → is_over setup (after_all setup (opening_run setup) moments).cluster ≡ true
    → IsWalkOf setup (after_all setup (opening_run setup) moments).cluster
    (order_of setup (opening_run setup) moments)

-- two schedules that end with one order have answered the same, and hold the same
abbrev pub OrdersDecide : Type 0
OrdersDecide = (setup : Setup) (one other : List Moment) → IsValid setup → IsSchedule setup (opening_run setup) one
    → IsSchedule setup (opening_run setup) other
    → is_over setup (after_all setup (opening_run setup) one).cluster ≡ true
    → is_over setup (after_all setup (opening_run setup) other).cluster ≡ true
    → order_of setup (opening_run setup) one ≡ order_of setup (opening_run setup) other
    → (replies_in (after_all setup (opening_run setup) one).cluster
    ≡ replies_in (after_all setup (opening_run setup) other).cluster)
    × (holdings_in (after_all setup (opening_run setup) one).cluster
    ≡ holdings_in (after_all setup (opening_run setup) other).cluster)
