-- All events of a schedule keep the invariant with their turns.
use Rattle.std.proofs.Common.{List, [], ◌∷◌, ◌++◌}
use Rattle.resh_cells.specs.declared.cluster.Cluster.{Cluster}
use Rattle.resh_client_rows.specs.Laws.{IsKept, KeepsTurns}
use Rattle.resh_events.specs.Opening.{opening}
use Rattle.resh_events.specs.Runs.{Moment, Run, after, after_all, opening_run}
use Rattle.resh_events.specs.Schedules.{IsSchedule}
use Rattle.resh_events.specs.Turns.{order_of, turns_of}
use Rattle.resh_model.specs.Orders.{AllowsAll, State, turned, walked}
use Rattle.resh_model.specs.Orders as orders
use Rattle.resh_setup.specs.Validity.{IsValid}
use Rattle.resh_setup.specs.declared.setup.Setup.{Setup}
use Rattle.resh_setup.specs.declared.turn.Turn.{Turn}
use Rattle.resh_invariant.specs.Laws.{OpensKept}
use Rattle.resh_invariant.specs.Sources.{told_clones}
use Rattle.resh_law.specs.Laws.{EveryScheduleKeeps}
use Rattle.resh_law.proofs.Moments.{AllRowsKeep, moment_keeps}

-- turns that may come, and more behind them
pub both_keep : (setup : Setup) (state : State) (first more : List Turn) (cluster : Cluster) → AllowsAll setup state first
    → KeepsTurns setup (walked setup state first) more cluster → KeepsTurns setup state (first ++ more) cluster
both_keep setup state [] more cluster allowed kept = kept
both_keep setup state (turn ∷ turns) more cluster allowed kept =
    let rest = both_keep setup (turned setup state turn) turns more cluster allowed.1 kept in
    ((allowed.0, rest.0), rest.1)

module _ (rows : AllRowsKeep) (setup : Setup) (valid : IsValid setup) where
  from_run : (state : State) (run : Run) (moments : List Moment) → IsKept setup state run.cluster → IsSchedule setup run moments
      → KeepsTurns setup state (order_of setup run moments) (after_all setup run moments).cluster
  unfolding after_all order_of
  from_run state run [] kept is = (tt, kept)
  from_run state run (m ∷ ms) kept is =
      let one = moment_keeps rows setup state run m valid kept is.0 in
      both_keep setup state (turns_of setup run m) (order_of setup (after setup run m) ms)
      (after_all setup (after setup run m) ms).cluster one.0
      (from_run (walked setup state (turns_of setup run m)) (after setup run m) ms one.1 is.1)

pub every_schedule_keeps : OpensKept → AllRowsKeep → EveryScheduleKeeps
every_schedule_keeps opens rows = record {
  moment = λ setup state run m valid kept is. moment_keeps rows setup state run m valid kept is;
  schedule = λ setup moments valid is.
      from_run rows setup valid (orders.opening setup) (opening_run setup) moments (told_clones (opening setup), opens setup valid) is;
}
