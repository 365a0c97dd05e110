-- A step leaves a core sound, by the law over every schedule.
use Rattle.std.proofs.Common.{List, [], ◌∷◌, ◌++◌, sym, subst, append_assoc}
use Rattle.resh_setup.specs.declared.event.Event.{Event}
use Rattle.resh_setup.specs.declared.setup.Setup.{Setup}
use Rattle.resh_setup.specs.declared.turn.Turn.{Turn}
use Rattle.resh_model.specs.Orders.{State as Collection, opening, walked}
use Rattle.resh_events.specs.Lucks.{Lucks}
use Rattle.resh_events.specs.Runs.{Moment, Run, after, after_all, cells_of}
use Rattle.resh_events.specs.Schedules.{IsSchedule, Stands}
use Rattle.resh_events.specs.Steps.{IsStep, Line, idles, makes}
use Rattle.resh_events.specs.Turns.{order_of, turns_of}
use Rattle.resh_keeping.proofs.Kept.{clocks_keep, keeps as keeps_cluster}
use Rattle.resh_ending.proofs.Shaping.{clocks_keep as clocks_keep_shape, shapes_keep}
use Rattle.resh_rounds.proofs.Running.{stays_running}
use Rattle.resh_leading.specs.Laws.{StaysLeading}
use Rattle.resh_law.specs.Laws.{EveryScheduleKeeps}
use Rattle.resh_law.proofs.Schedules.{both_keep}
use Rattle.resh_core.specs.Cores.{HasStepped, IsSound, run_of}
use Rattle.resh_core.specs.Making.{core_of}
use Rattle.resh_core.specs.declared.making.State.{State}
use Rattle.resh_core.proofs.ListLaws.{append_none}

module _ (keeps : EveryScheduleKeeps) (stays : StaysLeading) (setup : Setup) where
  moment_sound : (order : List Turn) (run : Run) (m : Moment) → IsSound setup order run.cluster → Stands setup run m
      → IsSound setup (order ++ turns_of setup run m) (after setup run m).cluster
  unfolding after
  moment_sound order run m sound stands =
      let last : Collection = walked setup (opening setup) order in
      record {
        valid = sound.valid;
        of = clocks_keep setup m.made.stamp.time (cells_of setup run m.made.event m.made.met) _
            (keeps_cluster setup m.made.stamp run.cluster m.made.event m.given.piece m.made.met sound.of);
        shaped = clocks_keep_shape setup m.made.stamp.time (cells_of setup run m.made.event m.made.met) _
            (shapes_keep setup m.made.stamp run.cluster m.made.event m.given.piece m.made.met sound.shaped);
        running = stays_running setup run m sound.running;
        leads = stays setup last sound.turns.1.0 run m sound.valid sound.turns.1.1 sound.leads stands;
        turns = both_keep setup (opening setup) order (turns_of setup run m) (after setup run m).cluster sound.turns.0
            (keeps.moment setup last run m sound.valid sound.turns.1 stands);
      }

  moments_sound : (order : List Turn) (run : Run) (ms : List Moment) → IsSound setup order run.cluster → IsSchedule setup run ms
      → IsSound setup (order ++ order_of setup run ms) (after_all setup run ms).cluster
  unfolding after_all order_of
  moments_sound order run [] sound is = subst (λ (o : List Turn). IsSound setup o run.cluster) (sym (append_none order)) sound
  moments_sound order run (m ∷ ms) sound is =
      subst (λ (o : List Turn). IsSound setup o (after_all setup (after setup run m) ms).cluster)
      (append_assoc order (turns_of setup run m) (order_of setup (after setup run m) ms))
      (moments_sound (order ++ turns_of setup run m) (after setup run m) ms (moment_sound order run m sound is.0) is.1)

  step_sound : (order : List Turn) (run : Run) (e : Event) (ms : List Moment) (lines : List Line) → IsStep setup run e ms lines
      → IsSound setup order run.cluster → IsSound setup (order ++ order_of setup run ms) (after_all setup run ms).cluster
  step_sound order run e ms lines (idles cannot none shown) sound =
      subst (λ (x : List Moment). IsSound setup (order ++ order_of setup run x) (after_all setup run x).cluster) (sym none)
      (moments_sound order run [] sound tt)
  step_sound order run e ms lines (makes met can answers is schedule shown) sound = moments_sound order run ms sound schedule

pub sound_stepped : EveryScheduleKeeps → StaysLeading → (setup : Setup) (old new : State) (before later : Lucks) (e : Event)
    (lines : List Line) → IsSound setup old.order old.cluster
    → HasStepped (core_of setup old) before e lines (core_of setup new) later → IsSound setup new.order new.cluster
sound_stepped keeps stays setup old new before later e lines sound h =
    let run : Run = run_of (core_of setup old) before in
    subst (λ (o : List Turn). IsSound setup o new.cluster) (sym h.made.order)
    (subst (λ (r : Run). IsSound setup (old.order ++ order_of setup run h.moments) r.cluster) (sym h.made.run)
    (step_sound keeps stays setup old.order run e h.moments lines h.step sound))
