use Rattle.resh_law.specs.Laws.{EveryScheduleKeeps, SchedulesEnd}
use Rattle.resh_law.proofs.Ending.{orders_decide, schedules_end}
use Rattle.resh_law.proofs.Schedules.{every_schedule_keeps}
use Rattle.resh_law.proofs.laws.schedule_laws.Goals as goal

pub returns : goal.returns
returns c =
    let keeps : EveryScheduleKeeps = every_schedule_keeps c.opening_laws.ensures (record {
      cells = c.frame_laws.ensures;
      link = c.link_row_laws.ensures;
      lane = c.lane_row_laws.ensures;
      control = c.control_row_laws.ensures;
      mark = c.mark_row_laws.ensures;
      tell = c.tell_row_laws.ensures;
      client = c.client_row_laws.ensures;
    }) in
    let ends : SchedulesEnd = schedules_end keeps in
    record { keeps = keeps; ends = ends; decide = orders_decide ends }
