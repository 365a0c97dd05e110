use Rattle.std.proofs.Common.{◌≡◌}
use Rattle.std.specs.Prelude.{IfOk}
use Rattle.std.proofs.lemmas.Result.{on_err_weaker, on_ok_weaker}
use Rattle.resh_lane.specs.Lanes.{LaneOf, taken}
use Rattle.resh_setup.specs.declared.seen.Seen.{Seen}
use Rattle.resh_events.specs.rows.Apply.{is_at}
use Rattle.resh_events.specs.rows.Again.{given_seen}
use Rattle.resh_copying.proofs.Rows.{lane_as_is, lane_chosen, lanes_as_is, of_lane}
use Rattle.resh_copying.proofs.repeating.again.Goals as goal

pub returns-in_default-get_mut-clause-unchanged : goal.returns-in_default-get_mut-clause-unchanged
returns-in_default-get_mut-clause-unchanged c =
    lanes_as_is c.args.cluster.now c.args.r.0 c.in-Some.lanes.now c.in-Some.ensures.value

pub returns-clause-ok : goal.returns-clause-ok
returns-clause-ok c =
    on_ok_weaker c.give.result
    (λ is. lane_chosen c.args.cluster.now c.args.r.0 c.args.lane c.in-Some.lanes.now c.in-Some-get_mut.cell.now c.in-Some.ensures.value c.in-Some-get_mut.ensures.value
    (λ (x : LaneOf). is_at x c.args.piece) (taken c.args.piece) c.give.new.cell is)
    c.give.ensures.ok

pub returns-clause-seen : goal.returns-clause-seen
returns-clause-seen c =
    of_lane c.args.cluster.now c.args.r.0 c.args.lane c.in-Some.lanes.now c.in-Some-get_mut.cell.now c.in-Some.ensures.value c.in-Some-get_mut.ensures.value
    (λ (x : LaneOf). IfOk c.give.result (λ (seen : Seen). seen ≡ given_seen x c.args.piece))
    c.give.ensures.seen

pub returns-clause-unchanged : goal.returns-clause-unchanged
returns-clause-unchanged c =
    on_err_weaker c.give.result
    (λ is. lane_as_is c.args.cluster.now c.args.r.0 c.args.lane c.in-Some.lanes.now c.in-Some-get_mut.cell.now c.in-Some.ensures.value c.in-Some-get_mut.ensures.value
    c.give.new.cell is)
    c.give.ensures.unchanged
