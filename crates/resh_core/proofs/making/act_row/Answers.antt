use Rattle.resh_core.specs.Making.{asks_of}
use Rattle.resh_core.proofs.ActLaws.{acted_by_slices}
use Rattle.resh_core.proofs.making.act_row.Goals as goal

pub returns : goal.returns
returns c =
    acted_by_slices c.args.setup.now c.args.cluster.now c.meet_row.new.cluster c.count-crashes.new.cluster
    c.set_clocks.new.clocks c.args.event.now c.args.followed c.piece_time-time.result c.args.given c.in_ok-met.met
    c.in_ok-stamp.stamp c.in_ok-met.seen c.follows-follower.result c.in_ok-cells.cells.items c.as_slice.result.now
    c.as_slice-2.result.now (asks_of c.args.asking) c.requires.row c.in_ok-cells.ensures c.piece_time-time.ensures
    c.as_slice.ensures.value c.as_slice-2.ensures.value c.in_ok-stamp.ensures.time c.in_ok-stamp.ensures.node
    c.in_ok-stamp.ensures.in_time c.in_ok-met.ensures c.requires.asked c.count-crashes.ensures.counted
    c.set_clocks.ensures c.follows-follower.ensures
