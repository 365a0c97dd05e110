use Rattle.std.proofs.Common.{[], sym, ◌∙◌}
use Rattle.resh_copying.proofs.Places.{or_default, or_item}
use Rattle.resh_copying.proofs.cells.lanes_of.Goals as goal

pub returns-in-Some : goal.returns-in-Some
returns-in-Some c = c.as_slice.ensures ∙ sym (or_item c.args.cluster.now.lanes c.args.r.0 [] c.in-Some.lanes.now c.in-Some.ensures)

pub returns-in-None : goal.returns-in-None
returns-in-None c = or_default c.args.cluster.now.lanes c.args.r.0 [] c.in-None.ensures
