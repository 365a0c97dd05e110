use Rattle.std.proofs.Common.{sym}
use Rattle.resh_ops.proofs.Neighbours.{previous_begins, no_previous}
use Rattle.resh_ops.proofs.conflicts.extends_one.Goals as goal

pub returns-in-Some : goal.returns-in-Some
returns-in-Some c =
    let told = previous_begins c.args.taken.now c.args.path c.range.result _ c.in-Some.other.now c.requires c.in-Some.ensures.steps (c.range.ensures.in_range tt) in
    rw (c.starts_with.ensures.value, c.as_slice.ensures, c.as_slice-in-Some.ensures) told

pub returns-in-None : goal.returns-in-None
returns-in-None c = sym (no_previous c.args.taken.now c.args.path c.range.result c.in-None.ensures.steps.0 (c.range.ensures.in_range tt))
