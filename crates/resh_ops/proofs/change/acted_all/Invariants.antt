use Rattle.std.proofs.Common.{◌≡◌, drop}
use Rattle.resh_ops.specs.Updates.{acted_all}
use Rattle.resh_ops.proofs.change.acted_all.Given as goal

abbrev pub invariant-loop-action : goal.invariant-loop-action
invariant-loop-action l = acted_all (drop l.action-index l.actions) l.document ≡ acted_all l.actions l.initial.document
