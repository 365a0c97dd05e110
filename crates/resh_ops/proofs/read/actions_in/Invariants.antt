use Rattle.std.proofs.Common.{◌≡◌}
use Rattle.serde_json.specs.View.{members_view}
use Rattle.resh_ops.specs.Reading.{actions_in}
use Rattle.resh_ops.proofs.ReadLemmas.{after}
use Rattle.resh_ops.proofs.read.actions_in.Given as goal

abbrev pub invariant-loop-path : goal.invariant-loop-path
invariant-loop-path l =
    actions_in l.kind (members_view l.members.entries) ≡ after l.actions.items (actions_in l.kind (members_view l.path-iterator))
