use Rattle.std.proofs.Common.{◌≡◌}
use Rattle.serde_json.specs.View.{members_view}
use Rattle.resh_ops.specs.Reading.{operators_in}
use Rattle.resh_ops.proofs.ReadLemmas.{after}
use Rattle.resh_ops.proofs.read.operators_in.Given as goal

abbrev pub invariant-loop-name : goal.invariant-loop-name
invariant-loop-name l =
    operators_in (members_view l.members.entries) ≡ after l.actions.items (operators_in (members_view l.name-iterator))
