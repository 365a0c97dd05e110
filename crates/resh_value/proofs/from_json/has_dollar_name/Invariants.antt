use Rattle.std.proofs.Common.{◌≡◌}
use Rattle.serde_json.specs.View.{members_view}
use Rattle.resh_value.specs.FromJson.{has_dollar_name}
use Rattle.resh_value.proofs.from_json.has_dollar_name.Given as goal

abbrev pub invariant-loop-name : goal.invariant-loop-name
invariant-loop-name l =
    has_dollar_name (members_view l.members.entries) ≡ has_dollar_name (members_view l.name-iterator)
