use Rattle.std.proofs.Common.{◌≡◌}
use Rattle.serde_json.specs.View.{members_view}
use Rattle.resh_filter.specs.Filters.{first_dotted}
use Rattle.resh_filter.proofs.filter.first_dotted.Given as goal

abbrev pub invariant-loop-name : goal.invariant-loop-name
invariant-loop-name l =
    first_dotted (members_view l.members.entries) ≡ first_dotted (members_view l.name-iterator)
