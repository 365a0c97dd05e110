use Rattle.std.proofs.Common.{◌≡◌, drop}
use Rattle.serde_json.specs.View.{items_view, members_view}
use Rattle.resh_value.specs.FromJson.{items_at, members_at}
use Rattle.resh_value.proofs.reading.Walked.{after}
use Rattle.resh_value.proofs.from_json.+walk.Given as goal

abbrev pub invariant-items_at-loop-place : goal.invariant-items_at-loop-place
invariant-items_at-loop-place l =
    items_at l.level 0 (items_view l.item-items) ≡ after l.values.items (items_at l.level l.place (items_view (drop l.place l.item-items)))

abbrev pub invariant-members_at-loop-name : goal.invariant-members_at-loop-name
invariant-members_at-loop-name l =
    members_at l.level (members_view l.members.entries) ≡ after l.pairs.items (members_at l.level (members_view l.name-iterator))
