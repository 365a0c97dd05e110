use Rattle.std.proofs.Common.{◌≡◌, map}
use Rattle.serde_json.specs.View.{members_view}
use Rattle.resh_config.specs.Walk.{unlisted}
use Rattle.resh_config.proofs.walk.unlisted.Given as goal

abbrev pub invariant-loop-name : goal.invariant-loop-name
invariant-loop-name l =
    unlisted (map (λ n. n.now) l.names) (members_view l.members.entries) ≡ unlisted (map (λ n. n.now) l.names) (members_view l.name-iterator)
