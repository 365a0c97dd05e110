use Rattle.std.proofs.Common.{◌≡◌, map}
use Rattle.std.specs.List.{range_with_len}
use Rattle.resh_events.specs.Opening.{each, opening_link}
use Rattle.resh_core.proofs.opening.link_rows.Given as goal

abbrev pub invariant-loop-recipient : goal.invariant-loop-recipient
invariant-loop-recipient l =
    l.rows.items ≡ map (λ r. each l.setup l.shards (opening_link l.setup r)) (range_with_len 0 l.recipient)
