use Rattle.std.proofs.Common.{◌≡◌}
use Rattle.resh_core.specs.Planning.{link_rows, tolds_in}
use Rattle.resh_core.proofs.planning.link_lucks.Given as goal

abbrev pub invariant-loop-recipient : goal.invariant-loop-recipient
invariant-loop-recipient l = tolds_in l.lucks.items ≡ link_rows l.setup l.shards l.recipient
