use Rattle.std.proofs.Common.{ℕ}
use Rattle.resh_core.specs.Planning.{link_row}
use Rattle.resh_core.proofs.ListLaws.{flat_more}
use Rattle.resh_core.proofs.PlanLaws.{rows_told}
use Rattle.resh_core.proofs.planning.link_lucks.Goals as goal

pub loop-recipient-preserved : goal.loop-recipient-preserved
loop-recipient-preserved c =
    rows_told _ _ _ _ _ c.loop-recipient.invariant c.in_ok-add_links.ensures
    (flat_more (λ (r : ℕ). link_row c.args.setup.now r c.args.shards) c.loop-recipient.recipient)
