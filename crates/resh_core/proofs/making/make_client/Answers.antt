use Rattle.std.proofs.Common.{rules}
use Rattle.resh_core.proofs.ActLaws.{kept_client}
use Rattle.resh_core.proofs.making.make_client.Goals as goal

pub returns-clause-kept : goal.returns-clause-kept
returns-clause-kept c =
    kept_client _ _ _ _ _ _ _ c.in_ok-acted.ensures c.keep.ensures.cluster (search rules) c.in_ok-keep.ensures.trace
    c.in_ok-keep.ensures.order
