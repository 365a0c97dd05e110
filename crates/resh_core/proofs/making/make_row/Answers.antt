use Rattle.std.proofs.Common.{rules}
use Rattle.resh_core.proofs.ActLaws.{given_to, made_row}
use Rattle.resh_core.proofs.making.make_row.Goals as goal

pub act_row-requires-clause-given : goal.act_row-requires-clause-given
act_row-requires-clause-given g c = given_to c.args.setup.now _ _ _ c.in_ok-given.ensures.met

pub returns : goal.returns
returns g c =
    made_row _ _ _ _ _ _ _ _ _ _ _ _ c.requires.row c.in_ok-acted.ensures c.asks-asking.ensures c.in_ok-given.ensures.met
    c.in_ok-given.ensures.told c.keep.ensures.cluster (search rules) c.in_ok-keep.ensures.trace c.in_ok-keep.ensures.order
