use Rattle.std.proofs.Common.{arith}
use Rattle.resh_config.proofs.ListLemmas.{count-items_view}
use Rattle.resh_config.proofs.lists.count.Goals as goal

pub returns : goal.returns
returns c =
    let e = count-items_view c.args.items.now.items in
    omega (arith, c.len.ensures, c.args.items.now.ok.0)
