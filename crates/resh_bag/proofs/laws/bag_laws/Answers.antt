use Rattle.resh_bag.proofs.bags.BagLaws.{puts_one, removes_one, same_by_place}
use Rattle.resh_bag.proofs.laws.bag_laws.Goals as goal

pub returns-clause-puts : goal.returns-clause-puts
returns-clause-puts c = puts_one

pub returns-clause-removes : goal.returns-clause-removes
returns-clause-removes c = removes_one

pub returns-clause-same : goal.returns-clause-same
returns-clause-same c = same_by_place
