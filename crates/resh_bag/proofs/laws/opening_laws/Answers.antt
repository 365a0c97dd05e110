use Rattle.resh_bag.proofs.bags.Opening.{opens_placed, opens_whole}
use Rattle.resh_bag.proofs.laws.opening_laws.Goals as goal

pub returns-clause-placed : goal.returns-clause-placed
returns-clause-placed c = opens_placed

pub returns-clause-whole : goal.returns-clause-whole
returns-clause-whole c = opens_whole
