use Rattle.resh_ops.proofs.NumberLaws.{sums_stay, products_stay}
use Rattle.resh_ops.proofs.laws.number_laws.Goals as goal

pub returns-clause-sums : goal.returns-clause-sums
returns-clause-sums c = sums_stay

pub returns-clause-products : goal.returns-clause-products
returns-clause-products c = products_stay
