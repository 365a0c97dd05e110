use Rattle.resh_model.proofs.orders.Growing.{grows_by_turns}
use Rattle.resh_model.proofs.laws.orders_grow.Goals as goal

pub returns : goal.returns
returns c = grows_by_turns
