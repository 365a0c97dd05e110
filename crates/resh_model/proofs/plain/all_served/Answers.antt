use Rattle.std.proofs.Common.{refl, arith}
use Rattle.resh_model.specs.States.{told}
use Rattle.resh_model.proofs.orders.Finishing.{none_left}
use Rattle.resh_model.proofs.plain.all_served.Goals as goal

pub returns : goal.returns
returns c = (λ e. none_left c.args.setup.now (told c.args.state.now) c.loop-client.client (omega arith) c.loop-client.invariant, λ each. refl)
