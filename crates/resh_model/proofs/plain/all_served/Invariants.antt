use Rattle.std.proofs.Common.{◌≡◌, ◌<◌, ℕ, None}
use Rattle.resh_model.specs.Orders.{next_command}
use Rattle.resh_model.specs.States.{told}
use Rattle.resh_model.proofs.plain.all_served.Given as goal

abbrev pub invariant-loop-client : goal.invariant-loop-client
invariant-loop-client l = (k : ℕ) → k < l.client → next_command l.setup (told l.state) k ≡ None
