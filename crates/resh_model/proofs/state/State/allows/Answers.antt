use Rattle.std.proofs.Common.{sym, subst}
use Rattle.std.proofs.lemmas.Result.{IfOk-weaker}
use Rattle.std.specs.Bool.{Decides}
use Rattle.resh_model.specs.Orders.{Allows}
use Rattle.resh_model.specs.States.{told}
use Rattle.resh_model.proofs.state.State.allows.Goals as goal

pub returns-in-Command : goal.returns-in-Command
returns-in-Command c = subst (λ t. Decides c.allows_command.result (Allows c.args.setup.now (told c.args.self.now) t)) (sym c.in-Command.is) (c.allows_command.ensures c.in-Command.refused)

pub returns-in-Switch : goal.returns-in-Switch
returns-in-Switch c = IfOk-weaker c.allows_switch.result _ _ (λ b d. subst (λ t. Decides b (Allows c.args.setup.now (told c.args.self.now) t)) (sym c.in-Switch.is) d) c.allows_switch.ensures

pub returns-in-Drop : goal.returns-in-Drop
returns-in-Drop c = IfOk-weaker c.allows_drop.result _ _ (λ b d. subst (λ t. Decides b (Allows c.args.setup.now (told c.args.self.now) t)) (sym c.in-Drop.is) d) c.allows_drop.ensures
