use Rattle.std.proofs.Common.{sym, subst}
use Rattle.std.proofs.lemmas.Result.{IfOk-weaker}
use Rattle.std.specs.Bool.{Decides}
use Rattle.resh_model.specs.Orders.{AllowsDrop}
use Rattle.resh_model.specs.States.{told}
use Rattle.resh_model.proofs.state.State.allows_drop.Goals as goal

pub returns-in-Clash : goal.returns-in-Clash
returns-in-Clash c = IfOk-weaker c.allows_clash.result _ _ (λ b d. subst (λ k. Decides b (AllowsDrop c.args.setup.now (told c.args.self.now) k)) (sym c.in-Clash.is) d) c.allows_clash.ensures
