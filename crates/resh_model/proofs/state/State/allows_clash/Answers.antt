use Rattle.std.proofs.Common.{◌≡◌, sym, subst}
use Rattle.std.specs.Bool.{Decides}
use Rattle.resh_model.specs.Orders.{undecided}
use Rattle.resh_bag.specs.Placement.{IsFirstClash}
use Rattle.resh_model.specs.States.{fate_of}
use Rattle.resh_model.proofs.orders.Deciding.{clash_decided}
use Rattle.resh_model.proofs.state.State.allows_clash.Goals as goal

pub returns : goal.returns
returns c =
    subst (λ b. Decides b ((fate_of c.args.self.now.fate ≡ undecided) × IsFirstClash c.args.setup.now.new_map c.args.self.now.collection c.args.shard.0 c.args.id.now)) (sym c.is_at.ensures)
    (clash_decided c.args.setup.now.new_map c.args.self.now.collection c.args.shard.0 c.args.id.now (c.is_undecided.ensures.0 c.if-not-is_undecided.false) c.in_ok-clash.clash c.in_ok-clash.ensures)
