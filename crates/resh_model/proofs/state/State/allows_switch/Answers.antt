use Rattle.resh_model.proofs.orders.Deciding.{switch_decided}
use Rattle.resh_model.proofs.state.State.allows_switch.Goals as goal

pub returns : goal.returns
returns c =
    switch_decided c.args.setup.now.new_map c.args.self.now.collection (c.is_undecided.ensures.0 c.if-not-is_undecided.false) c.is_none.result c.in_ok-clash.clash c.is_none.ensures c.in_ok-clash.ensures
