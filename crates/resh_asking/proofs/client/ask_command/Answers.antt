use Rattle.std.proofs.Common.{sym, subst}
use Rattle.std.specs.Prelude.{IfOk}
use Rattle.resh_cells.specs.Belonging.{IsClusterOf}
use Rattle.resh_asking.specs.Turns.{IsTurn}
use Rattle.resh_asking.proofs.client.ask_command.Goals as goal

pub returns : goal.returns
returns c = subst (λ k. IfOk c.serve.result (IsTurn c.args.setup.now k c.serve.new.cluster c.args.client)) c.in_ok-make_room.ensures c.serve.ensures

pub serve-requires-clause-of : goal.serve-requires-clause-of
serve-requires-clause-of c = subst (IsClusterOf c.args.setup.now) (sym c.in_ok-make_room.ensures) c.requires.of
