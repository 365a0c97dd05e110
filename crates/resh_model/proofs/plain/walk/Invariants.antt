use Rattle.std.proofs.Common.{drop}
use Rattle.resh_model.specs.States.{told}
use Rattle.resh_model.proofs.orders.Walking.{Onward}
use Rattle.resh_model.proofs.plain.walk.Given as goal

abbrev pub invariant-loop-turn : goal.invariant-loop-turn
invariant-loop-turn l = Onward l.setup l.turns (told l.state) (drop l.turn-index l.turns)
