use Rattle.resh_model.proofs.orders.Served.{asks_each_once, answers_each_once, answers_one, has_turn_for_each}
use Rattle.resh_model.proofs.laws.orders_serve_each_once.Goals as goal

pub returns-clause-asked : goal.returns-clause-asked
returns-clause-asked c = asks_each_once

pub returns-clause-answered : goal.returns-clause-answered
returns-clause-answered c = answers_each_once

pub returns-clause-one : goal.returns-clause-one
returns-clause-one c = answers_one

pub returns-clause-turns : goal.returns-clause-turns
returns-clause-turns c = has_turn_for_each
