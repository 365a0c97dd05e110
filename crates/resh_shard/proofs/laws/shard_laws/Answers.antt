use Rattle.resh_shard.proofs.Found.{changes_nothing_else, does_as_collection, holds_as_collection}
use Rattle.resh_shard.proofs.Moved.{leaves_others, moves_as_collection, moves_in_halves}
use Rattle.resh_shard.proofs.laws.shard_laws.Goals as goal

pub returns-clause-does : goal.returns-clause-does
returns-clause-does c = does_as_collection

pub returns-clause-holds : goal.returns-clause-holds
returns-clause-holds c = holds_as_collection

pub returns-clause-others : goal.returns-clause-others
returns-clause-others c = leaves_others

pub returns-clause-halves : goal.returns-clause-halves
returns-clause-halves c = moves_in_halves

pub returns-clause-nothing_else : goal.returns-clause-nothing_else
returns-clause-nothing_else c = changes_nothing_else

pub returns-clause-moves : goal.returns-clause-moves
returns-clause-moves c = moves_as_collection
