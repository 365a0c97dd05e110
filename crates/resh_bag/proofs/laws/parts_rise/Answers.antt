use Rattle.resh_bag.proofs.shards.Parting.{no_clash_in_place, parts_rise}
use Rattle.resh_bag.proofs.laws.parts_rise.Goals as goal

pub returns-clause-own_map : goal.returns-clause-own_map
returns-clause-own_map c = no_clash_in_place

pub returns-clause-rise : goal.returns-clause-rise
returns-clause-rise c = parts_rise
