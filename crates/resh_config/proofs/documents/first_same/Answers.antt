use Rattle.resh_config.proofs.RisingIds.{none_same_rising}
use Rattle.resh_config.proofs.documents.first_same.Goals as goal

pub returns-then-ids_rise : goal.returns-then-ids_rise
returns-then-ids_rise c = none_same_rising c.args.map.now c.args.documents.now c.if-ids_rise.ensures
