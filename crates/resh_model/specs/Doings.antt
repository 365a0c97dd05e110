-- What the code's doings mean.
use Rattle.resh_bag.specs.Answer as answer
use Rattle.resh_model.specs.declared.answer.Doing.{Doing}
use Rattle.resh_model.specs.declared.answer.Doing.TheVariants.{Adds, Replaces, Removes, Says}

abbrev pub meant : Doing → answer.Doing
meant (Adds shard document) = answer.adds shard.0 document
meant (Replaces shard document target result) = answer.replaces shard.0 document target.0 result
meant (Removes shard document) = answer.removes shard.0 document
meant (Says reply) = answer.says reply
