use Rattle.resh_asking.proofs.Answering.{no_key_turn}
use Rattle.resh_asking.proofs.answers.tell_no_key.Goals as goal

pub returns : goal.returns
returns c =
    no_key_turn c.args.setup.now c.args.cluster.now c.args.client c.args.command.now c.args.shards.now c.requires.served.reached c.answer.new.cluster c.in_ok-asked.asked c.args.held
    c.requires.goal.is c.requires.served.cells c.in_ok-asked.ensures.shows c.in_ok-asked.ensures.changed
