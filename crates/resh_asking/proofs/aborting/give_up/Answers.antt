use Rattle.resh_asking.proofs.Answering.{abort_turn}
use Rattle.resh_asking.proofs.aborting.give_up.Goals as goal

pub returns : goal.returns
returns c =
    abort_turn c.args.setup.now c.args.cluster.now c.answer.new.cluster c.abort.new.cluster c.args.client c.args.command.now c.in_ok-asked.asked c.in_ok-held.held c.in_ok-reply.reply
    c.requires.next c.requires.abort c.in_ok-held.ensures c.in_ok-reply.ensures.reply c.in_ok-reply.ensures.changed c.in_ok-asked.ensures.shows c.in_ok-asked.ensures.changed
