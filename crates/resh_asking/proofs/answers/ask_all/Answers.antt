use Rattle.std.proofs.Common.{subst}
use Rattle.std.specs.Prelude.{IfSome}
use Rattle.resh_chunks.specs.Chunks.{Chunks}
use Rattle.resh_events.specs.Targets.{known_map}
use Rattle.resh_asking.specs.Gathered.{Merges, own_parts}
use Rattle.resh_asking.proofs.Answering.{read_turn, wants_turn}
use Rattle.resh_asking.proofs.Doings.{all_reads}
use Rattle.resh_asking.proofs.MergedReply.{merged_is}
use Rattle.resh_asking.proofs.answers.ask_all.Goals as goal

pub read_all-requires : goal.read_all-requires
read_all-requires c = all_reads (known_map c.args.setup.now c.args.cluster.now c.args.client) c.args.command.now c.requires.goal.is

pub returns-in_ok-replied-in-Some : goal.returns-in_ok-replied-in-Some
returns-in_ok-replied-in-Some c =
    let chunks : Chunks = known_map c.args.setup.now c.args.cluster.now c.args.client in
    let reading = all_reads chunks c.args.command.now c.requires.goal.is in
    let merges = subst (λ o. IfSome o (Merges (own_parts c.args.cluster.now c.args.command.now c.args.shards.now))) c.in-Some.is c.in_ok-found.ensures.reply in
    read_turn c.args.setup.now c.args.cluster.now c.args.client c.args.command.now c.args.shards.now c.requires.served.reached c.answer.new.cluster c.in_ok-replied-in-Some.replied c.args.held
    reading c.in-Some.reply
    (merged_is c.args.setup.now c.args.cluster.now c.args.client c.args.command.now c.args.shards.now chunks.shards c.in-Some.reply c.requires.goal.are reading c.in_ok-found.ensures.filed merges)
    c.requires.served.cells c.read_all.new.cluster c.in_ok-found.ensures.unchanged c.in_ok-replied-in-Some.ensures.shows c.in_ok-replied-in-Some.ensures.changed

pub returns-in_ok-refused-in-None : goal.returns-in_ok-refused-in-None
returns-in_ok-refused-in-None c =
    wants_turn c.args.setup.now c.args.cluster.now c.args.client c.args.command.now c.args.shards.now c.requires.served.reached c.refuse.new.cluster c.in_ok-refused-in-None.refused c.args.held
    c.requires.served.cells c.read_all.new.cluster c.in_ok-found.ensures.unchanged c.in_ok-refused-in-None.ensures.shows c.in_ok-refused-in-None.ensures.changed
