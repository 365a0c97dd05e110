use Rattle.resh_run.proofs.WordLemmas.{number_parsed}
use Rattle.resh_run.proofs.words.value_of.Goals as goal

pub unreachable-requires : goal.unreachable-requires
unreachable-requires c =
    let read = number_parsed c.args.text.now c.parse.result c.requires c.parse.ensures.value.0 in
    let refused = c.in-Err.is in
    cc
