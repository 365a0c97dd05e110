use Rattle.std.proofs.Common.{ap, ◌≡◌, ◌∙◌, List}
use Rattle.std.proofs.lemmas.Result.{IfOk-weaker}
use Rattle.clap.specs.Words.{App, Text, app_of, fault_of, is_simple, is_simple_and_free, matches_of}
use Rattle.resh_run.specs.Words.{reshard, texts_of}
use Rattle.resh_run.proofs.WordLemmas.{fails_ok, fails_err, is_one, is_free_one}
use Rattle.resh_run.proofs.words.parsed.Goals as goal

pub returns : goal.returns
returns c =
    let all : app_of c.in_ok-command.command ≡ reshard = c.in_ok-command.ensures in
    let texts : List Text = texts_of c.args.words.now in
    let parse = c.try_get_matches_from in
    let kinds = parse.ensures.kinds (ap is_simple_and_free all ∙ is_free_one) in
    let same : fault_of (app_of c.in_ok-command.command) texts ≡ fault_of reshard texts = ap (λ (a : App). fault_of a texts) all in
    record {
      read = IfOk-weaker parse.result _ _ (λ m h. (h (ap is_simple all ∙ is_one)).0 ∙ ap (λ (a : App). matches_of a texts) all) parse.ensures.matches;
      free = fails_ok _ _ parse.result same kinds;
      refused = fails_err _ _ parse.result same kinds;
    }
