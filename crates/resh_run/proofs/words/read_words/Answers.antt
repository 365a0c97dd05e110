use Rattle.std.proofs.Common.{◌≡◌, ◌≢◌, [], ⊎_elim, refl, sym, ap, ◌∙◌}
use Rattle.clap.specs.Words.{fault_of}
use Rattle.resh_run.specs.Words.{asked_in, reshard, texts_of}
use Rattle.resh_run.proofs.WordLemmas.{asked_free, asked_refused, no_words}
use Rattle.resh_run.proofs.words.read_words.Goals as goal

pub returns-then-is_empty-clause-read : goal.returns-then-is_empty-clause-read
returns-then-is_empty-clause-read c = no_words c.args.words.now (sym c.is_empty.ensures ∙ c.if-is_empty.true)

pub returns-in-Ok-clause-read : goal.returns-in-Ok-clause-read
returns-in-Ok-clause-read c =
    c.asked_in.ensures ∙ ap asked_in c.in-Ok.ensures.read ∙ sym (asked_free (texts_of c.args.words.now) c.in-Ok.ensures.free)

pub returns : goal.returns
returns c =
    let some : fault_of reshard (texts_of c.args.words.now) ≢ [] = ⊎_elim (λ memory. absurd (c.in_default.not-OutOfMemory (c.kind.ensures ∙ memory))) (λ some. some) c.in-Err.ensures.refused in
    record { read = sym (asked_refused (texts_of c.args.words.now) some); none = λ e. refl }
