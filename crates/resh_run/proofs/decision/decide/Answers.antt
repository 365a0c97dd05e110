use Rattle.std.proofs.Common.{Some, refl, sym, ap, ◌∙◌}
use Rattle.resh_run.specs.Said.{numbered}
use Rattle.resh_run.proofs.decision.decide.Goals as goal

pub returns-in-Ok-Some-Generate : goal.returns-in-Ok-Some-Generate
returns-in-Ok-Some-Generate g c =
    let a = c.in-Ok-Some-Generate in
    numbered a.number a.print (sym a.ensures.read ∙ a.field-0-is ∙ ap Some a.field-0-0-is) refl c.number_says.ensures
