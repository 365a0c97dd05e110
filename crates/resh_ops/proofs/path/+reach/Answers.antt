use Rattle.std.proofs.Common.{sym, ap, ◌∙◌}
use Rattle.std.specs.Option.{option_copied}
use Rattle.resh_ops.proofs.PathSteps.{reach-past}
use Rattle.resh_ops.proofs.path.+reach.Goals as goal

pub returns-in-None-get : goal.returns-in-None-get
returns-in-None-get t c = sym (reach-past c.args.path.now c.args.document.now c.name-item-2.result c.in-len1-up.len_at_least c.name-item-2.is (sym c.get-in-len1-up.ensures ∙ ap option_copied c.in-None-get.is))
