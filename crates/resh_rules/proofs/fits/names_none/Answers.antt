use Rattle.std.proofs.Common.{not, rules, tests}
use Rattle.std.proofs.lemmas.Iterator.{YieldsList-from_slice}
use Rattle.std.proofs.lemmas.Iterator.Search.{all_from_yields_List}
use Rattle.resh_value.specs.Change.{is_named}
use Rattle.resh_rules.proofs.fits.names_none.Goals as goal

pub returns : goal.returns
returns c = all_from_yields_List (λ name. not (is_named c.args.change.now.assign c.args.change.now.unset name)) _ _ _ c.all.ensures.ran (YieldsList-from_slice c.args.names.now cc) (λ x b q k. search (rules, tests))
