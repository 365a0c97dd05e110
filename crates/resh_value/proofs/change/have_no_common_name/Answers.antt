use Rattle.std.proofs.Common.{is_none, rules, tests}
use Rattle.std.proofs.lemmas.Iterator.{YieldsList-from_slice}
use Rattle.std.proofs.lemmas.Iterator.Search.{all_from_yields_List}
use Rattle.resh_value.specs.Lookup.{field_of}
use Rattle.resh_value.proofs.change.have_no_common_name.Goals as goal

pub returns : goal.returns
returns c = all_from_yields_List (λ name. is_none (field_of c.args.assign.now name)) _ _ _ c.all.ensures.ran (YieldsList-from_slice c.args.unset.now cc) (λ x b q k. search (rules, tests))
