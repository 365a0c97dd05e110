use Rattle.std.proofs.Common.{rules, tests}
use Rattle.std.proofs.lemmas.Iterator.{YieldsList-from_slice}
use Rattle.std.proofs.lemmas.Iterator.Search.{all_from_yields_List}
use Rattle.std.specs.Option.{is_some}
use Rattle.resh_value.specs.Lookup.{field_of}
use Rattle.resh_bag.proofs.key.has_names.Goals as goal

pub returns : goal.returns
returns c = all_from_yields_List (λ name. is_some (field_of c.args.fields.now name)) _ _ _ c.all.ensures.ran (YieldsList-from_slice c.args.names.now cc) (λ x b q k. search (rules, tests))
