use Rattle.std.proofs.Common.{rules, tests}
use Rattle.std.proofs.lemmas.Iterator.{YieldsList-from_slice}
use Rattle.std.proofs.lemmas.Iterator.Search.{all_from_yields_List}
use Rattle.resh_value.specs.Whole.{is_whole}
use Rattle.resh_serving_tests.proofs.cluster.are_whole.Goals as goal

pub returns : goal.returns
returns c = all_from_yields_List is_whole _ _ _ c.all.ensures.ran (YieldsList-from_slice c.args.documents.now cc) (λ x b q k. search (rules, tests))
