use Rattle.std.proofs.Common.{◌≡◌, ap, sym, ◌∙◌}
use Rattle.std.proofs.lemmas.Iterator.Consumers.{reduce_by_from_yields_List, YieldsList-from_rest}
use Rattle.std.specs.Option.{option_copied}
use Rattle.std.specs.Ordering.{min_by_ordering}
use Rattle.indexmap.specs.IndexMap.{keys}
use Rattle.resh_value.specs.Order.{compare_of}
use Rattle.resh_stash.specs.Stored.{first_id}
use Rattle.resh_stash.proofs.Least.{lesser, lesser_now, least_is_first, first_none, none_copied, copied_none}
use Rattle.resh_stash.proofs.stash.Stash.first.Goals as goal

is_first : (c : goal.After-min) → option_copied c.min.result ≡ first_id c.args.self.now.documents
is_first c =
    reduce_by_from_yields_List (λ p z. min_by_ordering (compare_of p.now z.now) p z) lesser c.keys.result c.min.result lesser_now c.min.ensures.ran (YieldsList-from_rest (keys c.self.inside.documents) c.keys.ensures.rest)
    ∙ least_is_first c.self.inside.documents.entries ∙ ap (λ s. first_id s.documents) c.self.view_is

pub returns-clause-first : goal.returns-clause-first
returns-clause-first c = is_first c

pub returns-clause-none : goal.returns-clause-none
returns-clause-none c =
    let none = first_none c.args.self.now.documents in
    (λ e. none.0 (sym (is_first c) ∙ copied_none c.min.result e), λ e. none_copied c.min.result (is_first c ∙ none.1 e))
