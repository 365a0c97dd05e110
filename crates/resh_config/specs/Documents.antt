-- The rules of a document.
use Rattle.std.specs.Prelude.{◌≡◌, ⊤, cond, nat_lt, List, [], ◌∷◌, length, codes, Ok}
use Rattle.std.specs.declared.cmp.Ordering.TheVariants.{Less}
use Rattle.serde_json.specs.Data.{Data}
use Rattle.resh_value.specs.Limits.{text_limit}
use Rattle.resh_value.specs.Lookup.{field_of, id_of}
use Rattle.resh_value.specs.Order.{compare_of}
use Rattle.resh_value.specs.Outcome.{in_err}
use Rattle.resh_value.specs.FromJson.{walked_document}
use Rattle.resh_value.specs.Text.{document_text}
use Rattle.resh_setup.specs.Documents.{Document, is_id}
use Rattle.resh_value.specs.Walk.{ends, as_kind}
use Rattle.resh_config.specs.Faults.{Read}
use Rattle.resh_config.specs.declared.faults.FaultKind.TheVariants.{Value as InValue, NoId, OverLimit}
use Rattle.resh_config.specs.Walk.{◌>>=◌}

abbrev pub with_rules : Document → Read Document
with_rules document =
    cond (is_id (field_of document (codes "_id")))
    (cond (nat_lt text_limit (length (document_text document))) (ends (OverLimit text_limit)) (Ok document))
    (ends NoId)

abbrev pub document_in : List Document → Data → Read Document
document_in before d = in_err (as_kind InValue) (walked_document d) >>= with_rules

-- the `_id` of a document is below that of the next
abbrev pub IsBelow : Document → List Document → Type 0
IsBelow d [] = ⊤
IsBelow d (next ∷ later) = compare_of (id_of d) (id_of next) ≡ Less

-- each `_id` is below the next
abbrev pub IdsRise : List Document → Type 0
IdsRise [] = ⊤
IdsRise (d ∷ later) = IsBelow d later × IdsRise later
