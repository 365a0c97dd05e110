-- Equal values feed a hasher alike, and the hash's input as equations.
use Rattle.std.proofs.Common.{ℕ, ◌≡◌, ◌∙◌, ◌++◌, List, true, ap, refl}
use Rattle.std.specs.Cmp.{Equal-is}
use Rattle.std.specs.Ordering.{eq_by_cmp}
use Rattle.std.specs.Hash as fed
use Rattle.std.specs.Hash.{HashWrites}
use Rattle.std.specs.Cmp.Derive.Mapped.{items_map}
use Rattle.resh_value.specs.Order.{compare_of, compare_documents, kind}
use Rattle.resh_value.specs.derived.OrderEquations.{rank-map}
use Rattle.resh_value.specs.derived.OrderFolds.{map-Doc}
use Rattle.resh_value.specs.OrderLaws.{compare_same, documents_same}
use Rattle.resh_value.specs.Hash.{input_of, document_input, content_input, content_input_of, field_input}
use Rattle.resh_value.specs.declared.value.Value.{Value, Value-F, map-Value, out-Value, fold_out-Value}

pub values_alike : (x y : Value) → eq_by_cmp compare_of x y ≡ true → input_of x ≡ input_of y
values_alike x y e = ap input_of (compare_same x y ((Equal-is (compare_of x y)).0 e))

pub documents_alike : (fs gs : List (List ℕ × Value)) → eq_by_cmp compare_documents fs gs ≡ true
    → document_input fs ≡ document_input gs
documents_alike fs gs e = ap document_input (documents_same fs gs ((Equal-is (compare_documents fs gs)).0 e))

contents_alike : (h : Value → HashWrites) (x : Value-F Value)
    → content_input (λ w. w) (map-Value Value HashWrites h x) ≡ content_input h x
contents_alike h Value-F.Null = refl
contents_alike h (Value-F.Int n) = refl
contents_alike h (Value-F.Text t) = refl
contents_alike h (Value-F.Doc fs) = ap (content_input (λ w. w)) (map-Doc h fs)
    ∙ items_map (λ (f : List ℕ × Value). (f.0, h f.1)) (field_input (λ w. w)) fs
contents_alike h (Value-F.List xs) = items_map h (λ w. w) xs
contents_alike h (Value-F.Oid s) = refl
contents_alike h (Value-F.Bool b) = refl
contents_alike h (Value-F.Date n) = refl

-- a value's kind, and then what it holds
pub input-out : (v : Value) → input_of v ≡ fed.u8 (kind v) ++ content_input_of v
unfolding input_of
input-out v = fold_out-Value HashWrites _ v
    ∙ (λ i. fed.u8 (rank-map input_of (out-Value v) i) ++ contents_alike input_of (out-Value v) i)
