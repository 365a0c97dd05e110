-- What holds of the order of values: it is total, and only equal values tie.
use Rattle.std.specs.Prelude.{◌≡◌, ◌↔◌, ℕ, true, List}
use Rattle.std.specs.Bool.{Decides}
use Rattle.std.specs.Cmp.{IsTotalOrder}
use Rattle.std.specs.Cmp.Lexicographic.{pointwise}
use Rattle.std.specs.FinMap.{IsAntisymmetric}
use Rattle.std.specs.Ordering.{eq_by_cmp}
use Rattle.std.specs.declared.cmp.Ordering.TheVariants.{Equal}
use Rattle.resh_value.specs.Names.{name_cmp}
use Rattle.resh_value.specs.Order.{compare_of, compare_documents, is_same}
use Rattle.resh_value.specs.declared.value.Value.{Value}
use Rattle.resh_value.specs.derived.OrderTies as ties

pub compare_total : IsTotalOrder compare_of
compare_total = ties.compare_total

pub documents_total : IsTotalOrder compare_documents
documents_total = ties.documents_total

pub compare_itself : (x : Value) → compare_of x x ≡ Equal
compare_itself = ties.compare_itself

-- names, values and documents that tie are equal
pub names_same : IsAntisymmetric name_cmp
names_same = ties.names_same

pub compare_same : IsAntisymmetric compare_of
compare_same = ties.compare_same

pub compare_ties : (x y : Value) → (compare_of x y ≡ Equal) ↔ (x ≡ y)
compare_ties = ties.compare_ties

pub documents_same : IsAntisymmetric compare_documents
documents_same = ties.documents_same

pub documents_ties : (fs gs : List (List ℕ × Value)) → (compare_documents fs gs ≡ Equal) ↔ (fs ≡ gs)
documents_ties = ties.documents_ties

-- the tests of equality tell the same value, document and list of values
pub same_value : (x y : Value) → Decides (eq_by_cmp compare_of x y) (x ≡ y)
same_value = ties.same_value

pub same_document : (fs gs : List (List ℕ × Value)) → Decides (eq_by_cmp compare_documents fs gs) (fs ≡ gs)
same_document = ties.same_document

pub same_values : (xs ys : List Value) → Decides (pointwise (eq_by_cmp compare_of) xs ys) (xs ≡ ys)
same_values = ties.same_values

pub same_from_test : (x y : Value) → is_same x y ≡ true → x ≡ y
same_from_test = ties.same_from_test

pub same_itself : (x : Value) → is_same x x ≡ true
same_itself = ties.same_itself
