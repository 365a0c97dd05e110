-- The order of values is total, and only equal values tie.
use Rattle.std.proofs.Common.{ℕ, ◌≡◌, ◌↔◌, ◌∙◌, sym, ap, subst, refl, true, false, List, [], ◌∷◌}
use Rattle.std.specs.Ordering.{nat_cmp, bool_cmp, ordering_then, eq_by_cmp}
use Rattle.std.specs.Cmp.{IsTotalOrder, on_total, then_total, nat_cmp_total, int_cmp_total, tied_itself, Equal-is}
use Rattle.std.specs.Cmp.Lexicographic.{slice_cmp, lists_total, nat_list_cmp_total, pointwise, pointwise_decides}
use Rattle.std.specs.FinMap.{IsAntisymmetric, nat_cmp-IsAntisymmetric, int_cmp-IsAntisymmetric, slice_cmp-IsAntisymmetric}
use Rattle.std.specs.Bool.{Decides}
use Rattle.std.specs.List.{AllByRecursion}
use Rattle.std.specs.declared.cmp.Ordering.{Ordering}
use Rattle.std.specs.declared.cmp.Ordering.TheVariants.{Less, Equal, Greater}
use Rattle.resh_value.specs.Names.{name_cmp}
use Rattle.resh_value.specs.Order.{compare_of, compare_fields, compare_documents, content, content_of, kind, rank, is_same}
use Rattle.resh_value.specs.derived.OrderFolds.{Inside, by_inside}
use Rattle.resh_value.specs.derived.OrderEquations.{by_kind_then_content}
use Rattle.resh_value.specs.derived.OrderCodes.{code, code-cmp}
use Rattle.resh_value.specs.declared.value.Value.{Value, Value-F, out-Value, roll-Value, roll-out-Value}

pub compare_total : IsTotalOrder compare_of
compare_total = subst IsTotalOrder (λ i x y. code-cmp x y i) (on_total code (lists_total int_cmp_total))

then_first : (r s : Ordering) → ordering_then r s ≡ Equal → r ≡ Equal
then_first Less s e = cc
then_first Equal s e = refl
then_first Greater s e = cc

then_second : (r s : Ordering) → ordering_then r s ≡ Equal → s ≡ Equal
then_second Less s e = cc
then_second Equal s e = e
then_second Greater s e = cc

pub names_same : IsAntisymmetric name_cmp
names_same = slice_cmp-IsAntisymmetric nat_cmp-IsAntisymmetric

truths_same : IsAntisymmetric bool_cmp
truths_same false false e = refl
truths_same false true e = cc
truths_same true false e = cc
truths_same true true e = refl

-- what ties with x is x
abbrev OnlyTies : Value → Type 0
OnlyTies x = (y : Value) → compare_of x y ≡ Equal → x ≡ y

fields_same : (fs gs : List (List ℕ × Value)) → AllByRecursion (λ f. OnlyTies f.1) fs
    → slice_cmp compare_fields fs gs ≡ Equal → fs ≡ gs
fields_same [] [] h e = refl
fields_same [] (g ∷ gs) h e = cc
fields_same (f ∷ fs) [] h e = cc
fields_same (f ∷ fs) (g ∷ gs) h e =
    let a = then_second (nat_cmp (kind f.1) (kind g.1)) _
    (then_first (compare_fields f g) (slice_cmp compare_fields fs gs) e) in
    let names = names_same f.0 g.0 (then_first (name_cmp f.0 g.0) (compare_of f.1 g.1) a) in
    let values = h.0 g.1 (then_second (name_cmp f.0 g.0) (compare_of f.1 g.1) a) in
    let rest = fields_same fs gs h.1 (then_second (compare_fields f g) (slice_cmp compare_fields fs gs) e) in
    λ i. (names i, values i) ∷ rest i

items_same : (xs ys : List Value) → AllByRecursion OnlyTies xs → slice_cmp compare_of xs ys ≡ Equal → xs ≡ ys
items_same [] [] h e = refl
items_same [] (y ∷ ys) h e = cc
items_same (x ∷ xs) [] h e = cc
items_same (x ∷ xs) (y ∷ ys) h e =
    let first = h.0 y (then_first (compare_of x y) (slice_cmp compare_of xs ys) e) in
    let rest = items_same xs ys h.1 (then_second (compare_of x y) (slice_cmp compare_of xs ys) e) in
    λ i. first i ∷ rest i

contents_same : (x y : Value-F Value) → Inside OnlyTies x → nat_cmp (rank x) (rank y) ≡ Equal
    → content compare_fields compare_of x y ≡ Equal → x ≡ y
contents_same Value-F.Null Value-F.Null h e c = refl
contents_same Value-F.Null y h e c = cc
contents_same (Value-F.Int m) (Value-F.Int n) h e c = ap Value-F.Int (int_cmp-IsAntisymmetric m n c)
contents_same (Value-F.Int m) y h e c = cc
contents_same (Value-F.Text s) (Value-F.Text t) h e c = ap Value-F.Text (names_same s t c)
contents_same (Value-F.Text s) y h e c = cc
contents_same (Value-F.Doc fs) (Value-F.Doc gs) h e c = ap Value-F.Doc (fields_same fs gs h c)
contents_same (Value-F.Doc fs) y h e c = cc
contents_same (Value-F.List xs) (Value-F.List ys) h e c = ap Value-F.List (items_same xs ys h c)
contents_same (Value-F.List xs) y h e c = cc
contents_same (Value-F.Oid s) (Value-F.Oid t) h e c = ap Value-F.Oid (names_same s t c)
contents_same (Value-F.Oid s) y h e c = cc
contents_same (Value-F.Bool a) (Value-F.Bool b) h e c = ap Value-F.Bool (truths_same a b c)
contents_same (Value-F.Bool a) y h e c = cc
contents_same (Value-F.Date m) (Value-F.Date n) h e c = ap Value-F.Date (int_cmp-IsAntisymmetric m n c)
contents_same (Value-F.Date m) y h e c = cc

-- values that tie are equal
pub compare_same : IsAntisymmetric compare_of
compare_same = by_inside OnlyTies (λ x h y e.
    let parts = sym (by_kind_then_content x y) ∙ e in
    let outs = contents_same (out-Value x) (out-Value y) h
    (then_first (nat_cmp (kind x) (kind y)) (content_of x y) parts)
    (then_second (nat_cmp (kind x) (kind y)) (content_of x y) parts) in
    sym (roll-out-Value x) ∙ ap roll-Value outs ∙ roll-out-Value y)

pub compare_itself : (x : Value) → compare_of x x ≡ Equal
compare_itself = tied_itself compare_total

-- two values tie exactly where they are equal
pub compare_ties : (x y : Value) → (compare_of x y ≡ Equal) ↔ (x ≡ y)
compare_ties x y = (compare_same x y, λ e. ap (compare_of x) (sym e) ∙ compare_itself x)

all_only : (fs : List (List ℕ × Value)) → AllByRecursion (λ f. OnlyTies f.1) fs
all_only [] = tt
all_only (f ∷ fs) = (compare_same f.1, all_only fs)

pub documents_total : IsTotalOrder compare_documents
documents_total = lists_total (then_total (on_total (λ (f : List ℕ × Value). kind f.1) nat_cmp_total)
    (then_total (on_total (λ (f : List ℕ × Value). f.0) nat_list_cmp_total)
    (on_total (λ (f : List ℕ × Value). f.1) compare_total)))

-- documents that tie are equal
pub documents_same : IsAntisymmetric compare_documents
documents_same fs gs = fields_same fs gs (all_only fs)

pub documents_ties : (fs gs : List (List ℕ × Value)) → (compare_documents fs gs ≡ Equal) ↔ (fs ≡ gs)
documents_ties fs gs = (documents_same fs gs, λ e. ap (compare_documents fs) (sym e) ∙ tied_itself documents_total fs)

-- the tests of equality tell the same value, document and list of values
pub same_value : (x y : Value) → Decides (eq_by_cmp compare_of x y) (x ≡ y)
same_value x y = (
  λ e. compare_same x y ((Equal-is (compare_of x y)).0 e),
  λ e. (Equal-is (compare_of x y)).1
      ((compare_ties x y).1 e),
)

pub same_document : (fs gs : List (List ℕ × Value)) → Decides (eq_by_cmp compare_documents fs gs) (fs ≡ gs)
same_document fs gs = (
  λ e. documents_same fs gs ((Equal-is (compare_documents fs gs)).0 e),
  λ e. (Equal-is (compare_documents fs gs)).1
      ((documents_ties fs gs).1 e),
)

pub same_values : (xs ys : List Value) → Decides (pointwise (eq_by_cmp compare_of) xs ys) (xs ≡ ys)
same_values = pointwise_decides same_value

-- values that are the same by the test are one value
pub same_from_test : (x y : Value) → is_same x y ≡ true → x ≡ y
same_from_test x y e = (same_value x y).0 e

pub same_itself : (x : Value) → is_same x x ≡ true
same_itself x = (same_value x x).1 refl
