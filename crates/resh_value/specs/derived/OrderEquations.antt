-- The order of values as equations.
use Rattle.std.proofs.Common.{ℕ, ℤ, Bool as Truth, List, [], ◌∷◌, ◌≡◌, ◌≢◌, ◌∙◌, map, ap, refl}
use Rattle.std.specs.declared.cmp.Ordering.{Ordering}
use Rattle.std.specs.Ordering.{nat_cmp, int_cmp, bool_cmp, ordering_then}
use Rattle.std.specs.FinMap.{nat_cmp-IsAntisymmetric}
use Rattle.std.specs.declared.cmp.Ordering.TheVariants.{Less, Equal, Greater}
use Rattle.std.specs.Cmp.Lexicographic.{slice_cmp}
use Rattle.resh_value.specs.Names.{name_cmp}
use Rattle.resh_value.specs.Order.{compare_of, compare_fields, compare_documents, content, content_of, kind, rank, field_against, Judge, judge_step}
use Rattle.resh_value.specs.declared.value.Value.{Value, Value-F, fold-Value, out-Value, map-Value, fold_out-Value}
use Rattle.resh_value.specs.declared.value.Value.TheVariants.{Null, Int, Text, Doc, List as Array, Oid, Bool as Boolean, Date, outs-Null, outs-Int, outs-Text, outs-Doc, outs-List, outs-Oid, outs-Bool, outs-Date}

abbrev judge : Value → Judge
judge = fold-Value Judge judge_step

-- how a judge's content compares
abbrev judged : Value-F Judge → Value-F Value → Ordering
judged = content field_against (λ j w. j.against w)

pub rank-map : {Y Z : Type 0} (h : Y → Z) (x : Value-F Y) → rank (map-Value Y Z h x) ≡ rank x
rank-map h Value-F.Null = refl
rank-map h (Value-F.Int n) = refl
rank-map h (Value-F.Text t) = refl
rank-map h (Value-F.Doc fs) = refl
rank-map h (Value-F.List xs) = refl
rank-map h (Value-F.Oid s) = refl
rank-map h (Value-F.Bool b) = refl
rank-map h (Value-F.Date n) = refl

kind-judge : (v : Value) → (judge v).kind ≡ kind v
kind-judge v = ap (λ (j : Judge). j.kind) (fold_out-Value Judge judge_step v) ∙ rank-map judge (out-Value v)

fields_judged : (fs gs : List (List ℕ × Value))
    → slice_cmp field_against (map (λ f. (f.0, judge f.1)) fs) gs ≡ slice_cmp compare_fields fs gs
unfolding compare_of
fields_judged [] [] = refl
fields_judged [] (g ∷ gs) = refl
fields_judged (f ∷ fs) [] = refl
fields_judged (f ∷ fs) (g ∷ gs) =
    λ i. ordering_then (ordering_then (nat_cmp (kind-judge f.1 i) (kind g.1))
    (ordering_then (name_cmp f.0 g.0) (compare_of f.1 g.1))) (fields_judged fs gs i)

items_judged : (xs ys : List Value)
    → slice_cmp (λ (j : Judge) (w : Value). j.against w) (map judge xs) ys ≡ slice_cmp compare_of xs ys
unfolding compare_of
items_judged [] [] = refl
items_judged [] (y ∷ ys) = refl
items_judged (x ∷ xs) [] = refl
items_judged (x ∷ xs) (y ∷ ys) = λ i. ordering_then (compare_of x y) (items_judged xs ys i)

content_judged : (x y : Value-F Value)
    → judged (map-Value Value Judge judge x) y ≡ content compare_fields compare_of x y
content_judged Value-F.Null y = refl
content_judged (Value-F.Int n) y = refl
content_judged (Value-F.Text t) y = refl
content_judged (Value-F.Doc fs) (Value-F.Doc gs) = fields_judged fs gs
content_judged (Value-F.Doc fs) y = refl
content_judged (Value-F.List xs) (Value-F.List ys) = items_judged xs ys
content_judged (Value-F.List xs) y = refl
content_judged (Value-F.Oid s) y = refl
content_judged (Value-F.Bool b) y = refl
content_judged (Value-F.Date n) y = refl

-- values are compared by kind, then by content
pub by_kind_then_content : (a b : Value) → compare_of a b ≡ ordering_then (nat_cmp (kind a) (kind b)) (content_of a b)
unfolding compare_of
by_kind_then_content a b =
    ap (λ (j : Judge). j.against b) (fold_out-Value Judge judge_step a)
    ∙ (λ i. ordering_then (nat_cmp (rank-map judge (out-Value a) i) (kind b))
    (content_judged (out-Value a) (out-Value b) i))

-- two layers, by kind and then by content
abbrev layers_cmp : Value-F Value → Value-F Value → Ordering
layers_cmp x y = ordering_then (nat_cmp (rank x) (rank y)) (content compare_fields compare_of x y)

by_layers : (a b : Value) (x y : Value-F Value) → out-Value a ≡ x → out-Value b ≡ y → compare_of a b ≡ layers_cmp x y
by_layers a b x y p q = by_kind_then_content a b ∙ (λ i. layers_cmp (p i) (q i))

-- two numbers by value, and two dates
pub compare_Int : (m n : ℤ) → compare_of (Int m) (Int n) ≡ int_cmp m n
compare_Int m n = by_layers _ _ _ _ (outs-Int m) (outs-Int n)

pub compare_Date : (m n : ℤ) → compare_of (Date m) (Date n) ≡ int_cmp m n
compare_Date m n = by_layers _ _ _ _ (outs-Date m) (outs-Date n)

pub compare_Null : compare_of Null Null ≡ Equal
compare_Null = by_layers _ _ _ _ outs-Null outs-Null

-- two texts and two ObjectIds by bytes
pub compare_Text : (s t : List ℕ) → compare_of (Text s) (Text t) ≡ name_cmp s t
compare_Text s t = by_layers _ _ _ _ (outs-Text s) (outs-Text t)

pub compare_Oid : (s t : List ℕ) → compare_of (Oid s) (Oid t) ≡ slice_cmp nat_cmp s t
compare_Oid s t = by_layers _ _ _ _ (outs-Oid s) (outs-Oid t)

-- false before true
pub compare_Bool : (a b : Truth) → compare_of (Boolean a) (Boolean b) ≡ bool_cmp a b
compare_Bool a b = by_layers _ _ _ _ (outs-Bool a) (outs-Bool b)

-- two documents pair by pair
pub compare_Doc : (fs gs : List (List ℕ × Value)) → compare_of (Doc fs) (Doc gs) ≡ compare_documents fs gs
compare_Doc fs gs = by_layers _ _ _ _ (outs-Doc fs) (outs-Doc gs)

-- two arrays item by item
pub compare_List : (xs ys : List Value) → compare_of (Array xs) (Array ys) ≡ slice_cmp compare_of xs ys
compare_List xs ys = by_layers _ _ _ _ (outs-List xs) (outs-List ys)

by_first : (r s : Ordering) → r ≢ Equal → ordering_then r s ≡ r
by_first Less s h = refl
by_first Equal s h = absurd (h refl)
by_first Greater s h = refl

-- values of two kinds by these
pub compare_kinds : (a b : Value) → kind a ≢ kind b → compare_of a b ≡ nat_cmp (kind a) (kind b)
compare_kinds a b h = by_kind_then_content a b
    ∙ by_first (nat_cmp (kind a) (kind b)) (content_of a b) (λ e. h (nat_cmp-IsAntisymmetric (kind a) (kind b) e))
