-- The order of values.
use Rattle.std.specs.Prelude.{ℕ, Bool, List}
use Rattle.std.specs.Ordering.{is_eq, nat_cmp, int_cmp, bool_cmp, ordering_then}
use Rattle.std.specs.Cmp.Lexicographic.{slice_cmp}
use Rattle.std.specs.declared.cmp.Ordering.{Ordering}
use Rattle.std.specs.declared.cmp.Ordering.TheVariants.{Equal}
use Rattle.resh_value.specs.Names.{name_cmp}
use Rattle.resh_value.specs.declared.value.Value.{Value, out-Value, fold-Value}
use Rattle.resh_value.specs.declared.value.Value.TheOpen.{Value-F}

-- kinds rise: null, number, text, document, array, ObjectId, boolean, date
abbrev pub rank : {A : Type 0} → Value-F A → ℕ
rank Value-F.Null = 0
rank (Value-F.Int n) = 1
rank (Value-F.Text t) = 2
rank (Value-F.Doc fields) = 3
rank (Value-F.List items) = 4
rank (Value-F.Oid bytes) = 5
rank (Value-F.Bool b) = 6
rank (Value-F.Date n) = 7

abbrev pub kind : Value → ℕ
kind v = rank (out-Value v)

-- two values of one kind are compared by what they hold, and the shorter text, document or array is less
abbrev pub content : {A : Type 0} → (List ℕ × A → List ℕ × Value → Ordering) → (A → Value → Ordering) → Value-F A
    → Value-F Value → Ordering
content by_field by_item (Value-F.Int m) (Value-F.Int n) = int_cmp m n
content by_field by_item (Value-F.Text s) (Value-F.Text t) = name_cmp s t
content by_field by_item (Value-F.Doc fs) (Value-F.Doc gs) = slice_cmp by_field fs gs
content by_field by_item (Value-F.List xs) (Value-F.List ys) = slice_cmp by_item xs ys
content by_field by_item (Value-F.Oid s) (Value-F.Oid t) = slice_cmp nat_cmp s t
content by_field by_item (Value-F.Bool a) (Value-F.Bool b) = bool_cmp a b
content by_field by_item (Value-F.Date m) (Value-F.Date n) = int_cmp m n
content by_field by_item x y = Equal

-- a value, as what others are compared with: its kind, and how it compares
pub record Judge : Type 0 where
  pub kind : ℕ
  pub against : Value → Ordering

-- fields are compared by kind, then by name, then by value
abbrev pub field_against : List ℕ × Judge → List ℕ × Value → Ordering
field_against f g = ordering_then (nat_cmp f.1.kind (kind g.1)) (ordering_then (name_cmp f.0 g.0) (f.1.against g.1))

-- values are compared by kind, then by content
abbrev pub judge_step : Value-F Judge → Judge
judge_step x = record {
  kind = rank x;
  against = λ v. ordering_then (nat_cmp (rank x) (kind v)) (content field_against (λ j w. j.against w) x (out-Value v));
}

unfoldable pub compare_of : Value → Value → Ordering
compare_of v = (fold-Value Judge judge_step v).against

-- neither is above the other: they are one value
abbrev pub is_same : Value → Value → Bool
is_same a b = is_eq (compare_of a b)

-- the same of values that stand inside
abbrev pub compare_fields : List ℕ × Value → List ℕ × Value → Ordering
compare_fields f g = ordering_then (nat_cmp (kind f.1) (kind g.1))
    (ordering_then (name_cmp f.0 g.0) (compare_of f.1 g.1))

-- documents are compared pair by pair, and the shorter is less
abbrev pub compare_documents : List (List ℕ × Value) → List (List ℕ × Value) → Ordering
compare_documents = slice_cmp compare_fields

abbrev pub content_of : Value → Value → Ordering
content_of a b = content compare_fields compare_of (out-Value a) (out-Value b)
