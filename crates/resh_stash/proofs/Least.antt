-- The least of the `_id`s, one after another, is the first of the documents.
use Rattle.std.proofs.Common.{◌≡◌, ◌↔◌, List, [], ◌∷◌, Option, Some, None, Ordering, Less, Equal, Greater, Bor, length, fold, slice_get, refl, sym, ap, ◌∙◌}
use Rattle.std.specs.FinMap.{put, empty, empty_of_len, entries, entries-insert, len-empty, len-entries}
use Rattle.std.specs.FinMap.Entries.{by_order}
use Rattle.std.specs.List.{reduce}
use Rattle.std.specs.Map.{keys_of}
use Rattle.std.specs.Option.{option_copied, option_map_or}
use Rattle.std.specs.Ordering.{min_by_ordering, ordering_reverse}
use Rattle.resh_value.specs.Order.{compare_of}
use Rattle.resh_value.specs.OrderLaws.{compare_total, compare_same}
use Rattle.resh_value.specs.declared.value.Value.{Value}
use Rattle.resh_stash.specs.Stored.{Document, Stored, first_id, gathered}
use Rattle.resh_stash.proofs.Gathered.{Entries}

abbrev pub lesser : Value → Value → Value
lesser a b = min_by_ordering (compare_of a b) a b

lesser_is : (a b : Value) (r : Ordering) → compare_of a b ≡ r → lesser a b ≡ min_by_ordering r a b
lesser_is a b r is = ap (λ o. min_by_ordering o a b) is

itself : (a : Value) → lesser a a ≡ a
itself a = by (compare_of a a)
  where
    by : (r : Ordering) → min_by_ordering r a a ≡ a
    by Less = refl
    by Equal = refl
    by Greater = refl

absorbed : (a b : Value) → lesser a (lesser a b) ≡ lesser a b
absorbed a b = by (compare_of a b) refl
  where
    by : (r : Ordering) → compare_of a b ≡ r → lesser a (min_by_ordering r a b) ≡ min_by_ordering r a b
    by Less e = itself a
    by Equal e = itself a
    by Greater e = lesser_is a b Greater e

turned : (a b : Value) (r : Ordering) → compare_of a b ≡ r → compare_of b a ≡ ordering_reverse r
turned a b r e = compare_total.antisymm b a ∙ ap ordering_reverse e

above : (a b c : Value) → compare_of a b ≡ Greater → compare_of b c ≡ Greater → compare_of a c ≡ Greater
above a b c e f = turned c a Less (compare_total.trans c b a (turned b c Greater f) (turned a b Greater e))

lesser_assoc : (a b c : Value) → lesser (lesser a b) c ≡ lesser a (lesser b c)
lesser_assoc a b c = by (compare_of a b) refl (compare_of b c) refl
  where
    by : (r : Ordering) → compare_of a b ≡ r → (s : Ordering) → compare_of b c ≡ s → lesser (lesser a b) c ≡ lesser a (lesser b c)
    by Less e Less f = ap (λ x. lesser x c) (lesser_is a b Less e) ∙ lesser_is a c Less (compare_total.trans a b c e f) ∙ sym (ap (lesser a) (lesser_is b c Less f) ∙ lesser_is a b Less e)
    by Less e Equal f = ap (λ x. lesser x c) (lesser_is a b Less e) ∙ lesser_is a c Less (ap (compare_of a) (sym (compare_same b c f)) ∙ e) ∙ sym (ap (lesser a) (lesser_is b c Equal f) ∙ lesser_is a b Less e)
    by Less e Greater f = ap (λ x. lesser x c) (lesser_is a b Less e) ∙ sym (ap (lesser a) (lesser_is b c Greater f))
    by Equal e s f = ap (λ x. lesser x c) (lesser_is a b Equal e) ∙ ap (λ x. lesser x c) (compare_same a b e) ∙ sym (ap (λ x. lesser x (lesser b c)) (compare_same a b e) ∙ absorbed b c)
    by Greater e Less f = ap (λ x. lesser x c) (lesser_is a b Greater e) ∙ lesser_is b c Less f ∙ sym (ap (lesser a) (lesser_is b c Less f) ∙ lesser_is a b Greater e)
    by Greater e Equal f = ap (λ x. lesser x c) (lesser_is a b Greater e) ∙ lesser_is b c Equal f ∙ sym (ap (lesser a) (lesser_is b c Equal f) ∙ lesser_is a b Greater e)
    by Greater e Greater f = ap (λ x. lesser x c) (lesser_is a b Greater e) ∙ lesser_is b c Greater f ∙ sym (ap (lesser a) (lesser_is b c Greater f) ∙ lesser_is a c Greater (above a b c e f))

fold_lesser : (a b : Value) (xs : List Value) → fold lesser (lesser a b) xs ≡ lesser a (fold lesser b xs)
fold_lesser a b [] = refl
fold_lesser a b (x ∷ xs) = ap (λ y. fold lesser y xs) (lesser_assoc a b x) ∙ fold_lesser a (lesser b x) xs

abbrev with_one : Value → Option Value → Value
with_one id rest = option_map_or (lesser id) rest id

least_of_more : (x : Value) (xs : List Value) → reduce lesser (x ∷ xs) ≡ Some (with_one x (reduce lesser xs))
least_of_more x [] = refl
least_of_more x (y ∷ ys) = ap Some (fold_lesser x y ys)

first_put : (es : Entries) (id : Value) (d : Document) → slice_get (keys_of (put compare_of id d es)) 0 ≡ Some (with_one id (slice_get (keys_of es) 0))
first_put [] id d = refl
first_put (e ∷ es) id d = by (compare_of id e.0) refl
  where
    by : (r : Ordering) → compare_of id e.0 ≡ r → slice_get (keys_of (by_order r ((id, d) ∷ e ∷ es) ((e.0, d) ∷ es) (e ∷ put compare_of id d es))) 0 ≡ Some (min_by_ordering r id e.0)
    by Less is = refl
    by Equal is = ap Some (sym (compare_same id e.0 is))
    by Greater is = refl

first_more : (e : Value × Document) (es : Entries) → first_id (gathered (e ∷ es)) ≡ Some (with_one e.0 (first_id (gathered es)))
unfolding gathered first_id
first_more e es = ap (λ l. slice_get (keys_of l) 0) (entries-insert compare_total (gathered es) e.0 e.1) ∙ first_put (entries (gathered es)) e.0 e.1

nothing : entries (empty {X = Document} {R = compare_of}) ≡ []
nothing = none (entries (empty {X = Document} {R = compare_of})) (sym (len-entries (empty {X = Document} {R = compare_of})) ∙ len-empty compare_of Document)
  where
    none : (es : Entries) → length es ≡ 0 → es ≡ []
    none [] e = refl
    none (x ∷ es) e = cc

first_of_none : first_id (gathered []) ≡ None
unfolding gathered first_id
first_of_none = ap (λ l. slice_get (keys_of l) 0) nothing

-- the least of the `_id`s is the first of the documents
pub least_is_first : (es : Entries) → reduce lesser (keys_of es) ≡ first_id (gathered es)
least_is_first [] = sym first_of_none
least_is_first (e ∷ es) = least_of_more e.0 (keys_of es) ∙ ap (λ o. Some (with_one e.0 o)) (least_is_first es) ∙ sym (first_more e es)

no_key : (es : Entries) → slice_get (keys_of es) 0 ≡ None → length es ≡ 0
no_key [] is = refl
no_key (e ∷ es) is = cc

-- there is no first `_id` exactly where nothing is held
pub first_none : (m : Stored) → (first_id m ≡ None) ↔ (m ≡ empty)
unfolding first_id
first_none m = (λ e. empty_of_len m (len-entries m ∙ no_key (entries m) e), λ e. ap (λ n. slice_get (keys_of (entries n)) 0) e ∙ ap (λ l. slice_get (keys_of l) 0) nothing)

pub lesser_now : (p z : Bor Value) → (min_by_ordering (compare_of p.now z.now) p z).now ≡ lesser p.now z.now
lesser_now p z = by (compare_of p.now z.now)
  where
    by : (r : Ordering) → (min_by_ordering r p z).now ≡ min_by_ordering r p.now z.now
    by Less = refl
    by Equal = refl
    by Greater = refl

pub copied_none : {X : Type 0} (r : Option (Bor X)) → r ≡ None → option_copied r ≡ None
copied_none r e = ap option_copied e

pub none_copied : {X : Type 0} (r : Option (Bor X)) → option_copied r ≡ None → r ≡ None
none_copied None e = refl
none_copied (Some x) e = cc
