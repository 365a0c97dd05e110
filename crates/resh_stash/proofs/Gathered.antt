-- The documents that a table's entries are, read and changed as the table is.
use Rattle.std.proofs.Common.{◌≡◌, ◌+◌, Bool, true, false, cond, T, List, [], ◌∷◌, Option, Some, None, IfSome, Ordering, Less, Equal, Greater, length, refl, sym, ap, subst, ◌∙◌, arith}
use Rattle.std.proofs.lemmas.Map.Keys.{IsDistinct-head, IsDistinct-tail}
use Rattle.std.specs.Cmp.{eq_by_cmp_equiv}
use Rattle.std.specs.FinMap.{find, empty, get, insert, remove, len, get-from_entries, get-insert, get-remove, len-empty, len-insert, same_map}
use Rattle.std.specs.List.{AllByRecursion, IsDistinct}
use Rattle.std.specs.Map.{lookup, lookup_key, keys_of}
use Rattle.std.specs.Option.{option_map, is_some}
use Rattle.std.specs.Ordering.{eq_by_cmp, is_eq}
use Rattle.resh_value.specs.Order.{compare_of}
use Rattle.resh_value.specs.OrderLaws.{compare_total, compare_same}
use Rattle.resh_value.specs.declared.value.Value.{Value}
use Rattle.resh_stash.specs.Stored.{Document, gathered}

abbrev pub Entries : Type 0
Entries = List (Value × Document)

abbrev pub is_id : Value → Value → Bool
is_id = eq_by_cmp compare_of

pub find_lookup : (q : Value) (es : Entries) → find compare_of q es ≡ lookup (is_id q) es
find_lookup q [] = refl
find_lookup q (e ∷ es) = ap (cond (is_id q e.0) (Some e.1)) (find_lookup q es)

-- what is found among the documents is found among the entries
pub get_gathered : (es : Entries) (q : Value) → get (gathered es) q ≡ lookup (is_id q) es
unfolding gathered
get_gathered es q = get-from_entries compare_total es q ∙ find_lookup q es

pub gathered_none : gathered [] ≡ empty
unfolding gathered
gathered_none = refl

pub gathered_alike : (es fs : Entries) → ((q : Value) → lookup (is_id q) fs ≡ lookup (is_id q) es) → gathered fs ≡ gathered es
gathered_alike es fs is = same_map compare_total compare_same _ _ (λ q. get_gathered fs q ∙ is q ∙ sym (get_gathered es q))

flipped : (id q : Value) → is_id id q ≡ is_id q id
flipped = (eq_by_cmp_equiv compare_total).symm

-- a document put at an `_id`
pub gathered_put : (es fs : Entries) (id : Value) (d : Document) → ((q : Value) → lookup (is_id q) fs ≡ cond (is_id id q) (Some d) (lookup (is_id q) es)) → gathered fs ≡ insert (gathered es) id d
gathered_put es fs id d is = same_map compare_total compare_same _ _ (λ q.
    get_gathered fs q ∙ is q ∙ (λ i. cond (flipped id q i) (Some d) (sym (get_gathered es q) i)) ∙ sym (get-insert compare_total (gathered es) id d q))

-- the document of an `_id` taken out
pub gathered_without : (es fs : Entries) (id : Value) → ((q : Value) → lookup (is_id q) fs ≡ cond (is_id id q) None (lookup (is_id q) es)) → gathered fs ≡ remove (gathered es) id
gathered_without es fs id is = same_map compare_total compare_same _ _ (λ q.
    get_gathered fs q ∙ is q ∙ (λ i. cond (flipped id q i) None (sym (get_gathered es q) i)) ∙ sym (get-remove compare_total (gathered es) id q))

tied : (b : Bool) (id q : Value) → is_id id q ≡ b → T b → id ≡ q
tied true id q is t = compare_same id q (equal (compare_of id q) (subst T (sym is) t))
  where
    equal : (r : Ordering) → T (is_eq r) → r ≡ Equal
    equal Less t = absurd t
    equal Equal t = refl
    equal Greater t = absurd t
tied false id q is t = absurd t

-- the document that is held, put again
pub gathered_again : (es fs : Entries) (id : Value) (d : Document) → lookup (is_id id) es ≡ Some d → ((q : Value) → lookup (is_id q) fs ≡ cond (is_id id q) (Some d) (lookup (is_id q) es)) → gathered fs ≡ gathered es
gathered_again es fs id d held is = gathered_alike es fs (λ q. is q ∙ by q (is_id id q) refl)
  where
    by : (q : Value) (b : Bool) → is_id id q ≡ b → cond b (Some d) (lookup (is_id q) es) ≡ lookup (is_id q) es
    by q true e = sym held ∙ ap (λ k. lookup (is_id k) es) (tied true id q e tt)
    by q false e = refl

own_key : (es : Entries) (id : Value) → IfSome (lookup_key (is_id id) es) (λ k. k ≡ id)
own_key [] id = tt
own_key (e ∷ es) id = by (is_id id e.0) refl (own_key es id)
  where
    by : (b : Bool) → is_id id e.0 ≡ b → IfSome (lookup_key (is_id id) es) (λ k. k ≡ id) → IfSome (cond b (Some e.0) (lookup_key (is_id id) es)) (λ k. k ≡ id)
    by true is rest = sym (tied true id e.0 is tt)
    by false is rest = rest

own_entry : (id : Value) (r : Option (Value × Document)) → IfSome (option_map (λ p. p.0) r) (λ k. k ≡ id) → r ≡ option_map (λ d. (id, d)) (option_map (λ p. p.1) r)
own_entry id None own = refl
own_entry id (Some p) own = λ i. Some (own i, p.1)

-- an entry is taken out with its own `_id`
pub taken_entry : (es : Entries) (id : Value) (r : Option (Value × Document)) → option_map (λ p. p.0) r ≡ lookup_key (is_id id) es → option_map (λ p. p.1) r ≡ lookup (is_id id) es
    → r ≡ option_map (λ d. (id, d)) (get (gathered es) id)
taken_entry es id r key value =
    own_entry id r (subst (λ k. IfSome k (λ k. k ≡ id)) (sym key) (own_key es id)) ∙ ap (option_map (λ (d : Document). (id, d))) (value ∙ sym (get_gathered es id))

missing : (es : Entries) (id : Value) → AllByRecursion (λ y. is_id id y ≡ false) (keys_of es) → lookup (is_id id) es ≡ None
missing [] id all = refl
missing (e ∷ es) id all = ap (λ b. cond b (Some e.1) (lookup (is_id id) es)) all.0 ∙ missing es id all.1

-- as many documents as entries, where no two have one `_id`
pub len_gathered : (es : Entries) → IsDistinct is_id (keys_of es) → len (gathered es) ≡ length es
unfolding gathered
len_gathered [] unique = len-empty compare_of Document
len_gathered (e ∷ es) unique =
    let new : get (gathered es) e.0 ≡ None = get_gathered es e.0 ∙ missing es e.0 (IsDistinct-head is_id e.0 (keys_of es) unique) in
    let rest : len (gathered es) ≡ length es = len_gathered es (IsDistinct-tail is_id e.0 (keys_of es) unique) in
    let more : len (gathered (e ∷ es)) ≡ len (gathered es) + 1 = len-insert compare_total (gathered es) e.0 e.1 ∙ ap (λ (o : Option Document). cond (is_some o) (len (gathered es)) (len (gathered es) + 1)) new in
    omega arith
