-- The list above an `_id` continues the list up to it.
use Rattle.std.proofs.Common.{◌≡◌, ℕ, Bool, true, false, cond, not, List, [], ◌∷◌, ◌++◌, filter, map, Option, Some, None, refl, sym, ap, ◌∙◌, subst, Less, Equal, Greater}
use Rattle.std.proofs.lemmas.List.Elements.{Contains-append_right}
use Rattle.std.specs.FinMap.{entries}
use Rattle.std.specs.List.{AllByRecursion, Contains, cons_option}
use Rattle.std.specs.List.Sorted.{IsStrictlySortedBy}
use Rattle.std.specs.Map.{keys_of}
use Rattle.std.specs.Ordering.{is_lt, ordering_reverse}
use Rattle.std.specs.declared.cmp.Ordering.{Ordering}
use Rattle.resh_value.specs.Lookup.{id_of}
use Rattle.resh_value.specs.Order.{compare_of}
use Rattle.resh_value.specs.OrderLaws.{compare_total, compare_itself}
use Rattle.resh_value.specs.declared.value.Value.{Value}
use Rattle.resh_versions.specs.Chains.{Document, Chain}
use Rattle.resh_versions.specs.Laws.{ListsGoOn}
use Rattle.resh_versions.specs.Standing.{VersionsOf, IsFiled, documents_of, is_above, read_after}
use Rattle.resh_versions.proofs.Listing.{entry_read, first_there, keys_of_chains_rise, lists_rise, named_entries, was_filtered, was_read}

less_is : (r : Ordering) → is_lt r ≡ true → r ≡ Less
less_is Less e = refl
less_is Equal e = cc
less_is Greater e = cc

-- what is above an `_id` has what is above it above that `_id` too
above_later : (a b c : Value) → is_above (Some a) b ≡ true → compare_of b c ≡ Less → is_above (Some a) c ≡ true
above_later a b c above less = ap is_lt (compare_total.trans a b c (less_is (compare_of a b) above) less)

abbrev Entries : Type 0
Entries = List (Value × Chain)

abbrev past : Value → Value × Chain → Bool
past last e = is_above (Some last) e.0

module _ (last : Value) where
  all_past : (k : Value) (es : Entries) → is_above (Some last) k ≡ true → AllByRecursion (λ y. compare_of k y ≡ Less) (keys_of es) → filter (past last) es ≡ es
  all_past k [] above all = refl
  all_past k (e ∷ es) above all = ap (λ b. cond b (e ∷ filter (past last) es) (filter (past last) es)) (above_later last k e.0 above all.0) ∙ ap (λ l. e ∷ l) (all_past k es above all.1)

  none_left : (k : Value) (es : Entries) → is_above (Some last) k ≡ true → AllByRecursion (λ y. compare_of k y ≡ Less) (keys_of es) → filter (λ e. not (past last e)) es ≡ []
  none_left k [] above all = refl
  none_left k (e ∷ es) above all = ap (λ b. cond (not b) (e ∷ filter (λ x. not (past last x)) es) (filter (λ x. not (past last x)) es)) (above_later last k e.0 above all.0) ∙ none_left k es above all.1

  -- entries by rising key are those up to one and those above it
  parted : (es : Entries) → IsStrictlySortedBy compare_of (keys_of es) → es ≡ filter (λ e. not (past last e)) es ++ filter (past last) es
  unfolding IsStrictlySortedBy
  parted [] rise = refl
  parted (e ∷ es) rise = by (past last e) refl (parted es rise.1)
    where
      by : (b : Bool) → past last e ≡ b → es ≡ filter (λ x. not (past last x)) es ++ filter (past last) es
          → e ∷ es ≡ cond (not b) (e ∷ filter (λ x. not (past last x)) es) (filter (λ x. not (past last x)) es) ++ cond b (e ∷ filter (past last) es) (filter (past last) es)
      by true f rest = λ i. sym (none_left e.0 es f rise.0) i ++ (e ∷ sym (all_past e.0 es f rise.0) i)
      by false f rest = ap (λ l. e ∷ l) rest

documents_joined : (time : Option ℕ) (es fs : Entries) → documents_of time (es ++ fs) ≡ documents_of time es ++ documents_of time fs
documents_joined time [] fs = refl
documents_joined time (e ∷ es) fs = ap (λ l. cons_option (entry_read time e) l) (documents_joined time es fs) ∙ by (entry_read time e)
  where
    by : (r : Option Document) → cons_option r (documents_of time es ++ documents_of time fs) ≡ cons_option r (documents_of time es) ++ documents_of time fs
    by None = refl
    by (Some d) = refl

abbrev beyond : Value → Document → Bool
beyond k d = is_above (Some k) (id_of d)

abbrev Named : Option ℕ → Entries → Type 0
Named time es = AllByRecursion (λ e. (d : Document) → entry_read time e ≡ Some d → id_of d ≡ e.0) es

-- the documents above an `_id` are those of all that are above it
above_all : (time : Option ℕ) (k : Value) (es : Entries) → Named time es → documents_of time (filter (past k) es) ≡ filter (beyond k) (documents_of time es)
above_all time k [] named = refl
above_all time k (e ∷ es) named = by (entry_read time e) refl (past k e) refl (above_all time k es named.1)
  where
    by : (r : Option Document) → entry_read time e ≡ r → (b : Bool) → past k e ≡ b → documents_of time (filter (past k) es) ≡ filter (beyond k) (documents_of time es)
        → documents_of time (cond b (e ∷ filter (past k) es) (filter (past k) es)) ≡ filter (beyond k) (cons_option r (documents_of time es))
    by None f true h rest = ap (λ r. cons_option r (documents_of time (filter (past k) es))) f ∙ rest
    by None f false h rest = rest
    by (Some d) f true h rest =
        ap (λ r. cons_option r (documents_of time (filter (past k) es))) f ∙ ap (λ l. d ∷ l) rest
        ∙ sym (ap (λ b. cond b (d ∷ filter (beyond k) (documents_of time es)) (filter (beyond k) (documents_of time es))) (ap (is_above (Some k)) (named.0 d f) ∙ h))
    by (Some d) f false h rest =
        rest ∙ sym (ap (λ b. cond b (d ∷ filter (beyond k) (documents_of time es)) (filter (beyond k) (documents_of time es))) (ap (is_above (Some k)) (named.0 d f) ∙ h))

-- of entries above one `_id`, those above a greater one
narrowed : (after : Option Value) (k : Value) → is_above after k ≡ true → (es : Entries) → filter (past k) (filter (λ e. is_above after e.0) es) ≡ filter (past k) es
narrowed after k above [] = refl
narrowed after k above (e ∷ es) = by (is_above after e.0) refl (past k e) refl (narrowed after k above es)
  where
    all_above : (o : Option Value) → is_above o k ≡ true → past k e ≡ true → is_above o e.0 ≡ true
    all_above None a h = refl
    all_above (Some o) a h = above_later o k e.0 a (less_is (compare_of k e.0) h)

    by : (a : Bool) → is_above after e.0 ≡ a → (b : Bool) → past k e ≡ b → filter (past k) (filter (λ x. is_above after x.0) es) ≡ filter (past k) es
        → filter (past k) (cond a (e ∷ filter (λ x. is_above after x.0) es) (filter (λ x. is_above after x.0) es)) ≡ cond b (e ∷ filter (past k) es) (filter (past k) es)
    by true f b h rest = ap (λ c. cond c (e ∷ filter (past k) (filter (λ x. is_above after x.0) es)) (filter (past k) (filter (λ x. is_above after x.0) es))) h ∙ ap (λ l. cond b (e ∷ l) l) rest
    by false f false h rest = rest
    by false f true h rest = let never : false ≡ true = sym f ∙ all_above after above h in cc

filters_commute : (p q : Document → Bool) (ds : List Document) → filter p (filter q ds) ≡ filter q (filter p ds)
filters_commute p q [] = refl
filters_commute p q (d ∷ ds) = by (p d) refl (q d) refl (filters_commute p q ds)
  where
    by : (a : Bool) → p d ≡ a → (b : Bool) → q d ≡ b → filter p (filter q ds) ≡ filter q (filter p ds)
        → filter p (cond b (d ∷ filter q ds) (filter q ds)) ≡ filter q (cond a (d ∷ filter p ds) (filter p ds))
    by true e true f rest =
        ap (λ b. cond b (d ∷ filter p (filter q ds)) (filter p (filter q ds))) e ∙ ap (λ l. d ∷ l) rest ∙ sym (ap (λ b. cond b (d ∷ filter q (filter p ds)) (filter q (filter p ds))) f)
    by true e false f rest = rest ∙ sym (ap (λ b. cond b (d ∷ filter q (filter p ds)) (filter q (filter p ds))) f)
    by false e true f rest = ap (λ b. cond b (d ∷ filter p (filter q ds)) (filter p (filter q ds))) e ∙ rest
    by false e false f rest = rest

abbrev Rise : List Document → Type 0
Rise ds = IsStrictlySortedBy compare_of (map id_of ds)

-- some documents by rising `_id` rise too
module _ (p : Document → Bool) where
  some_above : (k : Value) (ds : List Document) → AllByRecursion (λ y. compare_of k y ≡ Less) (map id_of ds) → AllByRecursion (λ y. compare_of k y ≡ Less) (map id_of (filter p ds))
  some_above k [] all = tt
  some_above k (d ∷ ds) all = by (p d) (some_above k ds all.1)
    where
      by : (b : Bool) → AllByRecursion (λ y. compare_of k y ≡ Less) (map id_of (filter p ds)) → AllByRecursion (λ y. compare_of k y ≡ Less) (map id_of (cond b (d ∷ filter p ds) (filter p ds)))
      by true rest = (all.0, rest)
      by false rest = rest

  some_rise : (ds : List Document) → Rise ds → Rise (filter p ds)
  unfolding IsStrictlySortedBy
  some_rise [] rise = tt
  some_rise (d ∷ ds) rise = by (p d) (some_rise ds rise.1)
    where
      by : (b : Bool) → Rise (filter p ds) → Rise (cond b (d ∷ filter p ds) (filter p ds))
      by true rest = (some_above (id_of d) ds rise.0, rest)
      by false rest = rest

less_back : (a b : Value) → compare_of a b ≡ Less → is_lt (compare_of b a) ≡ false
less_back a b e = ap is_lt (compare_total.antisymm b a ∙ ap ordering_reverse e)

all_beyond : (k : Value) (ds : List Document) → AllByRecursion (λ y. compare_of k y ≡ Less) (map id_of ds) → filter (beyond k) ds ≡ ds
all_beyond k [] all = refl
all_beyond k (d ∷ ds) all = ap (λ b. cond b (d ∷ filter (beyond k) ds) (filter (beyond k) ds)) (ap is_lt all.0) ∙ ap (λ l. d ∷ l) (all_beyond k ds all.1)

at_place : (k : Value) (front : List Document) (d : Document) (rest : List Document) → AllByRecursion (λ y. compare_of k y ≡ Less) (map id_of (front ++ d ∷ rest)) → compare_of k (id_of d) ≡ Less
at_place k [] d rest all = all.0
at_place k (x ∷ xs) d rest all = at_place k xs d rest all.1

-- what is above a document's `_id` comes behind it
beyond_rest : (front : List Document) (d : Document) (rest : List Document) → Rise (front ++ d ∷ rest) → filter (beyond (id_of d)) (front ++ d ∷ rest) ≡ rest
unfolding IsStrictlySortedBy
beyond_rest [] d rest rise = ap (λ b. cond b (d ∷ filter (beyond (id_of d)) rest) (filter (beyond (id_of d)) rest)) (ap is_lt (compare_itself (id_of d))) ∙ all_beyond (id_of d) rest rise.0
beyond_rest (x ∷ xs) d rest rise =
    ap (λ b. cond b (x ∷ filter (beyond (id_of d)) (xs ++ d ∷ rest)) (filter (beyond (id_of d)) (xs ++ d ∷ rest))) (less_back (id_of x) (id_of d) (at_place (id_of x) xs d rest rise.0))
    ∙ beyond_rest xs d rest rise.1

some_named : (time : Option ℕ) (p : Value × Chain → Bool) (es : Entries) → Named time es → Named time (filter p es)
some_named time p [] named = tt
some_named time p (e ∷ es) named = by (p e) (some_named time p es named.1)
  where
    by : (b : Bool) → Named time (filter p es) → Named time (cond b (e ∷ filter p es) (filter p es))
    by true rest = (named.0, rest)
    by false rest = rest

module _ (s : VersionsOf) (time : Option ℕ) (are : IsFiled s.chains) where
  behind : (after : Option Value) (takes : Document → Bool) (front rest : List Document) (d : Document) → filter takes (read_after s time after) ≡ front ++ d ∷ rest → filter takes (read_after s time (Some (id_of d))) ≡ rest
  behind after takes front rest d is =
      ap (λ es. filter takes (documents_of time es)) (sym (narrowed after (id_of d) above (entries s.chains)))
      ∙ ap (filter takes) (above_all time (id_of d) (filter (λ e. is_above after e.0) (entries s.chains)) (some_named time (λ e. is_above after e.0) (entries s.chains) (named_entries s time are)))
      ∙ filters_commute takes (beyond (id_of d)) (read_after s time after)
      ∙ ap (filter (beyond (id_of d))) is
      ∙ beyond_rest front d rest (subst Rise is (some_rise takes (read_after s time after) (lists_rise s time are after)))
    where
      there : Contains (read_after s time after) d
      there = was_filtered takes (read_after s time after) d (subst (λ l. Contains l d) (sym is) (Contains-append_right front (d ∷ rest) d (first_there d rest)))

      above : is_above after (id_of d) ≡ true
      above = (was_read s time are after d there).1

no_bound : (es : Entries) → filter (λ e. is_above None e.0) es ≡ es
no_bound [] = refl
no_bound (e ∷ es) = ap (λ l. e ∷ l) (no_bound es)

pub lists_go_on : ListsGoOn
lists_go_on = record {
  joined = λ s time last.
      ap (documents_of (Some time)) (no_bound (entries s.chains) ∙ parted last (entries s.chains) (keys_of_chains_rise s.chains))
      ∙ documents_joined (Some time) (filter (λ e. not (past last e)) (entries s.chains)) (filter (past last) (entries s.chains));
  behind = λ s time after takes front rest d are is. behind s (Some time) are after takes front rest d is;
  behind_now = λ s after takes front rest d are is. behind s None are after takes front rest d is;
}
