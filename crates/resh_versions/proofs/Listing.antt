-- The documents at a time are those that are read, and their `_id`s rise.
use Rattle.std.proofs.Common.{◌≡◌, ◌⊎◌, inl, inr, ℕ, zero, suc, Bool, true, false, cond, List, [], ◌∷◌, filter, map, Option, Some, None, unwrap_or, IfSome, refl, sym, ap, ◌∙◌, subst, arith, Less}
use Rattle.std.specs.FinMap.{get, entries, entries_sorted}
use Rattle.std.specs.List.{AllByRecursion, Contains, cons_option, filter_map}
use Rattle.std.specs.List.Sorted.{IsStrictlySortedBy}
use Rattle.std.specs.Map.{keys_of}
use Rattle.resh_value.specs.Lookup.{id_of}
use Rattle.resh_value.specs.Order.{compare_of}
use Rattle.resh_value.specs.OrderLaws.{compare_total, compare_same}
use Rattle.resh_value.specs.declared.value.Value.{Value}
use Rattle.resh_value.proofs.MapEntries.{entry_found, found_entry, keys_rise}
use Rattle.resh_versions.specs.Chains.{Chain, Document, IsStored, chain_read}
use Rattle.resh_versions.specs.Laws.{StandsByReading, StandsNow}
use Rattle.resh_versions.specs.Standing.{VersionsOf, Chains, IsFiled, StandsUnder, is_above, read, read_after}
use Rattle.resh_versions.proofs.ChainLaws.{chain_at_has, newest_has}

pub first_there : {X : Type 0} (x : X) (xs : List X) → Contains (x ∷ xs) x
first_there x xs = (zero, omega arith, refl)

pub later_there : {X : Type 0} (y : X) (xs : List X) (x : X) → Contains xs x → Contains (y ∷ xs) x
later_there y xs x (k, within, is) = (suc k, omega arith, is)

pub first_or_later : {X : Type 0} (y : X) (xs : List X) (x : X) → Contains (y ∷ xs) x → (y ≡ x) ⊎ Contains xs x
first_or_later y xs x (zero, within, is) = inl is
first_or_later y xs x (suc k, within, is) = inr (k, omega arith, is)

all_there : {X : Type 0} (P : X → Type 0) (xs : List X) → ((x : X) → Contains xs x → P x) → AllByRecursion P xs
all_there P [] each = tt
all_there P (x ∷ xs) each = (each x (first_there x xs), all_there P xs (λ y there. each y (later_there x xs y there)))

-- what passes was there
pub was_filtered : {X : Type 0} (p : X → Bool) (xs : List X) (x : X) → Contains (filter p xs) x → Contains xs x
was_filtered p [] x (k, within, is) = absurd (omega arith)
was_filtered {X} p (y ∷ ys) x there = by (p y) (λ h. was_filtered p ys x h) there
  where
    front : (Contains (filter p ys) x → Contains ys x) → (y ≡ x) ⊎ Contains (filter p ys) x → Contains (y ∷ ys) x
    front rest (inl is) = (zero, omega arith, is)
    front rest (inr h) = later_there y ys x (rest h)

    by : (b : Bool) → (Contains (filter p ys) x → Contains ys x) → Contains (cond b (y ∷ filter p ys) (filter p ys)) x → Contains (y ∷ ys) x
    by true rest h = front rest (first_or_later y (filter p ys) x h)
    by false rest h = later_there y ys x (rest h)

-- what is given by the items that pass
module _ {X Y : Type 0} (p : X → Bool) (h : X → Option Y) where
  abbrev pub picked : List X → List Y
  picked xs = filter_map h (filter p xs)

  abbrev step : Bool → Option Y → List X → List Y
  step b r xs = cond b (cons_option r (picked xs)) (picked xs)

  stepped : (x : X) (xs : List X) (b : Bool) → filter_map h (cond b (x ∷ filter p xs) (filter p xs)) ≡ step b (h x) xs
  stepped x xs true = refl
  stepped x xs false = refl

  pub origin : (xs : List X) (y : Y) → Contains (picked xs) y → (x : X) × Contains xs x × (p x ≡ true) × (h x ≡ Some y)
  origin [] y (k, within, is) = absurd (omega arith)
  origin (x ∷ xs) y there = by (p x) (h x) refl refl (origin xs y) (subst (λ l. Contains l y) (stepped x xs (p x)) there)
    where
      behind : ((z : X) × Contains xs z × (p z ≡ true) × (h z ≡ Some y)) → (z : X) × Contains (x ∷ xs) z × (p z ≡ true) × (h z ≡ Some y)
      behind (z, there, passes, gives) = (z, later_there x xs z there, passes, gives)

      here : (z : Y) → p x ≡ true → h x ≡ Some z → (Contains (picked xs) y → (w : X) × Contains xs w × (p w ≡ true) × (h w ≡ Some y)) → (z ≡ y) ⊎ Contains (picked xs) y → (w : X) × Contains (x ∷ xs) w × (p w ≡ true) × (h w ≡ Some y)
      here z e f rest (inl is) = (x, first_there x xs, e, f ∙ ap Some is)
      here z e f rest (inr there) = behind (rest there)

      by : (b : Bool) (r : Option Y) → p x ≡ b → h x ≡ r → (Contains (picked xs) y → (w : X) × Contains xs w × (p w ≡ true) × (h w ≡ Some y)) → Contains (step b r xs) y → (w : X) × Contains (x ∷ xs) w × (p w ≡ true) × (h w ≡ Some y)
      by true (Some z) e f rest there = here z e f rest (first_or_later z (picked xs) y there)
      by true None e f rest there = behind (rest there)
      by false r e f rest there = behind (rest there)

  pub is_picked : (xs : List X) (x : X) (y : Y) → Contains xs x → p x ≡ true → h x ≡ Some y → Contains (picked xs) y
  is_picked [] x y (k, within, is) passes gives = absurd (omega arith)
  is_picked (z ∷ zs) x y there passes gives =
      subst (λ l. Contains l y) (sym (stepped z zs (p z))) (by (first_or_later z zs x there) (λ t. is_picked zs x y t passes gives))
    where
      later : (b : Bool) (r : Option Y) → Contains (picked zs) y → Contains (step b r zs) y
      later true (Some w) t = later_there w (picked zs) y t
      later true None t = t
      later false r t = t

      by : (z ≡ x) ⊎ Contains zs x → (Contains zs x → Contains (picked zs) y) → Contains (step (p z) (h z) zs) y
      by (inl is) rest = subst (λ l. Contains l y) (λ i. step (sym (ap p is ∙ passes) i) (sym (ap h is ∙ gives) i) zs) (first_there y (picked zs))
      by (inr t) rest = later (p z) (h z) (rest t)

-- where what an entry gives has its key for an `_id`, the `_id`s rise
module _ (p : Value × Chain → Bool) (h : Value × Chain → Option Document) where
  abbrev IsNamed : Value × Chain → Type 0
  IsNamed e = (d : Document) → h e ≡ Some d → id_of d ≡ e.0

  ids_below : (k : Value) (es : List (Value × Chain)) → AllByRecursion (λ y. compare_of k y ≡ Less) (keys_of es) → AllByRecursion IsNamed es → AllByRecursion (λ y. compare_of k y ≡ Less) (map id_of (picked p h es))
  ids_below k [] below named = tt
  ids_below k (e ∷ es) below named =
      subst (λ l. AllByRecursion (λ y. compare_of k y ≡ Less) (map id_of l)) (sym (stepped p h e es (p e))) (by (p e) (h e) refl (ids_below k es below.1 named.1))
    where
      by : (b : Bool) (r : Option Document) → h e ≡ r → AllByRecursion (λ y. compare_of k y ≡ Less) (map id_of (picked p h es)) → AllByRecursion (λ y. compare_of k y ≡ Less) (map id_of (step p h b r es))
      by true (Some d) f rest = (ap (compare_of k) (named.0 d f) ∙ below.0, rest)
      by true None f rest = rest
      by false r f rest = rest

  pub ids_rise : (es : List (Value × Chain)) → IsStrictlySortedBy compare_of (keys_of es) → AllByRecursion IsNamed es → IsStrictlySortedBy compare_of (map id_of (picked p h es))
  unfolding IsStrictlySortedBy
  ids_rise [] rise named = tt
  ids_rise (e ∷ es) rise named =
      subst (λ l. IsStrictlySortedBy compare_of (map id_of l)) (sym (stepped p h e es (p e))) (by (p e) (h e) refl (ids_rise es rise.1 named.1) (ids_below e.0 es rise.0 named.1))
    where
      by : (b : Bool) (r : Option Document) → h e ≡ r → IsStrictlySortedBy compare_of (map id_of (picked p h es)) → AllByRecursion (λ y. compare_of e.0 y ≡ Less) (map id_of (picked p h es)) → IsStrictlySortedBy compare_of (map id_of (step p h b r es))
      by true (Some d) f rest below = (subst (λ k. AllByRecursion (λ y. compare_of k y ≡ Less) (map id_of (picked p h es))) (sym (named.0 d f)) below, rest)
      by true None f rest below = rest
      by false r f rest below = rest

abbrev pub entry_read : Option ℕ → Value × Chain → Option Document
entry_read time e = chain_read time e.1

abbrev pub is_entry_above : Option Value → Value × Chain → Bool
is_entry_above after e = is_above after e.0

chain_read_has : (P : Document → Type 0) (time : Option ℕ) (chain : Chain) → AllByRecursion (λ v. IfSome v.document P) chain → IfSome (chain_read time chain) P
chain_read_has P None chain all = newest_has P chain all
chain_read_has P (Some time) chain all = chain_at_has P time chain all

-- what an entry of filed chains gives may stand under its key
pub gives_under : (chains : Chains) (time : Option ℕ) → IsFiled chains → (e : Value × Chain) → Contains (entries chains) e → (d : Document) → entry_read time e ≡ Some d → StandsUnder e.0 d
gives_under chains time are e there d is = subst (λ r. IfSome r (StandsUnder e.0)) is (chain_read_has (StandsUnder e.0) time e.1 (are e.0 e.1 (entry_found compare_total compare_same chains e.0 e.1 there)).stand)

pub keys_of_chains_rise : (chains : Chains) → IsStrictlySortedBy compare_of (keys_of (entries chains))
keys_of_chains_rise chains = keys_rise compare_of (entries chains) (entries_sorted chains)

-- at a time, or now
module _ (s : VersionsOf) (time : Option ℕ) (are : IsFiled s.chains) where
  pub was_read : (after : Option Value) (d : Document) → Contains (read_after s time after) d → (read s time (id_of d) ≡ Some d) × (is_above after (id_of d) ≡ true) × IsStored d
  was_read after d there =
      let o = origin (is_entry_above after) (entry_read time) (entries s.chains) d there in
      let stands = gives_under s.chains time are o.0 o.1 d o.3 in
      (ap (read s time) stands.named ∙ ap (λ r. chain_read time (unwrap_or r [])) (entry_found compare_total compare_same s.chains o.0.0 o.0.1 o.1) ∙ o.3, ap (is_above after) stands.named ∙ o.2, stands.whole)

  pub all_whole : (after : Option Value) → AllByRecursion IsStored (read_after s time after)
  all_whole after = all_there IsStored (read_after s time after) (λ d there. (was_read after d there).2)

  pub named_entries : AllByRecursion (λ e. (d : Document) → entry_read time e ≡ Some d → id_of d ≡ e.0) (entries s.chains)
  named_entries = all_there _ (entries s.chains) (λ e there d is. (gives_under s.chains time are e there d is).named)

  pub lists_rise : (after : Option Value) → IsStrictlySortedBy compare_of (map id_of (read_after s time after))
  lists_rise after = ids_rise (is_entry_above after) (entry_read time) (entries s.chains) (keys_of_chains_rise s.chains) named_entries

pub is_listed : (s : VersionsOf) (time : Option ℕ) (after : Option Value) (id : Value) (d : Document) → read s time id ≡ Some d → is_above after id ≡ true → Contains (read_after s time after) d
is_listed s time after id d is above = shows (get s.chains id) refl
  where
    never : (t : Option ℕ) → chain_read t [] ≡ Some d → ⊥
    never None e = cc
    never (Some t) e = cc

    shows : (r : Option Chain) → get s.chains id ≡ r → Contains (read_after s time after) d
    shows None none = absurd (never time (sym (ap (λ r. chain_read time (unwrap_or r [])) none) ∙ is))
    shows (Some chain) found =
        is_picked (is_entry_above after) (entry_read time) (entries s.chains) (id, chain) d (found_entry compare_total compare_same s.chains id chain found) above
        (sym (ap (λ r. chain_read time (unwrap_or r [])) found) ∙ is)

pub stands_by_reading : StandsByReading
stands_by_reading = record {
  read = λ s time after d are there. let w = was_read s (Some time) are after d there in (w.0, w.1);
  listed = λ s time after id d is above. is_listed s (Some time) after id d is above;
  rise = λ s time after are. lists_rise s (Some time) are after;
  whole = λ s time after are. all_whole s (Some time) are after;
}

pub stands_now : StandsNow
stands_now = record {
  read = λ s after d are there. let w = was_read s None are after d there in (w.0, w.1);
  listed = λ s after id d is above. is_listed s None after id d is above;
  rise = λ s after are. lists_rise s None are after;
  whole = λ s after are. all_whole s None are after;
}
