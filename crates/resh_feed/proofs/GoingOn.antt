-- Reading goes on behind what was read: in the documents of a clone part, and in a log.
use Rattle.std.proofs.Common.{◌≡◌, ◌≢◌, ◌<◌, ◌≤◌, ◌⊎◌, inl, inr, ℕ, Bool, true, false, cond, ◌&&◌, nat_lt, List, [], ◌∷◌, ◌++◌, map, filter, take, Option, Some, None, unwrap_or, refl, sym, ap, subst, ◌∙◌, ⊎_elim, arith, rules, Less, Equal, Greater}
use Rattle.std.proofs.lemmas.Bool.{cases_lt}
use Rattle.std.proofs.lemmas.List.{append_assoc}
use Rattle.std.proofs.lemmas.List.Kept.{IsStrictlySortedBy-filter}
use Rattle.std.proofs.lemmas.List.Sums.{fold-append}
use Rattle.std.specs.Cmp.{IsTotalOrder, nat_cmp_is, tied_itself}
use Rattle.std.specs.List.{AllByRecursion}
use Rattle.std.specs.List.Sorted.{IsStrictlySortedBy}
use Rattle.std.specs.Ordering.{is_lt, nat_cmp, ordering_then, ordering_reverse}
use Rattle.std.specs.declared.cmp.Ordering.{Ordering}
use Rattle.resh_value.specs.Lookup.{id_of}
use Rattle.resh_value.specs.Order.{compare_of}
use Rattle.resh_value.specs.OrderLaws.{compare_total}
use Rattle.resh_value.specs.declared.value.Value.{Value}
use Rattle.resh_stamp.specs.Times.{mark_cmp}
use Rattle.resh_stamp.specs.Times as times
use Rattle.resh_stamp.proofs.Orders.{mark_total}
use Rattle.resh_stamp.specs.declared.stamp.Mark.{Mark}
use Rattle.resh_oplog.specs.Logs.{AreMarked, IsRising, entries_after, is_above, is_for, later_entries, mark_of}
use Rattle.resh_oplog.proofs.Later.{reads_later}
use Rattle.resh_oplog.specs.declared.entry.Entry.{Entry}
use Rattle.resh_feed.specs.Feeds.{is_past, next_documents, next_entries}
use Rattle.resh_feed.specs.Items.{Document, has_final, last_id_of, last_mark_of, up_to_final}
use Rattle.resh_feed.proofs.Cutting.{behind_front, final_take}

-- the last of a list, if it has one
pub by_last : {X : Type 0} (xs : List X) → (xs ≡ []) ⊎ ((front : List X) × (x : X) × (xs ≡ front ++ x ∷ []))
by_last [] = inl refl
by_last (x ∷ xs) = inr (⊎_elim (λ none. ([], x, ap (λ l. x ∷ l) none)) (λ some. (x ∷ some.0, some.1, ap (λ l. x ∷ l) some.2)) (by_last xs))

all_true : {X : Type 0} (l : List X) → filter (λ x. true) l ≡ l
all_true [] = refl
all_true (x ∷ xs) = ap (λ l. x ∷ l) (all_true xs)

-- what stands behind an element of a rising list is what is above it
module _ {X K : Type 0} (key : X → K) (c : K → K → Ordering) (total : IsTotalOrder c) where
  abbrev pub above : K → X → Bool
  above k x = is_lt (c k (key x))

  less_back : (a b : K) → c a b ≡ Less → is_lt (c b a) ≡ false
  less_back a b e = ap is_lt (total.antisymm b a ∙ ap ordering_reverse e)

  all_above : (k : K) (xs : List X) → AllByRecursion (λ y. c k y ≡ Less) (map key xs) → filter (above k) xs ≡ xs
  all_above k [] all = refl
  all_above k (x ∷ xs) all = ap (λ b. cond b (x ∷ filter (above k) xs) (filter (above k) xs)) (ap is_lt all.0) ∙ ap (λ l. x ∷ l) (all_above k xs all.1)

  all_at : (k : K) (front : List X) (x : X) (rest : List X) → AllByRecursion (λ y. c k y ≡ Less) (map key (front ++ x ∷ rest)) → c k (key x) ≡ Less
  all_at k [] x rest all = all.0
  all_at k (y ∷ ys) x rest all = all_at k ys x rest all.1

  pub above_rest : (front : List X) (x : X) (rest : List X) → IsStrictlySortedBy c (map key (front ++ x ∷ rest)) → filter (above (key x)) (front ++ x ∷ rest) ≡ rest
  unfolding IsStrictlySortedBy
  above_rest [] x rest s = ap (λ b. cond b (x ∷ filter (above (key x)) rest) (filter (above (key x)) rest)) (ap is_lt (tied_itself total (key x))) ∙ all_above (key x) rest s.0
  above_rest (y ∷ ys) x rest s =
      ap (λ b. cond b (y ∷ filter (above (key x)) (ys ++ x ∷ rest)) (filter (above (key x)) (ys ++ x ∷ rest))) (less_back (key y) (key x) (all_at (key y) ys x rest s.0)) ∙ above_rest ys x rest s.1

  all_filtered : (p : X → Bool) (P : K → Type 0) (xs : List X) → AllByRecursion P (map key xs) → AllByRecursion P (map key (filter p xs))
  all_filtered p P [] all = tt
  all_filtered p P (x ∷ xs) all = elim (p x) as (λ b. AllByRecursion P (map key (cond b (x ∷ filter p xs) (filter p xs)))) [ true ↦ (all.0, all_filtered p P xs all.1) | false ↦ all_filtered p P xs all.1 ]

  pub rising_filter : (p : X → Bool) (xs : List X) → IsStrictlySortedBy c (map key xs) → IsStrictlySortedBy c (map key (filter p xs))
  unfolding IsStrictlySortedBy
  rising_filter p [] s = tt
  rising_filter p (x ∷ xs) s = elim (p x) as (λ b. IsStrictlySortedBy c (map key (cond b (x ∷ filter p xs) (filter p xs)))) [ true ↦ (all_filtered p (λ y. c (key x) y ≡ Less) xs s.0, rising_filter p xs s.1) | false ↦ rising_filter p xs s.1 ]

-- the documents behind those that were read
pub documents_on : (read rest : List Document) → IsStrictlySortedBy compare_of (map id_of (read ++ rest)) → next_documents read (read ++ rest) ≡ rest
documents_on read rest s =
    ⊎_elim
    (λ none. ap (λ ds. next_documents ds (ds ++ rest)) none ∙ all_true rest)
    (λ some.
    let split : read ++ rest ≡ some.0 ++ some.1 ∷ rest = ap (λ ds. ds ++ rest) some.2 ∙ append_assoc some.0 (some.1 ∷ []) rest in
    let last : last_id_of read ≡ Some (id_of some.1) = ap last_id_of some.2 ∙ fold-append (λ (before : Option Value) (d : Document). Some (id_of d)) None some.0 (some.1 ∷ []) in
    ap (λ o. filter (is_past o) (read ++ rest)) last ∙ ap (filter (is_past (Some (id_of some.1)))) split
    ∙ above_rest id_of compare_of compare_total some.0 some.1 rest (subst (λ ds. IsStrictlySortedBy compare_of (map id_of ds)) split s))
    (by_last read)

-- entries of a later time
abbrev past : ℕ → Entry → Bool
past time e = nat_lt time e.stamp.time

first_less : (r s t : Ordering) → ordering_then (ordering_then r s) t ≡ Less → r ≢ Greater
first_less Less s t e k = cc
first_less Equal s t e k = cc
first_less Greater s t e k = cc

is_less : (r : Ordering) → is_lt r ≡ true → r ≡ Less
is_less Less e = refl
is_less Equal e = cc
is_less Greater e = cc

lt_of : (a b : ℕ) → nat_lt a b ≡ true → a < b
lt_of a b h = search (arith, rules)

of_lt : (a b : ℕ) → a < b → nat_lt a b ≡ true
of_lt a b h = search (arith, rules)

-- what is above a later entry is later
past_up : (time : ℕ) (e x : Entry) → past time e ≡ true → is_above (Some (mark_of e)) (mark_of x) ≡ true → past time x ≡ true
past_up time e x p a =
    let not_greater : nat_cmp e.stamp.time x.stamp.time ≢ Greater =
    first_less (nat_cmp e.stamp.time x.stamp.time) (nat_cmp e.stamp.node x.stamp.node) (nat_cmp e.part x.part) (is_less (mark_cmp (mark_of e) (mark_of x)) a) in
    let lt : time < e.stamp.time = lt_of time e.stamp.time p in
    ⊎_elim
    (λ (back : x.stamp.time < e.stamp.time). absurd (not_greater (sym (nat_cmp_is e.stamp.time x.stamp.time Greater back))))
    (λ (on : e.stamp.time ≤ x.stamp.time). of_lt time x.stamp.time (omega arith))
    (cases_lt x.stamp.time e.stamp.time)

one_of : (P : Entry → Type 0) (front : List Entry) (e : Entry) (rest : List Entry) → AllByRecursion P (front ++ e ∷ rest) → P e
one_of P [] e rest all = all.0
one_of P (x ∷ xs) e rest all = one_of P xs e rest all.1

-- of entries that pass two tests, those that pass one from which the first follows
module _ (late for above : Entry → Bool) (follows : (x : Entry) → above x ≡ true → late x ≡ true) where
  pub twice : (log : List Entry) → filter (λ x. above x && for x) log ≡ filter above (filter (λ x. late x && for x) log)
  twice [] = refl
  twice (x ∷ xs) = by (above x) refl (late x) refl (for x) refl (twice xs)
    where
      by : (a : Bool) → above x ≡ a → (l : Bool) → late x ≡ l → (f : Bool) → for x ≡ f → filter (λ y. above y && for y) xs ≡ filter above (filter (λ y. late y && for y) xs)
          → cond (above x && for x) (x ∷ filter (λ y. above y && for y) xs) (filter (λ y. above y && for y) xs) ≡ filter above (cond (late x && for x) (x ∷ filter (λ y. late y && for y) xs) (filter (λ y. late y && for y) xs))
      by true a true l true f rest = grind (arith, a, l, f, rest)
      by true a true l false f rest = grind (arith, a, l, f, rest)
      by true a false l f g rest = let never : true ≡ false = sym (follows x a) ∙ l in cc
      by false a true l true f rest = grind (arith, a, l, f, rest)
      by false a true l false f rest = grind (arith, a, l, f, rest)
      by false a false l f g rest = grind (arith, a, l, rest)

module _ (late for : Entry → Bool) where
  pub all_late : (log : List Entry) → AllByRecursion (λ x. late x ≡ true) (filter (λ x. late x && for x) log)
  all_late [] = tt
  all_late (x ∷ xs) = by (late x) refl (for x) (all_late xs)
    where
      by : (l : Bool) → late x ≡ l → (f : Bool) → AllByRecursion (λ y. late y ≡ true) (filter (λ y. late y && for y) xs) → AllByRecursion (λ y. late y ≡ true) (cond (l && f) (x ∷ filter (λ y. late y && for y) xs) (filter (λ y. late y && for y) xs))
      by true l true rest = (l, rest)
      by true l false rest = rest
      by false l f rest = rest

-- the entries behind those that were read
pub goes_on : (log : List Entry) → IsRising log → (time r : ℕ) (front : List Entry) (e : Entry) (rest : List Entry) → later_entries time r log ≡ front ++ e ∷ rest → entries_after (Some (mark_of e)) r log ≡ rest
goes_on log rising time r front e rest is =
    let for : Entry → Bool = λ x. is_for r x.to in
    let above_it : Entry → Bool = λ x. is_above (Some (mark_of e)) (mark_of x) in
    let sorted : IsStrictlySortedBy mark_cmp (map mark_of (later_entries time r log)) = rising_filter mark_of mark_cmp mark_total (λ x. past time x && for x) log rising in
    let p : past time e ≡ true = one_of (λ x. past time x ≡ true) front e rest (subst (AllByRecursion (λ x. past time x ≡ true)) is (all_late (past time) for log)) in
    twice (past time) for above_it (λ x a. past_up time e x p a) log
    ∙ ap (filter above_it) is
    ∙ above_rest mark_of mark_cmp mark_total front e rest (subst (λ es. IsStrictlySortedBy mark_cmp (map mark_of es)) is sorted)

-- what is fetched next
pub entries_on : (r time most : ℕ) (log read rest : List Entry) → IsRising log → AreMarked log
    → up_to_final (later_entries time r log) ≡ read ++ rest → has_final read ≡ false → up_to_final (take most (next_entries r time read log)) ≡ take most rest
entries_on r time most log read rest rising small is none =
    let more = behind_front (later_entries time r log) read rest is none in
    let next : next_entries r time read log ≡ more.0 =
    ⊎_elim
    (λ empty. ap (λ es. next_entries r time es log) empty ∙ reads_later time r log small ∙ more.1 ∙ ap (λ es. es ++ more.0) empty)
    (λ some.
    let last : last_mark_of read ≡ Some (mark_of some.1) = ap last_mark_of some.2 ∙ fold-append (λ (before : Option Mark) (e : Entry). Some (mark_of e)) None some.0 (some.1 ∷ []) in
    ap (λ m. entries_after (Some (unwrap_or m (times.last_mark_of time))) r log) last
    ∙ goes_on log rising time r some.0 some.1 more.0 (more.1 ∙ ap (λ es. es ++ more.0) some.2 ∙ append_assoc some.0 (some.1 ∷ []) more.0))
    (by_last read) in
    ap (λ es. up_to_final (take most es)) next ∙ final_take most more.0 ∙ ap (take most) (sym more.2)
