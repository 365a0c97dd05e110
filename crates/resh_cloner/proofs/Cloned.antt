-- What is left of a clone: each document that stood at the fetch time and comes to the recipient, in order.
use Rattle.std.proofs.Common.{◌≡◌, ◌==◌, ◌⊎◌, inl, inr, ⊎_elim, ℕ, Bool, true, false, cond, List, [], ◌∷◌, ◌++◌, filter, map, Option, Some, None, refl, sym, ap, ◌∙◌, subst, arith}
use Rattle.std.proofs.lemmas.Bool.{eqb-true}
use Rattle.std.proofs.lemmas.Bool.Decides.{eqb_tells}
use Rattle.std.proofs.lemmas.List.{append_assoc, map-append}
use Rattle.std.proofs.lemmas.List.Sums.{fold-append}
use Rattle.std.specs.List.{AllByRecursion, Contains}
use Rattle.std.specs.List.Sorted.{IsStrictlySortedBy}
use Rattle.resh_value.specs.Lookup.{id_of}
use Rattle.resh_value.specs.Order.{compare_of}
use Rattle.resh_value.specs.OrderLaws.{compare_total}
use Rattle.resh_value.specs.declared.value.Value.{Value}
use Rattle.resh_chunks.specs.Chunks.{Chunks, owner_of}
use Rattle.resh_versions.specs.Chains.{Document, IsStored}
use Rattle.resh_versions.specs.Standing.{VersionsOf, IsFiled, standing_after}
use Rattle.resh_versions.proofs.GoingOn.{lists_go_on}
use Rattle.resh_versions.proofs.KeptLists.{keeps_lists}
use Rattle.resh_versions.proofs.Listing.{first_or_later, first_there, later_there, stands_by_reading}
use Rattle.resh_feed.specs.Feeds.{feed_items, is_past}
use Rattle.resh_oplog.specs.Logs.{later_entries}
use Rattle.resh_oplog.specs.declared.entry.Entry.{Entry}
use Rattle.resh_feed.specs.Items.{cloned_item, fetched_item, last_id_of, up_to_final}
use Rattle.resh_feed.specs.declared.item.Item.{Item}
use Rattle.resh_feed.proofs.GoingOn.{by_last, documents_on, rising_filter}
use Rattle.resh_cloner.specs.Cloning.{clone_part, comes_to, left_after}
use Rattle.resh_cloner.specs.Laws.{ClonesEach, ClonesInOrder, GoesOn, StaysCloned}

-- what passes is kept, and what is kept was there and passes
module _ {X : Type 0} (p : X → Bool) where
  kept : (xs : List X) (x : X) → Contains xs x → p x ≡ true → Contains (filter p xs) x
  kept [] x (n, within, is) passes = absurd (omega arith)
  kept (y ∷ ys) x there passes = by (p y) refl (first_or_later y ys x there) (λ later. kept ys x later passes)
    where
      by : (b : Bool) → p y ≡ b → (y ≡ x) ⊎ Contains ys x → (Contains ys x → Contains (filter p ys) x) → Contains (cond b (y ∷ filter p ys) (filter p ys)) x
      by true e (inl same) rest = subst (Contains (y ∷ filter p ys)) same (first_there y (filter p ys))
      by true e (inr later) rest = later_there y (filter p ys) x (rest later)
      by false e (inl same) rest = absurd (let off : true ≡ false = sym passes ∙ sym (ap p same) ∙ e in cc)
      by false e (inr later) rest = rest later

  was_there : (xs : List X) (x : X) → Contains (filter p xs) x → Contains xs x × (p x ≡ true)
  was_there [] x (n, within, is) = absurd (omega arith)
  was_there (y ∷ ys) x there = by (p y) refl there (was_there ys x)
    where
      by : (b : Bool) → p y ≡ b → Contains (cond b (y ∷ filter p ys) (filter p ys)) x → (Contains (filter p ys) x → Contains ys x × (p x ≡ true)) → Contains (y ∷ ys) x × (p x ≡ true)
      by true e h rest =
          ⊎_elim (λ same. (subst (Contains (y ∷ ys)) same (first_there y ys), sym (ap p same) ∙ e)) (λ later. let w = rest later in (later_there y ys x w.0, w.1)) (first_or_later y (filter p ys) x h)
      by false e h rest = let w = rest h in (later_there y ys x w.0, w.1)

  all_kept : (P : X → Type 0) (xs : List X) → AllByRecursion P xs → AllByRecursion P (filter p xs)
  all_kept P [] all = tt
  all_kept P (x ∷ xs) all = elim (p x) as (λ b. AllByRecursion P (cond b (x ∷ filter p xs) (filter p xs))) [ true ↦ (all.0, all_kept P xs all.1) | false ↦ all_kept P xs all.1 ]

same_number : (n : ℕ) → (n == n) ≡ true
same_number n = ⊎_elim (λ k. k.0) (λ k. absurd (k.1 refl)) (eqb_tells n n)

module _ (versions : VersionsOf) (new_map : Chunks) (time recipient : ℕ) where
  stood : (after : Option Value) (d : Document) → IsFiled versions.chains → Contains (left_after versions new_map time recipient after) d → Contains (standing_after versions time after) d × (comes_to new_map recipient d ≡ true)
  stood after d filed there = was_there (comes_to new_map recipient) (standing_after versions time after) d there

pub clones_each : ClonesEach
clones_each = record {
  stood = λ versions new_map time recipient after d filed there.
      let w = stood versions new_map time recipient after d filed there in
      let r = stands_by_reading.read versions time after d filed w.0 in
      (r.0, r.1, eqb-true (owner_of new_map d) recipient w.1);
  left = λ versions new_map time recipient after d stands above comes.
      kept (comes_to new_map recipient) (standing_after versions time after) d (stands_by_reading.listed versions time after (id_of d) d stands above) (ap (λ n. n == recipient) comes ∙ same_number recipient);
}

pub clones_in_order : ClonesInOrder
clones_in_order = record {
  rise = λ versions new_map time recipient after filed.
      rising_filter id_of compare_of compare_total (comes_to new_map recipient) (standing_after versions time after) (stands_by_reading.rise versions time after filed);
  whole = λ versions new_map time recipient after filed.
      all_kept (comes_to new_map recipient) IsStored (standing_after versions time after) (stands_by_reading.whole versions time after filed);
}

module _ (versions : VersionsOf) (new_map : Chunks) (time recipient : ℕ) (filed : IsFiled versions.chains) where
  goes_on : (read rest : List Document) → clone_part versions new_map time recipient ≡ read ++ rest → left_after versions new_map time recipient (last_id_of read) ≡ rest
  goes_on read rest is =
      ⊎_elim
      (λ none. ap (λ ds. left_after versions new_map time recipient (last_id_of ds)) none ∙ is ∙ ap (λ ds. ds ++ rest) none)
      (λ some.
      let split : clone_part versions new_map time recipient ≡ some.0 ++ some.1 ∷ rest = is ∙ ap (λ ds. ds ++ rest) some.2 ∙ append_assoc some.0 (some.1 ∷ []) rest in
      let last : last_id_of read ≡ Some (id_of some.1) = ap last_id_of some.2 ∙ fold-append (λ (before : Option Value) (d : Document). Some (id_of d)) None some.0 (some.1 ∷ []) in
      ap (left_after versions new_map time recipient) last ∙ lists_go_on.behind versions time None (comes_to new_map recipient) some.0 rest some.1 filed split)
      (by_last read)

  -- the items of what was read, of what is left and of the entries
  feed_parted : (log : List Entry) (read rest : List Document) → clone_part versions new_map time recipient ≡ read ++ rest
      → feed_items recipient time (clone_part versions new_map time recipient) log
      ≡ map cloned_item read ++ map cloned_item (left_after versions new_map time recipient (last_id_of read)) ++ map fetched_item (up_to_final (later_entries time recipient log))
  feed_parted log read rest is =
      ap (λ ds. map cloned_item ds ++ entries) is
      ∙ ap (λ l. l ++ entries) (map-append cloned_item read rest)
      ∙ ap (λ ds. map cloned_item read ++ map cloned_item ds ++ entries) (sym (goes_on read rest is))
    where
      entries : List Item
      entries = map fetched_item (up_to_final (later_entries time recipient log))

pub clone_goes_on : GoesOn
clone_goes_on = record {
  items = λ versions new_map time recipient log read rest filed is. feed_parted versions new_map time recipient filed log read rest is;
  rest = λ versions new_map time recipient read rest filed is. goes_on versions new_map time recipient filed read rest is;
  next = λ versions new_map time recipient read rest filed is.
      goes_on versions new_map time recipient filed read rest is
      ∙ sym (ap (λ ds. filter (is_past (last_id_of read)) ds) is ∙ documents_on read rest (subst (λ ds. IsStrictlySortedBy compare_of (map id_of ds)) is (clones_in_order.rise versions new_map time recipient None filed)));
}

pub stays_cloned : StaysCloned
stays_cloned = record {
  later = λ versions new_map time recipient after id v filed stands below. ap (filter (comes_to new_map recipient)) (keeps_lists.later versions id v time after filed stands below);
  pruning = λ versions new_map time recipient after floor filed within. ap (filter (comes_to new_map recipient)) (keeps_lists.after_pruning versions floor time after filed within);
}
