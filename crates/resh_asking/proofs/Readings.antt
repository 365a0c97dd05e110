-- What shards reply to a reading, made one reply, is the reply by the bag of them all.
use Rattle.std.proofs.Common.{◌≡◌, ◌<◌, ◌+◌, ◌||◌, ◌&&◌, ⊎_elim, ℕ, zero, suc, Bool, true, false, List, [], ◌∷◌, length, map, filter, take, None, refl, sym, ap, ◌∙◌, subst, arith}
use Rattle.std.proofs.lemmas.List.Folds.{flat_map-map}
use Rattle.std.specs.List.{Contains, flat_map, list_all, range_with_len, sum_by}
use Rattle.std.specs.List.Sorted.{IsPermutation}
use Rattle.resh_chunks.specs.Chunks.{Chunks}
use Rattle.resh_filter.specs.Filters.{matches}
use Rattle.resh_command.specs.declared.command.Command.{Command}
use Rattle.resh_command.specs.declared.command.Command.TheVariants.{Insert, Update, Delete, Find, Count, Abort}
use Rattle.resh_command.specs.declared.reply.Reply.{Reply}
use Rattle.resh_command.specs.declared.reply.Reply.TheVariants.{Found, Counted}
use Rattle.resh_versions.specs.Standing.{IsFiled}
use Rattle.resh_versions.proofs.Listing.{stands_now}
use Rattle.resh_bag.specs.Answer.{doing, reply_of}
use Rattle.resh_bag.specs.Bag.{Document, documents}
use Rattle.resh_bag.specs.Parts.{bag_over}
use Rattle.resh_bag.proofs.Lists.{first_or_later, first_there, later_there}
use Rattle.resh_shard.specs.Decisions.{doing_on}
use Rattle.resh_shard.specs.Shards.{Shard, bag_of, documents_of}
use Rattle.resh_shard.specs.Writes.{shard_id}
use Rattle.resh_shard.proofs.Held.{documents_own}
use Rattle.resh_router.specs.Laws.{is_reading}
use Rattle.resh_router.specs.Merging.{AreFirst, MergesTo, Part, are_counted, are_found, count_in, count_of_all, is_counted, is_found, shown_by}
use Rattle.resh_router.proofs.Lists.{in_range, range_distinct, sum_mapped, sum_total}
use Rattle.resh_asking.proofs.Merged.{Rises, counts_are, first_are, shown_all}

-- replies of one kind
each_passes : {X Y : Type 0} (f : X → Y) (p : Y → Bool) → ((x : X) → p (f x) ≡ true) → (xs : List X) → list_all p (map f xs) ≡ true
each_passes f p all [] = refl
each_passes f p all (x ∷ xs) = ap (λ b. b && list_all p (map f xs)) (all x) ∙ each_passes f p all xs

none_passes : {X Y : Type 0} (f : X → Y) (p : Y → Bool) → ((x : X) → p (f x) ≡ false) → (xs : List X) → 0 < length xs → list_all p (map f xs) ≡ false
none_passes f p none [] some = absurd (omega (arith, some))
none_passes f p none (x ∷ xs) some = ap (λ b. b && list_all p (map f xs)) (none x)

map_same : {X Y : Type 0} (f g : X → Y) (xs : List X) → ((x : X) → Contains xs x → f x ≡ g x) → map f xs ≡ map g xs
map_same f g [] same = refl
map_same f g (x ∷ xs) same = λ i. same x (first_there x xs) i ∷ map_same f g xs (λ y there. same y (later_there x xs y there)) i

numbers_back : (ns : List ℕ) → map (λ s. s.0) (map shard_id ns) ≡ ns
numbers_back [] = refl
numbers_back (n ∷ ns) = ap (λ l. n ∷ l) (numbers_back ns)

range_under : (from n k : ℕ) → Contains (range_with_len from n) k → k < from + n
range_under from zero k (i, within, is) = absurd (omega (arith, within))
range_under from (suc n) k there = ⊎_elim (λ same. omega (arith, same)) (λ later. let lt = range_under (from + 1) n k later in omega (arith, lt)) (first_or_later from (range_with_len (from + 1) n) k there)

module _ (n : ℕ) (own : ℕ → List Document) (rise : (s : ℕ) → Contains (range_with_len 0 n) s → Rises (own s)) (f : Document) where
  abbrev ns : List ℕ
  ns = range_with_len 0 n

  abbrev mine : ℕ → List Document
  mine s = filter (matches f) (own s)

  abbrev pub found_parts : List Part
  found_parts = map (λ s. (shard_id s, Found (length (filter (matches f) (own s))) (take 10 (filter (matches f) (own s))))) (range_with_len 0 n)

  abbrev pub counted_parts : List Part
  counted_parts = map (λ s. (shard_id s, Counted (length (filter (matches f) (own s))))) (range_with_len 0 n)

  count_mine : sum_by (λ s. length (filter (matches f) (own s))) (range_with_len 0 n) ≡ length (filter (matches f) (documents (bag_over own (range_with_len 0 n))))
  count_mine =
      sum_total (λ s. length (filter (matches f) (own s))) n
      ∙ sym (counts_are own ns rise (matches f) n (λ s there. let lt = range_under 0 n s there in omega (arith, lt)) (λ s lt. in_range 0 n s (omega arith) (omega (arith, lt))))

  found_count : count_of_all (map (λ s. (shard_id s, Found (length (filter (matches f) (own s))) (take 10 (filter (matches f) (own s))))) (range_with_len 0 n)) ≡ length (filter (matches f) (documents (bag_over own (range_with_len 0 n))))
  found_count = sum_mapped (λ s. (shard_id s, Found (length (mine s)) (take 10 (mine s)))) (λ part. count_in part.1) ns ∙ count_mine

  counted_count : count_of_all (map (λ s. (shard_id s, Counted (length (filter (matches f) (own s))))) (range_with_len 0 n)) ≡ length (filter (matches f) (documents (bag_over own (range_with_len 0 n))))
  counted_count = sum_mapped (λ s. (shard_id s, Counted (length (mine s)))) (λ part. count_in part.1) ns ∙ count_mine

  same_shown : flat_map shown_by (map (λ s. (shard_id s, Found (length (filter (matches f) (own s))) (take 10 (filter (matches f) (own s))))) (range_with_len 0 n)) ≡ shown_all own ns rise (matches f) (map shard_id (range_with_len 0 n))
  same_shown =
      flat_map-map shown_by (λ s. (shard_id s, Found (length (mine s)) (take 10 (mine s)))) ns
      ∙ sym (flat_map-map (λ s. shown_by (s, Found (length (mine s.0)) (take 10 (mine s.0)))) shard_id ns)

  first_found : (first : List Document) → AreFirst 10 (flat_map shown_by (map (λ s. (shard_id s, Found (length (filter (matches f) (own s))) (take 10 (filter (matches f) (own s))))) (range_with_len 0 n))) first
      → first ≡ take 10 (filter (matches f) (documents (bag_over own (range_with_len 0 n))))
  first_found first are =
      first_are own ns rise (matches f) (map shard_id ns) (numbers_back ns) (range_distinct 0 n) are.ordered (subst (λ l. IsPermutation l are.ordered) same_shown are.same) are.rises first are.are

  some_found : {X : Type 0} (x : X) (g : ℕ → X) (p : X → Bool) → ((s : ℕ) → p (g s) ≡ false) → (m : ℕ) → list_all p (map g (range_with_len m n)) ≡ true → n ≡ 0
  some_found x g p none m all = by n all
    where
      by : (k : ℕ) → list_all p (map g (range_with_len m k)) ≡ true → k ≡ 0
      by zero h = refl
      by (suc k) h = absurd (let off : false ≡ true = sym (ap (λ b. b && list_all p (map g (range_with_len (m + 1) k))) (none m)) ∙ h in cc)

  pub find_merges : 0 < n → (reply : Reply) → MergesTo (map (λ s. (shard_id s, Found (length (filter (matches f) (own s))) (take 10 (filter (matches f) (own s))))) (range_with_len 0 n)) reply
      → reply ≡ Found (length (filter (matches f) (documents (bag_over own (range_with_len 0 n))))) (take 10 (filter (matches f) (documents (bag_over own (range_with_len 0 n)))))
  find_merges some (Found count first) m = let k = m.1 ∙ found_count in let ds = first_found first m.2 in λ i. Found (k i) (ds i)
  find_merges some (Counted count) m =
      absurd (let none = some_found (shard_id 0, Counted 0) (λ s. (shard_id s, Found (length (mine s)) (take 10 (mine s)))) (λ part. is_counted part.1) (λ s. refl) 0 m.0 in omega (arith, some, none))
  find_merges some other m = absurd m

  pub count_merges : 0 < n → (reply : Reply) → MergesTo (map (λ s. (shard_id s, Counted (length (filter (matches f) (own s))))) (range_with_len 0 n)) reply → reply ≡ Counted (length (filter (matches f) (documents (bag_over own (range_with_len 0 n)))))
  count_merges some (Found count first) m =
      absurd (let none = some_found (shard_id 0, Counted 0) (λ s. (shard_id s, Counted (length (mine s)))) (λ part. is_found part.1) (λ s. refl) 0 m.0 in omega (arith, some, none))
  count_merges some (Counted count) m = ap Counted (m.1 ∙ counted_count)
  count_merges some other m = absurd m

-- the shards' own documents are those that they hold
module _ (n : ℕ) (at : ℕ → Shard) (filed : (s : ℕ) → Contains (range_with_len 0 n) s → IsFiled (at s).versions.chains) (some : 0 < n) where
  abbrev held_at : ℕ → List Document
  held_at s = documents_of (at s)

  rise : (s : ℕ) → Contains (range_with_len 0 n) s → Rises (documents_of (at s))
  rise s there = stands_now.rise (at s).versions None (filed s there)

  own : (s : ℕ) → Contains (range_with_len 0 n) s → documents (bag_of (at s)) ≡ documents_of (at s)
  own s there = documents_own (at s).versions (filed s there) (at s).log.donor.0

  pub reading_merges : (chunks : Chunks) (command : Command) (reply : Reply) → is_reading command ≡ true → MergesTo (map (λ s. (shard_id s, reply_of (doing_on (at s) command))) (range_with_len 0 n)) reply
      → reply ≡ reply_of (doing chunks (bag_over (λ s. documents_of (at s)) (range_with_len 0 n)) command)
  reading_merges chunks (Find f) reply is m =
      find_merges n held_at rise f some reply
      (subst (λ l. MergesTo l reply)
      (map_same (λ s. (shard_id s, reply_of (doing_on (at s) (Find f)))) (λ s. (shard_id s, Found (length (filter (matches f) (held_at s))) (take 10 (filter (matches f) (held_at s))))) (range_with_len 0 n)
      (λ s there. ap (λ ds. (shard_id s, Found (length (filter (matches f) ds)) (take 10 (filter (matches f) ds)))) (own s there))) m)
  reading_merges chunks (Count f) reply is m =
      count_merges n held_at rise f some reply
      (subst (λ l. MergesTo l reply)
      (map_same (λ s. (shard_id s, reply_of (doing_on (at s) (Count f)))) (λ s. (shard_id s, Counted (length (filter (matches f) (held_at s))))) (range_with_len 0 n)
      (λ s there. ap (λ ds. (shard_id s, Counted (length (filter (matches f) ds)))) (own s there))) m)
  reading_merges chunks (Insert d) reply is m = cc
  reading_merges chunks (Update f u) reply is m = cc
  reading_merges chunks (Delete f) reply is m = cc
  reading_merges chunks Abort reply is m = cc

-- replies to one reading are of one kind
pub one_kind : (at : ℕ → Shard) (command : Command) (ns : List ℕ) → is_reading command ≡ true
    → (are_found (map (λ s. (shard_id s, reply_of (doing_on (at s) command))) ns) || are_counted (map (λ s. (shard_id s, reply_of (doing_on (at s) command))) ns)) ≡ true
one_kind at (Find f) ns is =
    ap (λ b. b || are_counted (map (λ s. (shard_id s, reply_of (doing_on (at s) (Find f)))) ns)) (each_passes (λ s. (shard_id s, reply_of (doing_on (at s) (Find f)))) (λ part. is_found part.1) (λ s. refl) ns)
one_kind at (Count f) ns is =
    ap (λ b. are_found (map (λ s. (shard_id s, reply_of (doing_on (at s) (Count f)))) ns) || b) (each_passes (λ s. (shard_id s, reply_of (doing_on (at s) (Count f)))) (λ part. is_counted part.1) (λ s. refl) ns)
    ∙ either (are_found (map (λ s. (shard_id s, reply_of (doing_on (at s) (Count f)))) ns))
  where
    either : (b : Bool) → (b || true) ≡ true
    either true = refl
    either false = refl
one_kind at (Insert d) ns is = cc
one_kind at (Update f u) ns is = cc
one_kind at (Delete f) ns is = cc
one_kind at Abort ns is = cc
