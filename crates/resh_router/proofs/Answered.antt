-- The replies of the shards' own parts merge to the reply of the whole bag.
use Rattle.std.proofs.Common.{◌≡◌, ◌==◌, ◌||◌, ◌&&◌, ◌<◌, ℕ, suc, Bool, true, false, List, [], ◌∷◌, length, map, filter, take, None, refl, sym, ap, ◌∙◌, subst, arith}
use Rattle.std.proofs.lemmas.List.Folds.{flat_map-map}
use Rattle.std.specs.List.{Contains, IsDistinct, flat_map, list_all, sum_by}
use Rattle.std.specs.List.Sorted.{IsPermutation}
use Rattle.resh_value.specs.declared.value.ShardId.{ShardId}
use Rattle.resh_chunks.specs.Chunks.{Chunks, chunk_fault, owner_of}
use Rattle.resh_filter.specs.Filters.{matches}
use Rattle.resh_command.specs.declared.command.Command.{Command}
use Rattle.resh_command.specs.declared.command.Command.TheVariants.{Insert, Update, Delete, Find, Count, Abort}
use Rattle.resh_command.specs.declared.reply.Reply.{Reply}
use Rattle.resh_command.specs.declared.reply.Reply.TheVariants.{Found, Counted}
use Rattle.resh_bag.specs.Answer.{doing, reply_of}
use Rattle.resh_bag.specs.Bag.{Bag, Document, documents, IsPlaced}
use Rattle.resh_bag.specs.Parts.{targets}
use Rattle.resh_bag.specs.Placement.{part}
use Rattle.resh_router.specs.Laws.{MergesToAnswer, is_reading, own_replies, own_reply}
use Rattle.resh_router.specs.Merging.{AreFirst, MergesTo, Part, are_counted, are_found, count_in, count_of_all, is_counted, is_found, shown_by}
use Rattle.resh_router.proofs.Lists.{sum_mapped}
use Rattle.resh_router.proofs.OwnParts.{asked_count, asked_distinct, asked_some, covers, own_documents}
use Rattle.resh_router.proofs.Showing.{first_are}

-- replies of one kind
each_passes : {X Y : Type 0} (f : X → Y) (p : Y → Bool) → ((x : X) → p (f x) ≡ true) → (xs : List X) → list_all p (map f xs) ≡ true
each_passes f p all [] = refl
each_passes f p all (x ∷ xs) = ap (λ b. b && list_all p (map f xs)) (all x) ∙ each_passes f p all xs

none_passes : {X Y : Type 0} (f : X → Y) (p : Y → Bool) → ((x : X) → p (f x) ≡ false) → (xs : List X) → 0 < length xs → list_all p (map f xs) ≡ false
none_passes f p none [] some = absurd (omega (arith, some))
none_passes f p none (x ∷ xs) some = ap (λ b. b && list_all p (map f xs)) (none x)

length_numbers : (shards : List ShardId) → length (map (λ s. s.0) shards) ≡ length shards
length_numbers [] = refl
length_numbers (s ∷ ss) = ap suc (length_numbers ss)

module _ (chunks : Chunks) (bag : Bag) (placed : IsPlaced chunks bag) (whole : chunk_fault chunks ≡ None) (f : Document) (shards : List ShardId) (are : map (λ s. s.0) shards ≡ targets chunks (Find f)) where
  abbrev mine : ℕ → List Document
  mine s = filter (matches f) (part chunks bag s)

  abbrev found : List Part
  found = map (λ s. (s, Found (length (mine s.0)) (take 10 (mine s.0)))) shards

  abbrev counted : List Part
  counted = map (λ s. (s, Counted (length (mine s.0)))) shards

  find_replies : own_replies chunks bag (Find f) shards ≡ found
  find_replies i =
      map (λ s. (s, Found (length (filter (matches f) (own_documents chunks bag placed s.0 i))) (take 10 (filter (matches f) (own_documents chunks bag placed s.0 i))))) shards

  count_replies : own_replies chunks bag (Count f) shards ≡ counted
  count_replies i = map (λ s. (s, Counted (length (filter (matches f) (own_documents chunks bag placed s.0 i))))) shards

  distinct : IsDistinct (λ a b. a == b) (map (λ s. s.0) shards)
  distinct = subst (IsDistinct (λ a b. a == b)) (sym are) (asked_distinct chunks bag whole f)

  asked : (d : Document) → matches f d ≡ true → Contains (map (λ s. s.0) shards) (owner_of chunks d)
  asked d m = subst (λ ns. Contains ns (owner_of chunks d)) (sym are) (covers chunks bag whole f d m)

  some : 0 < length shards
  some = let long = length_numbers shards in let same = ap length are in let positive = asked_some chunks bag whole f in omega (arith, long, same, positive)

  sum_of_mine : sum_by (λ s. length (mine s.0)) shards ≡ length (filter (matches f) (documents bag))
  sum_of_mine = sym (sum_mapped (λ s. s.0) (λ n. length (mine n)) shards) ∙ ap (sum_by (λ n. length (mine n))) are ∙ asked_count chunks bag whole f

  found_count : count_of_all found ≡ length (filter (matches f) (documents bag))
  found_count = sum_mapped (λ s. (s, Found (length (mine s.0)) (take 10 (mine s.0)))) (λ part. count_in part.1) shards ∙ sum_of_mine

  counted_count : count_of_all counted ≡ length (filter (matches f) (documents bag))
  counted_count = sum_mapped (λ s. (s, Counted (length (mine s.0)))) (λ part. count_in part.1) shards ∙ sum_of_mine

  first_found : (first : List Document) → AreFirst 10 (flat_map shown_by found) first → first ≡ take 10 (filter (matches f) (documents bag))
  first_found first are_first =
      first_are chunks bag placed (matches f) shards distinct asked are_first.ordered
      (subst (λ l. IsPermutation l are_first.ordered) (flat_map-map shown_by (λ s. (s, Found (length (mine s.0)) (take 10 (mine s.0)))) shards) are_first.same)
      are_first.rises first are_first.are

  find_merges : (reply : Reply) → MergesTo found reply → reply ≡ Found (length (filter (matches f) (documents bag))) (take 10 (filter (matches f) (documents bag)))
  find_merges (Found count first) m = let n = m.1 ∙ found_count in let ds = first_found first m.2 in λ i. Found (n i) (ds i)
  find_merges (Counted count) m =
      absurd (let off : false ≡ true = sym (none_passes (λ s. (s, Found (length (mine s.0)) (take 10 (mine s.0)))) (λ part. is_counted part.1) (λ s. refl) shards some) ∙ m.0 in cc)
  find_merges other m = absurd m

  count_merges : (reply : Reply) → MergesTo counted reply → reply ≡ Counted (length (filter (matches f) (documents bag)))
  count_merges (Found count first) m =
      absurd (let off : false ≡ true = sym (none_passes (λ s. (s, Counted (length (mine s.0)))) (λ part. is_found part.1) (λ s. refl) shards some) ∙ m.0 in cc)
  count_merges (Counted count) m = ap Counted (m.1 ∙ counted_count)
  count_merges other m = absurd m

can_merge : (chunks : Chunks) (bag : Bag) (command : Command) (shards : List ShardId) → is_reading command ≡ true → (are_found (own_replies chunks bag command shards) || are_counted (own_replies chunks bag command shards)) ≡ true
can_merge chunks bag (Find f) shards is =
    ap (λ b. b || are_counted (own_replies chunks bag (Find f) shards)) (each_passes (own_reply chunks bag (Find f)) (λ part. is_found part.1) (λ s. refl) shards)
can_merge chunks bag (Count f) shards is =
    ap (λ b. are_found (own_replies chunks bag (Count f) shards) || b) (each_passes (own_reply chunks bag (Count f)) (λ part. is_counted part.1) (λ s. refl) shards)
    ∙ either (are_found (own_replies chunks bag (Count f) shards))
  where
    either : (b : Bool) → (b || true) ≡ true
    either true = refl
    either false = refl
can_merge chunks bag (Insert d) shards is = cc
can_merge chunks bag (Update f u) shards is = cc
can_merge chunks bag (Delete f) shards is = cc
can_merge chunks bag Abort shards is = cc

some_reply : (chunks : Chunks) (bag : Bag) (command : Command) (shards : List ShardId) → chunk_fault chunks ≡ None → is_reading command ≡ true → map (λ s. s.0) shards ≡ targets chunks command → 0 < length (own_replies chunks bag command shards)
some_reply chunks bag command shards whole is are = long (own_reply chunks bag command) shards (by command is are)
  where
    long : {X Y : Type 0} (g : X → Y) (xs : List X) → 0 < length xs → 0 < length (map g xs)
    long g [] h = absurd (omega (arith, h))
    long g (x ∷ xs) h = omega arith

    counted : (f : Document) → map (λ s. s.0) shards ≡ targets chunks (Find f) → 0 < length shards
    counted f e = let numbers = length_numbers shards in let same = ap length e in let positive = asked_some chunks bag whole f in omega (arith, numbers, same, positive)

    by : (k : Command) → is_reading k ≡ true → map (λ s. s.0) shards ≡ targets chunks k → 0 < length shards
    by (Find f) is e = counted f e
    by (Count f) is e = counted f e
    by (Insert d) is e = cc
    by (Update f u) is e = cc
    by (Delete f) is e = cc
    by Abort is e = cc

answer_merged : (chunks : Chunks) (bag : Bag) (command : Command) (shards : List ShardId) (reply : Reply) → IsPlaced chunks bag → chunk_fault chunks ≡ None → is_reading command ≡ true → map (λ s. s.0) shards ≡ targets chunks command
    → MergesTo (own_replies chunks bag command shards) reply → reply ≡ reply_of (doing chunks bag command)
answer_merged chunks bag (Find f) shards reply placed whole is are m =
    find_merges chunks bag placed whole f shards are reply (subst (λ parts. MergesTo parts reply) (find_replies chunks bag placed whole f shards are) m)
answer_merged chunks bag (Count f) shards reply placed whole is are m =
    count_merges chunks bag placed whole f shards are reply (subst (λ parts. MergesTo parts reply) (count_replies chunks bag placed whole f shards are) m)
answer_merged chunks bag (Insert d) shards reply placed whole is are m = cc
answer_merged chunks bag (Update f u) shards reply placed whole is are m = cc
answer_merged chunks bag (Delete f) shards reply placed whole is are m = cc
answer_merged chunks bag Abort shards reply placed whole is are m = cc

pub merges_to_answer : MergesToAnswer
merges_to_answer = record {
  some = λ chunks bag command shards whole is are. some_reply chunks bag command shards whole is are;
  reading = λ chunks bag command shards is. can_merge chunks bag command shards is;
  answers = λ chunks bag command shards reply placed whole is are m. answer_merged chunks bag command shards reply placed whole is are m;
}
