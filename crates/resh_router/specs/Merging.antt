-- One reply of several shards' replies to a find or a count.
use Rattle.std.specs.Prelude.{◌≡◌, ℕ, Bool, true, false, List, [], map, take}
use Rattle.std.specs.Cmp.{IsTotalOrder, on_total}
use Rattle.std.specs.List.{flat_map, list_all, sum_by}
use Rattle.std.specs.List.Sorted.{IsPermutation, IsSorted, IsStable}
use Rattle.std.specs.declared.cmp.Ordering.{Ordering}
use Rattle.resh_value.specs.Lookup.{id_of}
use Rattle.resh_value.specs.declared.value.ShardId.{ShardId}
use Rattle.resh_value.specs.declared.value.Value.{Value}
use Rattle.resh_command.specs.declared.reply.Reply.{Reply}
use Rattle.resh_command.specs.declared.reply.Reply.TheVariants.{Found, Counted}
use Rattle.resh_bag.specs.Bag.{Document, place_cmp}
use Rattle.resh_bag.specs.PlaceOrder.{place_total}
use Rattle.resh_router.specs.declared.shown.Shown.{Shown}

-- a shard and its reply
abbrev pub Part : Type 0
Part = ShardId × Reply

abbrev pub is_found : Reply → Bool
is_found (Found count first) = true
is_found other = false

abbrev pub is_counted : Reply → Bool
is_counted (Counted count) = true
is_counted other = false

-- all reply to a find, all reply to a count
abbrev pub are_found : List Part → Bool
are_found parts = list_all (λ part. is_found part.1) parts

abbrev pub are_counted : List Part → Bool
are_counted parts = list_all (λ part. is_counted part.1) parts

-- the number that a reply tells
abbrev pub count_in : Reply → ℕ
count_in (Found count first) = count
count_in (Counted count) = count
count_in other = 0

abbrev pub count_of_all : List Part → ℕ
count_of_all parts = sum_by (λ part. count_in part.1) parts

-- the documents that a reply shows
abbrev pub first_in : Reply → List Document
first_in (Found count first) = first
first_in other = []

abbrev pub shown_from : ShardId → Document → Shown
shown_from shard document = record { shard = shard; document = document }

abbrev pub shown_by : Part → List Shown
shown_by part = map (shown_from part.0) (first_in part.1)

abbrev pub documents_of : List Shown → List Document
documents_of shown = map (λ one. one.document) shown

-- documents that shards show are ordered by `_id`, then by shard
abbrev pub place : Shown → Value × ℕ
place one = (id_of one.document, one.shard.0)

abbrev pub shown_cmp : Shown → Shown → Ordering
shown_cmp a b = place_cmp (place a) (place b)

pub shown_total : IsTotalOrder shown_cmp
shown_total = on_total place place_total

-- the first documents in order, so many at most; of two at one place the one that is shown first comes first
pub record AreFirst (most : ℕ) (shown : List Shown) (first : List Document) : Type 0 where
  pub ordered : List Shown
  pub same : IsPermutation shown ordered
  pub rises : IsSorted shown_cmp ordered
  pub stays : IsStable shown_cmp shown ordered
  pub are : first ≡ documents_of (take most ordered)

-- the reply that the parts make: the numbers added, and of a find the first ten documents that the parts show
abbrev pub MergesTo : List Part → Reply → Type 0
MergesTo parts (Found count first) =
    (are_found parts ≡ true) × (count ≡ count_of_all parts) × AreFirst 10 (flat_map shown_by parts) first
MergesTo parts (Counted count) = (are_counted parts ≡ true) × (count ≡ count_of_all parts)
MergesTo parts other = ⊥
