-- Documents with the shards that they come from and go to, in the order in which the shards take them.
use Rattle.std.specs.Prelude.{◌≡◌, ◌+◌, ◌<◌, ◌==◌, ℕ, Bool, true, false, List, length, map, filter, Option, None, Some, slice_get}
use Rattle.std.specs.Cmp.{IsTotalOrder, on_total, then_total, nat_cmp_total}
use Rattle.std.specs.List.{All, AllAdjacentBelow, range_with_len}
use Rattle.std.specs.List.Sorted.{IsPermutation}
use Rattle.std.specs.Ordering.{nat_cmp, ordering_then, is_eq}
use Rattle.std.specs.declared.cmp.Ordering.{Ordering}
use Rattle.resh_value.specs.OrderLaws.{compare_total}
use Rattle.resh_value.specs.declared.value.Value.{Value}
use Rattle.resh_chunks.specs.Chunks.{Chunks, owner_of}
use Rattle.resh_value.specs.Lookup.{id_of}
use Rattle.resh_bag.specs.Bag.{Document}
use Rattle.resh_bag.specs.Placement.{clash_cmp}
use Rattle.resh_model.specs.declared.seat.Seat.{Seat}

-- where a document goes, and under which `_id`
abbrev pub target : Seat → ℕ × Value
target seat = (seat.shard.0, id_of seat.document)

abbrev pub target_cmp : Seat → Seat → Ordering
target_cmp a b = clash_cmp (target a) (target b)

-- seats are ordered by shard, then by `_id`, then by the shard that the document comes from
abbrev pub seat_cmp : Seat → Seat → Ordering
seat_cmp a b = ordering_then (target_cmp a b) (nat_cmp a.from.0 b.from.0)

pub clash_total : IsTotalOrder clash_cmp
clash_total = then_total (on_total (λ (t : ℕ × Value). t.0) nat_cmp_total)
    (on_total (λ (t : ℕ × Value). t.1) compare_total)

pub target_total : IsTotalOrder target_cmp
target_total = on_total target clash_total

pub seat_total : IsTotalOrder seat_cmp
seat_total = then_total target_total (on_total (λ (seat : Seat). seat.from.0) nat_cmp_total)

-- a document comes from its shard by one map and goes to its shard by another
pub record IsSeated (from_map to_map : Chunks) (seat : Seat) : Type 0 where
  pub goes : seat.shard.0 ≡ owner_of to_map seat.document
  pub comes : seat.from.0 ≡ owner_of from_map seat.document
  pub known : seat.shard.0 < to_map.shards
  pub was_known : seat.from.0 < from_map.shards

-- each document of a list in a seat
pub record IsSeating (from_map to_map : Chunks) (ds : List Document) (seats : List Seat) : Type 0 where
  pub seated : All (IsSeated from_map to_map) seats
  pub same : IsPermutation ds (map (λ s. s.document) seats)

-- a seat whose document goes back to where it comes from
abbrev pub sent_back : Seat → Seat
sent_back seat = record seat { shard = seat.from }

-- the documents of the seats, shard by shard, from shard 0 on
abbrev pub handed_out : ℕ → List Seat → List (List Document)
handed_out shards seats = map (λ shard. map (λ s. s.document) (filter (λ s. s.shard.0 == shard) seats))
    (range_with_len 0 shards)

abbrev pub same_target : Seat → Seat → Bool
same_target a b = is_eq (target_cmp a b)

-- the neighbours from a place on have one target, and none before them have
pub record TiesAt (seats : List Seat) (place : ℕ) : Type 0 where
  pub within : place + 1 < length seats
  pub tied : (a b : Seat) → slice_get seats place ≡ Some a → slice_get seats (place + 1) ≡ Some b
      → same_target a b ≡ true
  pub untied : AllAdjacentBelow (λ a b. same_target a b ≡ false) seats (place + 1)

-- the first neighbours of one target
abbrev pub IsFirstTie : List Seat → Option ℕ → Type 0
IsFirstTie seats None = AllAdjacentBelow (λ a b. same_target a b ≡ false) seats (length seats)
IsFirstTie seats (Some place) = TiesAt seats place
