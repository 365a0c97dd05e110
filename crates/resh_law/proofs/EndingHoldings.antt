-- What a shard holds at the end is its part of the collection, and the parts of all shards are what they hold.
use Rattle.std.proofs.Common.{◌≡◌, ◌≢◌, ◌<◌, ◌+◌, ℕ, suc, List, [], ◌∷◌, length, map, slice_index_or, None, refl, sym, ap, ◌∙◌, arith, Less, Greater}
use Rattle.std.specs.List.{range_with_len}
use Rattle.std.specs.Ordering.{ordering_reverse}
use Rattle.resh_value.specs.Lookup.{id_of}
use Rattle.resh_value.specs.Order.{compare_of}
use Rattle.resh_value.specs.OrderLaws.{compare_total}
use Rattle.resh_value.specs.declared.value.Value.{Value}
use Rattle.resh_bag.specs.Bag.{Bag, Document, IsPlaced, held}
use Rattle.resh_bag.specs.Placement.{part}
use Rattle.resh_bag.proofs.Lists.{rising_unmap, same_sorted}
use Rattle.resh_bag.proofs.shards.ByShard.{held_part, part_held}
use Rattle.resh_bag.proofs.shards.Parting.{no_clash_in_place, parts_rise}
use Rattle.resh_chunks.specs.Chunks.{Chunks}
use Rattle.resh_versions.specs.Standing.{IsFiled, VersionsOf, now, standing_now}
use Rattle.resh_versions.proofs.Listing.{stands_now}

-- no two documents are each below the other
one_way : (x y : Document) → compare_of (id_of x) (id_of y) ≡ Less → compare_of (id_of y) (id_of x) ≢ Less
one_way x y below above =
    let two : Less ≡ Greater = sym below ∙ compare_total.antisymm (id_of x) (id_of y) ∙ ap ordering_reverse above in cc

-- versions that tell under each `_id` what a bag holds on a shard list the bag's part there
pub lists_part : (chunks : Chunks) (bag : Bag) (s : ℕ) (versions : VersionsOf) → IsPlaced chunks bag
    → IsFiled versions.chains → ((id : Value) → now versions id ≡ held bag s id)
    → standing_now versions None ≡ part chunks bag s
lists_part chunks bag s versions placed filed same =
    same_sorted (λ x y. compare_of (id_of x) (id_of y)) one_way (standing_now versions None) (part chunks bag s)
    (rising_unmap id_of compare_of (standing_now versions None) (stands_now.rise versions None filed))
    (rising_unmap id_of compare_of (part chunks bag s) (parts_rise chunks chunks bag placed (no_clash_in_place chunks bag placed) s))
    (λ d there. held_part chunks bag placed s (id_of d) d (sym (same (id_of d)) ∙ (stands_now.read versions None d filed there).0))
    (λ d there. stands_now.listed versions None (id_of d) d (same (id_of d) ∙ part_held chunks bag placed s d there) refl)

-- a list by its places, from a number on
pub listed_by : {X Y : Type 0} (f : X → Y) (g : ℕ → Y) (xs : List X) (other : X) (from : ℕ)
    → ((k : ℕ) → k < length xs → f (slice_index_or xs k other) ≡ g (from + k))
    → map f xs ≡ map g (range_with_len from (length xs))
listed_by f g [] other from each = refl
listed_by f g (x ∷ xs) other from each =
    let first : f x ≡ g from = each 0 (omega arith) ∙ ap g (omega arith) in
    let rest = listed_by f g xs other (from + 1) (λ k lt. each (suc k) (omega arith) ∙ ap g (omega arith)) in
    λ i. first i ∷ rest i

-- two lists by their places
pub same_by_place : {X Y : Type 0} (f : X → Y) (xs : List X) (ys : List Y) (other : X) (none : Y) → length xs ≡ length ys
    → ((k : ℕ) → k < length xs → f (slice_index_or xs k other) ≡ slice_index_or ys k none) → map f xs ≡ ys
same_by_place f [] [] other none many each = refl
same_by_place f [] (y ∷ ys) other none many each = absurd (omega (arith, many))
same_by_place f (x ∷ xs) [] other none many each = absurd (omega (arith, many))
same_by_place f (x ∷ xs) (y ∷ ys) other none many each =
    let first : f x ≡ y = each 0 (omega arith) in
    let rest = same_by_place f xs ys other none (omega (arith, many)) (λ k lt. each (suc k) (omega arith)) in
    λ i. first i ∷ rest i
