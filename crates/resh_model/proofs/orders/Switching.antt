-- Where no clash stands, a switch keeps each document, and the parts are those that the new map gave.
use Rattle.std.proofs.Common.{◌≡◌, ◌≢◌, ℕ, Bool, true, false, map, eqb, refl, Some, sym, ap, subst, ◌∙◌}
use Rattle.std.proofs.lemmas.List.Sorted.{Contains-permutation, IsPermutation-sym}
use Rattle.std.proofs.lemmas.Map.Views.{tells_apart}
use Rattle.std.specs.Cmp.{tied_itself}
use Rattle.std.specs.List.{Contains, range_with_len}
use Rattle.std.specs.List.Sorted.{IsPermutation}
use Rattle.std.specs.Ordering.{eq_by_cmp, ordering_reverse}
use Rattle.std.specs.declared.cmp.Ordering.TheVariants.{Less, Greater}
use Rattle.resh_value.specs.Order.{compare_of}
use Rattle.resh_value.specs.OrderLaws.{compare_total}
use Rattle.resh_value.specs.declared.value.Value.{Value}
use Rattle.resh_chunks.specs.Chunks.{Chunks, owner_of}
use Rattle.resh_value.specs.Lookup.{id_of}
use Rattle.resh_bag.specs.Bag.{Bag, Document, place_cmp, place_of, held, documents, opening_bag, HasDistinctPlaces, IsPlaced}
use Rattle.resh_bag.specs.Placement.{part, HasNoClash}
use Rattle.resh_bag.specs.PlaceOrder.{place_total, place_same}
use Rattle.resh_model.specs.OrderLaws.{SwitchKeeps}
use Rattle.resh_bag.proofs.Lists.{distinct_map, kept, rising_unmap, same_sorted, was_there}
use Rattle.resh_bag.proofs.bags.Opening.{opens_placed, opens_whole}
use Rattle.resh_bag.proofs.shards.Parting.{document_held, documents_rise, no_clash_in_place, parts_rise}

one_way : (a b : Value) → compare_of a b ≡ Less → compare_of b a ≢ Less
one_way a b below above = let both : Less ≡ Greater = sym below ∙ compare_total.antisymm a b ∙ ap ordering_reverse above in cc

module _ (old_map new_map : Chunks) (bag : Bag) (placed : IsPlaced old_map bag) (none : HasNoClash new_map bag) where
  -- two documents that come to one place are a clash
  apart : (a b : Document) → Contains (documents bag) a → Contains (documents bag) b → place_cmp (place_of old_map a) (place_of old_map b) ≡ Less → eq_by_cmp place_cmp (place_of new_map a) (place_of new_map b) ≡ false
  apart a b there here below = by (eq_by_cmp place_cmp (place_of new_map a) (place_of new_map b)) refl
    where
      clash : place_of new_map a ≡ place_of new_map b → ⊥
      clash same =
          let ids : id_of a ≡ id_of b = ap (λ p. p.0) same in
          none (owner_of new_map b) (id_of b) (record {
            here = owner_of old_map a;
            there = owner_of old_map b;
            apart = λ owners. let tied = tied_itself place_total (place_of old_map b) in
                let equal : place_of old_map a ≡ place_of old_map b = λ i. (ids i, owners i) in
                cc;
            one = a;
            other = b;
            one_held = subst (λ id. held bag (owner_of old_map a) id ≡ Some a) ids (document_held old_map bag placed a there);
            other_held = document_held old_map bag placed b here;
            one_comes = ap (λ p. p.1) same;
            other_comes = refl;
          })

      by : (t : Bool) → eq_by_cmp place_cmp (place_of new_map a) (place_of new_map b) ≡ t → t ≡ false
      by true e = absurd (clash (tells_apart place_same (place_of new_map a) (place_of new_map b) e))
      by false e = refl

  pub distinct_places : HasDistinctPlaces new_map (documents bag)
  distinct_places =
      distinct_map (place_of new_map) (eq_by_cmp place_cmp) (λ a b. place_cmp (place_of old_map a) (place_of old_map b)) (documents bag) apart
      (documents_rise old_map bag placed)

  abbrev after : Bag
  after = opening_bag new_map (documents bag)

  pub all_kept : IsPermutation (documents bag) (documents after)
  all_kept = opens_whole.all new_map (documents bag) distinct_places

  after_placed : IsPlaced new_map after
  after_placed = opens_placed.placed new_map (documents bag)

  -- a part of one is a part of the other
  moved : (one other : Bag) → IsPermutation (documents one) (documents other) → (shard : ℕ) (d : Document) → Contains (part new_map one shard) d → Contains (part new_map other shard) d
  moved one other same shard d there =
      let w = was_there (λ d. eqb (owner_of new_map d) shard) (documents one) d there in
      kept (λ d. eqb (owner_of new_map d) shard) (documents other) d (Contains-permutation (documents one) (documents other) d same w.0) w.1

  pub same_part : (shard : ℕ) → part new_map after shard ≡ part new_map bag shard
  same_part shard =
      same_sorted (λ a b. compare_of (id_of a) (id_of b)) (λ a b. one_way (id_of a) (id_of b)) (part new_map after shard) (part new_map bag shard)
      (rising_unmap id_of compare_of (part new_map after shard) (parts_rise new_map new_map after after_placed (no_clash_in_place new_map after after_placed) shard))
      (rising_unmap id_of compare_of (part new_map bag shard) (parts_rise old_map new_map bag placed none shard))
      (moved after bag (IsPermutation-sym (documents bag) (documents after) all_kept) shard) (moved bag after all_kept shard)

pub switch_keeps : SwitchKeeps
switch_keeps = record {
  all = λ setup state placed none. all_kept state.map setup.new_map state.bag placed none;
  holdings = λ setup state placed none. λ i. map (λ shard. same_part state.map setup.new_map state.bag placed none shard i) (range_with_len 0 setup.new_map.shards);
}
