-- A bag that stands in its places opens again from its own documents.
use Rattle.std.proofs.Common.{◌≡◌, ℕ, map, Option, Some, None, refl, sym, ◌∙◌}
use Rattle.std.proofs.lemmas.Map.Keys.{IsDistinct-from_sorted}
use Rattle.resh_value.specs.declared.value.Value.{Value}
use Rattle.resh_chunks.specs.Chunks.{Chunks, owner_of}
use Rattle.resh_value.specs.Lookup.{id_of}
use Rattle.resh_bag.specs.Bag.{Bag, Document, place_cmp, place_of, held, documents, opening_bag, HasDistinctPlaces, IsPlaced}
use Rattle.resh_bag.proofs.bags.BagLaws.{same_by_place}
use Rattle.resh_bag.proofs.Lists.{rising_map}
use Rattle.resh_bag.proofs.bags.Opening.{opens_placed, opens_whole}
use Rattle.resh_bag.proofs.shards.Parting.{held_document, document_held, documents_rise}

module _ (chunks : Chunks) (bag : Bag) (placed : IsPlaced chunks bag) where
  pub own_places : HasDistinctPlaces chunks (documents bag)
  own_places = IsDistinct-from_sorted place_cmp (map (place_of chunks) (documents bag)) (rising_map (place_of chunks) place_cmp (documents bag) (documents_rise chunks bag placed))

  abbrev again : Bag
  again = opening_bag chunks (documents bag)

  kept : (shard : ℕ) (id : Value) (d : Document) → held bag shard id ≡ Some d → held again shard id ≡ Some d
  kept shard id d is =
      (λ i. held again (sym (placed.by_owner shard id d is) i) (sym (placed.by_id shard id d is) i))
      ∙ opens_whole.each chunks (documents bag) own_places d (held_document bag shard id d is)

  only : (shard : ℕ) (id : Value) (d : Document) → held again shard id ≡ Some d → held bag shard id ≡ Some d
  only shard id d is =
      let there = opens_placed.only chunks (documents bag) shard id d is in
      let at = opens_placed.placed chunks (documents bag) in
      (λ i. held bag (sym (at.by_owner shard id d is) i) (sym (at.by_id shard id d is) i)) ∙ document_held chunks bag placed d there

  pub reopened : again ≡ bag
  reopened = same_by_place again bag (λ shard id. by shard id (held again shard id) (held bag shard id) refl refl)
    where
      by : (shard : ℕ) (id : Value) (r s : Option Document) → held again shard id ≡ r → held bag shard id ≡ s → held again shard id ≡ held bag shard id
      by shard id (Some d) s e f = e ∙ sym (only shard id d e)
      by shard id None (Some d) e f = kept shard id d f ∙ sym f
      by shard id None None e f = e ∙ sym f
