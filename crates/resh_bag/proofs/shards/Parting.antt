-- The parts of a bag.
use Rattle.std.proofs.Common.{◌≡◌, ◌≢◌, ℕ, zero, suc, arith, List, [], ◌∷◌, map, eqb, Some, refl, sym, ap, subst, ◌∙◌}
use Rattle.std.proofs.lemmas.Bool.{eqb-true}
use Rattle.std.proofs.lemmas.List.Kept.{IsStrictlySortedBy-filter}
use Rattle.std.proofs.lemmas.Map.Made.{Contains-values_of}
use Rattle.std.specs.Cmp.{nat_cmp_total, tied_itself}
use Rattle.std.specs.FinMap.{entries, entries_sorted, get}
use Rattle.std.specs.List.{Contains}
use Rattle.std.specs.List.Sorted.{IsStrictlySortedBy}
use Rattle.std.specs.Map.{keys_of, values_of}
use Rattle.std.specs.Ordering.{nat_cmp, ordering_then}
use Rattle.std.specs.declared.cmp.Ordering.{Ordering}
use Rattle.std.specs.declared.cmp.Ordering.TheVariants.{Less, Equal, Greater}
use Rattle.resh_value.specs.Order.{compare_of}
use Rattle.resh_value.specs.OrderLaws.{compare_same}
use Rattle.resh_value.specs.declared.value.Value.{Value}
use Rattle.resh_chunks.specs.Chunks.{Chunks, owner_of}
use Rattle.resh_value.specs.Lookup.{id_of}
use Rattle.resh_bag.specs.Bag.{Bag, Document, place_cmp, place_of, held, documents, IsPlaced}
use Rattle.resh_bag.specs.Laws.{KeepsAll, NoClashInPlace, PartsRise}
use Rattle.resh_bag.specs.PlaceOrder.{place_total, place_same}
use Rattle.resh_bag.specs.Placement.{part}
use Rattle.resh_bag.proofs.bags.Entries.{found_entry, entry_found, keys_rise}
use Rattle.resh_bag.proofs.Lists.{first_there, later_there, was_there, still_rising, rising_map, rising_unmap}
use Rattle.resh_bag.proofs.shards.Owners.{owner_there}
use Rattle.resh_bag.proofs.shards.Partition.{parted}

pub keeps_all : KeepsAll
keeps_all chunks bag none = parted (owner_of chunks) (documents bag) chunks.shards (owner_there chunks none)

-- what is held is among the documents
pub held_document : (bag : Bag) (shard : ℕ) (id : Value) (d : Document) → held bag shard id ≡ Some d → Contains (documents bag) d
unfolding held documents
held_document bag shard id d is = Contains-values_of (entries bag) (id, shard) d (found_entry place_total place_same bag (id, shard) d is)

-- what is among the documents is held where the map places it
value_entry : {K X : Type 0} (es : List (K × X)) (v : X) → Contains (values_of es) v → (k : K) × Contains es (k, v)
value_entry [] v (n, within, is) = absurd (omega arith)
value_entry (e ∷ es) v (zero, within, is) = (e.0, (zero, omega arith, λ i. (e.0, is i)))
value_entry (e ∷ es) v (suc n, within, is) =
    let w = value_entry es v (n, omega arith, is) in
    (w.0, later_there e es (w.0, v) w.1)

module _ (old_map : Chunks) (bag : Bag) (placed : IsPlaced old_map bag) where
  pub document_held : (d : Document) → Contains (documents bag) d → held bag (owner_of old_map d) (id_of d) ≡ Some d
  unfolding held documents
  document_held d there =
      let w = value_entry (entries bag) d there in
      let is = entry_found place_total place_same bag w.0 d w.1 in
      (λ i. get bag (placed.by_id w.0.1 w.0.0 d is i, placed.by_owner w.0.1 w.0.0 d is i)) ∙ is

  places_of : (es : List ((Value × ℕ) × Document)) → ((k : Value × ℕ) (d : Document) → Contains es (k, d) → place_of old_map d ≡ k) → keys_of es ≡ map (place_of old_map) (values_of es)
  places_of [] each = refl
  places_of (e ∷ es) each = λ i. sym (each e.0 e.1 (first_there e es)) i ∷ places_of es (λ k d there. each k d (later_there e es (k, d) there)) i

  -- the documents rise by their places
  pub documents_rise : IsStrictlySortedBy (λ a b. place_cmp (place_of old_map a) (place_of old_map b)) (documents bag)
  unfolding documents held
  documents_rise =
      rising_unmap (place_of old_map) place_cmp (values_of (entries bag))
      (subst (IsStrictlySortedBy place_cmp)
      (places_of (entries bag) (λ k d there. let is = entry_found place_total place_same bag k d there in λ i. (placed.by_id k.1 k.0 d is i, placed.by_owner k.1 k.0 d is i)))
      (keys_rise place_cmp (entries bag) (entries_sorted bag)))

pub no_clash_in_place : NoClashInPlace
no_clash_in_place chunks bag placed shard id clash =
    clash.apart (sym (placed.by_owner clash.here id clash.one clash.one_held) ∙ clash.one_comes ∙ sym clash.other_comes ∙ placed.by_owner clash.there id clash.other clash.other_held)

-- a place above another of the same `_id` is on another shard
rises_unless : (a b : Value × ℕ) → place_cmp a b ≡ Less → (a.0 ≡ b.0 → a.1 ≢ b.1 → ⊥) → compare_of a.0 b.0 ≡ Less
rises_unless a b below alone = by (compare_of a.0 b.0) refl below
  where
    by : (r : Ordering) → compare_of a.0 b.0 ≡ r → ordering_then r (nat_cmp a.1 b.1) ≡ Less → r ≡ Less
    by Less e t = refl
    by Equal e t = absurd (alone (compare_same a.0 b.0 e) (λ same. let tied : nat_cmp a.1 b.1 ≡ Equal = ap (λ n. nat_cmp n b.1) same ∙ tied_itself nat_cmp_total b.1 in cc))
    by Greater e t = cc

pub parts_rise : PartsRise
parts_rise old_map new_map bag placed none shard =
    rising_map id_of compare_of (part new_map bag shard)
    (still_rising _ (λ a b. compare_of (id_of a) (id_of b)) (part new_map bag shard)
    (λ a b there here below. rises_unless (place_of old_map a) (place_of old_map b) below (λ ids owners.
    let one = was_there (λ d. eqb (owner_of new_map d) shard) (documents bag) a there in
    let other = was_there (λ d. eqb (owner_of new_map d) shard) (documents bag) b here in
    none shard (id_of b) (record {
      here = owner_of old_map a;
      there = owner_of old_map b;
      apart = owners;
      one = a;
      other = b;
      one_held = subst (λ id. held bag (owner_of old_map a) id ≡ Some a) ids (document_held old_map bag placed a one.0);
      other_held = document_held old_map bag placed b other.0;
      one_comes = eqb-true _ _ one.1;
      other_comes = eqb-true _ _ other.1;
    })))
    (IsStrictlySortedBy-filter _ (λ d. eqb (owner_of new_map d) shard) (documents bag) (documents_rise old_map bag placed)))
