-- Clashes are told by the recipients.
use Rattle.std.proofs.Common.{◌≡◌, ◌≢◌, ◌<◌, ◌==◌, ◌⊎◌, inl, inr, ⊎_elim, ℕ, List, [], ◌∷◌, Some, refl, sym, ap, subst, ◌∙◌, arith, Less, Equal, Greater}
use Rattle.std.proofs.lemmas.Bool.{eqb-true}
use Rattle.std.specs.Cmp.{ranked}
use Rattle.std.specs.FinMap.{nat_cmp-IsAntisymmetric}
use Rattle.std.specs.List.{AllByRecursion, Contains}
use Rattle.std.specs.List.Sorted.{IsStrictlySortedBy}
use Rattle.std.specs.Ordering.{nat_cmp, ordering_then}
use Rattle.std.specs.declared.cmp.Ordering.{Ordering}
use Rattle.resh_value.specs.Lookup.{id_of}
use Rattle.resh_value.specs.Order.{compare_of}
use Rattle.resh_value.specs.OrderLaws.{compare_itself}
use Rattle.resh_value.specs.declared.value.Value.{Value}
use Rattle.resh_chunks.specs.Chunks.{Chunks, owner_of}
use Rattle.resh_bag.specs.Bag.{Bag, Document, documents, held, IsPlaced}
use Rattle.resh_bag.specs.PartLaws.{IsDoubled, ClashesByRecipient}
use Rattle.resh_bag.specs.Placement.{part, IsClash, IsFirstClash}
use Rattle.resh_bag.proofs.shards.ByShard.{same_number}
use Rattle.resh_bag.proofs.Lists.{first_or_later, kept, rising_unmap, was_there}
use Rattle.resh_bag.proofs.shards.Parting.{document_held, held_document}

module _ (old_map new_map : Chunks) (bag : Bag) (placed : IsPlaced old_map bag) (shard : ℕ) (id : Value) where
  comes : (from : ℕ) (d : Document) → held bag from id ≡ Some d → owner_of new_map d ≡ shard → Contains (part new_map bag shard) d
  comes from d is there = kept (λ x. owner_of new_map x == shard) (documents bag) d (held_document bag from id d is) (ap (λ n. n == shard) there ∙ same_number shard)

  doubled : IsClash new_map bag shard id → IsDoubled old_map new_map bag shard id
  doubled c = record {
    one = c.one;
    other = c.other;
    one_comes = comes c.here c.one c.one_held c.one_comes;
    other_comes = comes c.there c.other c.other_held c.other_comes;
    one_id = placed.by_id c.here id c.one c.one_held;
    other_id = placed.by_id c.there id c.other c.other_held;
    apart = λ same. c.apart (sym (placed.by_owner c.here id c.one c.one_held) ∙ same ∙ placed.by_owner c.there id c.other c.other_held);
  }

  stood : (d : Document) → Contains (part new_map bag shard) d → id_of d ≡ id → (held bag (owner_of old_map d) id ≡ Some d) × (owner_of new_map d ≡ shard)
  stood d there named =
      let w = was_there (λ x. owner_of new_map x == shard) (documents bag) d there in
      (subst (λ i. held bag (owner_of old_map d) i ≡ Some d) named (document_held old_map bag placed d w.0), eqb-true (owner_of new_map d) shard w.1)

  clashes : IsDoubled old_map new_map bag shard id → IsClash new_map bag shard id
  clashes t =
      let one = stood t.one t.one_comes t.one_id in
      let other = stood t.other t.other_comes t.other_id in
      record {
        here = owner_of old_map t.one;
        there = owner_of old_map t.other;
        apart = t.apart;
        one = t.one;
        other = t.other;
        one_held = one.0;
        other_held = other.0;
        one_comes = one.1;
        other_comes = other.1;
      }

-- where `_id`s rise, two elements of one `_id` are one
pub each_of : {X : Type 0} (P : X → Type 0) (xs : List X) (x : X) → AllByRecursion P xs → Contains xs x → P x
each_of P [] x all (n, within, is) = absurd (omega arith)
each_of P (y ∷ ys) x all there = ⊎_elim (λ same. subst P same all.0) (λ later. each_of P ys x all.1 later) (first_or_later y ys x there)

not_below : (a b : Value) → a ≡ b → compare_of a b ≡ Less → ⊥
not_below a b same below = let off : Less ≡ Equal = sym below ∙ sym (ap (compare_of a) same) ∙ compare_itself a in cc

one_of_id : (ds : List Document) → IsStrictlySortedBy (λ x y. compare_of (id_of x) (id_of y)) ds → (a b : Document) → Contains ds a → Contains ds b → id_of a ≡ id_of b → a ≡ b
unfolding IsStrictlySortedBy
one_of_id [] rise a b (n, within, is) there same = absurd (omega arith)
one_of_id (d ∷ ds) rise a b here there same = by (λ k l. one_of_id ds rise.1 a b k l same) (first_or_later d ds a here) (first_or_later d ds b there)
  where
    by : (Contains ds a → Contains ds b → a ≡ b) → (d ≡ a) ⊎ Contains ds a → (d ≡ b) ⊎ Contains ds b → a ≡ b
    by onward (inl e) (inl f) = sym e ∙ f
    by onward (inl e) (inr l) = absurd (not_below (id_of d) (id_of b) (ap id_of e ∙ same) (each_of (λ x. compare_of (id_of d) (id_of x) ≡ Less) ds b rise.0 l))
    by onward (inr k) (inl f) = absurd (not_below (id_of d) (id_of a) (ap id_of f ∙ sym same) (each_of (λ x. compare_of (id_of d) (id_of x) ≡ Less) ds a rise.0 k))
    by onward (inr k) (inr l) = onward k l

module _ (new_map : Chunks) (bag : Bag) (shard : ℕ) (id : Value) (clash : IsClash new_map bag shard id)
    (none_before : (s : ℕ) (i : Value) → s < shard → IsClash new_map bag s i → ⊥) (least : (i : Value) → IsClash new_map bag shard i → compare_of id i ≢ Greater) where
  above : (s : ℕ) (i : Value) → IsClash new_map bag s i → (r : Ordering) → nat_cmp shard s ≡ r → ordering_then r (compare_of id i) ≢ Greater
  above s i c Less e k = cc
  above s i c Equal e k = least i (subst (λ n. IsClash new_map bag n i) (sym (nat_cmp-IsAntisymmetric shard s e)) c) k
  above s i c Greater e k = none_before s i (ranked shard s Greater (sym e)) c

  is_first : IsFirstClash new_map bag shard id
  is_first = record { clash = clash; first = λ s i c. above s i c (nat_cmp shard s) refl }

pub clashes_by_recipient : ClashesByRecipient
clashes_by_recipient = record {
  clash = λ old_map new_map bag placed shard id. (doubled old_map new_map bag placed shard id, clashes old_map new_map bag placed shard id);
  free = λ old_map new_map bag placed rise shard id c.
      let t = doubled old_map new_map bag placed shard id c in
      let same = one_of_id (part new_map bag shard) (rising_unmap id_of compare_of (part new_map bag shard) (rise shard)) t.one t.other t.one_comes t.other_comes (t.one_id ∙ sym t.other_id) in
      t.apart (ap (owner_of old_map) same);
  first = λ new_map bag shard id clash none_before least. is_first new_map bag shard id clash none_before least;
}
