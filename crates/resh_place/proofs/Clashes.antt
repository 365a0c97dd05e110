-- Where what is held stands for a part: a document waits exactly where a clash stands, and else the output is the part.
use Rattle.std.proofs.Common.{◌≡◌, ◌↔◌, ◌==◌, ℕ, true, false, Option, Some, None, is_some, refl, sym, ap, subst, ◌∙◌, ⊎_elim}
use Rattle.resh_value.specs.declared.value.Value.{Value}
use Rattle.resh_chunks.specs.Chunks.{Chunks, owner_of}
use Rattle.resh_bag.specs.Bag.{Bag, documents, held, opening_bag, IsPlaced}
use Rattle.resh_bag.specs.Placement.{HasNoClash, IsClash}
use Rattle.resh_bag.proofs.bags.Opening.{opens_placed, opens_whole}
use Rattle.resh_bag.proofs.shards.Parting.{held_document, document_held}
use Rattle.resh_model.proofs.orders.Switching.{distinct_places}
use Rattle.resh_place.specs.Laws.{PartsStand}
use Rattle.resh_place.specs.Parts.{HoldsPart, Waits, comes_from}
use Rattle.resh_place.proofs.Slots.{came, comes_there, differ, filled_output, filled_owner, one_owner, output_slot, waiting_slot}
use Rattle.resh_rules.specs.Held.{Held, is_owned}
use Rattle.resh_rules.specs.Slots.{slot, IsSound, StandsFor}
use Rattle.resh_rules.proofs.Ruling.{stands}
use Rattle.resh_shard.specs.Laws.{comes}
use Rattle.resh_stash.specs.Stored.{Document}

module _ (old_map new_map : Chunks) (bag : Bag) (shard : ℕ) (at : Value → Held) (part : HoldsPart old_map new_map bag shard at) where
  slot_came : (id : Value) (donor : ℕ) (d : Document) → slot old_map (at id) donor ≡ Some d → (held bag donor id ≡ Some d) × (owner_of new_map d ≡ shard)
  slot_came id donor d is = came new_map shard (held bag donor id) d (sym (part.slots id donor) ∙ is)

  pub part_stands : (id : Value) → StandsFor (λ donor. comes_from new_map bag shard donor id) (at id)
  part_stands id = subst (λ slots. StandsFor slots (at id)) (λ i donor. part.slots id donor i) (stands old_map id (at id) (part.sound id))

  -- where a document waits a clash stands
  waits_clash : (id : Value) → Waits (at id) → IsClash new_map bag shard id
  waits_clash id (donor, d, w) = by (at id).output refl
    where
      s : IsSound old_map id (at id)
      s = part.sound id

      by : (o : Option Document) → (at id).output ≡ o → IsClash new_map bag shard id
      by None e = let off : false ≡ true = sym (ap is_some e) ∙ (s.behind donor d w).0 in cc
      by (Some o) e =
          let one = slot_came id donor d (waiting_slot old_map id (at id) s donor d w) in
          let other = slot_came id (owner_of old_map o) o (output_slot old_map id (at id) s o e) in
          let apart : (owner_of old_map o == donor) ≡ false = sym (ap (is_owned old_map donor) e) ∙ (s.behind donor d w).1 in
          record {
            here = donor;
            there = owner_of old_map o;
            apart = λ same. differ (owner_of old_map o) donor apart (sym same);
            one = d;
            other = o;
            one_held = one.0;
            other_held = other.0;
            one_comes = one.1;
            other_comes = other.1;
          }

  -- where a clash stands a document waits
  clash_waits : (id : Value) → IsClash new_map bag shard id → Waits (at id)
  clash_waits id c =
      let s : IsSound old_map id (at id) = part.sound id in
      let one : slot old_map (at id) c.here ≡ Some c.one = part.slots id c.here ∙ ap (comes (λ n. n == shard) new_map) c.one_held ∙ comes_there new_map shard c.one c.one_comes in
      let other : slot old_map (at id) c.there ≡ Some c.other = part.slots id c.there ∙ ap (comes (λ n. n == shard) new_map) c.other_held ∙ comes_there new_map shard c.other c.other_comes in
      ⊎_elim
      (λ w. w)
      (λ a. ⊎_elim
      (λ w. w)
      (λ b. absurd (c.apart (one_owner old_map id (at id) s c.here c.there a b)))
      (filled_owner old_map id (at id) s c.there c.other other))
      (filled_owner old_map id (at id) s c.here c.one one)

  pub waits_at_clash : (id : Value) → Waits (at id) ↔ IsClash new_map bag shard id
  waits_at_clash id = (waits_clash id, clash_waits id)

  -- where no clash stands, the output is what the bag holds here once the new map is in force
  module _ (placed : IsPlaced old_map bag) (none : HasNoClash new_map bag) where
    abbrev after : Bag
    after = opening_bag new_map (documents bag)

    after_some : (id : Value) (d : Document) → (at id).output ≡ Some d → held after shard id ≡ Some d
    after_some id d e =
        let s : IsSound old_map id (at id) = part.sound id in
        let there = slot_came id (owner_of old_map d) d (output_slot old_map id (at id) s d e) in
        let whole = opens_whole.each new_map (documents bag) (distinct_places old_map new_map bag placed none) d (held_document bag (owner_of old_map d) id d there.0) in
        (λ i. held after (sym there.1 i) (sym (s.output_named d e) i)) ∙ whole

    after_none : (id : Value) (d : Document) → held after shard id ≡ Some d → is_some (at id).output ≡ true
    after_none id d e =
        let s : IsSound old_map id (at id) = part.sound id in
        let there = opens_placed.only new_map (documents bag) shard id d e in
        let opened = opens_placed.placed new_map (documents bag) in
        let was : held bag (owner_of old_map d) id ≡ Some d = subst (λ i. held bag (owner_of old_map d) i ≡ Some d) (opened.by_id shard id d e) (document_held old_map bag placed d there) in
        filled_output old_map id (at id) s (owner_of old_map d) d
        (part.slots id (owner_of old_map d) ∙ ap (comes (λ n. n == shard) new_map) was ∙ comes_there new_map shard d (opened.by_owner shard id d e))

    pub output_is_part : (id : Value) → (at id).output ≡ held after shard id
    output_is_part id = by (at id).output refl (held after shard id) refl
      where
        by : (o : Option Document) → (at id).output ≡ o → (p : Option Document) → held after shard id ≡ p → (at id).output ≡ held after shard id
        by (Some d) e p f = e ∙ sym (after_some id d e)
        by None e None f = e ∙ sym f
        by None e (Some d) f = let off : false ≡ true = sym (ap is_some e) ∙ after_none id d f in cc

pub parts_stand : PartsStand
parts_stand = record {
  stands = λ old_map new_map bag shard at part id. part_stands old_map new_map bag shard at part id;
  clashes = λ old_map new_map bag shard at part id. waits_at_clash old_map new_map bag shard at part id;
  output = λ old_map new_map bag shard at placed none part id. output_is_part old_map new_map bag shard at part placed none id;
}
