-- A recipient whose lanes have taken every feed whole holds its part of the bag, each lane its own `_id`s alone.
use Rattle.std.proofs.Common.{◌≡◌, ◌<◌, ◌≤◌, ◌==◌, ℕ, false, cond, List, length, slice_index_or, Option, Some, None, refl, sym, ap, subst, ◌∙◌, ⊎_elim, arith}
use Rattle.std.proofs.Math.Nat.{mod-lt}
use Rattle.std.proofs.lemmas.Bool.{cases_lt}
use Rattle.std.proofs.lemmas.List.{get_or_past, length-map}
use Rattle.std.specs.FinMap.{get}
use Rattle.std.specs.Option.{option_or}
use Rattle.resh_value.specs.declared.value.Value.{Value}
use Rattle.resh_chunks.specs.Chunks.{Chunks, owner_of}
use Rattle.resh_bag.specs.Bag.{Bag, held, IsPlaced}
use Rattle.resh_bag.proofs.shards.Owners.{owner_there}
use Rattle.resh_cells.specs.Cells.{no_lane}
use Rattle.resh_feed.specs.Effects.{effects_on}
use Rattle.resh_feed.specs.Lanes.{id_lane, lane_feed}
use Rattle.resh_feed.proofs.LaneFeeding.{own_effects, other_effects}
use Rattle.resh_lane.specs.Lanes.{LaneOf}
use Rattle.resh_lane.proofs.Fitting.{ended_fits}
use Rattle.resh_model.proofs.shards.Holding.{unequal}
use Rattle.resh_oplog.specs.declared.entry.What.{What}
use Rattle.resh_place.specs.Lanes.{HasTakenAll, HaveTakenAll, TellPart, held_at, held_in}
use Rattle.resh_place.specs.Laws.{TakeTheirParts}
use Rattle.resh_place.specs.Parts.{HoldsPart, IsNothing, comes_from}
use Rattle.resh_place.proofs.Slots.{never_some, output_slot, waiting_slot}
use Rattle.resh_rules.specs.Held.{Held, waits, is_owned}
use Rattle.resh_rules.specs.Slots.{slot, IsSound}
use Rattle.resh_shard.specs.Laws.{comes}
use Rattle.resh_stash.specs.Stored.{Document, Stored}

module _ (old_map : Chunks) (lanes donors : ℕ) (feeds : ℕ → List What) (all : List LaneOf) (taken : HaveTakenAll old_map lanes donors feeds all) where
  pub own_lane : (id : Value) → id_lane id lanes < lanes
  own_lane id = mod-lt _ taken.some_lane

  pub owner_within : (d : Document) → owner_of old_map d < donors
  owner_within d = subst (λ n. owner_of old_map d < n) taken.shards (owner_there old_map taken.map d)

  abbrev lane : ℕ → LaneOf
  lane l = slice_index_or all l no_lane

  abbrev Taken : ℕ → Type 0
  Taken l = HasTakenAll old_map lanes donors l feeds (slice_index_or all l no_lane)

  pub lane_sound : (l : ℕ) (id : Value) → l < lanes → IsSound old_map id (held_at all l id)
  lane_sound l id lt = let t : Taken l = taken.each l lt in subst (λ (c : Chunks). IsSound c id (held_at all l id)) t.chunks (t.pool.sound id)

  -- a donor's slot is what the lane's part of its feed leaves
  lane_slot : (l : ℕ) (id : Value) → l < lanes → (d : ℕ) → d < donors → slot old_map (held_at all l id) d ≡ effects_on id (lane_feed lanes l (feeds d)) None
  lane_slot l id lt d inside =
      let t : Taken l = taken.each l lt in
      ap (λ (c : Chunks). slot c (held_at all l id) d) (sym t.chunks)
      ∙ ended_fits (lane l) (λ donor. lane_feed lanes l (feeds donor)) d id (subst (λ n. d < n) (sym t.stashes) inside) (t.ended d inside) t.fits

  module _ (l : ℕ) (id : Value) (lt : l < lanes) (apart : (id_lane id lanes == l) ≡ false) where
    empty_slot : (d : ℕ) → d < donors → slot old_map (held_at all l id) d ≡ None
    empty_slot d inside = lane_slot l id lt d inside ∙ other_effects id lanes l apart (feeds d) (taken.whole d inside) None

    no_output : (held_at all l id).output ≡ None
    no_output = by (held_at all l id).output refl
      where
        by : (o : Option Document) → (held_at all l id).output ≡ o → (held_at all l id).output ≡ None
        by None e = e
        by (Some d) e =
            absurd (never_some d (sym (empty_slot (owner_of old_map d) (owner_within d)) ∙ output_slot old_map id (held_at all l id) (lane_sound l id lt) d e))

    none_waits : (donor : ℕ) → waits (held_at all l id) donor ≡ None
    none_waits donor = by (waits (held_at all l id) donor) refl
      where
        sound : IsSound old_map id (held_at all l id)
        sound = lane_sound l id lt

        by : (o : Option Document) → waits (held_at all l id) donor ≡ o → waits (held_at all l id) donor ≡ None
        by None e = e
        by (Some d) e =
            let inside : donor < donors = subst (λ n. n < donors) (sound.owned donor d e) (owner_within d) in
            absurd (never_some d (sym (empty_slot donor inside) ∙ waiting_slot old_map id (held_at all l id) sound donor d e))

    pub nothing_else : IsNothing (held_at all l id)
    nothing_else = record { output = no_output; waiting = none_waits }

  pub own_sound : (id : Value) → IsSound old_map id (held_in lanes all id)
  own_sound id = lane_sound (id_lane id lanes) id (own_lane id)

  module _ (new_map : Chunks) (bag : Bag) (r : ℕ) (placed : IsPlaced old_map bag) (told : TellPart new_map bag r donors feeds) where
    abbrev here : Value → Held
    here id = held_in lanes all id

    own_slot : (id : Value) (d : ℕ) → d < donors → slot old_map (here id) d ≡ comes_from new_map bag r d id
    own_slot id d inside =
        lane_slot (id_lane id lanes) id (own_lane id) d inside
        ∙ own_effects id lanes (feeds d) (taken.whole d inside) None
        ∙ told d inside id

    -- no donor is past the last
    no_slot : (id : Value) (d : ℕ) → donors ≤ d → slot old_map (here id) d ≡ comes_from new_map bag r d id
    no_slot id d le =
        let t : Taken (id_lane id lanes) = taken.each (id_lane id lanes) (own_lane id) in
        let long : length (here id).waiting ≡ donors = length-map (lane (id_lane id lanes)).pool.stashes (λ (s : Stored). get s id) ∙ t.stashes in
        let none : waits (here id) d ≡ None = get_or_past (here id).waiting d None (omega (arith, long, le)) in
        ap (λ w. option_or w (cond (is_owned old_map d (here id).output) (here id).output None)) none
        ∙ by_output (here id).output ∙ sym (by_held (held bag d id) refl)
      where
        by_output : (o : Option Document) → cond (is_owned old_map d o) o None ≡ None
        by_output None = refl
        by_output (Some x) = let lt = owner_within x in ap (λ b. cond b (Some x) None) (unequal (owner_of old_map x) d (λ e. omega (arith, e, lt, le)))

        by_held : (o : Option Document) → held bag d id ≡ o → comes_from new_map bag r d id ≡ None
        by_held None e = ap (comes (λ n. n == r) new_map) e
        by_held (Some x) e = let is = placed.by_owner d id x e in let lt = owner_within x in absurd (omega (arith, is, lt, le))

    pub whole_part : HoldsPart old_map new_map bag r (held_in lanes all)
    whole_part = record {
      sound = own_sound;
      slots = λ id d. ⊎_elim (λ (lt : d < donors). own_slot id d lt) (λ (le : donors ≤ d). no_slot id d le) (cases_lt d donors);
    }

pub take_their_parts : TakeTheirParts
take_their_parts = record {
  part = λ old_map new_map bag r lanes donors feeds all placed told taken. whole_part old_map lanes donors feeds all taken new_map bag r placed told;
  others = λ old_map lanes donors feeds all taken l id lt apart. nothing_else old_map lanes donors feeds all taken l id lt apart;
}
