-- Pieces that a lane applies, one after another.
use Rattle.std.proofs.Common.{◌≡◌, ◌≤◌, ◌<◌, ◌+◌, ◌==◌, ℕ, max, Bool, true, false, cond, List, [], ◌∷◌, length, map, filter, Option, slice_set, arith, refl, sym, ap, subst, ◌∙◌, ⊎_elim}
use Rattle.std.proofs.lemmas.Bool.{eqb-true}
use Rattle.std.proofs.lemmas.Bool.Decides.{eqb_tells}
use Rattle.std.proofs.lemmas.List.{get_or-set_same, get_or-set_other}
use Rattle.resh_value.specs.Order.{is_same}
use Rattle.resh_value.specs.OrderLaws.{same_from_test}
use Rattle.resh_value.specs.declared.value.Value.{Value}
use Rattle.resh_chunks.specs.Chunks.{Chunks}
use Rattle.resh_oplog.specs.declared.entry.What.{What}
use Rattle.resh_oplog.specs.declared.piece.Piece.{Piece}
use Rattle.resh_feed.specs.Effects.{effect_of}
use Rattle.resh_rules.specs.Held.{Held}
use Rattle.resh_rules.specs.Interleaving.{after_all, effects, in_turn, of_donor}
use Rattle.resh_rules.specs.Rules.{step_of}
use Rattle.resh_rules.specs.Pools.{ActsOn, given, held_of}
use Rattle.resh_rules.specs.Slots.{HasEffect, slot}
use Rattle.resh_rules.proofs.Giving.{given_acts, given_slots}
use Rattle.resh_lane.specs.Lanes.{LaneOf, number_of}
use Rattle.resh_lane.specs.Laws.{Takes, TakesAll, StandFrom, entries_of, pieces_of}

abbrev Document : Type 0
Document = List (List ℕ × Value)

abbrev entry_of : Piece → ℕ × What
entry_of piece = (piece.donor.0, piece.what)

-- one number among several is replaced
number_turned : (numbers : List ℕ) (one donor : ℕ) (next : ℕ → ℕ) → one < length numbers
    → number_of (slice_set numbers one (next one)) donor ≡ cond (one == donor) (next donor) (number_of numbers donor)
number_turned numbers one donor next within =
    ⊎_elim
    (λ k. subst (λ d. number_of (slice_set numbers one (next one)) d ≡ next d) k.1 (get_or-set_same numbers one (next one) 0 within) ∙ ap (λ b. cond b (next donor) (number_of numbers donor)) (sym k.0))
    (λ k. get_or-set_other numbers one donor (next one) 0 (λ q. k.1 (sym q)) ∙ ap (λ b. cond b (next donor) (number_of numbers donor)) (sym k.0))
    (eqb_tells one donor)

-- one piece
module _ (p : Piece) (before after : LaneOf) (t : Takes p before after) where
  pub pool_after : after.pool ≡ given p.donor.0 p.id p.what before.pool
  pool_after = ap (λ (l : LaneOf). l.pool) t.left

  pub acts : ActsOn p.id (step_of before.pool.chunks p.donor.0 p.what) before.pool after.pool
  acts = subst (λ q. ActsOn p.id (step_of before.pool.chunks p.donor.0 p.what) before.pool q) (sym pool_after) (given_acts before.pool p.donor.0 p.id p.what)

  effect : HasEffect before.pool.chunks p.donor.0 (effect_of p.what) (held_of before.pool p.id) (held_of after.pool p.id)
  effect = subst (λ q. HasEffect before.pool.chunks p.donor.0 (effect_of p.what) (held_of before.pool p.id) (held_of q p.id)) (sym pool_after) (given_slots before.pool p.donor.0 p.id p.what t.pool t.fits)

  pub held_turned : (id : Value) → held_of after.pool id ≡ cond (is_same id p.id) (step_of before.pool.chunks p.donor.0 p.what (held_of before.pool id)) (held_of before.pool id)
  held_turned id =
      let step = step_of before.pool.chunks p.donor.0 p.what in
      elim (is_same id p.id) as (λ b. is_same id p.id ≡ b → held_of after.pool id ≡ cond b (step (held_of before.pool id)) (held_of before.pool id)) [
        | true ↦ λ same. subst (λ q. held_of after.pool q ≡ step (held_of before.pool q)) (sym (same_from_test id p.id same)) acts.here
        | false ↦ λ apart. acts.elsewhere id apart
      ] refl

  slot_here : (donor : ℕ) → slot before.pool.chunks (held_of after.pool p.id) donor
      ≡ cond (p.donor.0 == donor) (effect_of p.what (slot before.pool.chunks (held_of before.pool p.id) donor)) (slot before.pool.chunks (held_of before.pool p.id) donor)
  slot_here donor =
      let now = slot before.pool.chunks (held_of before.pool p.id) in
      let then = slot before.pool.chunks (held_of after.pool p.id) in
      ⊎_elim
      (λ k. subst (λ d. then d ≡ effect_of p.what (now d)) k.1 effect.here ∙ ap (λ b. cond b (effect_of p.what (now donor)) (now donor)) (sym k.0))
      (λ k. effect.others donor (λ q. k.1 (sym q)) ∙ ap (λ b. cond b (effect_of p.what (now donor)) (now donor)) (sym k.0))
      (eqb_tells p.donor.0 donor)

  pub slot_turned : (id : Value) (donor : ℕ) → slot before.pool.chunks (held_of after.pool id) donor
      ≡ cond (is_same id p.id) (cond (p.donor.0 == donor) (effect_of p.what (slot before.pool.chunks (held_of before.pool id) donor)) (slot before.pool.chunks (held_of before.pool id) donor))
      (slot before.pool.chunks (held_of before.pool id) donor)
  slot_turned id donor =
      let now : Value → Option Document = λ q. slot before.pool.chunks (held_of before.pool q) donor in
      let then : Value → Option Document = λ q. slot before.pool.chunks (held_of after.pool q) donor in
      elim (is_same id p.id) as (λ b. is_same id p.id ≡ b → then id ≡ cond b (cond (p.donor.0 == donor) (effect_of p.what (now id)) (now id)) (now id)) [
        | true ↦ λ same. subst (λ q. then q ≡ cond (p.donor.0 == donor) (effect_of p.what (now q)) (now q)) (sym (same_from_test id p.id same)) (slot_here donor)
        | false ↦ λ apart. ap (λ h. slot before.pool.chunks h donor) (acts.elsewhere id apart)
      ] refl

  pub at_turned : (donor : ℕ) → number_of after.at donor ≡ cond (p.donor.0 == donor) (number_of before.at donor + 1) (number_of before.at donor)
  at_turned donor =
      ap (λ (l : LaneOf). number_of l.at donor) t.left
      ∙ number_turned before.at p.donor.0 donor (λ d. number_of before.at d + 1) (subst (λ n. p.donor.0 < n) (sym t.lane.ats) t.fits.0)

  pub high_turned : (donor : ℕ) → number_of after.high donor ≡ cond (p.donor.0 == donor) (max (number_of before.high donor) (number_of before.at donor + 1)) (number_of before.high donor)
  high_turned donor =
      ap (λ (l : LaneOf). number_of l.high donor) t.left
      ∙ number_turned before.high p.donor.0 donor (λ d. max (number_of before.high d) (number_of before.at d + 1)) (subst (λ n. p.donor.0 < n) (sym t.lane.highs) t.fits.0)

module _ (c : Chunks) (p : Piece) (rest : List Piece) where
  held_onward : (b : Bool) (h h' : Held) → h' ≡ cond b (step_of c p.donor.0 p.what h) h
      → after_all c (map entry_of rest) h' ≡ after_all c (map entry_of (cond b (p ∷ rest) rest)) h
  held_onward true h h' is = ap (after_all c (map entry_of rest)) is
  held_onward false h h' is = ap (after_all c (map entry_of rest)) is

  either_turn : (own : List (ℕ × What)) (b : Bool) (s : Option Document) → in_turn own (cond b (effect_of p.what s) s) ≡ in_turn (cond b (entry_of p ∷ own) own) s
  either_turn own true s = refl
  either_turn own false s = refl

  slot_onward : (donor : ℕ) (b : Bool) (s s' : Option Document) → s' ≡ cond b (cond (p.donor.0 == donor) (effect_of p.what s) s) s
      → effects donor (map entry_of rest) s' ≡ effects donor (map entry_of (cond b (p ∷ rest) rest)) s
  slot_onward donor true s s' is = ap (in_turn (of_donor donor (map entry_of rest))) is ∙ either_turn (of_donor donor (map entry_of rest)) (p.donor.0 == donor) s
  slot_onward donor false s s' is = ap (in_turn (of_donor donor (map entry_of rest))) is

pub held_in_order : (pieces : List Piece) (before after : LaneOf) → TakesAll pieces before after
    → (id : Value) → held_of after.pool id ≡ after_all before.pool.chunks (entries_of id pieces) (held_of before.pool id)
held_in_order [] before after t id = ap (λ (l : LaneOf). held_of l.pool id) t.1
held_in_order (p ∷ ps) before after t id =
    held_in_order ps t.0 after t.2 id
    ∙ ap (λ c. after_all c (entries_of id ps) (held_of t.0.pool id)) (acts p before t.0 t.1).chunks
    ∙ held_onward before.pool.chunks p (filter (λ (q : Piece). is_same id q.id) ps) (is_same id p.id) (held_of before.pool id) (held_of t.0.pool id) (held_turned p before t.0 t.1 id)

pub slots_in_order : (pieces : List Piece) (before after : LaneOf) → TakesAll pieces before after
    → (id : Value) (donor : ℕ) → slot before.pool.chunks (held_of after.pool id) donor ≡ effects donor (entries_of id pieces) (slot before.pool.chunks (held_of before.pool id) donor)
slots_in_order [] before after t id donor = ap (λ (l : LaneOf). slot before.pool.chunks (held_of l.pool id) donor) t.1
slots_in_order (p ∷ ps) before after t id donor =
    let between = t.0 in
    let chunks = (acts p before t.0 t.1).chunks in
    let onward = subst (λ c. slot c (held_of after.pool id) donor ≡ effects donor (entries_of id ps) (slot c (held_of between.pool id) donor)) chunks (slots_in_order ps between after t.2 id donor) in
    onward
    ∙ slot_onward before.pool.chunks p (filter (λ (q : Piece). is_same id q.id) ps) donor (is_same id p.id) (slot before.pool.chunks (held_of before.pool id) donor) (slot before.pool.chunks (held_of between.pool id) donor)
    (slot_turned p before between t.1 id donor)

counted : (b : Bool) (p : Piece) (own : List Piece) (n : ℕ) → cond b (n + 1) n + length own ≡ n + length (cond b (p ∷ own) own)
counted true p own n = omega arith
counted false p own n = refl

pub at_in_order : (pieces : List Piece) (before after : LaneOf) → TakesAll pieces before after
    → (donor : ℕ) → number_of after.at donor ≡ number_of before.at donor + length (pieces_of donor pieces)
at_in_order [] before after t donor = let is = ap (λ (l : LaneOf). number_of l.at donor) t.1 in omega (arith, is)
at_in_order (p ∷ ps) before after t donor =
    at_in_order ps t.0 after t.2 donor
    ∙ ap (λ n. n + length (pieces_of donor ps)) (at_turned p before t.0 t.1 donor)
    ∙ counted (p.donor.0 == donor) p (pieces_of donor ps) (number_of before.at donor)

stands_first : (b : Bool) (p : Piece) (own : List Piece) (n n' : ℕ) → n' ≡ cond b (n + 1) n → (b ≡ true → p.position ≡ n) → StandFrom n' own → StandFrom n (cond b (p ∷ own) own)
stands_first true p own n n' is first rest = (first refl, subst (λ m. StandFrom m own) is rest)
stands_first false p own n n' is first rest = subst (λ m. StandFrom m own) is rest

pub positions_in_order : (pieces : List Piece) (before after : LaneOf) → TakesAll pieces before after
    → (donor : ℕ) → StandFrom (number_of before.at donor) (pieces_of donor pieces)
positions_in_order [] before after t donor = tt
positions_in_order (p ∷ ps) before after t donor =
    stands_first (p.donor.0 == donor) p (pieces_of donor ps) (number_of before.at donor) (number_of t.0.at donor) (at_turned p before t.0 t.1 donor)
    (λ own. t.1.here ∙ ap (number_of before.at) (eqb-true p.donor.0 donor own)) (positions_in_order ps t.0 after t.2 donor)

reached_first : (b : Bool) (at at' high high' last greatest : ℕ) → at' ≡ cond b (at + 1) at → high' ≡ cond b (max high (at + 1)) high → at' ≤ last → greatest ≡ max high' last
    → greatest ≡ max high last
reached_first true at at' high high' last greatest ats highs least is = omega (arith, ats, highs, least, is)
reached_first false at at' high high' last greatest ats highs least is = omega (arith, ats, highs, least, is)

pub high_in_order : (pieces : List Piece) (before after : LaneOf) → TakesAll pieces before after
    → (donor : ℕ) → number_of after.high donor ≡ max (number_of before.high donor) (number_of after.at donor)
high_in_order [] before after t donor =
    let highs = ap (λ (l : LaneOf). number_of l.high donor) t.1 in
    let ats = ap (λ (l : LaneOf). number_of l.at donor) t.1 in
    let reached = t.0.reached donor in
    omega (arith, highs, ats, reached)
high_in_order (p ∷ ps) before after t donor =
    let last = at_in_order ps t.0 after t.2 donor in
    reached_first (p.donor.0 == donor) (number_of before.at donor) (number_of t.0.at donor) (number_of before.high donor) (number_of t.0.high donor) (number_of after.at donor) (number_of after.high donor)
    (at_turned p before t.0 t.1 donor) (high_turned p before t.0 t.1 donor) (omega (arith, last)) (high_in_order ps t.0 after t.2 donor)
