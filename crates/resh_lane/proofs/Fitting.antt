-- A lane goes on fitting its feeds: with a piece at its position, and back.
use Rattle.std.proofs.Common.{◌≡◌, ◌≢◌, ◌≤◌, ◌<◌, ◌+◌, ◌-◌, ◌==◌, ℕ, zero, suc, max, min, Bool, true, false, cond, List, [], ◌∷◌, ◌++◌, length, replicate, slice_index_or, slice_set, Option, Some, None, is_some, refl, sym, ap, subst, ◌∙◌, ⊎_elim, arith}
use Rattle.std.proofs.lemmas.Bool.Decides.{eqb_tells}
use Rattle.std.proofs.lemmas.List.{get_or-set_same, get_or-set_other, length-append}
use Rattle.std.proofs.lemmas.Option.{slice_get_within}
use Rattle.std.specs.FinMap.{empty, get, get-empty}
use Rattle.std.specs.List.{slice_get}
use Rattle.std.specs.Option.{option_or}
use Rattle.resh_value.specs.Order.{compare_of, is_same}
use Rattle.resh_value.specs.declared.value.Value.{Value}
use Rattle.resh_chunks.specs.Chunks.{Chunks}
use Rattle.resh_oplog.specs.declared.entry.What.{What}
use Rattle.resh_oplog.specs.declared.entry.What.TheVariants.{Insert, Update, Delete, Final}
use Rattle.resh_oplog.specs.declared.piece.Piece.{Piece}
use Rattle.resh_stash.specs.Stored.{Document}
use Rattle.resh_feed.specs.Effects.{AreFormed, effect_of, effects_on, turn, writes}
use Rattle.resh_feed.specs.Fits.{FitSlots, FitsSlot}
use Rattle.resh_feed.proofs.Fitting.{fits_at_end, fits_back, fits_empty, fits_longer, fits_next}
use Rattle.resh_rules.specs.Fits.{Fits}
use Rattle.resh_rules.specs.Held.{is_owned}
use Rattle.resh_rules.specs.Pools.{PoolOf, empty_pool, held_of, waiting_of}
use Rattle.resh_rules.specs.Slots.{slot}
use Rattle.resh_lane.specs.Feeds.{FitsFeed, FitsFeeds}
use Rattle.resh_lane.specs.Lanes.{IsLane, LaneOf, fresh, gone_back, number_of}
use Rattle.resh_lane.specs.Laws.{GoesOnFitting, Takes}
use Rattle.resh_lane.proofs.Ordered.{acts, slot_turned, at_turned, high_turned}

-- a piece that fits writes its `_id`
pub written : (pool : PoolOf) (donor : ℕ) (id : Value) (what : What) → Fits pool donor id what → (q : Value) → writes q what ≡ is_same q id
written pool donor id (Insert d) f q = ap (is_same q) f.1.1
written pool donor id (Update own c) f q = ap (is_same q) f.1.0
written pool donor id (Delete own) f q = ap (is_same q) f.1
written pool donor id Final f q = absurd f.1

fits_at : (old : Chunks) (pool pool' : PoolOf) (donor at at' high high' : ℕ) (feed : List What) → at' ≡ at → high' ≡ high
    → ((id : Value) → slot old (held_of pool' id) donor ≡ slot old (held_of pool id) donor) → FitsFeed old pool donor at high feed → FitsFeed old pool' donor at' high' feed
fits_at old pool pool' donor at at' high high' feed a h s fits =
    let r = fits.reached in
    let w = fits.within in
    record {
      reached = omega (arith, a, h, r);
      within = omega (arith, h, w);
      slots = λ id.
          subst (λ n. FitsSlot id feed n high' (slot old (held_of pool' id) donor)) (sym a)
          (subst (λ n. FitsSlot id feed at n (slot old (held_of pool' id) donor)) (sym h)
          (subst (FitsSlot id feed at high) (sym (s id)) (fits.slots id)));
    }

-- one piece
module _ (p : Piece) (before after : LaneOf) (t : Takes p before after) where
  chunks_stay : after.pool.chunks ≡ before.pool.chunks
  chunks_stay = (acts p before after t).chunks

  donors_stay : length after.pool.stashes ≡ length before.pool.stashes
  donors_stay = (acts p before after t).donors

  writes_it : (id : Value) → writes id p.what ≡ is_same id p.id
  writes_it id = written before.pool p.donor.0 p.id p.what t.fits id

  own_slot : (id : Value) → slot before.pool.chunks (held_of after.pool id) p.donor.0 ≡ turn id p.what (slot before.pool.chunks (held_of before.pool id) p.donor.0)
  own_slot id =
      let now = slot before.pool.chunks (held_of before.pool id) p.donor.0 in
      slot_turned p before after t id p.donor.0
      ∙ ap (λ b. cond (is_same id p.id) (cond b (effect_of p.what now) now) now) (own_donor p.donor.0)
      ∙ ap (λ b. cond b (effect_of p.what now) now) (sym (writes_it id))
    where
      own_donor : (d : ℕ) → (d == d) ≡ true
      own_donor d = ⊎_elim (λ k. k.0) (λ k. absurd (k.1 refl)) (eqb_tells d d)

  other_slot : (id : Value) (donor : ℕ) → (p.donor.0 == donor) ≡ false → slot before.pool.chunks (held_of after.pool id) donor ≡ slot before.pool.chunks (held_of before.pool id) donor
  other_slot id donor apart =
      let now = slot before.pool.chunks (held_of before.pool id) donor in
      slot_turned p before after t id donor
      ∙ ap (λ b. cond (is_same id p.id) (cond b (effect_of p.what now) now) now) apart
      ∙ either_same (is_same id p.id) now
    where
      either_same : (b : Bool) (x : Option Document) → cond b x x ≡ x
      either_same true x = refl
      either_same false x = refl

  own_fits : (feed : List What) → AreFormed feed → slice_get feed p.position ≡ Some p.what
      → FitsFeed before.pool.chunks before.pool p.donor.0 (number_of before.at p.donor.0) (number_of before.high p.donor.0) feed
      → FitsFeed before.pool.chunks after.pool p.donor.0 (number_of before.at p.donor.0 + 1) (max (number_of before.high p.donor.0) (number_of before.at p.donor.0 + 1)) feed
  own_fits feed formed here fits =
      let at : ℕ = number_of before.at p.donor.0 in
      let high : ℕ = number_of before.high p.donor.0 in
      let there : slice_get feed at ≡ Some p.what = subst (λ n. slice_get feed n ≡ Some p.what) t.here here in
      let inside : at < length feed = slice_get_within feed at p.what there in
      let w = fits.within in
      record {
        reached = omega arith;
        within = omega (arith, w, inside);
        slots = λ id.
            subst (FitsSlot id feed (at + 1) (max high (at + 1))) (sym (own_slot id))
            (fits_next id feed formed at high (slot before.pool.chunks (held_of before.pool id) p.donor.0) p.what (fits.slots id) fits.reached fits.within there);
      }

  pub apply_fits : (feeds : ℕ → List What) → AreFormed (feeds p.donor.0) → slice_get (feeds p.donor.0) p.position ≡ Some p.what → FitsFeeds before feeds → FitsFeeds after feeds
  apply_fits feeds formed here fits = record {
    each = λ donor inside.
        let had : FitsFeed before.pool.chunks before.pool donor (number_of before.at donor) (number_of before.high donor) (feeds donor) = fits.each donor (subst (λ n. donor < n) donors_stay inside) in
        subst (λ (c : Chunks). FitsFeed c after.pool donor (number_of after.at donor) (number_of after.high donor) (feeds donor)) (sym chunks_stay)
        (⊎_elim
        (λ k. subst (λ d. FitsFeed before.pool.chunks after.pool d (number_of after.at d) (number_of after.high d) (feeds d)) k.1
        (turned (feeds p.donor.0) k.1 (own_fits (feeds p.donor.0) formed here (subst (λ d. FitsFeed before.pool.chunks before.pool d (number_of before.at d) (number_of before.high d) (feeds d)) (sym k.1) had))))
        (λ k. fits_at before.pool.chunks before.pool after.pool donor (number_of before.at donor) (number_of after.at donor) (number_of before.high donor) (number_of after.high donor) (feeds donor)
        (at_turned p before after t donor ∙ ap (λ b. cond b (number_of before.at donor + 1) (number_of before.at donor)) k.0)
        (high_turned p before after t donor ∙ ap (λ b. cond b (max (number_of before.high donor) (number_of before.at donor + 1)) (number_of before.high donor)) k.0)
        (λ id. other_slot id donor k.0) had)
        (eqb_tells p.donor.0 donor));
  }
    where
      own : (p.donor.0 == p.donor.0) ≡ true
      own = ⊎_elim (λ k. k.0) (λ k. absurd (k.1 refl)) (eqb_tells p.donor.0 p.donor.0)

      turned : (feed : List What) {d : ℕ} → p.donor.0 ≡ d
          → FitsFeed before.pool.chunks after.pool p.donor.0 (number_of before.at p.donor.0 + 1) (max (number_of before.high p.donor.0) (number_of before.at p.donor.0 + 1)) feed
          → FitsFeed before.pool.chunks after.pool p.donor.0 (number_of after.at p.donor.0) (number_of after.high p.donor.0) feed
      turned feed e f =
          let d : ℕ = p.donor.0 in
          fits_at before.pool.chunks after.pool after.pool d (number_of before.at d + 1) (number_of after.at d) (max (number_of before.high d) (number_of before.at d + 1)) (number_of after.high d) feed
          (at_turned p before after t d ∙ ap (λ b. cond b (number_of before.at d + 1) (number_of before.at d)) own)
          (high_turned p before after t d ∙ ap (λ b. cond b (max (number_of before.high d) (number_of before.at d + 1)) (number_of before.high d)) own)
          (λ id. refl) f

-- back
pub back_fits : (lane : LaneOf) (donor position : ℕ) (feeds : ℕ → List What) → IsLane lane → FitsFeeds lane feeds → FitsFeeds (gone_back donor position lane) feeds
back_fits lane one position feeds is fits = record {
  each = λ donor inside.
      let had = fits.each donor inside in
      let next : ℕ → ℕ = λ d. min (number_of lane.at d) position in
      let lower : number_of (slice_set lane.at one (next one)) donor ≤ number_of lane.at donor =
      ⊎_elim
      (λ k. let at : number_of (slice_set lane.at one (next one)) one ≡ next one = get_or-set_same lane.at one (next one) 0 (subst (λ n. one < n) (sym is.ats) (subst (λ d. d < length lane.pool.stashes) (sym k.1) inside)) in
      subst (λ d. number_of (slice_set lane.at one (next one)) d ≤ number_of lane.at d) k.1 (omega (arith, at)))
      (λ k. let at : number_of (slice_set lane.at one (next one)) donor ≡ number_of lane.at donor = get_or-set_other lane.at one donor (next one) 0 (λ q. k.1 (sym q)) in omega (arith, at))
      (eqb_tells one donor) in
      let r = had.reached in
      record {
        reached = omega (arith, lower, r);
        within = had.within;
        slots = λ id.
            fits_back id (feeds donor) (number_of lane.at donor) (number_of lane.high donor) (number_of (slice_set lane.at one (next one)) donor) (slot lane.pool.chunks (held_of lane.pool id) donor) lower (had.slots id);
      };
}

-- the feeds are longer
pub longer_fits : (lane : LaneOf) (feeds more : ℕ → List What) → FitsFeeds lane feeds → FitsFeeds lane (λ d. feeds d ++ more d)
longer_fits lane feeds more fits = record {
  each = λ donor inside.
      let had = fits.each donor inside in
      record {
        reached = had.reached;
        within = longer (feeds donor) (more donor) (number_of lane.high donor) had.within;
        slots = λ id.
            fits_longer id (feeds donor) (more donor) (number_of lane.at donor) (number_of lane.high donor) (slot lane.pool.chunks (held_of lane.pool id) donor) had.within (had.slots id);
      };
}
  where
    longer : (a b : List What) (n : ℕ) → n ≤ length a → n ≤ length (a ++ b)
    longer a b n le = let l : length (a ++ b) ≡ length a + length b = length-append a b in omega (arith, l, le)

-- a new lane
none_waits : (n : ℕ) (id : Value) (donor : ℕ) → slice_index_or (waiting_of (replicate n empty) id) donor None ≡ None
none_waits zero id donor = refl
none_waits (suc n) id zero = get-empty compare_of id
none_waits (suc n) id (suc donor) = none_waits n id donor

pub zeros : (n donor : ℕ) → number_of (replicate n 0) donor ≡ 0
zeros zero donor = refl
zeros (suc n) zero = refl
zeros (suc n) (suc donor) = zeros n donor

pub fresh_fits : (old : Chunks) (donors : ℕ) (feeds : ℕ → List What) → FitsFeeds (fresh (empty_pool old donors) donors) feeds
fresh_fits old donors feeds = record {
  each = λ donor inside.
      let none : (id : Value) → slot old (held_of (empty_pool old donors) id) donor ≡ None = λ id.
      let output : get empty id ≡ None = get-empty compare_of id in
      (λ i. option_or (none_waits donors id donor i) (cond (is_owned old donor (output i)) (output i) None)) in
      let at = zeros donors donor in
      record {
        reached = omega (arith, at);
        within = omega (arith, at);
        slots = λ id.
            subst (FitsSlot id (feeds donor) (number_of (replicate donors 0) donor) (number_of (replicate donors 0) donor)) (sym (none id))
            (subst (λ n. FitsSlot id (feeds donor) n n None) (sym at) (fits_empty id (feeds donor)));
      };
}

-- at the end of a feed
pub ended_fits : (lane : LaneOf) (feeds : ℕ → List What) (donor : ℕ) (id : Value) → donor < length lane.pool.stashes → number_of lane.at donor ≡ length (feeds donor) → FitsFeeds lane feeds
    → slot lane.pool.chunks (held_of lane.pool id) donor ≡ effects_on id (feeds donor) None
ended_fits lane feeds donor id inside at fits =
    let had = fits.each donor inside in
    let reached = had.reached in
    let within = had.within in
    fits_at_end id (feeds donor) (number_of lane.at donor) (number_of lane.high donor) (slot lane.pool.chunks (held_of lane.pool id) donor) at (omega (arith, at, reached, within)) (had.slots id)

pub goes_on_fitting : GoesOnFitting
goes_on_fitting = record {
  begun = fresh_fits;
  next = λ p before after feeds t formed here fits. apply_fits p before after t feeds formed here fits;
  back = λ lane donor position feeds is fits. back_fits lane donor position feeds is fits;
  longer = longer_fits;
  ended = ended_fits;
}
