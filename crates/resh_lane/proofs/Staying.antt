-- A lane stays one: a new one, with a piece taken, back, and emptied.
use Rattle.std.proofs.Common.{◌≡◌, ◌≤◌, ◌<◌, ◌+◌, ◌==◌, ℕ, max, min, zero, suc, Bool, true, false, cond, List, [], ◌∷◌, length, replicate, slice_set, refl, sym, ap, subst, ◌∙◌, arith, length-set}
use Rattle.std.proofs.lemmas.Bool.{eqb-true}
use Rattle.std.proofs.lemmas.List.{length-replicate}
use Rattle.std.specs.FinMap.{empty}
use Rattle.resh_value.specs.Limits.{end_of_places}
use Rattle.resh_chunks.specs.Chunks.{Chunks}
use Rattle.resh_oplog.specs.declared.piece.Piece.{Piece}
use Rattle.resh_stash.specs.Stored.{Stored}
use Rattle.resh_rules.specs.Pools.{IsPool, empty_pool}
use Rattle.resh_rules.proofs.Giving.{given_pool}
use Rattle.resh_lane.specs.Lanes.{IsLane, LaneOf, emptied, end_of_positions, fresh, gone_back, number_of}
use Rattle.resh_lane.specs.Laws.{StaysLane, Takes}
use Rattle.resh_lane.proofs.Fitting.{zeros}
use Rattle.resh_lane.proofs.Ordered.{acts, at_turned, high_turned, pool_after}

module _ (p : Piece) (before after : LaneOf) (t : Takes p before after) (small : p.position < end_of_positions) where
  at_most : (donor : ℕ) (b : Bool) (at high at' high' : ℕ) → at' ≡ cond b (at + 1) at → high' ≡ cond b (max high (at + 1)) high → at ≤ high → at' ≤ high'
  at_most donor true at high at' high' a h le = omega (arith, a, h)
  at_most donor false at high at' high' a h le = omega (arith, a, h, le)

  below : (donor : ℕ) (b : Bool) → (p.donor.0 == donor) ≡ b → number_of after.high donor < end_of_places
  below donor true e =
      let same : p.donor.0 ≡ donor = eqb-true p.donor.0 donor e in
      let high = high_turned p before after t donor ∙ ap (λ b. cond b (max (number_of before.high donor) (number_of before.at donor + 1)) (number_of before.high donor)) e in
      let at : p.position ≡ number_of before.at donor = t.here ∙ ap (number_of before.at) same in
      let had = t.lane.small donor in
      omega (arith, high, at, had, small)
  below donor false e =
      let high = high_turned p before after t donor ∙ ap (λ b. cond b (max (number_of before.high donor) (number_of before.at donor + 1)) (number_of before.high donor)) e in
      let had = t.lane.small donor in
      omega (arith, high, had)

  pub lane_after : IsLane after
  lane_after = record {
    ats = ap (λ (l : LaneOf). length l.at) t.left ∙ length-set before.at p.donor.0 (number_of before.at p.donor.0 + 1) ∙ t.lane.ats ∙ sym (acts p before after t).donors;
    highs = ap (λ (l : LaneOf). length l.high) t.left ∙ length-set before.high p.donor.0 (max (number_of before.high p.donor.0) (number_of before.at p.donor.0 + 1)) ∙ t.lane.highs ∙ sym (acts p before after t).donors;
    reached = λ donor. at_most donor (p.donor.0 == donor) (number_of before.at donor) (number_of before.high donor) (number_of after.at donor) (number_of after.high donor)
        (at_turned p before after t donor) (high_turned p before after t donor) (t.lane.reached donor);
    small = λ donor. below donor (p.donor.0 == donor) refl;
  }

  pub pool_stays : IsPool after.pool
  pool_stays = subst IsPool (sym (pool_after p before after t)) (given_pool before.pool p.donor.0 p.id p.what t.pool t.fits)

-- a position that is lowered
pub lowered : (numbers : List ℕ) (one donor position : ℕ) → number_of (slice_set numbers one (min (number_of numbers one) position)) donor ≤ number_of numbers donor
lowered [] one donor position = omega arith
lowered (n ∷ ns) zero zero position = omega arith
lowered (n ∷ ns) zero (suc donor) position = omega arith
lowered (n ∷ ns) (suc one) zero position = omega arith
lowered (n ∷ ns) (suc one) (suc donor) position = lowered ns one donor position

pub stays_lane : StaysLane
stays_lane = record {
  begun = λ old donors.
      let none : Stored = empty in
      let many = length-replicate donors none in
      record {
        ats = length-replicate donors 0 ∙ sym many;
        highs = length-replicate donors 0 ∙ sym many;
        reached = λ donor. omega arith;
        small = λ donor. let none_at = zeros donors donor in omega (arith, none_at);
      };
  next = λ p before after t small. (lane_after p before after t small, pool_stays p before after t small);
  back = λ lane donor position is.
      record {
        ats = length-set lane.at donor (min (number_of lane.at donor) position) ∙ is.ats;
        highs = is.highs;
        reached = λ d. let low = lowered lane.at donor d position in let had = is.reached d in omega (arith, low, had);
        small = is.small;
      };
  done = λ lane is.
      let none : Stored = empty in
      let many = length-replicate (length lane.pool.stashes) none in
      record {
        ats = is.ats ∙ sym many;
        highs = is.highs ∙ sym many;
        reached = is.reached;
        small = is.small;
      };
}
