-- The rows of a piece that is taken.
use Rattle.std.proofs.Common.{◌≡◌, ◌≤◌, ◌<◌, ◌==◌, ◌+◌, ⊎_elim, ℕ, zero, suc, Bool, true, false, ◌&&◌, cond, max, List, [], ◌∷◌, length, filter, slice_index_or, slice_set, Option, Some, None, refl, sym, ap, subst, ◌∙◌, arith, rules}
use Rattle.std.proofs.lemmas.Bool.{cases_lt, eqb-true}
use Rattle.std.proofs.lemmas.List.{get_or_past, length-set}
use Rattle.std.specs.List.{AllByRecursion, Contains, slice_get}
use Rattle.std.specs.Prelude.{unwrap_or}
use Rattle.resh_value.specs.declared.value.Value.{Value}
use Rattle.resh_value.specs.declared.value.Value.TheVariants.{Null}
use Rattle.resh_value.specs.declared.value.ShardId.{ShardId}
use Rattle.resh_cells.specs.Cells.{lane_in, lanes_of, link_in, links_of, no_lane, no_link, on_lane, shard_in}
use Rattle.resh_cells.specs.Cuts.{cut_for}
use Rattle.resh_cells.specs.declared.cluster.Cluster.{Cluster}
use Rattle.resh_cells.specs.declared.cluster.LinkCell.{LinkCell}
use Rattle.resh_chunks.specs.Chunks.{Chunks, owner_of}
use Rattle.resh_coord.specs.Control.{is_true_at}
use Rattle.resh_events.specs.Schedules.{WasCut}
use Rattle.resh_events.specs.rows.Again as again
use Rattle.resh_events.specs.rows.Apply as apply
use Rattle.resh_events.specs.rows.Apply.{is_at, is_given}
use Rattle.resh_events.specs.rows.Clone.{donates}
use Rattle.resh_donor.specs.declared.phase.DonorPhase.{DonorPhase}
use Rattle.resh_donor.specs.declared.phase.DonorPhase.TheVariants.{Unused, PreparingToDonate, Donating, BlockingWrites, Done}
use Rattle.resh_feed.specs.Effects.{AreFormed, IsFormed}
use Rattle.resh_feed.specs.Lanes.{id_lane, is_on, lane_feed}
use Rattle.resh_lane.specs.Lanes.{LaneOf, number_of, taken}
use Rattle.resh_lane.specs.Laws.{Takes}
use Rattle.resh_lane.proofs.Fitting.{goes_on_fitting}
use Rattle.resh_lane.proofs.Staying.{stays_lane}
use Rattle.resh_model.specs.Orders.{State}
use Rattle.resh_oplog.specs.Logs.{id_written}
use Rattle.resh_oplog.specs.declared.entry.What.{What}
use Rattle.resh_oplog.specs.declared.entry.What.TheVariants.{Insert, Update, Delete, Final}
use Rattle.resh_oplog.specs.declared.piece.Piece.{Piece}
use Rattle.resh_place.specs.Cuts.{IsCutFor}
use Rattle.resh_place.proofs.Lists.{no_member}
use Rattle.resh_rules.specs.Fits.{Fits, FitsAt}
use Rattle.resh_rules.specs.Pools.{PoolOf}
use Rattle.resh_setup.specs.declared.setup.Setup.{Setup}
use Rattle.resh_shard.specs.Writes.{shard_id}
use Rattle.resh_invariant.specs.Courses.{course_of, is_unused}
use Rattle.resh_invariant.specs.Items.{AreItemsOf, IsItemOf}
use Rattle.resh_invariant.specs.Keeping.{Keeps}
use Rattle.resh_invariant.specs.Recipients.{HasAll, IsLaneKept, IsLinkKept}
use Rattle.resh_invariant.specs.Sources.{Clones, feed_by, feeds_on, sources_of}
use Rattle.resh_invariant.proofs.Framing.{lanes_keep}
use Rattle.resh_invariant.proofs.Ones.{at_set, both, lane_set, never, place_held}

-- items are formed, and so is a lane's part of them
item_formed : (old : Chunks) (donor : ℕ) (what : What) → IsItemOf old donor what → IsFormed what
item_formed old donor (Insert document) is = is.0.rising
item_formed old donor (Update id change) is = is.0
item_formed old donor (Delete id) is = tt
item_formed old donor Final is = tt

part_formed : (old : Chunks) (donor lanes lane : ℕ) (whats : List What) → AreItemsOf old donor whats → AreFormed (lane_feed lanes lane whats)
part_formed old donor lanes lane [] are = tt
part_formed old donor lanes lane (what ∷ whats) are = by (is_on lanes lane what) (part_formed old donor lanes lane whats are.1)
  where
    by : (t : Bool) → AreFormed (lane_feed lanes lane whats) → AreFormed (cond t (what ∷ lane_feed lanes lane whats) (lane_feed lanes lane whats))
    by true rest = (item_formed old donor what are.0, rest)
    by false rest = rest

-- what stands in a lane's part is an item
there_item : (P : What → Type 0) (p : What → Bool) (whats : List What) → AllByRecursion P whats → (i : ℕ) (what : What)
    → slice_get (filter p whats) i ≡ Some what → P what
there_item P p [] all zero what e = cc
there_item P p [] all (suc i) what e = cc
there_item P p (x ∷ whats) all i what e = by (p x) i e (there_item P p whats all.1)
  where
    same : {X : Type 0} (x y : X) → Some x ≡ Some y → x ≡ y
    same x y e = cc

    by : (t : Bool) (i : ℕ) → slice_get (cond t (x ∷ filter p whats) (filter p whats)) i ≡ Some what
        → ((i : ℕ) (what : What) → slice_get (filter p whats) i ≡ Some what → P what) → P what
    by true zero e rest = subst P (same x what e) all.0
    by true (suc i) e rest = rest i what e
    by false i e rest = rest i what e

item_fits : (pool : PoolOf) (donor : ℕ) (id : Value) (what : What) → IsItemOf pool.chunks donor what → id_written what ≡ Some id → FitsAt pool donor id what
item_fits pool donor id (Insert document) is e = (is.0, ap (λ o. unwrap_or o Null) e, is.1)
item_fits pool donor id (Update own change) is e = (same own id e, is.0, is.1)
  where
    same : {X : Type 0} (x y : X) → Some x ≡ Some y → x ≡ y
    same x y e = cc
item_fits pool donor id (Delete own) is e = same own id e
  where
    same : {X : Type 0} (x y : X) → Some x ≡ Some y → x ≡ y
    same x y e = cc
item_fits pool donor id Final is e = cc

none_untold : (sent : List (List Piece)) → AllByRecursion (λ (pieces : List Piece). pieces ≡ []) sent → (l : ℕ) (piece : Piece) → Contains (cut_for sent l) piece → ⊥
none_untold [] all l piece there = no_member piece there
none_untold (pieces ∷ sent) all zero piece there = no_member piece (subst (λ ps. Contains ps piece) all.0 there)
none_untold (pieces ∷ sent) all (suc l) piece there = none_untold sent all.1 l piece there

got_below : {X : Type 0} (xs : List X) (i : ℕ) (x : X) → slice_get xs i ≡ Some x → i < length xs
got_below [] zero x e = cc
got_below [] (suc i) x e = cc
got_below (y ∷ xs) zero x e = omega arith
got_below (y ∷ xs) (suc i) x e = let lt = got_below xs i x e in omega (arith, lt)

not_unused : (to : DonorPhase) → donates to ≡ true → is_unused to ≡ false
not_unused Unused e = never (sym e)
not_unused PreparingToDonate e = never (sym e)
not_unused Donating e = refl
not_unused BlockingWrites e = refl
not_unused Done e = refl

module _ (setup : Setup) (state : State) (clones : Clones) (cluster : Cluster) (keeps : Keeps setup state clones cluster)
    (r d l : ℕ) (piece : Piece) (cut : WasCut cluster r d l (Some piece))
    (given : is_given (lane_in cluster r l) d piece ≡ true) (at : is_at (lane_in cluster r l) piece ≡ true) where
  abbrev lane : LaneOf
  lane = lane_in cluster r l

  tests : (lane.started ≡ true) × (piece.donor.0 ≡ d)
  tests = let all = both lane.started (piece.donor.0 == d) given in (all.0, eqb-true piece.donor.0 d all.1)

  here : piece.position ≡ number_of lane.at piece.donor.0
  here = eqb-true piece.position (number_of lane.at piece.donor.0) at

  r_in : r < length setup.shards
  r_in =
      ⊎_elim
      (λ (lt : r < length cluster.lanes). subst (λ n. r < n) keeps.lane_rows lt)
      (λ (le : length cluster.lanes ≤ r). never (sym tests.0 ∙ ap (λ (row : List LaneOf). (slice_index_or row l no_lane).started) (get_or_past cluster.lanes r [] le)))
      (cases_lt r (length cluster.lanes))

  l_in : l < setup.lanes
  l_in =
      ⊎_elim
      (λ (lt : l < length (lanes_of cluster r)). subst (λ n. l < n) (keeps.recipients r r_in).lane_count lt)
      (λ (le : length (lanes_of cluster r) ≤ l). never (sym tests.0 ∙ ap (λ (x : LaneOf). x.started) (get_or_past (lanes_of cluster r) l no_lane le)))
      (cases_lt l (length (lanes_of cluster r)))

  d_in : d < length setup.shards
  d_in =
      ⊎_elim
      (λ (lt : d < length (links_of cluster r)). subst (λ n. d < n) (keeps.recipients r r_in).link_count lt)
      (λ (le : length (links_of cluster r) ≤ d). absurd (no_member piece (subst (λ (x : LinkCell). Contains (cut_for x.sent l) piece) (get_or_past (links_of cluster r) d no_link le) cut)))
      (cases_lt d (length (links_of cluster r)))

  kept : IsLaneKept setup l (shard_in cluster r).donor (sources_of clones cluster r) lane
  kept = (keeps.recipients r r_in).each_lane l l_in

  link : IsLinkKept setup r d (course_of cluster.control) (shard_in cluster r).donor (sources_of clones cluster r d) (link_in cluster r d)
  link = (keeps.recipients r r_in).each_link d d_in

  stands : IsCutFor setup.lanes (shard_id d) (feed_by (sources_of clones cluster r d)) l piece
  stands = link.sent l piece cut

  there : slice_get (feeds_on setup.lanes l (sources_of clones cluster r) d) piece.position ≡ Some piece.what
  there = subst (λ k. slice_get (lane_feed setup.lanes k (feed_by (sources_of clones cluster r d))) piece.position ≡ Some piece.what) stands.lane stands.of.there

  item : IsItemOf setup.old_map d piece.what
  item = there_item (IsItemOf setup.old_map d) (is_on setup.lanes l) (feed_by (sources_of clones cluster r d)) ((keeps.donors d d_in).items r r_in) piece.position piece.what there

  -- something is left to take
  going : HasAll setup (sources_of clones cluster r) (links_of cluster r) (lanes_of cluster r) → ⊥
  going all =
      let end = all.at l d l_in d_in in
      let place : piece.position ≡ number_of lane.at d = here ∙ ap (number_of lane.at) tests.1 in
      let below = got_below (feeds_on setup.lanes l (sources_of clones cluster r) d) piece.position piece.what there in
      omega (arith, end, place, below)

  takes : Takes piece lane (taken piece lane)
  takes = record {
    lane = kept.sound;
    pool = kept.pool;
    fits = (
      subst (λ n. piece.donor.0 < n) (sym kept.stashes) (subst (λ k. k < length setup.shards) (sym tests.1) d_in),
      item_fits lane.pool piece.donor.0 piece.id piece.what
          (subst (λ k. IsItemOf lane.pool.chunks k piece.what) (sym tests.1) (subst (λ c. IsItemOf c d piece.what) (sym kept.chunks) item)) stands.of.id,
    );
    here = here;
    left = refl;
  }

  told : (sources_of clones cluster r d).donating ≡ false → ⊥
  told off = none_untold (link_in cluster r d).sent (link.untold off).sent l piece cut

  new_kept : IsLaneKept setup l (shard_in cluster r).donor (sources_of clones cluster r) (taken piece lane)
  new_kept =
      let next = stays_lane.next piece lane (taken piece lane) takes stands.below in
      record {
        sound = next.0;
        pool = next.1;
        chunks = kept.chunks;
        stashes = sym next.0.ats ∙ length-set lane.at piece.donor.0 (number_of lane.at piece.donor.0 + 1) ∙ kept.sound.ats ∙ kept.stashes;
        started = kept.started;
        fits = λ on. goes_on_fitting.next piece lane (taken piece lane) (feeds_on setup.lanes l (sources_of clones cluster r)) takes
            (subst (λ k. AreFormed (feeds_on setup.lanes l (sources_of clones cluster r) k)) (sym tests.1) (part_formed setup.old_map d setup.lanes l (feed_by (sources_of clones cluster r d)) ((keeps.donors d d_in).items r r_in)))
            (subst (λ k. slice_get (feeds_on setup.lanes l (sources_of clones cluster r) k) piece.position ≡ Some piece.what) (sym tests.1) there)
            (kept.fits on);
        untold = λ e e_in off. ⊎_elim
            (λ same. same ∙ kept.untold e e_in off)
            (λ (is : (e ≡ piece.donor.0) × (number_of (taken piece lane).high e ≡ max (number_of lane.high piece.donor.0) (number_of lane.at piece.donor.0 + 1))).
            absurd (told (subst (λ k. (sources_of clones cluster r k).donating ≡ false) (is.0 ∙ tests.1) off)))
            (at_set lane.high piece.donor.0 e (max (number_of lane.high piece.donor.0) (number_of lane.at piece.donor.0 + 1)) 0);
        unused = λ on. never (sym on ∙ not_unused (shard_in cluster r).donor.phase (sym kept.started ∙ tests.0));
      }

  further : (e : ℕ) → e < length setup.shards → number_of (slice_index_or (lanes_of cluster r) l no_lane).at e ≤ number_of (taken piece lane).at e
  further e e_in =
      ⊎_elim
      (λ (same : number_of (taken piece lane).at e ≡ number_of lane.at e). omega (arith, same))
      (λ (is : (e ≡ piece.donor.0) × (number_of (taken piece lane).at e ≡ number_of lane.at piece.donor.0 + 1)).
      let before : number_of lane.at e ≡ number_of lane.at piece.donor.0 = ap (number_of lane.at) is.0 in let now = is.1 in omega (arith, before, now))
      (at_set lane.at piece.donor.0 e (number_of lane.at piece.donor.0 + 1) 0)

  pub taken_keeps : Keeps setup state clones (on_lane r l (taken piece) cluster)
  taken_keeps =
      lanes_keep setup state clones cluster keeps r (slice_set (lanes_of cluster r) l (taken piece lane))
      (λ r_in. lane_set setup r (course_of cluster.control) (is_true_at cluster.control.reported r) (slice_index_or cluster.control.clashes r None) (shard_in cluster r).donor
      (sources_of clones cluster r) (links_of cluster r) (lanes_of cluster r) (keeps.recipients r r_in) l (taken piece lane) new_kept further going)
      (λ r_in. place_held setup r (course_of cluster.control) (is_true_at cluster.control.reported r) (slice_index_or cluster.control.clashes r None)
      (sources_of clones cluster r) (links_of cluster r) (lanes_of cluster r) (slice_set (lanes_of cluster r) l (taken piece lane)) (shard_in cluster r) state.bag (keeps.recipients r r_in) going (keeps.contents r r_in))

module _ (setup : Setup) (state : State) (clones : Clones) (cluster : Cluster) (keeps : Keeps setup state clones cluster) (r d l : ℕ) where
  pub apply_keeps : (piece : Option Piece) → WasCut cluster r d l piece → apply.may cluster r d l piece ≡ true → Keeps setup state clones (apply.change cluster r d l piece)
  apply_keeps None cut is = keeps
  apply_keeps (Some piece) cut is =
      let tests = both (is_given (lane_in cluster r l) d piece) (is_at (lane_in cluster r l) piece) is in
      taken_keeps setup state clones cluster keeps r d l piece cut tests.0 tests.1

  pub again_keeps : (position : ℕ) (piece : Option Piece) → WasCut cluster r d l piece → again.may cluster r d l position piece ≡ true
      → Keeps setup state clones (again.change cluster r d l piece)
  again_keeps position None cut is = keeps
  again_keeps position (Some piece) cut is = by (is_at (lane_in cluster r l) piece) refl
    where
      by : (t : Bool) → is_at (lane_in cluster r l) piece ≡ t → Keeps setup state clones (cond t (on_lane r l (taken piece) cluster) cluster)
      by true at = taken_keeps setup state clones cluster keeps r d l piece cut (both (is_given (lane_in cluster r l) d piece) (piece.position == position) is).0 at
      by false at = keeps
