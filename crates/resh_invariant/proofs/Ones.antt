-- One link or one lane of a recipient changes.
use Rattle.std.proofs.Common.{◌≡◌, ◌≤◌, ◌<◌, ◌⊎◌, inl, inr, ⊎_elim, ℕ, zero, suc, Bool, true, false, cond, not, ◌&&◌, List, [], ◌∷◌, length, slice_index_or, slice_set, Option, None, refl, sym, ap, subst, ◌∙◌, arith}
use Rattle.std.proofs.lemmas.Bool.{cases_lt}
use Rattle.std.proofs.lemmas.List.{get_or_past}
use Rattle.resh_value.specs.declared.value.Value.{Value}
use Rattle.resh_cells.specs.Cells.{lanes_of, link_in, links_of, no_lane, no_link, set_in, shard_in}
use Rattle.resh_cells.specs.declared.cluster.Cluster.{Cluster}
use Rattle.resh_cells.specs.declared.cluster.LinkCell.{LinkCell}
use Rattle.resh_cells.specs.declared.cluster.ShardCell.{ShardCell}
use Rattle.resh_bag.specs.Bag.{Bag}
use Rattle.resh_coord.specs.Control.{is_true_at}
use Rattle.resh_coord.specs.declared.phase.Phase.{Phase}
use Rattle.resh_coord.specs.declared.phase.Phase.TheVariants.{Initializing, PreparingToDonate, Cloning, Applying, BlockingWrites, Committing, Aborting, Done}
use Rattle.resh_donor.specs.States as donor
use Rattle.resh_keeping.proofs.Places.{length-set, set_all}
use Rattle.resh_lane.specs.Lanes.{LaneOf, number_of}
use Rattle.resh_model.specs.Orders.{State}
use Rattle.resh_setup.specs.declared.setup.Setup.{Setup}
use Rattle.resh_invariant.specs.Courses.{Course, course_of}
use Rattle.resh_invariant.specs.Keeping.{HoldsPlace, Keeps, is_moving}
use Rattle.resh_place.specs.Lanes.{held_in}
use Rattle.resh_progress.specs.Kinds.{ToInstall}
use Rattle.resh_progress.specs.Tellings.{has}
use Rattle.resh_versions.specs.Standing.{now}
use Rattle.resh_invariant.specs.Recipients.{HasAll, IsLaneKept, IsLinkKept, IsRecipientKept, IsReported}
use Rattle.resh_invariant.specs.Sources.{Clones, Source, sources_of}
use Rattle.resh_invariant.proofs.Framing.{links_keep}

pub never : {A : Type 0} → true ≡ false → A
never e = cc

pub both : (a b : Bool) → (a && b) ≡ true → (a ≡ true) × (b ≡ true)
both true b e = (refl, e)
both false b e = never (sym e)

pub off_of : (b : Bool) → not b ≡ true → b ≡ false
off_of true e = sym e
off_of false e = refl

-- a place that is set, or another
pub at_set : {X : Type 0} (xs : List X) (i j : ℕ) (x other : X)
    → (slice_index_or (slice_set xs i x) j other ≡ slice_index_or xs j other)
    ⊎ ((j ≡ i) × (slice_index_or (slice_set xs i x) j other ≡ x))
at_set [] i j x other = inl refl
at_set (y ∷ ys) zero zero x other = inr (refl, refl)
at_set (y ∷ ys) zero (suc j) x other = inl refl
at_set (y ∷ ys) (suc i) zero x other = inl refl
at_set (y ∷ ys) (suc i) (suc j) x other =
    ⊎_elim (λ same. inl same) (λ there. inr (ap suc there.0, there.1)) (at_set ys i j x other)

-- a recipient with one link changed
module _ (setup : Setup) (r : ℕ) (course : Course) (reported : Bool) (clash : Option Value) (own : donor.State) (sources : ℕ → Source)
    (links : List LinkCell) (lanes : List LaneOf) (kept : IsRecipientKept setup r course reported clash own sources links lanes)
    (d : ℕ) (new : LinkCell) (link : d < length setup.shards → IsLinkKept setup r d course own (sources d) new)
    (behind : d < length setup.shards → (l : ℕ) → l < setup.lanes → number_of new.link.kept.lanes l ≤ number_of (slice_index_or lanes l no_lane).at d)
    (finished : (slice_index_or links d no_link).link.kept.finished ≡ true → new.link.kept.finished ≡ true) where
  inside : (e : ℕ) → e < length setup.shards → e < length links
  inside e lt = subst (λ n. e < n) (sym kept.link_count) lt

  outside : (e : ℕ) → e < length links → e < length setup.shards
  outside e lt = subst (λ n. e < n) kept.link_count lt

  all_after : HasAll setup sources links lanes → HasAll setup sources (slice_set links d new) lanes
  all_after all = record {
    finished = λ e lt. set_all (λ k (x : LinkCell). x.link.kept.finished ≡ true) links d new no_link
        (λ d_in. finished (all.finished d (outside d d_in))) (λ k k_in. all.finished k (outside k k_in)) e (inside e lt);
    ended = all.ended;
    at = all.at;
  }

  report_after : (phase : Phase) → IsReported setup phase reported clash own sources links lanes → IsReported setup phase reported clash own sources (slice_set links d new) lanes
  report_after BlockingWrites was = λ on. (all_after (was on).0, (was on).1)
  report_after Committing was = λ on. all_after (was on)
  report_after Initializing was = tt
  report_after PreparingToDonate was = tt
  report_after Cloning was = tt
  report_after Applying was = tt
  report_after Aborting was = tt
  report_after Done was = tt

  pub link_set : IsRecipientKept setup r course reported clash own sources (slice_set links d new) lanes
  link_set = record {
    link_count = length-set links d new ∙ kept.link_count;
    lane_count = kept.lane_count;
    each_link = λ e lt. set_all (λ k x. IsLinkKept setup r k course own (sources k) x) links d new no_link (λ d_in. link (outside d d_in)) (λ k k_in. kept.each_link k (outside k k_in)) e (inside e lt);
    each_lane = kept.each_lane;
    behind = λ e l lt l_in. set_all (λ k (x : LinkCell). number_of x.link.kept.lanes l ≤ number_of (slice_index_or lanes l no_lane).at k) links d new no_link
        (λ d_in. behind (outside d d_in) l l_in) (λ k k_in. kept.behind k l (outside k k_in) l_in) e (inside e lt);
    reports = report_after course.phase kept.reports;
  }

module _ (setup : Setup) (state : State) (clones : Clones) (cluster : Cluster) (keeps : Keeps setup state clones cluster) (r d : ℕ) where
  -- an open link is one of the cluster's
  pub row_there : (link_in cluster r d).link.is_open ≡ true → r < length setup.shards
  row_there opens =
      ⊎_elim
      (λ (lt : r < length cluster.links). subst (λ n. r < n) keeps.link_rows lt)
      (λ (le : length cluster.links ≤ r). never (sym opens ∙ ap (λ (row : List LinkCell). (slice_index_or row d no_link).link.is_open) (get_or_past cluster.links r [] le)))
      (cases_lt r (length cluster.links))

  pub link_there : (link_in cluster r d).link.is_open ≡ true → d < length setup.shards
  link_there opens =
      ⊎_elim
      (λ (lt : d < length (links_of cluster r)). subst (λ n. d < n) (keeps.recipients r (row_there opens)).link_count lt)
      (λ (le : length (links_of cluster r) ≤ d). never (sym opens ∙ ap (λ (c : LinkCell). c.link.is_open) (get_or_past (links_of cluster r) d no_link le)))
      (cases_lt d (length (links_of cluster r)))

  pub link_keeps : (new : LinkCell)
      → (r < length setup.shards → d < length setup.shards → IsLinkKept setup r d (course_of cluster.control) (shard_in cluster r).donor (sources_of clones cluster r d) new)
      → (r < length setup.shards → d < length setup.shards → (l : ℕ) → l < setup.lanes → number_of new.link.kept.lanes l ≤ number_of (slice_index_or (lanes_of cluster r) l no_lane).at d)
      → ((link_in cluster r d).link.kept.finished ≡ true → new.link.kept.finished ≡ true)
      → Keeps setup state clones (record cluster { links = set_in cluster.links r d new })
  link_keeps new link behind finished =
      links_keep setup state clones cluster keeps r (slice_set (links_of cluster r) d new)
      (λ r_in. link_set setup r (course_of cluster.control) (is_true_at cluster.control.reported r) (slice_index_or cluster.control.clashes r None) (shard_in cluster r).donor
      (sources_of clones cluster r) (links_of cluster r) (lanes_of cluster r) (keeps.recipients r r_in) d new (link r_in) (behind r_in) finished)

-- a recipient that has yet to take something, with one lane changed
module _ (setup : Setup) (r : ℕ) (course : Course) (reported : Bool) (clash : Option Value) (own : donor.State) (sources : ℕ → Source)
    (links : List LinkCell) (lanes : List LaneOf) (kept : IsRecipientKept setup r course reported clash own sources links lanes)
    (l : ℕ) (new : LaneOf) (lane : IsLaneKept setup l own sources new)
    (behind : (d : ℕ) → d < length setup.shards → number_of (slice_index_or lanes l no_lane).at d ≤ number_of new.at d)
    (going : HasAll setup sources links lanes → ⊥) where
  within : (k : ℕ) → k < setup.lanes → k < length lanes
  within k lt = subst (λ n. k < n) (sym kept.lane_count) lt

  without : (k : ℕ) → k < length lanes → k < setup.lanes
  without k lt = subst (λ n. k < n) kept.lane_count lt

  no_report : (phase : Phase) → IsReported setup phase reported clash own sources links lanes → IsReported setup phase reported clash own sources links (slice_set lanes l new)
  no_report BlockingWrites was = λ on. absurd (going (was on).0)
  no_report Committing was = λ on. absurd (going (was on))
  no_report Initializing was = tt
  no_report PreparingToDonate was = tt
  no_report Cloning was = tt
  no_report Applying was = tt
  no_report Aborting was = tt
  no_report Done was = tt

  pub lane_set : IsRecipientKept setup r course reported clash own sources links (slice_set lanes l new)
  lane_set = record {
    link_count = kept.link_count;
    lane_count = length-set lanes l new ∙ kept.lane_count;
    each_link = kept.each_link;
    each_lane = λ k lt. set_all (λ k x. IsLaneKept setup k own sources x) lanes l new no_lane (λ l_in. lane) (λ k k_in. kept.each_lane k (without k k_in)) k (within k lt);
    behind = λ d k d_in lt. set_all (λ k (x : LaneOf). number_of (slice_index_or links d no_link).link.kept.lanes k ≤ number_of x.at d) lanes l new no_lane
        (λ l_in. let was = kept.behind d l d_in (without l l_in) in let more = behind d d_in in omega (arith, was, more))
        (λ k k_in. kept.behind d k d_in (without k k_in)) k (within k lt);
    reports = no_report course.phase kept.reports;
  }

-- a shard that isn't moving holds its place whatever its lanes have
module _ (setup : Setup) (r : ℕ) (course : Course) (reported : Bool) (clash : Option Value) (sources : ℕ → Source)
    (links : List LinkCell) (lanes other : List LaneOf) (cell : ShardCell) (bag : Bag)
    (kept : IsRecipientKept setup r course reported clash cell.donor sources links lanes) (going : HasAll setup sources links lanes → ⊥) where
  still : (phase : Phase) (installed : Bool) → has cell.donor.told ToInstall ≡ installed
      → IsReported setup phase reported clash cell.donor sources links lanes → is_moving phase installed ≡ false
  still Initializing installed is was = refl
  still PreparingToDonate installed is was = refl
  still Cloning installed is was = refl
  still Applying installed is was = refl
  still BlockingWrites installed is was = refl
  still Committing true is was = refl
  still Committing false is was = absurd (going (was is))
  still Aborting installed is was = refl
  still Done installed is was = refl

  pub place_held : HoldsPlace setup course.phase cell lanes bag r → HoldsPlace setup course.phase cell other bag r
  place_held holds id =
      let off = still course.phase (has cell.donor.told ToInstall) refl kept.reports in
      ap (λ t. cond t (held_in setup.lanes other id).output (now cell.shard.versions id)) off
      ∙ sym (ap (λ t. cond t (held_in setup.lanes lanes id).output (now cell.shard.versions id)) off) ∙ holds id
