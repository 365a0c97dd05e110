-- Recipients that have taken the whole of every feed while writes are blocked hold their parts of the collection.
use Rattle.std.proofs.Common.{◌≡◌, ◌<◌, ◌==◌, ℕ, Bool, true, false, cond, List, [], ◌∷◌, length, slice_index_or, Option, None, refl, sym, ap, subst, ◌∙◌, arith}
use Rattle.std.specs.List.{AllByRecursion}
use Rattle.resh_value.specs.declared.value.Value.{Value}
use Rattle.resh_value.proofs.WholeLaws.{rising_decides, whole_decides}
use Rattle.resh_bag.specs.Bag.{IsPlaced, held}
use Rattle.resh_cells.specs.Cells.{lanes_of, links_of, shard_in}
use Rattle.resh_cells.specs.Clocks.{clock_of}
use Rattle.resh_cells.specs.declared.cell.Cell.TheVariants as cell
use Rattle.resh_cells.specs.declared.cluster.Cluster.{Cluster}
use Rattle.resh_chunks.specs.Chunks.{Chunks}
use Rattle.resh_coord.specs.Control.{is_true_at}
use Rattle.resh_coord.specs.declared.phase.Phase.{Phase}
use Rattle.resh_coord.specs.declared.phase.Phase.TheVariants as phase
use Rattle.resh_donor.specs.States as donor
use Rattle.resh_donor.specs.declared.phase.DonorPhase.TheVariants.{Donating, BlockingWrites}
use Rattle.resh_feed.specs.Effects.{effects_on}
use Rattle.resh_feed.specs.Laws.{AllWhole}
use Rattle.resh_invariant.specs.Courses.{IsDonorIn, IsStage, is_committed, is_early, is_over}
use Rattle.resh_invariant.specs.Items.{AreItemsOf, IsItemOf}
use Rattle.resh_invariant.specs.Keeping.{HoldsPlace, Keeps, map_in_force}
use Rattle.resh_invariant.specs.Recipients.{HasAll}
use Rattle.resh_invariant.specs.Sources.{Clones, feed_by, source_by, sources_of}
use Rattle.resh_model.specs.Orders.{State}
use Rattle.resh_oplog.specs.Logs.{is_whole}
use Rattle.resh_oplog.specs.declared.entry.What.{What}
use Rattle.resh_oplog.specs.declared.entry.What.TheVariants.{Insert, Update, Delete, Final}
use Rattle.resh_place.specs.Lanes.{HasTakenAll, HaveTakenAll, TellPart}
use Rattle.resh_progress.specs.Kinds.{ToInstall}
use Rattle.resh_progress.specs.Tellings.{has}
use Rattle.resh_setup.specs.Validity.{IsValid}
use Rattle.resh_setup.specs.declared.setup.Setup.{Setup}
use Rattle.resh_shard.specs.Laws.{comes}
use Rattle.resh_story.proofs.Feeding.{feeds_tell}
use Rattle.resh_versions.specs.Standing.{now}
use Rattle.resh_control_rows.proofs.Reporting.{blocking_told}

item_whole : (old : Chunks) (donor : ℕ) (what : What) → IsItemOf old donor what → is_whole what ≡ true
item_whole old donor (Insert document) is = (whole_decides document).1 is.0
item_whole old donor (Update id change) is = (rising_decides change.assign).1 is.0
item_whole old donor (Delete id) is = refl
item_whole old donor Final is = refl

items_whole : (old : Chunks) (donor : ℕ) (whats : List What) → AreItemsOf old donor whats → AllWhole whats
items_whole old donor [] are = tt
items_whole old donor (what ∷ whats) are = (item_whole old donor what are.0, items_whole old donor whats are.1)

-- while writes are blocked a donor isn't at its end
blocking_going : (told : Bool) (decision : _) (state : donor.State) → IsDonorIn phase.BlockingWrites decision told state → is_over state.phase ≡ false
blocking_going true decision state is = ap (λ (s : donor.State). is_over s.phase) is
blocking_going false decision state is = ap (λ (s : donor.State). is_over s.phase) is

module _ (setup : Setup) (valid : IsValid setup) (state : State) (clones : Clones) (cluster : Cluster) (keeps : Keeps setup state clones cluster)
    (blocking : cluster.control.phase ≡ phase.BlockingWrites) where
  pub stage : IsStage phase.BlockingWrites cluster.control.decision state.fate
  stage = subst (λ p. IsStage p cluster.control.decision state.fate) blocking keeps.decided.stage

  pub old_placed : IsPlaced setup.old_map state.bag
  old_placed = subst (λ m. IsPlaced m state.bag) (keeps.decided.map ∙ ap (λ o. map_in_force setup (is_committed o)) stage.0) keeps.decided.placed

  donor_at : (s : ℕ) → s < length setup.shards → IsDonorIn phase.BlockingWrites cluster.control.decision (is_true_at cluster.control.told s) (shard_in cluster s).donor
  donor_at s lt = subst (λ p. IsDonorIn p cluster.control.decision (is_true_at cluster.control.told s) (shard_in cluster s).donor) blocking (keeps.donors s lt).donor

  module _ (r : ℕ) (r_in : r < length setup.shards) where
    -- what is told of each donor is what it has for the recipient
    pub tells : TellPart setup.new_map state.bag r (length setup.shards) (λ d. feed_by (sources_of clones cluster r d))
    tells d d_in id =
        let kept = keeps.donors d d_in in
        let going = blocking_going (is_true_at cluster.control.told d) cluster.control.decision (shard_in cluster d).donor (donor_at d d_in) in
        let floor = kept.floor going in
        ap (λ ds. effects_on id (feed_by (source_by cluster.control.fetch_time (shard_in cluster d) ds r)) None) (kept.cloned floor r r_in)
        ∙ feeds_tell (clock_of cluster.clocks (cell.Shard d)) cluster.control.fetch_time r (shard_in cluster d).shard id kept.story floor
        (kept.named stage.0 (ap is_early blocking)) (kept.whole going r)
        ∙ ap (λ m. comes (λ n. n == r) m (now (shard_in cluster d).shard.versions id)) kept.of.new_map
        ∙ ap (comes (λ n. n == r) setup.new_map) (held_now d d_in id)
      where
        held_now : (d : ℕ) → d < length setup.shards → (id : Value) → now (shard_in cluster d).shard.versions id ≡ held state.bag d id
        held_now d d_in id = subst (λ p. HoldsPlace setup p (shard_in cluster d) (lanes_of cluster d) state.bag d) blocking (keeps.contents d d_in) id

    -- and its lanes have taken it
    pub taken : HasAll setup (sources_of clones cluster r) (links_of cluster r) (lanes_of cluster r)
        → HaveTakenAll setup.old_map setup.lanes (length setup.shards) (λ d. feed_by (sources_of clones cluster r d)) (lanes_of cluster r)
    taken all = record {
      map = valid.old.whole;
      shards = valid.old.count;
      some_lane = let some = valid.sizes.some_lanes in omega (arith, some);
      many = (keeps.recipients r r_in).lane_count;
      each = λ l l_in. let lane = (keeps.recipients r r_in).each_lane l l_in in record {
        pool = lane.pool;
        chunks = lane.chunks;
        stashes = lane.stashes;
        fits = lane.fits (blocking_told (is_true_at cluster.control.told r) cluster.control.decision (shard_in cluster r).donor (donor_at r r_in)).1;
        ended = λ d d_in. all.at l d l_in d_in;
      };
      whole = λ d d_in. items_whole setup.old_map d (feed_by (sources_of clones cluster r d)) ((keeps.donors d d_in).items r r_in);
    }
