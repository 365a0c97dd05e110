-- A shard is told to install: it holds its lanes' outputs, which are its place of the collection, under the new map.
use Rattle.std.proofs.Common.{◌≡◌, ◌≢◌, ◌≤◌, ◌<◌, ℕ, max, zero, suc, Bool, true, false, cond, not, List, [], ◌∷◌, length, map, slice_index_or, slice_set, Option, Some, None, refl, sym, ap, subst, ◌∙◌, arith}
use Rattle.std.proofs.lemmas.List.{length-set}
use Rattle.std.specs.List.{AllByRecursion}
use Rattle.resh_value.proofs.WholeLaws.{rising_decides, whole_decides}
use Rattle.resh_cells.specs.Cells.{lanes_of, links_of, no_lane, shard_in, with_shard}
use Rattle.resh_cells.specs.Clocks.{clock_of}
use Rattle.resh_cells.specs.declared.cell.Cell.TheVariants as cell
use Rattle.resh_cells.specs.declared.cluster.Cluster.{Cluster}
use Rattle.resh_cells.specs.declared.cluster.ShardCell.{ShardCell}
use Rattle.resh_chunks.specs.Chunks.{Chunks}
use Rattle.resh_coord.specs.Control.{is_true_at, message_in}
use Rattle.resh_coord.specs.declared.cause.End.TheVariants.{Committed}
use Rattle.resh_coord.specs.declared.phase.Phase.TheVariants as phase
use Rattle.resh_donor.specs.States as donor
use Rattle.resh_donor.specs.declared.phase.DonorPhase.TheVariants.{BlockingWrites, Done}
use Rattle.resh_events.specs.rows.Clone.{donates}
use Rattle.resh_events.specs.rows.Tell as tell
use Rattle.resh_events.specs.rows.Tell.{on_both, outputs, with_outputs}
use Rattle.resh_feed.specs.Laws.{AllWhole}
use Rattle.resh_fetcher.specs.Laws.{StandsOn}
use Rattle.resh_lane.specs.Lanes as lane
use Rattle.resh_lane.specs.Lanes.{LaneOf}
use Rattle.resh_model.specs.Orders.{State}
use Rattle.resh_oplog.specs.Logs.{is_whole}
use Rattle.resh_oplog.specs.declared.entry.What.{What}
use Rattle.resh_oplog.specs.declared.entry.What.TheVariants.{Insert, Update, Delete, Final}
use Rattle.resh_place.specs.Lanes.{HaveTakenAll, held_in}
use Rattle.resh_place.proofs.Outputs.{outputs_are_parts}
use Rattle.resh_progress.specs.Kinds.{Kind, ToBlock, ToDonate, ToInstall, ToPrepare}
use Rattle.resh_progress.specs.Tellings.{has}
use Rattle.resh_progress.specs.declared.message.Message.TheVariants.{Install}
use Rattle.resh_setup.specs.Validity.{IsValid}
use Rattle.resh_setup.specs.declared.setup.Setup.{Setup}
use Rattle.resh_shard.specs.Shards.{installed}
use Rattle.resh_stamp.specs.declared.stamp.Stamp.{Stamp}
use Rattle.resh_story.specs.Laws.{IsOutput}
use Rattle.resh_story.specs.Stories.{HasStory}
use Rattle.resh_story.proofs.Installing.{joins_outputs, outputs_of}
use Rattle.resh_story.proofs.Keeping.{keeps_story}
use Rattle.resh_versions.specs.Chains as stored_as
use Rattle.resh_versions.specs.Standing.{now}
use Rattle.resh_invariant.specs.Courses.{IsDonorIn, IsGoing, IsStage, course_of, is_blocking, is_over, which_by}
use Rattle.resh_invariant.specs.Donors.{IsDonorKept}
use Rattle.resh_invariant.specs.Frames.{longer, with_all}
use Rattle.resh_invariant.specs.Items.{AreItemsOf, IsItemOf}
use Rattle.resh_invariant.specs.Keeping.{HoldsPlace, Keeps}
use Rattle.resh_invariant.specs.Recipients.{HasAll, IsLaneKept, IsReported}
use Rattle.resh_invariant.specs.Sources.{Clones, Source, feed_by, sources_of}
use Rattle.resh_invariant.proofs.Framing.{shards_keep}
use Rattle.resh_invariant.proofs.Ones.{never}
use Rattle.resh_control_rows.proofs.Reporting.{same_clocks}
use Rattle.resh_tell_rows.proofs.Ending.{close, recipient_ends}
use Rattle.resh_tell_rows.proofs.Marking.{marked, nothing_more, others_marks, tests}

item_whole : (old : Chunks) (donor : ℕ) (what : What) → IsItemOf old donor what → is_whole what ≡ true
item_whole old donor (Insert document) is = (whole_decides document).1 is.0
item_whole old donor (Update id change) is = (rising_decides change.assign).1 is.0
item_whole old donor (Delete id) is = refl
item_whole old donor Final is = refl

items_whole : (old : Chunks) (donor : ℕ) (whats : List What) → AreItemsOf old donor whats → AllWhole whats
items_whole old donor [] are = tt
items_whole old donor (what ∷ whats) are = (item_whole old donor what are.0, items_whole old donor whats are.1)

-- what holds at each place holds of each
each_holds : {X : Type 0} (P : X → Type 0) (xs : List X) (other : X) → ((i : ℕ) → i < length xs → P (slice_index_or xs i other)) → AllByRecursion P xs
each_holds P [] other at = tt
each_holds P (x ∷ xs) other at = (at 0 (omega arith), each_holds P xs other (λ i lt. at (suc i) (omega (arith, lt))))

each_mapped : {X Y : Type 0} (P : Y → Type 0) (f : X → Y) (xs : List X) → AllByRecursion (λ x. P (f x)) xs → AllByRecursion P (map f xs)
each_mapped P f [] all = tt
each_mapped P f (x ∷ xs) all = (all.0, each_mapped P f xs all.1)

-- a lane's output can be stored
lane_output : (setup : Setup) (l : ℕ) (own : donor.State) (sources : ℕ → Source) (one : LaneOf) → IsLaneKept setup l own sources one → IsOutput one.pool.output
lane_output setup l own sources one kept id d is =
    let sound = kept.pool.sound id in record { whole = (whole_decides d).1 (sound.output_whole d is); named = sound.output_named d is }

some_none : {X : Type 0} (x : X) → Some x ≡ None → ⊥
some_none x e = cc

module _ (stands : StandsOn) (setup : Setup) (valid : IsValid setup) (state : State) (clones : Clones) (cluster : Cluster) (keeps : Keeps setup state clones cluster)
    (s : ℕ) (committing : cluster.control.phase ≡ phase.Committing) (is : tell.may cluster s ≡ true) (stamp : Stamp)
    (set : clock_of cluster.clocks (cell.Shard s) ≡ stamp.time) (later : cluster.control.fetch_time < stamp.time) where
  s_in : s < length setup.shards
  s_in = (tests setup state clones cluster keeps s is).0

  decided : cluster.control.decision ≢ None
  decided none =
      let stage : IsStage phase.Committing cluster.control.decision state.fate = subst (λ p. IsStage p cluster.control.decision state.fate) committing keeps.decided.stage in
      some_none Committed (sym stage.0 ∙ none)

  blocked : IsGoing BlockingWrites (shard_in cluster s).donor
  blocked =
      subst (λ t. IsDonorIn phase.Committing cluster.control.decision t (shard_in cluster s).donor) (tests setup state clones cluster keeps s is).1
      (subst (λ p. IsDonorIn p cluster.control.decision (is_true_at cluster.control.told s) (shard_in cluster s).donor) committing (keeps.donors s s_in).donor)

  done : IsGoing Done (donor.after (shard_in cluster s).donor ToInstall)
  done = ap (λ x. donor.after x ToInstall) blocked

  abbrev next : ShardCell
  next = with_shard (with_outputs stamp.time (outputs (lanes_of cluster s))) (on_both Install (shard_in cluster s))

  -- what was told, before and now
  was_told : (kind : Kind) → has (shard_in cluster s).donor.told kind ≡ has (donor.told_until BlockingWrites) kind
  was_told kind = ap (λ (x : donor.State). has x.told kind) blocked

  now_told : (kind : Kind) → has next.donor.told kind ≡ has (donor.told_until Done) kind
  now_told kind = ap (λ (x : donor.State). has x.told kind) done

  over : is_over next.donor.phase ≡ true
  over = ap (λ (x : donor.State). is_over x.phase) done

  -- it has the whole of every feed, and its lanes have taken it
  all : HasAll setup (sources_of clones cluster s) (links_of cluster s) (lanes_of cluster s)
  all =
      subst (λ p. IsReported setup p (is_true_at cluster.control.reported s) (slice_index_or cluster.control.clashes s None) (shard_in cluster s).donor (sources_of clones cluster s) (links_of cluster s) (lanes_of cluster s))
      committing (keeps.recipients s s_in).reports (was_told ToInstall)

  taken : HaveTakenAll setup.old_map setup.lanes (length setup.shards) (λ d. feed_by (sources_of clones cluster s d)) (lanes_of cluster s)
  taken = record {
    map = valid.old.whole;
    shards = valid.old.count;
    some_lane = let some = valid.sizes.some_lanes in omega (arith, some);
    many = (keeps.recipients s s_in).lane_count;
    each = λ l l_in. let one = (keeps.recipients s s_in).each_lane l l_in in record {
      pool = one.pool;
      chunks = one.chunks;
      stashes = one.stashes;
      fits = one.fits (ap (λ (x : donor.State). donates x.phase) blocked);
      ended = λ d d_in. all.at l d l_in d_in;
    };
    whole = λ d d_in. items_whole setup.old_map d (feed_by (sources_of clones cluster s d)) ((keeps.donors d d_in).items s s_in);
  }

  stored : AllByRecursion stored_as.IsStored (outputs (lanes_of cluster s))
  stored =
      subst (AllByRecursion stored_as.IsStored) (sym (outputs_of (λ (x : LaneOf). x.pool.output) (lanes_of cluster s)))
      (joins_outputs.stored (map (λ (x : LaneOf). x.pool.output) (lanes_of cluster s))
      (each_mapped IsOutput (λ (x : LaneOf). x.pool.output) (lanes_of cluster s)
      (each_holds (λ (x : LaneOf). IsOutput x.pool.output) (lanes_of cluster s) no_lane
      (λ l lt. let l_in = subst (λ n. l < n) (keeps.recipients s s_in).lane_count lt in
      lane_output setup l (shard_in cluster s).donor (sources_of clones cluster s) (slice_index_or (lanes_of cluster s) l no_lane) ((keeps.recipients s s_in).each_lane l l_in)))))

  too_late : next.shard.versions.floor ≤ cluster.control.fetch_time → ⊥
  too_late low = below stamp.time cluster.control.fetch_time low later
    where
      below : (a b : ℕ) → max a a ≤ b → b < a → ⊥
      below a b le lt = omega (arith, le, lt)

  donor_kept : IsDonorKept setup s (course_of cluster.control) (is_true_at (slice_set cluster.control.told s true) s) (clock_of cluster.clocks cell.Coordinator)
      (clones s) (clock_of cluster.clocks (cell.Shard s)) next
  donor_kept =
      let kept = keeps.donors s s_in in
      record {
        of = record { number = kept.of.number; old_map = kept.of.old_map; new_map = kept.of.new_map; limit = kept.of.limit };
        donor =
            subst (λ p. IsDonorIn p cluster.control.decision (is_true_at (slice_set cluster.control.told s true) s) next.donor) (sym committing)
            (subst (λ t. IsDonorIn phase.Committing cluster.control.decision t next.donor) (sym (marked setup state clones cluster keeps s is)) done);
        serves = record {
          names = kept.serves.names ∙ was_told ToPrepare ∙ sym (now_told ToPrepare);
          blocked = sym (ap (λ (x : donor.State). is_blocking x.phase) done);
          which = sym (ap which_by (now_told ToInstall));
        };
        story = subst (λ t. HasStory t next.shard) (sym set)
            (keeps_story.prunes stamp.time stamp.time (installed stamp.time (outputs (lanes_of cluster s)) (shard_in cluster s).shard)
            (keeps_story.installs (clock_of cluster.clocks (cell.Shard s)) stamp.time (outputs (lanes_of cluster s)) (shard_in cluster s).shard kept.story (omega (arith, set)) stored)
            (omega arith));
        log = kept.log;
        stored = λ off. never (sym (now_told ToInstall) ∙ off);
        prepared = λ on. kept.prepared (was_told ToPrepare);
        named = kept.named;
        past = λ on. kept.past (was_told ToDonate);
        floor = λ more. never (sym over ∙ more);
        cloned = λ low r r_in. absurd (too_late low);
        unsealed = λ off. never (sym (now_told ToBlock) ∙ off);
        whole = λ more. never (sym over ∙ more);
        sealed = λ on. kept.sealed (was_told ToBlock);
        items = kept.items;
      }

  pub all_keeps : Keeps setup state clones (with_all s (slice_set cluster.control.told s true) next (map close (links_of cluster s)) (map lane.emptied (lanes_of cluster s)) cluster.clocks cluster)
  all_keeps =
      shards_keep stands setup state clones clones cluster s (slice_set cluster.control.told s true) next (map close (links_of cluster s))
      (map lane.emptied (lanes_of cluster s)) cluster.clocks state.bag keeps (same_clocks cluster) s_in
      (record {
        placed = keeps.decided.placed;
        whole = keeps.decided.whole;
        count = length-set cluster.control.told s true ∙ keeps.noted.told;
        marks = others_marks cluster.control.told s;
        donor = donor_kept;
        others = λ d r ne. refl;
        grows = λ r r_in. longer [] (λ off. never (sym (now_told ToDonate) ∙ off)) refl (sym (nothing_more (sources_of clones cluster r s).entries)) (λ ended. refl);
        own = recipient_ends setup s (course_of cluster.control) (is_true_at cluster.control.reported s) (slice_index_or cluster.control.clashes s None)
            (shard_in cluster s).donor next.donor (sources_of clones cluster s) (links_of cluster s) (lanes_of cluster s) (keeps.recipients s s_in)
            decided (now_told ToDonate ∙ sym (was_told ToDonate)) (ap (λ (x : donor.State). x.phase) done)
            (subst (λ p. IsReported setup p (is_true_at cluster.control.reported s) (slice_index_or cluster.control.clashes s None) next.donor (sources_of clones cluster s)
            (map close (links_of cluster s)) (map lane.emptied (lanes_of cluster s))) (sym committing) (λ off. never (sym (now_told ToInstall) ∙ off)));
        contents = now_held;
        elsewhere = λ d ne id. refl;
      })
    where
      now_held : HoldsPlace setup cluster.control.phase next (map lane.emptied (lanes_of cluster s)) state.bag s
      now_held =
          subst (λ p. HoldsPlace setup p next (map lane.emptied (lanes_of cluster s)) state.bag s) (sym committing)
          (λ id. ap (λ t. cond (not t) (held_in setup.lanes (map lane.emptied (lanes_of cluster s)) id).output (now next.shard.versions id)) (now_told ToInstall)
          ∙ outputs_are_parts.installed setup.old_map setup.lanes (length setup.shards) (λ d. feed_by (sources_of clones cluster s d)) (lanes_of cluster s) taken stamp.time (shard_in cluster s).shard id
          ∙ sym (ap (λ t. cond (not t) (held_in setup.lanes (lanes_of cluster s) id).output (now (shard_in cluster s).shard.versions id)) (was_told ToInstall))
          ∙ subst (λ p. HoldsPlace setup p (shard_in cluster s) (lanes_of cluster s) state.bag s) committing (keeps.contents s s_in) id)

  pub install_keeps : Keeps setup state clones (tell.change stamp cluster s)
  install_keeps =
      subst (λ p. Keeps setup state clones (tell.told_if stamp s (message_in p cluster.control.fetch_time) cluster)) (sym committing) all_keeps
