-- The mark: the switch where no clash stands, else a drop for the first clash.
use Rattle.std.proofs.Common.{◌≡◌, ◌<◌, ℕ, Bool, true, false, cond, not, ◌&&◌, List, [], ◌∷◌, length, replicate, slice_index_or, slice_set, Option, Some, None, refl, sym, ap, subst, ◌∙◌}
use Rattle.std.proofs.lemmas.List.{length-replicate, length-set}
use Rattle.resh_value.specs.Lookup.{id_of}
use Rattle.resh_value.specs.declared.value.Value.{Value}
use Rattle.resh_bag.specs.Bag.{documents, opening_bag}
use Rattle.resh_bag.specs.WholeLaws.{HoldsWhole}
use Rattle.resh_bag.proofs.bags.Opening.{opens_placed}
use Rattle.resh_bag.proofs.shards.Parting.{document_held}
use Rattle.resh_cells.specs.Cells.{lanes_of, links_of, shard_in}
use Rattle.resh_cells.specs.Clocks.{clock_of}
use Rattle.resh_cells.specs.declared.cell.Cell.TheVariants as cell
use Rattle.resh_cells.specs.declared.cluster.Cluster.{Cluster}
use Rattle.resh_chunks.specs.Chunks.{owner_of}
use Rattle.resh_coord.specs.Control.{Control, aborted, all_true, decided, decided_at, decided_by_clashes, first_clash, is_true_at, left, may_advance, may_leave}
use Rattle.resh_coord.specs.declared.cause.Cause.{Cause}
use Rattle.resh_coord.specs.declared.cause.Cause.TheVariants.{Clash}
use Rattle.resh_coord.specs.declared.cause.End.TheVariants.{Committed}
use Rattle.resh_coord.specs.declared.phase.Phase.TheVariants as phase
use Rattle.resh_donor.specs.States as donor
use Rattle.resh_donor.specs.declared.phase.DonorPhase.TheVariants.{BlockingWrites}
use Rattle.resh_events.specs.Turns.{mark_of}
use Rattle.resh_events.specs.rows.Advance as advance
use Rattle.resh_events.specs.rows.Report.{first_waiting}
use Rattle.resh_model.specs.Orders.{AllowsAll, State, dropped, switched, walked}
use Rattle.resh_place.specs.Lanes.{HaveTakenAll, held_in}
use Rattle.resh_place.specs.Notes.{AreConsistent, first_note}
use Rattle.resh_place.proofs.Clashes.{parts_stand}
use Rattle.resh_place.proofs.Mark.{notes_decide}
use Rattle.resh_place.proofs.Taken.{take_their_parts}
use Rattle.resh_progress.specs.Kinds.{ToInstall}
use Rattle.resh_progress.specs.Tellings.{has}
use Rattle.resh_setup.specs.Validity.{IsValid}
use Rattle.resh_setup.specs.declared.setup.Setup.{Setup}
use Rattle.resh_stamp.specs.declared.stamp.Stamp.{Stamp}
use Rattle.resh_versions.specs.Standing.{now}
use Rattle.resh_invariant.specs.Courses.{IsDonorIn, IsGoing, course_of}
use Rattle.resh_invariant.specs.Keeping.{HoldsPlace, Keeps}
use Rattle.resh_invariant.specs.Recipients.{HasAll, IsReported}
use Rattle.resh_invariant.specs.Sources.{Clones, feed_by, sources_of}
use Rattle.resh_invariant.proofs.Ones.{both, never}
use Rattle.resh_invariant.proofs.Steering.{donor_steers, recipient_steers}
use Rattle.resh_mark_rows.proofs.Consistent.{old_placed, stage, taken, tells}
use Rattle.resh_control_rows.proofs.Dropping.{drop_keeps}
use Rattle.resh_control_rows.proofs.Marks.{each_of, none_marked}

module _ (setup : Setup) (valid : IsValid setup) (state : State) (clones : Clones) (cluster : Cluster) (keeps : Keeps setup state clones cluster)
    (blocking : cluster.control.phase ≡ phase.BlockingWrites) (is : may_advance cluster.control ≡ true) where
  tests : (all_true cluster.control.told ≡ true) × (all_true cluster.control.reported ≡ true)
  tests = both (all_true cluster.control.told) (all_true cluster.control.reported)
      (subst (λ p. may_leave p cluster.control.told cluster.control.reported ≡ true) blocking is)

  told : (s : ℕ) → s < length setup.shards → IsGoing BlockingWrites (shard_in cluster s).donor
  told s lt =
      subst (λ t. IsDonorIn phase.BlockingWrites cluster.control.decision t (shard_in cluster s).donor)
      (each_of (λ mark. mark) cluster.control.told false tests.0 s (subst (λ n. s < n) (sym keeps.noted.told) lt))
      (subst (λ p. IsDonorIn p cluster.control.decision (is_true_at cluster.control.told s) (shard_in cluster s).donor) blocking (keeps.donors s lt).donor)

  reported : (r : ℕ) → r < length setup.shards → HasAll setup (sources_of clones cluster r) (links_of cluster r) (lanes_of cluster r)
      × (slice_index_or cluster.control.clashes r None ≡ first_waiting (lanes_of cluster r))
  reported r lt =
      subst (λ p. IsReported setup p (is_true_at cluster.control.reported r) (slice_index_or cluster.control.clashes r None) (shard_in cluster r).donor (sources_of clones cluster r) (links_of cluster r) (lanes_of cluster r)) blocking
      (keeps.recipients r lt).reports (each_of (λ mark. mark) cluster.control.reported false tests.1 r (subst (λ n. r < n) (sym keeps.noted.reported) lt))

  taken_all : (r : ℕ) → r < length setup.shards → HaveTakenAll setup.old_map setup.lanes (length setup.shards) (λ d. feed_by (sources_of clones cluster r d)) (lanes_of cluster r)
  taken_all r lt = taken setup valid state clones cluster keeps blocking r lt (reported r lt).0

  consistent : AreConsistent setup.old_map setup.new_map state.bag setup.lanes (length setup.shards) (λ r d. feed_by (sources_of clones cluster r d)) (lanes_of cluster) cluster.control.clashes
  consistent = record {
    placed = old_placed setup valid state clones cluster keeps blocking;
    map = valid.new.whole;
    shards = valid.new.count;
    notes = keeps.noted.clashes;
    taken = taken_all;
    told = λ r lt. tells setup valid state clones cluster keeps blocking r lt;
    noted = λ r lt. (reported r lt).1;
  }

  undecided : cluster.control.decision ≡ None
  undecided = (stage setup valid state clones cluster keeps blocking).0

  -- the clashes that are left once the first is taken out
  abbrev cleared : Control
  cleared = record cluster.control { clashes = slice_set cluster.control.clashes (first_clash cluster.control.clashes) None }

  -- nothing of the notes is asked any more
  module _ (none : first_note cluster.control.clashes ≡ None) where
    whole_after : HoldsWhole (opening_bag setup.new_map (documents state.bag))
    whole_after shard id d there =
        keeps.decided.whole (owner_of state.map d) (id_of d) d (document_held state.map state.bag keeps.decided.placed d (opens_placed.only setup.new_map (documents state.bag) shard id d there))

    switch_keeps : Keeps setup (switched setup state) clones (record cluster { control = decided Committed phase.Committing cleared })
    switch_keeps = record {
      shard_count = keeps.shard_count;
      clock_count = keeps.clock_count;
      lane_rows = keeps.lane_rows;
      link_rows = keeps.link_rows;
      client_count = keeps.client_count;
      answered = keeps.answered;
      noted = record {
        told = length-replicate (length cluster.control.told) false ∙ keeps.noted.told;
        reported = length-replicate (length cluster.control.reported) false ∙ keeps.noted.reported;
        clashes = length-set cluster.control.clashes (first_clash cluster.control.clashes) None ∙ keeps.noted.clashes;
      };
      decided = record {
        stage = (refl, refl);
        map = refl;
        placed = opens_placed.placed setup.new_map (documents state.bag);
        whole = whole_after;
        fetch = keeps.decided.fetch;
      };
      clients = λ c lt. record { answers = (keeps.clients c lt).answers; knows = λ new. refl };
      donors = λ s lt. donor_steers setup s (course_of cluster.control) (course_of (decided Committed phase.Committing cleared))
          (is_true_at cluster.control.told s) (is_true_at (decided Committed phase.Committing cleared).told s) (clock_of cluster.clocks cell.Coordinator) (clones s)
          (clock_of cluster.clocks (cell.Shard s)) (shard_in cluster s)
          (subst (λ t. IsDonorIn phase.Committing (Some Committed) t (shard_in cluster s).donor) (sym (none_marked (length cluster.control.told) s)) (told s lt))
          (λ e late. absurd (some_none Committed e)) (keeps.donors s lt);
      recipients = λ r lt. recipient_steers setup r (course_of cluster.control) (course_of (decided Committed phase.Committing cleared))
          (is_true_at cluster.control.reported r) (is_true_at (decided Committed phase.Committing cleared).reported r)
          (slice_index_or cluster.control.clashes r None) (slice_index_or cleared.clashes r None) (shard_in cluster r).donor
          (sources_of clones cluster r) (links_of cluster r) (lanes_of cluster r) (λ e. absurd (some_none Committed e))
          (λ moving. (reported r lt).0) (keeps.recipients r lt);
      contents = λ s lt id.
          ap (λ t. cond (not t) (held_in setup.lanes (lanes_of cluster s) id).output (now (shard_in cluster s).shard.versions id)) (ap (λ (x : donor.State). has x.told ToInstall) (told s lt))
          ∙ parts_stand.output setup.old_map setup.new_map state.bag s (held_in setup.lanes (lanes_of cluster s))
          (old_placed setup valid state clones cluster keeps blocking)
          ((notes_decide.none setup.old_map setup.new_map state.bag setup.lanes (length setup.shards) (λ r d. feed_by (sources_of clones cluster r d)) (lanes_of cluster) cluster.control.clashes consistent).0 none)
          (take_their_parts.part setup.old_map setup.new_map state.bag s setup.lanes (length setup.shards) (λ d. feed_by (sources_of clones cluster s d)) (lanes_of cluster s)
          (old_placed setup valid state clones cluster keeps blocking) (tells setup valid state clones cluster keeps blocking s lt) (taken_all s lt)) id;
    }
      where
        some_none : {X : Type 0} (x : X) → Some x ≡ None → ⊥
        some_none x e = cc

  -- without the first note
  cleared_keeps : Keeps setup state clones (record cluster { control = record cleared { reported = replicate (length cluster.control.reported) false } })
  cleared_keeps = record {
    shard_count = keeps.shard_count;
    clock_count = keeps.clock_count;
    lane_rows = keeps.lane_rows;
    link_rows = keeps.link_rows;
    client_count = keeps.client_count;
    answered = keeps.answered;
    noted = record {
      told = keeps.noted.told;
      reported = length-replicate (length cluster.control.reported) false ∙ keeps.noted.reported;
      clashes = length-set cluster.control.clashes (first_clash cluster.control.clashes) None ∙ keeps.noted.clashes;
    };
    decided = keeps.decided;
    clients = keeps.clients;
    donors = keeps.donors;
    recipients = λ r lt. recipient_steers setup r (course_of cluster.control) (course_of cluster.control)
        (is_true_at cluster.control.reported r) (is_true_at (replicate (length cluster.control.reported) false) r)
        (slice_index_or cluster.control.clashes r None) (slice_index_or cleared.clashes r None) (shard_in cluster r).donor
        (sources_of clones cluster r) (links_of cluster r) (lanes_of cluster r) (λ none. none)
        (subst (λ p. IsReported setup p (is_true_at (replicate (length cluster.control.reported) false) r) (slice_index_or cleared.clashes r None) (shard_in cluster r).donor (sources_of clones cluster r) (links_of cluster r) (lanes_of cluster r)) (sym blocking)
        (λ on. never (sym on ∙ none_marked (length cluster.control.reported) r))) (keeps.recipients r lt);
    contents = keeps.contents;
  }

  again : (n : ℕ) → length (replicate n false) ≡ n
  again n = length-replicate n false

  clash_keeps : (cause : Cause) → Keeps setup (dropped cause state) clones (record cluster { control = aborted cause cleared })
  clash_keeps cause =
      subst (λ n. Keeps setup (dropped cause state) clones (record cluster { control = record (aborted cause cleared) { reported = replicate n false } })) (again (length cluster.control.reported))
      (drop_keeps setup state clones (record cluster { control = record cleared { reported = replicate (length cluster.control.reported) false } }) cleared_keeps cause undecided)

  -- the mark that is decided may come, and the invariant is kept with it
  by_note : (found : Option Value) → first_note cluster.control.clashes ≡ found
      → Keeps setup (walked setup state (mark_of None (decided_at (first_clash cluster.control.clashes) found cleared).decision)) clones
      (record cluster { control = decided_at (first_clash cluster.control.clashes) found cleared })
  by_note None e = switch_keeps e
  by_note (Some id) e = clash_keeps (Clash (record { 0 = first_clash cluster.control.clashes }) id)

  pub mark_keeps : (stamp : Stamp) → Keeps setup (walked setup state (mark_of None (decided_by_clashes cluster.control).decision)) clones (advance.change stamp cluster)
  mark_keeps stamp =
      subst (λ t. Keeps setup (walked setup state (mark_of None (decided_by_clashes cluster.control).decision)) clones
      (record cluster { control = cond t (left cluster.control.phase stamp.time cluster.control) cluster.control })) (sym is)
      (subst (λ p. Keeps setup (walked setup state (mark_of None (decided_by_clashes cluster.control).decision)) clones (record cluster { control = left p stamp.time cluster.control })) (sym blocking)
      (by_note (first_note cluster.control.clashes) refl))

  pub mark_comes : AllowsAll setup state (mark_of None (decided_by_clashes cluster.control).decision)
  mark_comes = notes_decide.mark setup state cluster.control setup.lanes (length setup.shards) (λ r d. feed_by (sources_of clones cluster r d)) (lanes_of cluster)
      (stage setup valid state clones cluster keeps blocking).1 consistent
