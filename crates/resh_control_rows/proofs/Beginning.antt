-- The coordinator begins.
use Rattle.std.proofs.Common.{◌≡◌, true, false, cond, length, slice_index_or, None, refl, sym, subst, ◌∙◌}
use Rattle.std.proofs.lemmas.List.{length-replicate}
use Rattle.resh_cells.specs.Cells.{lanes_of, links_of, shard_in}
use Rattle.resh_cells.specs.Clocks.{clock_of}
use Rattle.resh_cells.specs.declared.cell.Cell.TheVariants as cell
use Rattle.resh_cells.specs.declared.cluster.Cluster.{Cluster}
use Rattle.resh_coord.specs.Control.{begins, is_true_at, with_phase}
use Rattle.resh_coord.specs.declared.phase.Phase.{Phase}
use Rattle.resh_coord.specs.declared.phase.Phase.TheVariants as phase
use Rattle.resh_donor.specs.declared.phase.DonorPhase.TheVariants.{Unused, PreparingToDonate}
use Rattle.resh_events.specs.rows.Begin as begin
use Rattle.resh_model.specs.Orders.{State}
use Rattle.resh_setup.specs.declared.setup.Setup.{Setup}
use Rattle.resh_invariant.specs.Courses.{IsDonorIn, IsGoing, IsStage, course_of}
use Rattle.resh_invariant.specs.Keeping.{HoldsPlace, Keeps}
use Rattle.resh_invariant.specs.Sources.{Clones, sources_of}
use Rattle.resh_invariant.proofs.Ones.{never}
use Rattle.resh_invariant.proofs.Steering.{donor_steers, recipient_steers}
use Rattle.resh_control_rows.proofs.Marks.{none_marked}

begins_first : (p : Phase) → begins p ≡ true → p ≡ phase.Initializing
begins_first phase.Initializing e = refl
begins_first phase.PreparingToDonate e = never (sym e)
begins_first phase.Cloning e = never (sym e)
begins_first phase.Applying e = never (sym e)
begins_first phase.BlockingWrites e = never (sym e)
begins_first phase.Committing e = never (sym e)
begins_first phase.Aborting e = never (sym e)
begins_first phase.Done e = never (sym e)

module _ (setup : Setup) (state : State) (clones : Clones) (cluster : Cluster) (keeps : Keeps setup state clones cluster) (is : begin.may cluster ≡ true) where
  first : cluster.control.phase ≡ phase.Initializing
  first = begins_first cluster.control.phase is

  prepared : Keeps setup state clones (record cluster { control = with_phase phase.PreparingToDonate cluster.control })
  prepared = record {
    shard_count = keeps.shard_count;
    clock_count = keeps.clock_count;
    lane_rows = keeps.lane_rows;
    link_rows = keeps.link_rows;
    client_count = keeps.client_count;
    answered = keeps.answered;
    noted = record {
      told = length-replicate (length cluster.control.told) false ∙ keeps.noted.told;
      reported = length-replicate (length cluster.control.reported) false ∙ keeps.noted.reported;
      clashes = keeps.noted.clashes;
    };
    decided = record {
      stage = subst (λ p. IsStage p cluster.control.decision state.fate) first keeps.decided.stage;
      map = keeps.decided.map;
      placed = keeps.decided.placed;
      whole = keeps.decided.whole;
      fetch = keeps.decided.fetch;
    };
    clients = keeps.clients;
    donors = λ s lt. donor_steers setup s (course_of cluster.control) (course_of (with_phase phase.PreparingToDonate cluster.control))
        (is_true_at cluster.control.told s) (is_true_at (with_phase phase.PreparingToDonate cluster.control).told s) (clock_of cluster.clocks cell.Coordinator) (clones s)
        (clock_of cluster.clocks (cell.Shard s)) (shard_in cluster s)
        (subst (λ t. IsGoing (cond t PreparingToDonate Unused) (shard_in cluster s).donor) (sym (none_marked (length cluster.control.told) s))
        (subst (λ p. IsDonorIn p cluster.control.decision (is_true_at cluster.control.told s) (shard_in cluster s).donor) first (keeps.donors s lt).donor))
        (λ none late. never late) (keeps.donors s lt);
    recipients = λ r lt. recipient_steers setup r (course_of cluster.control) (course_of (with_phase phase.PreparingToDonate cluster.control))
        (is_true_at cluster.control.reported r) (is_true_at (with_phase phase.PreparingToDonate cluster.control).reported r)
        (slice_index_or cluster.control.clashes r None) (slice_index_or cluster.control.clashes r None) (shard_in cluster r).donor
        (sources_of clones cluster r) (links_of cluster r) (lanes_of cluster r) (λ none. none) tt (keeps.recipients r lt);
    contents = λ s lt. subst (λ p. HoldsPlace setup p (shard_in cluster s) (lanes_of cluster s) state.bag s) first (keeps.contents s lt);
  }

  pub begin_keeps : Keeps setup state clones (begin.change cluster)
  begin_keeps = subst (λ t. Keeps setup state clones (record cluster { control = cond t (with_phase phase.PreparingToDonate cluster.control) cluster.control })) (sym is) prepared
