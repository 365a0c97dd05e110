-- The operation is dropped; and a failure is heard.
use Rattle.std.proofs.Common.{◌≡◌, ◌≢◌, Bool, true, false, cond, length, slice_index_or, Option, Some, None, refl, sym, ap, subst, ◌∙◌}
use Rattle.std.specs.Prelude.{is_some}
use Rattle.std.proofs.lemmas.List.{length-replicate}
use Rattle.resh_cells.specs.Cells.{lanes_of, link_in, links_of, shard_in, with_link}
use Rattle.resh_cells.specs.Clocks.{clock_of}
use Rattle.resh_cells.specs.declared.cell.Cell.TheVariants as cell
use Rattle.resh_cells.specs.declared.cluster.Cluster.{Cluster}
use Rattle.resh_coord.specs.Control.{aborted, is_true_at}
use Rattle.resh_coord.specs.declared.cause.Cause.{Cause}
use Rattle.resh_coord.specs.declared.cause.End.{End}
use Rattle.resh_coord.specs.declared.cause.End.TheVariants.{Aborted}
use Rattle.resh_coord.specs.declared.phase.Phase.{Phase}
use Rattle.resh_coord.specs.declared.phase.Phase.TheVariants as phase
use Rattle.resh_donor.specs.States as donor
use Rattle.resh_donor.specs.declared.phase.DonorPhase.{DonorPhase}
use Rattle.resh_donor.specs.declared.phase.DonorPhase.TheVariants.{Unused, PreparingToDonate, Donating, BlockingWrites, Done}
use Rattle.resh_events.specs.rows.Fail as fail
use Rattle.resh_events.specs.rows.Fail.{with_failed}
use Rattle.resh_fetcher.specs.Links as link
use Rattle.resh_model.specs.Orders.{Fate, State, dropped}
use Rattle.resh_place.specs.Lanes.{held_in}
use Rattle.resh_progress.specs.Kinds.{ToInstall}
use Rattle.resh_progress.specs.Tellings.{has}
use Rattle.resh_setup.specs.declared.setup.Setup.{Setup}
use Rattle.resh_versions.specs.Standing.{now}
use Rattle.resh_invariant.specs.Courses.{IsDonorIn, IsDropped, IsGoing, IsStage, course_of}
use Rattle.resh_invariant.specs.Keeping.{Keeps, is_moving, map_in_force}
use Rattle.resh_invariant.specs.Courses.{is_committed}
use Rattle.resh_invariant.specs.Sources.{Clones, sources_of}
use Rattle.resh_invariant.proofs.Ones.{link_keeps, never}
use Rattle.resh_control_rows.specs.Laws.{after_failure}
use Rattle.resh_invariant.proofs.Steering.{donor_steers, recipient_steers}
use Rattle.resh_control_rows.proofs.Marks.{none_marked}

some_none : {X : Type 0} (x : X) → Some x ≡ None → ⊥
some_none x e = cc

-- where nothing is decided, no donor is at its end, and nothing moves
going_on : (p : Phase) (decision : Option End) (fate : Fate) (told : Bool) (state : donor.State) → decision ≡ None → IsStage p decision fate
    → IsDonorIn p decision told state → (to : DonorPhase) × (to ≢ Done) × IsGoing to state
going_on phase.Initializing decision fate told state none stage is = (Unused, λ e. cc, is)
going_on phase.PreparingToDonate decision fate true state none stage is = (PreparingToDonate, λ e. cc, is)
going_on phase.PreparingToDonate decision fate false state none stage is = (Unused, λ e. cc, is)
going_on phase.Cloning decision fate true state none stage is = (Donating, λ e. cc, is)
going_on phase.Cloning decision fate false state none stage is = (PreparingToDonate, λ e. cc, is)
going_on phase.Applying decision fate told state none stage is = (Donating, λ e. cc, is)
going_on phase.BlockingWrites decision fate true state none stage is = (BlockingWrites, λ e. cc, is)
going_on phase.BlockingWrites decision fate false state none stage is = (Donating, λ e. cc, is)
going_on phase.Committing decision fate told state none stage is = absurd (some_none _ (sym stage.0 ∙ none))
going_on phase.Aborting decision fate told state none stage is = absurd (some_none _ (sym stage.1 ∙ none))
going_on phase.Done decision fate told state none stage is = absurd (some_none _ (sym stage.1 ∙ none))

nothing_moves : (p : Phase) (decision : Option End) (fate : Fate) (installed : Bool) → decision ≡ None → IsStage p decision fate → is_moving p installed ≡ false
nothing_moves phase.Initializing decision fate installed none stage = refl
nothing_moves phase.PreparingToDonate decision fate installed none stage = refl
nothing_moves phase.Cloning decision fate installed none stage = refl
nothing_moves phase.Applying decision fate installed none stage = refl
nothing_moves phase.BlockingWrites decision fate installed none stage = refl
nothing_moves phase.Committing decision fate installed none stage = absurd (some_none _ (sym stage.0 ∙ none))
nothing_moves phase.Aborting decision fate installed none stage = refl
nothing_moves phase.Done decision fate installed none stage = refl

module _ (setup : Setup) (state : State) (clones : Clones) (cluster : Cluster) (keeps : Keeps setup state clones cluster) (cause : Cause) where
  module _ (none : cluster.control.decision ≡ None) where
    pub drop_keeps : Keeps setup (dropped cause state) clones (record cluster { control = aborted cause cluster.control })
    drop_keeps = record {
      shard_count = keeps.shard_count;
      clock_count = keeps.clock_count;
      lane_rows = keeps.lane_rows;
      link_rows = keeps.link_rows;
      client_count = keeps.client_count;
      answered = keeps.answered;
      noted = record {
        told = length-replicate (length cluster.control.told) false ∙ keeps.noted.told;
        reported = length-replicate (length cluster.control.reported) false ∙ keeps.noted.reported;
        clashes = keeps.noted.clashes;
      };
      decided = record {
        stage = (cause, refl, refl);
        map = keeps.decided.map ∙ ap (λ o. map_in_force setup (is_committed o)) none;
        placed = keeps.decided.placed;
        whole = keeps.decided.whole;
        fetch = keeps.decided.fetch;
      };
      clients = λ c lt. record {
        answers = (keeps.clients c lt).answers;
        knows = λ new. never (sym ((keeps.clients c lt).knows new) ∙ ap is_committed none);
      };
      donors = λ s lt. donor_steers setup s (course_of cluster.control) (course_of (aborted cause cluster.control))
          (is_true_at cluster.control.told s) (is_true_at (aborted cause cluster.control).told s) (clock_of cluster.clocks cell.Coordinator) (clones s)
          (clock_of cluster.clocks (cell.Shard s)) (shard_in cluster s)
          (subst (λ t. IsDropped t (shard_in cluster s).donor) (sym (none_marked (length cluster.control.told) s))
          (going_on cluster.control.phase cluster.control.decision state.fate (is_true_at cluster.control.told s) (shard_in cluster s).donor none keeps.decided.stage (keeps.donors s lt).donor))
          (λ e late. absurd (some_none (Aborted cause) e)) (keeps.donors s lt);
      recipients = λ r lt. recipient_steers setup r (course_of cluster.control) (course_of (aborted cause cluster.control))
          (is_true_at cluster.control.reported r) (is_true_at (aborted cause cluster.control).reported r)
          (slice_index_or cluster.control.clashes r None) (slice_index_or cluster.control.clashes r None) (shard_in cluster r).donor
          (sources_of clones cluster r) (links_of cluster r) (lanes_of cluster r) (λ e. absurd (some_none (Aborted cause) e)) tt (keeps.recipients r lt);
      contents = λ s lt id.
          sym (ap (λ t. cond t (held_in setup.lanes (lanes_of cluster s) id).output (now (shard_in cluster s).shard.versions id))
          (nothing_moves cluster.control.phase cluster.control.decision state.fate (has (shard_in cluster s).donor.told ToInstall) none keeps.decided.stage)) ∙ keeps.contents s lt id;
    }

-- a failed link, once something is decided
module _ (setup : Setup) (state : State) (clones : Clones) (cluster : Cluster) (keeps : Keeps setup state clones cluster) (decided : cluster.control.decision ≡ None → ⊥) where
  pub failed_keeps : (named : Option fail.Link) → Keeps setup state clones (with_failed named cluster)
  failed_keeps None = keeps
  failed_keeps (Some named) =
      link_keeps setup state clones cluster keeps named.0.0 named.1.0 (with_link link.failed (link_in cluster named.0.0 named.1.0))
      (λ r_in d_in. let kept = (keeps.recipients named.0.0 r_in).each_link named.1.0 d_in in record {
        owned = record { recipient = kept.owned.recipient; donor = kept.owned.donor; lanes = kept.owned.lanes; batch = kept.owned.batch };
        cuts = kept.cuts;
        started = kept.started;
        opened = λ e. never (sym e);
        reads = λ on. let reads = kept.reads on in record {
          time = reads.time;
          fits = let was = reads.fits in record {
            front = was.front;
            out = was.out;
            rest = was.rest;
            parts = was.parts;
            kept = was.kept;
            sent = was.sent;
            reading = was.reading;
            unread = was.unread;
            clones = was.clones;
            read_out = was.read_out;
            kept_out = was.kept_out;
          };
        };
        sent = kept.sent;
        untold = λ off. let was = kept.untold off in record { place = was.place; out = was.out; buffer = was.buffer; read_out = was.read_out; kept_out = was.kept_out; sent = was.sent };
        unused = λ none off. absurd (decided none);
      })
      (λ r_in d_in l l_in. (keeps.recipients named.0.0 r_in).behind named.1.0 l d_in l_in) (λ done. done)

module _ (setup : Setup) (state : State) (clones : Clones) (cluster : Cluster) (keeps : Keeps setup state clones cluster) (cause : Cause) where
  -- the drop comes first
  heard : (named : Option fail.Link) (decision : Option End) → cluster.control.decision ≡ decision
      → Keeps setup (after_failure decision cause state) clones
      (with_failed named (record cluster { control = cond (is_some decision) cluster.control (aborted cause cluster.control) }))
  heard named None none =
      failed_keeps setup (dropped cause state) clones (record cluster { control = aborted cause cluster.control })
      (drop_keeps setup state clones cluster keeps cause none) (λ e. some_none (Aborted cause) e) named
  heard named (Some end) is = failed_keeps setup state clones cluster keeps (λ none. some_none end (sym is ∙ none)) named

  pub fail_keeps : (named : Option fail.Link) → Keeps setup (after_failure cluster.control.decision cause state) clones (fail.change cluster named cause)
  fail_keeps None = heard None cluster.control.decision refl
  fail_keeps (Some named) = heard (Some named) cluster.control.decision refl
