-- A recipient whose own machine moves, and is seen alike.
use Rattle.std.proofs.Common.{◌≡◌, ◌<◌, ℕ, Bool, true, false, List, [], ◌∷◌, length, slice_index_or, slice_set, Option, None, zero, suc, refl, sym, ap, ◌∙◌}
use Rattle.resh_value.specs.declared.value.Value.{Value}
use Rattle.resh_cells.specs.declared.cluster.LinkCell.{LinkCell}
use Rattle.resh_coord.specs.declared.phase.Phase.{Phase}
use Rattle.resh_coord.specs.declared.phase.Phase.TheVariants.{Initializing, PreparingToDonate, Cloning, Applying, BlockingWrites, Committing, Aborting, Done}
use Rattle.resh_donor.specs.States as donor
use Rattle.resh_events.specs.rows.Clone.{donates}
use Rattle.resh_lane.specs.Lanes.{LaneOf}
use Rattle.resh_progress.specs.Kinds.{ToDonate, ToInstall}
use Rattle.resh_progress.specs.Tellings.{has}
use Rattle.resh_setup.specs.declared.setup.Setup.{Setup}
use Rattle.resh_invariant.specs.Courses.{Course, is_unused}
use Rattle.resh_invariant.specs.Recipients.{IsLaneKept, IsLinkKept, IsRecipientKept, IsReported}
use Rattle.resh_invariant.specs.Sources.{Source}

pub same_set : {X : Type 0} (xs : List X) (i : ℕ) (other : X) → slice_set xs i (slice_index_or xs i other) ≡ xs
same_set [] i other = refl
same_set (y ∷ ys) zero other = refl
same_set (y ∷ ys) (suc i) other = ap (λ l. y ∷ l) (same_set ys i other)

-- what is asked of a machine by its links and lanes
pub record IsSeenAlike (before now : donor.State) : Type 0 where
  pub donate : has now.told ToDonate ≡ has before.told ToDonate
  pub install : has now.told ToInstall ≡ has before.told ToInstall
  pub runs : donates now.phase ≡ donates before.phase
  pub unused : is_unused now.phase ≡ is_unused before.phase

module _ (setup : Setup) (before now : donor.State) (alike : IsSeenAlike before now) where
  link_owned : (r d : ℕ) (course : Course) (source : Source) (cell : LinkCell) → IsLinkKept setup r d course before source cell
      → IsLinkKept setup r d course now source cell
  link_owned r d course source cell kept = record {
    owned = kept.owned;
    cuts = kept.cuts;
    started = kept.started ∙ sym alike.donate;
    opened = λ on. alike.donate ∙ kept.opened on;
    reads = λ on. kept.reads (sym alike.donate ∙ on);
    sent = kept.sent;
    untold = kept.untold;
    unused = λ none off. kept.unused none (sym alike.donate ∙ off);
  }

  lane_owned : (l : ℕ) (sources : ℕ → Source) (lane : LaneOf) → IsLaneKept setup l before sources lane → IsLaneKept setup l now sources lane
  lane_owned l sources lane kept = record {
    sound = kept.sound;
    pool = kept.pool;
    chunks = kept.chunks;
    stashes = kept.stashes;
    started = kept.started ∙ sym alike.runs;
    fits = λ on. kept.fits (sym alike.runs ∙ on);
    untold = kept.untold;
    unused = λ on. kept.unused (sym alike.unused ∙ on);
  }

  report_owned : (phase : Phase) (reported : Bool) (clash : Option Value) (sources : ℕ → Source) (links : List LinkCell) (lanes : List LaneOf)
      → IsReported setup phase reported clash before sources links lanes → IsReported setup phase reported clash now sources links lanes
  report_owned BlockingWrites reported clash sources links lanes was = was
  report_owned Committing reported clash sources links lanes was = λ off. was (sym alike.install ∙ off)
  report_owned Initializing reported clash sources links lanes was = tt
  report_owned PreparingToDonate reported clash sources links lanes was = tt
  report_owned Cloning reported clash sources links lanes was = tt
  report_owned Applying reported clash sources links lanes was = tt
  report_owned Aborting reported clash sources links lanes was = tt
  report_owned Done reported clash sources links lanes was = tt

  pub recipient_owned : (r : ℕ) (course : Course) (reported : Bool) (clash : Option Value) (sources : ℕ → Source) (links : List LinkCell) (lanes : List LaneOf)
      → IsRecipientKept setup r course reported clash before sources links lanes → IsRecipientKept setup r course reported clash now sources links lanes
  recipient_owned r course reported clash sources links lanes kept = record {
    link_count = kept.link_count;
    lane_count = kept.lane_count;
    each_link = λ d lt. link_owned r d course (sources d) _ (kept.each_link d lt);
    each_lane = λ l lt. lane_owned l sources _ (kept.each_lane l lt);
    behind = kept.behind;
    reports = report_owned course.phase reported clash sources links lanes kept.reports;
  }
