-- The coordinator goes on, and keeps the fetch time.
use Rattle.std.proofs.Common.{◌≡◌, ℕ, Bool, false, List, Option, None}
use Rattle.resh_value.specs.declared.value.Value.{Value}
use Rattle.resh_cells.specs.declared.cluster.LinkCell.{LinkCell}
use Rattle.resh_cells.specs.declared.cluster.ShardCell.{ShardCell}
use Rattle.resh_donor.specs.States as donor
use Rattle.resh_feed.specs.Items.{Document}
use Rattle.resh_lane.specs.Lanes.{LaneOf}
use Rattle.resh_setup.specs.declared.setup.Setup.{Setup}
use Rattle.resh_invariant.specs.Courses.{Course, IsDonorIn, is_early}
use Rattle.resh_invariant.specs.Donors.{IsDonorKept}
use Rattle.resh_invariant.specs.Recipients.{IsLinkKept, IsRecipientKept, IsReported}
use Rattle.resh_invariant.specs.Sources.{Source}

pub donor_steers : (setup : Setup) (s : ℕ) (before now : Course) (told mark : Bool) (time : ℕ) (clones : ℕ → List Document) (clock : ℕ) (cell : ShardCell)
    → IsDonorIn now.phase now.decision mark cell.donor
    → (now.decision ≡ None → is_early now.phase ≡ false → (before.decision ≡ None) × (is_early before.phase ≡ false))
    → IsDonorKept setup s before told time clones clock cell → IsDonorKept setup s (record before { phase = now.phase; decision = now.decision }) mark time clones clock cell
donor_steers setup s before now told mark time clones clock cell is late kept = record {
  of = kept.of;
  donor = is;
  serves = kept.serves;
  story = kept.story;
  log = kept.log;
  stored = kept.stored;
  prepared = kept.prepared;
  named = λ none on. let was = late none on in kept.named was.0 was.1;
  past = kept.past;
  floor = kept.floor;
  cloned = kept.cloned;
  unsealed = kept.unsealed;
  whole = kept.whole;
  sealed = kept.sealed;
  items = kept.items;
}

pub link_steers : (setup : Setup) (r d : ℕ) (before now : Course) (own : donor.State) (source : Source) (cell : LinkCell)
    → (now.decision ≡ None → before.decision ≡ None) → IsLinkKept setup r d before own source cell
    → IsLinkKept setup r d (record before { phase = now.phase; decision = now.decision }) own source cell
link_steers setup r d before now own source cell late kept = record {
  owned = kept.owned;
  cuts = kept.cuts;
  started = kept.started;
  opened = kept.opened;
  reads = λ on. record { time = (kept.reads on).time; fits = (kept.reads on).fits };
  sent = kept.sent;
  untold = kept.untold;
  unused = λ none off. kept.unused (late none) off;
}

pub recipient_steers : (setup : Setup) (r : ℕ) (before now : Course) (reported other : Bool) (clash noted : Option Value) (own : donor.State) (sources : ℕ → Source)
    (links : List LinkCell) (lanes : List LaneOf)
    → (now.decision ≡ None → before.decision ≡ None) → IsReported setup now.phase other noted own sources links lanes
    → IsRecipientKept setup r before reported clash own sources links lanes
    → IsRecipientKept setup r (record before { phase = now.phase; decision = now.decision }) other noted own sources links lanes
recipient_steers setup r before now reported other clash noted own sources links lanes late report kept = record {
  link_count = kept.link_count;
  lane_count = kept.lane_count;
  each_link = λ d lt. link_steers setup r d before now own (sources d) _ late (kept.each_link d lt);
  each_lane = kept.each_lane;
  behind = kept.behind;
  reports = report;
}
