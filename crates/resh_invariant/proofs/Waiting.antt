-- Later clocks, and documents of the fetch time that are told alike, keep what is said of a donor.
use Rattle.std.proofs.Common.{◌≡◌, ◌≤◌, ◌<◌, ℕ, Bool, List, length, sym, subst, ◌∙◌, arith}
use Rattle.resh_cells.specs.declared.cluster.ShardCell.{ShardCell}
use Rattle.resh_feed.specs.Items.{Document}
use Rattle.resh_setup.specs.declared.setup.Setup.{Setup}
use Rattle.resh_story.proofs.Keeping.{keeps_story}
use Rattle.resh_invariant.specs.Courses.{Course}
use Rattle.resh_invariant.specs.Donors.{IsDonorKept}
use Rattle.resh_invariant.specs.Items.{AreItemsOf}
use Rattle.resh_invariant.specs.Sources.{feed_by, source_by}

pub donor_waits : (setup : Setup) (s : ℕ) (course : Course) (told : Bool) (time later : ℕ)
    (clones other : ℕ → List Document) (clock then : ℕ) (cell : ShardCell)
    → time ≤ later → clock ≤ then → ((r : ℕ) → r < length setup.shards → other r ≡ clones r)
    → IsDonorKept setup s course told time clones clock cell → IsDonorKept setup s course told later other then cell
donor_waits setup s course told time later clones other clock then cell le clock_le same kept = record {
  of = kept.of;
  donor = kept.donor;
  serves = kept.serves;
  story = keeps_story.waits clock then cell.shard kept.story clock_le;
  log = kept.log;
  stored = kept.stored;
  prepared = λ on. let was = kept.prepared on in let since = was.1 in (was.0, omega (arith, since, le), was.2);
  named = kept.named;
  past = λ on. let was = kept.past on in omega (arith, was, clock_le);
  floor = kept.floor;
  cloned = λ floor r lt. same r lt ∙ kept.cloned floor r lt;
  unsealed = kept.unsealed;
  whole = kept.whole;
  sealed = kept.sealed;
  items = λ r lt. subst (λ ds. AreItemsOf setup.old_map s (feed_by (source_by course.fetch_time cell ds r))) (sym (same r lt)) (kept.items r lt);
}
