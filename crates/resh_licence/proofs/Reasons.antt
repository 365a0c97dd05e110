-- What follows an event has leave, for each reason for which it comes.
use Rattle.std.proofs.Common.{◌≡◌, ◌==◌, Bool, true, false, Option, Some, None, refl}
use Rattle.std.specs.Option.{option_map}
use Rattle.resh_value.specs.declared.value.ShardId.{ShardId}
use Rattle.resh_coord.specs.declared.cause.Node.{Node}
use Rattle.resh_coord.specs.declared.cause.Node.TheVariants as node
use Rattle.resh_coord.specs.declared.cause.Why.{Why}
use Rattle.resh_coord.specs.declared.cause.Why.TheVariants as why
use Rattle.resh_setup.specs.declared.event.Event.{Event}
use Rattle.resh_setup.specs.declared.event.Event.TheVariants.{Crash}
use Rattle.resh_setup.specs.declared.plan.Who.{Who}
use Rattle.resh_setup.specs.declared.plan.Who.TheVariants.{Coordinator, Link, Lane}
use Rattle.resh_setup.specs.declared.trace.Met.{Met}
use Rattle.resh_setup.specs.declared.trace.Met.TheVariants.{Row, CrashedBefore, CrashedAfter, Failed, Lost, NoMemory, NoMemoryInMove}
use Rattle.resh_cells.specs.Cells.{link_in}
use Rattle.resh_cells.specs.declared.cluster.Cluster.{Cluster}
use Rattle.resh_events.specs.Follows.{after_failing, after_fate, after_losses, after_row, failure, follows, limit, node_of, only_if, own_link, wanted}
use Rattle.resh_events.specs.Luck.{Asks, quiet, commits, delivers}
use Rattle.resh_licence.specs.Causes.{is_crash_met}
use Rattle.resh_licence.proofs.Fitting.{FitEvent, FitFollower}

module _ (L : Node → Why → Type 0) (W : ShardId → ShardId → Type 0) where
  -- why an event with what it asked and met is followed, by the cluster after it
  pub record Reasons (next : Cluster) (event : Event) (asked : Asks) (met : Met) : Type 0 where
    pub commit : (who : Who) → asked ≡ commits who → met ≡ Failed → L (node_of who) why.Commit
    pub losses : (who : Who) → asked ≡ delivers who → met ≡ Lost → L (node_of who) why.Link
    pub link : (r d : ShardId) → event ≡ Crash r d → ((link_in next r.0 d.0).link.crashes == limit) ≡ true
        → L (node.Shard r) why.Crashes
    pub control : asked ≡ commits Coordinator → is_crash_met met ≡ true → (next.control.crashes == limit) ≡ true
        → L node.Coordinator why.Crashes
    pub wants : (r d : ShardId) → met ≡ NoMemory → own_link event ≡ Some (r, d) → W r d

  failure_fits : (who : Who) (w : Why) → L (node_of who) w → FitEvent L W (failure who w)
  failure_fits Coordinator w leave = (leave, tt)
  failure_fits (Link r d) w leave = (leave, leave)
  failure_fits (Lane r d l) w leave = (leave, leave)

  only_fits : (t : Bool) (event : Event) → (t ≡ true → FitEvent L W event) → FitFollower L W (only_if t event)
  only_fits true event fits = fits refl
  only_fits false event fits = tt

  row_fits : (next : Cluster) (event : Event) (asked : Asks) → Reasons next event asked Row → FitFollower L W (after_row next event)
  row_fits next (Crash r d) asked reasons =
      only_fits ((link_in next r.0 d.0).link.crashes == limit) (failure (Link r d) why.Crashes)
      (λ t. failure_fits (Link r d) why.Crashes (reasons.link r d refl t))
  row_fits next other asked reasons = tt

  fate_fits : (next : Cluster) (event : Event) (asked : Asks) (met : Met) → is_crash_met met ≡ true
      → Reasons next event asked met → FitFollower L W (after_fate next asked)
  fate_fits next event quiet met crash reasons = tt
  fate_fits next event (commits Coordinator) met crash reasons =
      only_fits (next.control.crashes == limit) (failure Coordinator why.Crashes)
      (λ t. failure_fits Coordinator why.Crashes (reasons.control refl crash t))
  fate_fits next event (commits (Link r d)) met crash reasons = only_fits (link_in next r.0 d.0).link.is_open (Crash r d) (λ t. tt)
  fate_fits next event (commits (Lane r d l)) met crash reasons = only_fits (link_in next r.0 d.0).link.is_open (Crash r d) (λ t. tt)
  fate_fits next event (delivers who) met crash reasons = tt

  failing_fits : (next : Cluster) (event : Event) (asked : Asks) → Reasons next event asked Failed
      → FitFollower L W (after_failing asked)
  failing_fits next event quiet reasons = tt
  failing_fits next event (commits who) reasons = failure_fits who why.Commit (reasons.commit who refl refl)
  failing_fits next event (delivers who) reasons = tt

  losses_fit : (next : Cluster) (event : Event) (asked : Asks) → Reasons next event asked Lost
      → FitFollower L W (after_losses asked)
  losses_fit next event quiet reasons = tt
  losses_fit next event (commits who) reasons = tt
  losses_fit next event (delivers who) reasons = failure_fits who why.Link (reasons.losses who refl refl)

  want_fits : (next : Cluster) (event : Event) (asked : Asks) → Reasons next event asked NoMemory
      → FitFollower L W (option_map wanted (own_link event))
  want_fits next event asked reasons = by (own_link event) refl
    where
      by : (named : Option (ShardId × ShardId)) → own_link event ≡ named → FitFollower L W (option_map wanted named)
      by None e = tt
      by (Some named) e = (tt, reasons.wants named.0 named.1 refl e)

  pub follower_fits : (next : Cluster) (event : Event) (asked : Asks) (met : Met) → Reasons next event asked met
      → FitFollower L W (follows next event asked met)
  follower_fits next event asked Row reasons = row_fits next event asked reasons
  follower_fits next event asked CrashedBefore reasons = fate_fits next event asked CrashedBefore refl reasons
  follower_fits next event asked CrashedAfter reasons = fate_fits next event asked CrashedAfter refl reasons
  follower_fits next event asked Failed reasons = failing_fits next event asked reasons
  follower_fits next event asked Lost reasons = losses_fit next event asked reasons
  follower_fits next event asked NoMemory reasons = want_fits next event asked reasons
  follower_fits next event asked NoMemoryInMove reasons = tt
