-- What has leave: the end, the links that have failed, and the failures that are owed.
use Rattle.std.proofs.Common.{◌≡◌, ◌⊎◌, inl, inr, ℕ, zero, suc, remove, true, false, List, [], ◌∷◌, ◌++◌, Option, Some, None, refl, sym, ap, subst}
use Rattle.std.specs.Prelude.{⊤, slice_get}
use Rattle.resh_value.specs.declared.value.ShardId.{ShardId}
use Rattle.resh_oplog.specs.declared.piece.Piece.{Piece}
use Rattle.resh_shard.specs.Writes.{shard_id}
use Rattle.resh_coord.specs.declared.cause.Cause.{Cause}
use Rattle.resh_coord.specs.declared.cause.Cause.TheVariants as cause
use Rattle.resh_coord.specs.declared.cause.Node.{Node}
use Rattle.resh_coord.specs.declared.cause.Node.TheVariants as node
use Rattle.resh_coord.specs.declared.cause.Why.{Why}
use Rattle.resh_setup.specs.declared.event.Event.{Event}
use Rattle.resh_setup.specs.declared.event.Event.TheVariants.{Fail}
use Rattle.resh_setup.specs.declared.setup.Setup.{Setup}
use Rattle.resh_cells.specs.Cells.{link_in}
use Rattle.resh_cells.specs.declared.cluster.Cluster.{Cluster}
use Rattle.resh_events.specs.Follows.{follows}
use Rattle.resh_events.specs.Runs.{Moment, Owed, Run, after, asked_by, cluster_after, owed_at, owes, without}
use Rattle.resh_events.specs.Schedules.{Follows, Stands, is_failure}
use Rattle.resh_events.specs.Table.{may}
use Rattle.resh_events.specs.rows.Fail as fail
use Rattle.resh_licence.proofs.Controls.{FitCause, FitCauseOf, FitEnd, event_holds}
use Rattle.resh_licence.proofs.Links.{MayFail, event_moves}

module _ (L : Node → Why → Type 0) (W : ShardId → ShardId → Type 0) where
  -- a link that fails does so by its recipient's failure, or for want of memory
  abbrev pub FitLink : Option (ShardId × ShardId) → Cause → Type 0
  FitLink (Some named) (cause.Failed n w) = L (node.Shard named.0) w
  FitLink (Some named) cause.NoMemory = W named.0 named.1
  FitLink other cause = ⊤

  abbrev pub FitEvent : Event → Type 0
  FitEvent (Fail named cause) = FitCause L cause × FitLink named cause
  FitEvent other = ⊤

  abbrev pub FitFollower : Option Event → Type 0
  FitFollower None = ⊤
  FitFollower (Some event) = FitEvent event

  abbrev pub AllFit : List Owed → Type 0
  AllFit [] = ⊤
  AllFit (o ∷ os) = FitEvent o.event × AllFit os

  abbrev pub FitFailed : ShardId → ShardId → Type 0
  FitFailed r d = ((w : Why) × L (node.Shard r) w) ⊎ W r d

  pub record Sound (run : Run) : Type 0 where
    pub decided : FitEnd L run.cluster.control.decision
    pub failed : (r d : ShardId) → (link_in run.cluster r.0 d.0).link.failed ≡ true → FitFailed r d
    pub owed : AllFit run.owed

  fit_at : (owed : List Owed) (place : ℕ) (o : Owed) → AllFit owed → slice_get owed place ≡ Some o → FitEvent o.event
  fit_at [] place o fits e = cc
  fit_at (x ∷ xs) zero o fits e = let same : x ≡ o = cc in subst (λ (y : Owed). FitEvent y.event) same fits.0
  fit_at (x ∷ xs) (suc place) o fits e = fit_at xs place o fits.1 e

  fit_without : (owed : List Owed) (place : ℕ) → AllFit owed → AllFit (remove owed place)
  fit_without [] zero fits = tt
  fit_without [] (suc place) fits = tt
  fit_without (x ∷ xs) zero fits = fits.1
  fit_without (x ∷ xs) (suc place) fits = (fits.0, fit_without xs place fits.1)

  fit_left : (owed : List Owed) (place : Option ℕ) → AllFit owed → AllFit (without owed place)
  fit_left owed None fits = fits
  fit_left owed (Some place) fits = fit_without owed place fits

  fit_both : (one more : List Owed) → AllFit one → AllFit more → AllFit (one ++ more)
  fit_both [] more a b = b
  fit_both (x ∷ xs) more a b = (a.0, fit_both xs more a.1 b)

  fit_owes : (time : ℕ) (follower : Option Event) → FitFollower follower → AllFit (owes time follower)
  fit_owes time None fits = tt
  fit_owes time (Some event) fits = (fits, tt)

  no_failure : (event : Event) → is_failure event ≡ false → FitEvent event
  no_failure (Fail named cause) e = cc
  no_failure other e = tt

  -- a failure was owed
  fit_event : (event : Event) (place : Option ℕ) (owed : List Owed) → AllFit owed → Follows event place (owed_at owed place)
      → FitEvent event
  fit_event event None owed fits h = no_failure event h
  fit_event event (Some place) owed fits h = at (slice_get owed place) refl h
    where
      at : (o : Option Owed) → slice_get owed place ≡ o → Follows event (Some place) o → FitEvent event
      at None e h = absurd h
      at (Some o) e h = subst FitEvent (sym h) (fit_at owed place o fits e)

  pub event_fits : (setup : Setup) (run : Run) (m : Moment) → Stands setup run m → Sound run → FitEvent m.made.event
  event_fits setup run m stands sound = fit_event m.made.event m.given.place run.owed sound.owed stands.follows

  pub cause_fits : (event : Event) → FitEvent event → FitCauseOf L event
  cause_fits (Fail named cause) fits = fits.0
  cause_fits other fits = tt

  -- a link that fails by an event that may be made
  failing : (named : ShardId × ShardId) (c : Cause) (r d : ShardId) → fail.may (Some named) c ≡ true → FitLink (Some named) c
      → named.0.0 ≡ r.0 → named.1.0 ≡ d.0 → FitFailed r d
  failing named (cause.Failed n w) r d m fits p q = inl (w, subst (λ (x : ShardId). L (node.Shard x) w) (ap shard_id p) fits)
  failing named cause.NoMemory r d m fits p q =
      inr (subst (λ (x : ShardId). W x d) (ap shard_id p) (subst (λ (x : ShardId). W named.0 x) (ap shard_id q) fits))
  failing named (cause.Clash shard id) r d m fits p q = cc
  failing named (cause.Asked client number) r d m fits p q = cc

  fails_link : (setup : Setup) (cluster : Cluster) (event : Event) (piece : Option Piece) (r d : ShardId)
      → may setup cluster event piece ≡ true → FitEvent event → MayFail event r.0 d.0 → FitFailed r d
  unfolding may
  fails_link setup cluster (Fail (Some named) c) piece r d m fits at = failing named c r d m fits.1 at.0 at.1
  fails_link setup cluster other piece r d m fits at = absurd at

  -- an event whose follower has leave
  pub sound_after : (setup : Setup) (run : Run) (m : Moment) → Stands setup run m
      → FitFollower (follows (cluster_after setup run m) m.made.event (asked_by run m) m.made.met) → Sound run
      → Sound (after setup run m)
  unfolding after
  sound_after setup run m stands follower sound =
      let fits = event_fits setup run m stands sound in
      let moves = event_moves setup m.made.stamp run.cluster m.made.event m.given.piece m.made.met in
      record {
        decided = (event_holds L setup m.made.stamp run.cluster m.made.event m.given.piece m.made.met (cause_fits m.made.event fits)).fits sound.decided;
        failed = λ r d h. elim ((moves.link r.0 d.0).failed h) as (λ z. FitFailed r d) [
          | inl before ↦ sound.failed r d before
          | inr at ↦ fails_link setup run.cluster m.made.event m.given.piece r d stands.may fits at
        ];
        owed = fit_both (without run.owed m.given.place) (owes m.made.stamp.time (follows (cluster_after setup run m) m.made.event (asked_by run m) m.made.met))
            (fit_left run.owed m.given.place sound.owed) (fit_owes m.made.stamp.time _ follower);
      }
