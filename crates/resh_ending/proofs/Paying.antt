-- What follows an event changes no luck and no piece that was cut, and a link that has failed stays so.
use Rattle.std.proofs.Common.{◌≡◌, ◌<◌, ℕ, zero, suc, ◌==◌, remove, Bool, true, false, cond, List, [], ◌∷◌, ◌++◌, length, Option, Some, None, refl, sym, ap, subst, ◌∙◌, slice_index_or, slice_set}
use Rattle.std.specs.Prelude.{⊤}
use Rattle.resh_value.specs.declared.value.ShardId.{ShardId}
use Rattle.resh_oplog.specs.declared.piece.Piece.{Piece}
use Rattle.resh_stamp.specs.declared.stamp.Stamp.{Stamp}
use Rattle.resh_fetcher.specs.Links as link
use Rattle.resh_fetcher.specs.Links.{LinkOf}
use Rattle.resh_coord.specs.declared.cause.Cause.{Cause}
use Rattle.resh_coord.specs.declared.cause.Why.TheVariants.{Crashes}
use Rattle.resh_setup.specs.declared.event.Event.{Event}
use Rattle.resh_setup.specs.declared.event.Event.TheVariants.{Crash, Fail}
use Rattle.resh_setup.specs.declared.plan.Who.TheVariants.{Link}
use Rattle.resh_setup.specs.declared.setup.Setup.{Setup}
use Rattle.resh_setup.specs.declared.trace.Met.TheVariants.{Row}
use Rattle.resh_cells.specs.Cells.{lanes_of, link_in, links_of, no_link, on_link, set_in, with_lanes, with_link}
use Rattle.resh_cells.specs.declared.cluster.Cluster.{Cluster}
use Rattle.resh_cells.specs.declared.cluster.LinkCell.{LinkCell}
use Rattle.resh_events.specs.Follows.{after_row, failure, limit, only_if}
use Rattle.resh_events.specs.Luck.{Asks, asks, quiet}
use Rattle.resh_events.specs.Lucks.{called}
use Rattle.resh_events.specs.Runs.{Moment, Owed, Run, after, after_all, cluster_after, owes}
use Rattle.resh_events.specs.Steps.{owed_first, owed_moment, paid}
use Rattle.resh_events.specs.Table.{change}
use Rattle.resh_events.specs.rows.Crash as crash
use Rattle.resh_events.specs.rows.Crash.{back}
use Rattle.resh_events.specs.rows.Fail as fail
use Rattle.resh_ending.proofs.Places.{set_alike, set_here, set_kept}

abbrev pub sent_in : Cluster → ℕ → ℕ → List (List Piece)
sent_in cluster r d = (link_in cluster r d).sent

abbrev pub has_failed : Cluster → ℕ → ℕ → Bool
has_failed cluster r d = (link_in cluster r d).link.failed

-- a link's crash, or a failure
abbrev pub IsBack : Event → Type 0
IsBack (Crash r d) = ⊤
IsBack (Fail named cause) = ⊤
IsBack other = ⊥

abbrev pub AreBacks : List Owed → Type 0
AreBacks [] = ⊤
AreBacks (owed ∷ rest) = IsBack owed.event × AreBacks rest

pub record Stays (one other : Cluster) : Type 0 where
  pub sent : (r d : ℕ) → sent_in other r d ≡ sent_in one r d
  pub failed : (r d : ℕ) → has_failed one r d ≡ true → has_failed other r d ≡ true

same : (one other : Cluster) → other.links ≡ one.links → Stays one other
same one other e = record {
  sent = λ r d. ap (λ (rows : List (List LinkCell)). (slice_index_or (slice_index_or rows r []) d no_link).sent) e;
  failed = λ r d h. subst (λ (rows : List (List LinkCell)). (slice_index_or (slice_index_or rows r []) d no_link).link.failed ≡ true) (sym e) h;
}

then : (one other last : Cluster) → Stays one other → Stays other last → Stays one last
then one other last h k = record {
  sent = λ r d. k.sent r d ∙ h.sent r d;
  failed = λ r d f. k.failed r d (h.failed r d f);
}

-- one link changed that stays failed
link_stays : (r d : ℕ) (f : LinkOf → LinkOf) (cluster : Cluster)
    → ((l : LinkOf) → l.failed ≡ true → (f l).failed ≡ true) → Stays cluster (on_link r d f cluster)
link_stays r d f cluster keeps = record {
  sent = λ i j. set_alike (λ (row : List LinkCell). (slice_index_or row j no_link).sent) cluster.links r i _ []
      (set_alike (λ (cell : LinkCell). cell.sent) (links_of cluster r) d j (with_link f (link_in cluster r d)) no_link refl);
  failed = λ i j. set_kept (λ (row : List LinkCell). (slice_index_or row j no_link).link.failed) cluster.links r i _ []
      (set_kept (λ (cell : LinkCell). cell.link.failed) (links_of cluster r) d j (with_link f (link_in cluster r d)) no_link
      (keeps (link_in cluster r d).link));
}

stays_failed : (l : LinkOf) → l.failed ≡ true → (link.failed l).failed ≡ true
stays_failed l h = refl

crash_stays : (cluster : Cluster) (r d : ℕ) → Stays cluster (crash.change cluster r d)
crash_stays cluster r d =
    let lanes : Cluster = with_lanes r (back d (lanes_of cluster r) (link_in cluster r d).link.kept.lanes) cluster in
    then cluster lanes (on_link r d link.gone_back lanes) (same cluster lanes refl)
    (link_stays r d link.gone_back lanes (λ l h. h))

fail_stays : (cluster : Cluster) (named : Option (ShardId × ShardId)) (cause : Cause) → Stays cluster (fail.change cluster named cause)
fail_stays cluster None cause = same cluster _ refl
fail_stays cluster (Some named) cause =
    then cluster (on_link named.0.0 named.1.0 link.failed cluster) _
    (link_stays named.0.0 named.1.0 link.failed cluster stays_failed) (same _ _ refl)

row_stays : (setup : Setup) (stamp : Stamp) (cluster : Cluster) (e : Event) (piece : Option Piece) → IsBack e
    → Stays cluster (change setup stamp cluster e piece)
unfolding change
row_stays setup stamp cluster (Crash r d) piece h = crash_stays cluster r.0 d.0
row_stays setup stamp cluster (Fail named cause) piece h = fail_stays cluster named cause
row_stays setup stamp cluster other piece h = absurd h

-- what is owed behind them is a failure at most
pub owes_if : (time : ℕ) (t : Bool) (f : Event) → IsBack f → AreBacks (owes time (only_if t f))
owes_if time true f back = (back, tt)
owes_if time false f back = tt

owes_backs : (time : ℕ) (cluster : Cluster) (e : Event) → IsBack e → AreBacks (owes time (after_row cluster e))
owes_backs time cluster (Crash r d) h =
    owes_if time ((link_in cluster r.0 d.0).link.crashes == limit) (failure (Link r d) Crashes) tt
owes_backs time cluster (Fail named cause) h = tt
owes_backs time cluster other h = absurd h

backs_both : (one more : List Owed) → AreBacks one → AreBacks more → AreBacks (one ++ more)
backs_both [] more h k = k
backs_both (o ∷ one) more h k = (h.0, backs_both one more h.1 k)

asks_nothing : (cluster : Cluster) (e : Event) → IsBack e → asks cluster e None ≡ quiet
asks_nothing cluster (Crash r d) h = refl
asks_nothing cluster (Fail named cause) h = refl
asks_nothing cluster other h = absurd h

-- some events have been made of a run, after which it has the same lucks
pub record Holds (one other : Run) : Type 0 where
  pub cluster : Stays one.cluster other.cluster
  pub lucks : other.lucks ≡ one.lucks

-- the first event that is owed
paid_one : (setup : Setup) (run : Run) (o : Owed) → IsBack o.event → Holds run (after setup run (owed_moment setup run o))
unfolding after
paid_one setup run o h = record {
  cluster = then run.cluster (change setup (owed_moment setup run o).made.stamp run.cluster o.event None) _
      (row_stays setup (owed_moment setup run o).made.stamp run.cluster o.event None h) (same _ _ refl);
  lucks = ap (λ (a : Asks). called setup a run.lucks) (asks_nothing run.cluster o.event h);
}

left_owed : (setup : Setup) (run : Run) (o : Owed) (rest : List Owed) → run.owed ≡ o ∷ rest → AreBacks (o ∷ rest)
    → AreBacks (after setup run (owed_moment setup run o)).owed
unfolding after
left_owed setup run o rest is h =
    let next : Cluster = cluster_after setup run (owed_moment setup run o) in
    let time : ℕ = (owed_moment setup run o).made.stamp.time in
    subst (λ (owed : List Owed). AreBacks (remove owed 0 ++ owes time (after_row next o.event))) (sym is)
    (backs_both rest (owes time (after_row next o.event)) h.1 (owes_backs time next o.event h.0))

-- the first of some events that are owed, and more behind it
first_holds : (setup : Setup) (run : Run) (owed : List Owed) (more : Run → List Moment) → run.owed ≡ owed → AreBacks owed
    → ((later : Run) → AreBacks later.owed → Holds later (after_all setup later (more later)))
    → Holds run (after_all setup run (owed_first setup run owed more))
unfolding after_all
first_holds setup run [] more is all holds = record { cluster = same run.cluster run.cluster refl; lucks = refl }
first_holds setup run (o ∷ rest) more is all holds =
    let next : Run = after setup run (owed_moment setup run o) in
    let one : Holds run next = paid_one setup run o all.0 in
    let others : Holds next (after_all setup next (more next)) = holds next (left_owed setup run o rest is all) in
    record {
      cluster = then run.cluster next.cluster _ one.cluster others.cluster;
      lucks = others.lucks ∙ one.lucks;
    }

-- all of them
pub paid_holds : (setup : Setup) (n : ℕ) (run : Run) → AreBacks run.owed → Holds run (after_all setup run (paid setup n run))
unfolding after_all
paid_holds setup zero run h = record { cluster = same run.cluster run.cluster refl; lucks = refl }
paid_holds setup (suc n) run h =
    first_holds setup run run.owed (λ later. paid setup n later) refl h (λ later backs. paid_holds setup n later backs)

pub paid_none : (setup : Setup) (n : ℕ) (run : Run) → run.owed ≡ [] → paid setup n run ≡ []
paid_none setup zero run is = refl
paid_none setup (suc n) run is =
    ap (λ (owed : List Owed). owed_first setup run owed (λ later. paid setup n later)) is

-- a link that is failed first
link_fails : (cluster : Cluster) (r d : ℕ) → r < length cluster.links → d < length (links_of cluster r)
    → has_failed (on_link r d link.failed cluster) r d ≡ true
link_fails cluster r d in_rows in_row =
    let cell : LinkCell = with_link link.failed (link_in cluster r d) in
    ap (λ (row : List LinkCell). (slice_index_or row d no_link).link.failed)
    (set_here cluster.links r (slice_set (links_of cluster r) d cell) [] in_rows)
    ∙ ap (λ (c : LinkCell). c.link.failed) (set_here (links_of cluster r) d cell no_link in_row)

fail_first : (setup : Setup) (run : Run) (o : Owed) (r d : ShardId) (cause : Cause) → o.event ≡ Fail (Some (r, d)) cause
    → r.0 < length run.cluster.links → d.0 < length (links_of run.cluster r.0)
    → has_failed (after setup run (owed_moment setup run o)).cluster r.0 d.0 ≡ true
unfolding after change
fail_first setup run o r d cause is in_rows in_row =
    subst (λ (e : Event). has_failed (change setup (owed_moment setup run o).made.stamp run.cluster e None) r.0 d.0 ≡ true) (sym is)
    (link_fails run.cluster r.0 d.0 in_rows in_row)

pub paid_failed : (setup : Setup) (n : ℕ) (run : Run) (o : Owed) (r d : ShardId) (cause : Cause) → run.owed ≡ o ∷ []
    → o.event ≡ Fail (Some (r, d)) cause
    → r.0 < length run.cluster.links → d.0 < length (links_of run.cluster r.0)
    → has_failed (after_all setup run (paid setup (suc n) run)).cluster r.0 d.0 ≡ true
unfolding after_all
paid_failed setup n run o r d cause is event in_rows in_row =
    let next : Run = after setup run (owed_moment setup run o) in
    let back : IsBack o.event = subst IsBack (sym event) tt in
    let more : Holds next (after_all setup next (paid setup n next))
    = paid_holds setup n next (left_owed setup run o [] is (back, tt)) in
    subst (λ (owed : List Owed). has_failed (after_all setup run (owed_first setup run owed (λ later. paid setup n later))).cluster r.0 d.0 ≡ true)
    (sym is) (more.cluster.failed r.0 d.0 (fail_first setup run o r d cause event in_rows in_row))
