-- Who is asked is there: how many links and lanes a cluster has, which no event changes.
use Rattle.std.proofs.Common.{◌≡◌, ◌<◌, ◌≤◌, ℕ, Bool, true, false, List, [], length, map, Option, Some, None, refl, sym, subst, slice_index_or, arith}
use Rattle.std.specs.List.{Contains, range_with_len}
use Rattle.resh_value.specs.declared.value.ShardId.{ShardId}
use Rattle.resh_oplog.specs.declared.piece.Piece.{Piece}
use Rattle.resh_fetcher.specs.Conditions.{may_clone, may_fetch}
use Rattle.resh_setup.specs.declared.event.Event.{Event}
use Rattle.resh_setup.specs.declared.event.Event.TheVariants.{Begin, Tell, Advance, Clone, Fetch, Apply, Again, Record}
use Rattle.resh_setup.specs.declared.plan.Who.{Who}
use Rattle.resh_setup.specs.declared.plan.Who.TheVariants.{Coordinator, Link, Lane}
use Rattle.resh_setup.specs.declared.setup.Setup.{Setup}
use Rattle.resh_cells.specs.Cells.{link_in, links_of, no_link}
use Rattle.resh_cells.specs.Cuts.{cut_for}
use Rattle.resh_cells.specs.declared.cluster.Cluster.{Cluster}
use Rattle.resh_cells.specs.declared.cluster.LinkCell.{LinkCell}
use Rattle.resh_events.specs.Opening.{opening, opening_link}
use Rattle.resh_events.specs.Runs.{Moment, Run, after}
use Rattle.resh_events.specs.Schedules.{Delivers}
use Rattle.resh_events.specs.Table.{may}
use Rattle.resh_licence.specs.Causes.{activity_of}
use Rattle.resh_licence.proofs.Calling.{IsThere}
use Rattle.resh_licence.proofs.Happening.{opens_link}
use Rattle.resh_licence.proofs.Links.{event_moves}
use Rattle.resh_licence.proofs.Numbers.{both}
use Rattle.resh_licence.proofs.Places.{each_has, length-each, length-replicate, within}

off : (b : Bool) → b ≡ false → b ≡ true → ⊥
off b e h = cc

at_most : (a b : ℕ) → a ≡ b → a ≤ b
at_most a b e = omega arith

none_below : (b : ℕ) → 0 ≤ b
none_below b = omega arith

nowhere : {X : Type 0} (x : X) → Contains [] x → ⊥
nowhere x c = let lt = c.1 in omega arith

module _ (setup : Setup) where
  pub record IsShaped (cluster : Cluster) : Type 0 where
    pub rows : length cluster.links ≤ length setup.shards
    pub row : (r : ℕ) → length (links_of cluster r) ≤ length setup.shards
    pub sent : (r d : ℕ) → length (link_in cluster r d).sent ≤ setup.lanes

  pub opens_shaped : IsShaped (opening setup)
  opens_shaped = record {
    rows = at_most _ _ (length-each (λ r. map (opening_link setup r) (range_with_len 0 (length setup.shards))) 0 (length setup.shards));
    row = λ r. each_has (λ (row : List LinkCell). length row ≤ length setup.shards)
        (λ k. map (opening_link setup k) (range_with_len 0 (length setup.shards))) 0 (length setup.shards) r []
        (none_below (length setup.shards))
        (λ k. at_most _ _ (length-each (opening_link setup k) 0 (length setup.shards)));
    sent = opens_link setup (λ (cell : LinkCell). length cell.sent ≤ setup.lanes) (none_below setup.lanes)
        (λ r d. at_most _ _ (length-replicate [] setup.lanes));
  }

  pub shaped_after : (run : Run) (m : Moment) → IsShaped run.cluster → IsShaped (after setup run m).cluster
  unfolding after
  shaped_after run m shaped =
      let moves = event_moves setup m.made.stamp run.cluster m.made.event m.given.piece m.made.met in
      record {
        rows = subst (λ n. n ≤ length setup.shards) (sym moves.rows) shaped.rows;
        row = λ r. subst (λ n. n ≤ length setup.shards) (sym (moves.row r)) (shaped.row r);
        sent = λ r d. subst (λ n. n ≤ setup.lanes) (sym (moves.link r d).sent) (shaped.sent r d);
      }

  below : (i a b : ℕ) → i < a → a ≤ b → i < b
  below i a b lt le = omega arith

  -- a link that is open, and a lane of a piece that was cut
  open_there : (cluster : Cluster) (r d : ShardId) → IsShaped cluster → (link_in cluster r.0 d.0).link.is_open ≡ true
      → IsThere setup (Link r d)
  open_there cluster r d shaped is = (
    below r.0 (length cluster.links) (length setup.shards)
        (within (λ (row : List LinkCell). (slice_index_or row d.0 no_link).link.is_open ≡ true) cluster.links r.0 [] (λ h. off _ refl h) is)
        shaped.rows,
    below d.0 (length (links_of cluster r.0)) (length setup.shards)
        (within (λ (cell : LinkCell). cell.link.is_open ≡ true) (links_of cluster r.0) d.0 no_link (λ h. off _ refl h) is)
        (shaped.row r.0),
  )

  cut_there : (cluster : Cluster) (r d : ShardId) (l : ℕ) (piece : Piece) → IsShaped cluster
      → Contains (cut_for (link_in cluster r.0 d.0).sent l) piece → IsThere setup (Lane r d l)
  cut_there cluster r d l piece shaped is = (
    below r.0 (length cluster.links) (length setup.shards)
        (within (λ (row : List LinkCell). Contains (cut_for (slice_index_or row d.0 no_link).sent l) piece) cluster.links r.0 []
        (nowhere piece) is) shaped.rows,
    below d.0 (length (links_of cluster r.0)) (length setup.shards)
        (within (λ (cell : LinkCell). Contains (cut_for cell.sent l) piece) (links_of cluster r.0) d.0 no_link (nowhere piece) is)
        (shaped.row r.0),
    below l (length (link_in cluster r.0 d.0).sent) setup.lanes
        (within (λ (pieces : List Piece). Contains pieces piece) (link_in cluster r.0 d.0).sent l [] (nowhere piece) is)
        (shaped.sent r.0 d.0),
  )

  given_there : (cluster : Cluster) (r d : ShardId) (l : ℕ) (piece : Option Piece) → IsShaped cluster
      → Delivers cluster (Apply r d l) piece → IsThere setup (Lane r d l)
  given_there cluster r d l None shaped is = absurd is
  given_there cluster r d l (Some piece) shaped is = cut_there cluster r d l piece shaped is

  same_who_there : (one other : Who) → Some one ≡ Some other → IsThere setup one → IsThere setup other
  same_who_there one other e there = let same : one ≡ other = cc in subst (IsThere setup) same there

  -- whose luck an event asks that may be made
  pub activity_there : (cluster : Cluster) (event : Event) (piece : Option Piece) (who : Who) → IsShaped cluster
      → may setup cluster event piece ≡ true → Delivers cluster event piece → activity_of event ≡ Some who → IsThere setup who
  unfolding may
  activity_there cluster Begin piece who shaped m is e = same_who_there Coordinator who e tt
  activity_there cluster Advance piece who shaped m is e = same_who_there Coordinator who e tt
  activity_there cluster (Tell s) piece who shaped m is e = same_who_there Coordinator who e tt
  activity_there cluster (Clone r d) piece who shaped m is e =
      same_who_there (Link r d) who e
      (open_there cluster r d shaped (both _ _ (both (may_clone (link_in cluster r.0 d.0).link) _ (both _ _ m).0).0).0)
  activity_there cluster (Fetch r d) piece who shaped m is e =
      same_who_there (Link r d) who e
      (open_there cluster r d shaped (both _ _ (both (may_fetch (link_in cluster r.0 d.0).link) _ m).0).0)
  activity_there cluster (Record r d) piece who shaped m is e =
      same_who_there (Link r d) who e
      (open_there cluster r d shaped (both (link_in cluster r.0 d.0).link.is_open _ (both _ _ m).0).0)
  activity_there cluster (Apply r d l) piece who shaped m is e =
      same_who_there (Lane r d l) who e (given_there cluster r d l piece shaped is)
  activity_there cluster (Again r d l position) piece who shaped m is e =
      same_who_there (Lane r d l) who e (given_there cluster r d l piece shaped is)
  activity_there cluster other piece who shaped m is e = cc
