-- The row of a batch that is cut.
use Rattle.std.proofs.Common.{◌≡◌, ◌<◌, ℕ, zero, suc, Bool, true, false, not, nat_lt, is_some, List, [], ◌∷◌, ◌++◌, length, take, slice_index, ◌+◌, Option, Some, None, refl, sym, ap, subst, ◌∙◌, arith, rules}
use Rattle.std.proofs.lemmas.List.{map-append}
use Rattle.resh_cells.specs.Cells.{link_in, shard_in}
use Rattle.resh_cells.specs.Cuts.{joined_from, with_part}
use Rattle.resh_cells.specs.declared.cluster.Cluster.{Cluster}
use Rattle.resh_events.specs.rows.Cut as cut
use Rattle.resh_events.specs.rows.Cut.{batch_at, cut_at}
use Rattle.resh_feed.specs.Feeds.{whats}
use Rattle.resh_feed.specs.Lanes.{counts_after, lane_feed}
use Rattle.resh_feed.specs.declared.item.Item.{Item}
use Rattle.resh_fetcher.specs.Conditions.{may_cut}
use Rattle.resh_fetcher.specs.Laws.{StandsOn, counts_sent}
use Rattle.resh_fetcher.specs.Links.{LinkOf, sent_out}
use Rattle.resh_fetcher.specs.Standing.{LinkFits, OutStands}
use Rattle.resh_keeping.proofs.Places.{length-set}
use Rattle.resh_model.specs.Orders.{State}
use Rattle.resh_oplog.specs.declared.piece.Piece.{Piece}
use Rattle.resh_place.specs.Cuts.{AreCutFrom}
use Rattle.resh_place.proofs.Cutting.{cuts_stand}
use Rattle.resh_setup.specs.declared.setup.Setup.{Setup}
use Rattle.resh_shard.specs.Writes.{shard_id}
use Rattle.resh_split.specs.Parts.{ends_behind, is_below_end, parts_of, pieces}
use Rattle.resh_stamp.specs.declared.stamp.Stamp.{Stamp}
use Rattle.resh_story.specs.Stories.{entries_for}
use Rattle.resh_invariant.specs.Courses.{course_of}
use Rattle.resh_invariant.specs.Keeping.{Keeps}
use Rattle.resh_invariant.specs.Recipients.{IsLinkKept}
use Rattle.resh_invariant.specs.Sources.{Clones, feed_by, sources_of}
use Rattle.resh_invariant.proofs.Finishing.{kept_count, kept_many, no_buffer}
use Rattle.resh_invariant.proofs.Ones.{both, link_keeps, link_there, never, row_there}

joined_long : (from : ℕ) (sent parts : List (List Piece)) → length (joined_from from sent parts) ≡ length sent
joined_long from sent [] = refl
joined_long from sent (part ∷ parts) = joined_long (from + 1) (with_part from part sent) parts ∙ length-set sent from _

taken_whats : (n : ℕ) (items : List Item) → take n (whats items) ≡ whats (take n items)
taken_whats zero items = refl
taken_whats (suc n) [] = refl
taken_whats (suc n) (x ∷ items) = ap (λ l. x.what ∷ l) (taken_whats n items)

none_of : {X : Type 0} (o : Option X) → not (is_some o) ≡ true → o ≡ None
none_of None e = refl
none_of (Some x) e = never (sym e)

module _ (stands : StandsOn) (setup : Setup) (some_lane : 0 < setup.lanes) (state : State) (clones : Clones) (cluster : Cluster) (keeps : Keeps setup state clones cluster)
    (r d : ℕ) (is : cut.may cluster r d ≡ true) (stamp : Stamp)
    (below : is_below_end (link_in cluster r d).link.lanes (batch_at 0 (link_in cluster r d).link) ≡ true) where
  abbrev l : LinkOf
  l = (link_in cluster r d).link

  some_item : nat_lt 0 (length l.buffer) ≡ true → l.buffer ≡ [] → ⊥
  some_item on none = let e : length l.buffer ≡ 0 = ap length none in let lt : nat_lt 0 (length l.buffer) ≡ true = on in search (arith, rules)

  tests : (l.is_open ≡ true) × (l.out ≡ None) × (nat_lt 0 (length l.buffer) ≡ true)
  tests =
      let all = both l.is_open (may_cut l) is in
      let more = both (not (is_some l.out)) (nat_lt 0 (length l.buffer)) all.1 in
      (all.0, none_of l.out more.0, more.1)

  r_in : r < length setup.shards
  r_in = row_there setup state clones cluster keeps r d tests.0

  d_in : d < length setup.shards
  d_in = link_there setup state clones cluster keeps r d tests.0

  kept : IsLinkKept setup r d (course_of cluster.control) (shard_in cluster r).donor (sources_of clones cluster r d) (link_in cluster r d)
  kept = (keeps.recipients r r_in).each_link d d_in

  stood : LinkFits setup.lanes (clones d r) (sources_of clones cluster r d).entries l
  stood = (kept.reads (kept.opened tests.0)).fits

  going : l.kept.finished ≡ false
  going = by l.kept.finished refl
    where
      by : (t : Bool) → l.kept.finished ≡ t → l.kept.finished ≡ false
      by false e = e
      by true e = absurd (some_item tests.2 (no_buffer setup.lanes (clones d r) (entries_for (shard_in cluster d).shard cluster.control.fetch_time r) l stood e))

  ends_are : counts_sent setup.lanes l l.batch ≡ ends_behind l l.batch
  ends_are =
      ap (λ n. counts_after n l.kept.lanes (whats (take l.batch l.buffer))) (sym kept.owned.lanes)
      ∙ ap (counts_after l.lanes l.kept.lanes) (sym (taken_whats l.batch l.buffer))

  fits : LinkFits setup.lanes (clones d r) (sources_of clones cluster r d).entries (sent_out l l.batch (ends_behind l l.batch))
  fits =
      subst (λ ends. LinkFits setup.lanes (clones d r) (sources_of clones cluster r d).entries (sent_out l l.batch ends)) ends_are
      (stands.sent setup.lanes l.batch (clones d r) (sources_of clones cluster r d).entries l tests.1 going stood)

  no_out : stood.out ≡ []
  no_out = subst (λ o. OutStands setup.lanes l.kept o stood.front stood.out) tests.1 stood.sent

  feed_is : feed_by (sources_of clones cluster r d) ≡ whats stood.front ++ (whats l.buffer ++ whats stood.rest)
  feed_is =
      ap whats (stood.parts ∙ ap (λ o. stood.front ++ (o ++ (l.buffer ++ stood.rest))) no_out)
      ∙ map-append (λ (x : Item). x.what) stood.front (l.buffer ++ stood.rest)
      ∙ ap (λ f. whats stood.front ++ f) (map-append (λ (x : Item). x.what) l.buffer stood.rest)

  sent : AreCutFrom setup.lanes (shard_id d) (feed_by (sources_of clones cluster r d)) (cut_at stamp.time (link_in cluster r d)).sent
  sent =
      subst (λ n. AreCutFrom n (shard_id d) (feed_by (sources_of clones cluster r d)) (cut_at stamp.time (link_in cluster r d)).sent) kept.owned.lanes
      (subst (λ q. AreCutFrom l.lanes q (feed_by (sources_of clones cluster r d)) (cut_at stamp.time (link_in cluster r d)).sent) kept.owned.donor
      (subst (λ f. AreCutFrom l.lanes l.donor f (cut_at stamp.time (link_in cluster r d)).sent) (sym feed_is)
      (cuts_stand.next (link_in cluster r d) stamp.time (whats stood.front) (whats stood.rest)
      (subst (λ n. 0 < n) (sym kept.owned.lanes) some_lane)
      (kept_many setup.lanes (clones d r) (sources_of clones cluster r d).entries l stood ∙ sym kept.owned.lanes)
      (subst (λ n. (lane : ℕ) → lane < n → slice_index l.kept.lanes lane ≡ length (lane_feed n lane (whats stood.front))) (sym kept.owned.lanes)
      (kept_count setup.lanes (clones d r) (sources_of clones cluster r d).entries l stood))
      below
      (subst (λ f. AreCutFrom l.lanes l.donor f (link_in cluster r d).sent) feed_is
      (subst (λ q. AreCutFrom l.lanes q (feed_by (sources_of clones cluster r d)) (link_in cluster r d).sent) (sym kept.owned.donor)
      (subst (λ n. AreCutFrom n (shard_id d) (feed_by (sources_of clones cluster r d)) (link_in cluster r d).sent) (sym kept.owned.lanes) kept.sent))))))

  pub cut_keeps : Keeps setup state clones (cut.change cluster r d stamp)
  cut_keeps =
      link_keeps setup state clones cluster keeps r d (cut_at stamp.time (link_in cluster r d))
      (λ _ _. record {
        owned = record { recipient = kept.owned.recipient; donor = kept.owned.donor; lanes = kept.owned.lanes; batch = kept.owned.batch };
        cuts = joined_long 0 (link_in cluster r d).sent (parts_of l.lanes (pieces l.lanes (batch_at stamp.time l))) ∙ kept.cuts;
        started = kept.started;
        opened = kept.opened;
        reads = λ on. record { time = (kept.reads on).time; fits = fits };
        sent = sent;
        untold = λ off. absurd (some_item tests.2 (kept.untold off).buffer);
        unused = λ none off. never (sym (kept.opened tests.0) ∙ off);
      })
      (λ _ _ l l_in. (keeps.recipients r r_in).behind d l d_in l_in) (λ done. done)
