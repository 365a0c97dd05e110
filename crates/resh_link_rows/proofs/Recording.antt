-- The row of a record that is kept.
use Rattle.std.proofs.Common.{◌≡◌, ◌≤◌, ◌<◌, ℕ, zero, suc, true, ◌&&◌, nat_le, is_some, List, [], ◌∷◌, ◌++◌, length, replicate, slice_index_or, Option, Some, None, refl, sym, ap, subst, ◌∙◌, arith, rules}
use Rattle.std.proofs.lemmas.List.{length-replicate}
use Rattle.std.specs.Option.{option_map_or}
use Rattle.resh_cells.specs.Cells.{lanes_of, link_in, no_lane, set_in, shard_in}
use Rattle.resh_cells.specs.declared.cluster.Cluster.{Cluster}
use Rattle.resh_cells.specs.declared.cluster.LinkCell.{LinkCell}
use Rattle.resh_events.specs.rows.Record as keep
use Rattle.resh_events.specs.rows.Record.{reach}
use Rattle.resh_feed.specs.Feeds.{whats}
use Rattle.resh_feed.specs.declared.item.Reading.{Reading}
use Rattle.resh_feed.proofs.Positions.{counts_long}
use Rattle.resh_fetcher.specs.Conditions.{may_keep}
use Rattle.resh_fetcher.specs.Laws.{StandsOn}
use Rattle.resh_fetcher.specs.Links.{LinkOf, batch_kept, ends, ends_of, kept_at}
use Rattle.resh_fetcher.specs.Standing.{LinkFits, OutStands, StandsAt, out_reading, read_with}
use Rattle.resh_fetcher.specs.declared.state.Out.{Out}
use Rattle.resh_lane.specs.Lanes.{LaneOf, number_of}
use Rattle.resh_model.specs.Orders.{State}
use Rattle.resh_setup.specs.declared.setup.Setup.{Setup}
use Rattle.resh_story.specs.Stories.{entries_for}
use Rattle.resh_invariant.specs.Courses.{course_of}
use Rattle.resh_invariant.specs.Keeping.{Keeps}
use Rattle.resh_invariant.specs.Recipients.{IsLinkKept}
use Rattle.resh_invariant.specs.Sources.{Clones, sources_of}
use Rattle.resh_invariant.proofs.Finishing.{no_out}
use Rattle.resh_invariant.proofs.Ones.{both, link_keeps, link_there, never, row_there}

some_of : {X : Type 0} (o : Option X) → is_some o ≡ true → (x : X) × (o ≡ Some x)
some_of None e = never (sym e)
some_of (Some x) e = (x, refl)

le_of : (a b : ℕ) → nat_le a b ≡ true → a ≤ b
le_of a b h = search (arith, rules)

nothing_more : {X : Type 0} (a : List X) → a ++ [] ≡ a
nothing_more [] = refl
nothing_more (x ∷ a) = ap (λ l. x ∷ l) (nothing_more a)

-- where the lanes reach some positions, each position is reached
reached : (lanes : List LaneOf) (d : ℕ) (numbers : List ℕ) → length numbers ≤ length lanes → reach d lanes numbers ≡ true → (l : ℕ)
    → number_of numbers l ≤ number_of (slice_index_or lanes l no_lane).at d
reached [] d [] long h l = omega arith
reached [] d (n ∷ numbers) long h l = absurd (omega (arith, long))
reached (x ∷ lanes) d [] long h l = omega arith
reached (x ∷ lanes) d (n ∷ numbers) long h zero = le_of n (number_of x.at d) (both (nat_le n (number_of x.at d)) (reach d lanes numbers) h).0
reached (x ∷ lanes) d (n ∷ numbers) long h (suc l) = reached lanes d numbers (omega (arith, long)) (both (nat_le n (number_of x.at d)) (reach d lanes numbers) h).1 l

module _ (stands : StandsOn) (setup : Setup) (state : State) (clones : Clones) (cluster : Cluster) (keeps : Keeps setup state clones cluster)
    (r d : ℕ) (is : keep.may cluster r d ≡ true) where
  abbrev l : LinkOf
  l = (link_in cluster r d).link

  tests : (l.is_open ≡ true) × (is_some l.out ≡ true) × (reach d (lanes_of cluster r) (ends l) ≡ true)
  tests =
      let all = both (l.is_open && may_keep l) (reach d (lanes_of cluster r) (ends l)) is in
      let first = both l.is_open (may_keep l) all.0 in
      (first.0, first.1, all.1)

  r_in : r < length setup.shards
  r_in = row_there setup state clones cluster keeps r d tests.0

  d_in : d < length setup.shards
  d_in = link_there setup state clones cluster keeps r d tests.0

  kept : IsLinkKept setup r d (course_of cluster.control) (shard_in cluster r).donor (sources_of clones cluster r d) (link_in cluster r d)
  kept = (keeps.recipients r r_in).each_link d d_in

  stood : LinkFits setup.lanes (clones d r) (sources_of clones cluster r d).entries l
  stood = (kept.reads (kept.opened tests.0)).fits

  module _ (o : Out) (out : l.out ≡ Some o) where
    at : StandsAt setup.lanes (stood.front ++ stood.out) o.place o.lanes (out_reading l.kept o)
    at = subst (λ x. OutStands setup.lanes l.kept x stood.front stood.out) out stood.sent

    long : length o.lanes ≡ setup.lanes
    long = ap length at.lanes ∙ counts_long setup.lanes (whats (stood.front ++ stood.out)) (replicate setup.lanes 0) (length-replicate setup.lanes 0)

    still_done : l.kept.finished ≡ true → o.reading.finished ≡ true
    still_done done =
        ap (λ (x : Reading). x.finished) at.reading
        ∙ ap (λ x. (read_with (stood.front ++ x)).finished)
        (no_out setup.lanes (clones d r) (entries_for (shard_in cluster d).shard cluster.control.fetch_time r) l stood done)
        ∙ ap (λ x. (read_with x).finished) (nothing_more stood.front)
        ∙ sym (ap (λ (x : Reading). x.finished) stood.kept.reading) ∙ done

    kept_is : batch_kept l ≡ record l { kept = kept_at l o; out = None }
    kept_is = ap (λ (x : Option Out). option_map_or (λ (y : Out). record l { kept = kept_at l y; out = None }) x l) out

    abbrev new : LinkCell
    new = record (link_in cluster r d) { link = record l { kept = kept_at l o; out = None } }

    new_kept : IsLinkKept setup r d (course_of cluster.control) (shard_in cluster r).donor (sources_of clones cluster r d) new
    new_kept = record {
      owned = record { recipient = kept.owned.recipient; donor = kept.owned.donor; lanes = kept.owned.lanes; batch = kept.owned.batch };
      cuts = kept.cuts;
      started = kept.started;
      opened = kept.opened;
      reads = λ on. record {
        time = (kept.reads on).time;
        fits = subst (λ x. LinkFits setup.lanes (clones d r) (sources_of clones cluster r d).entries x) kept_is
            (stands.kept setup.lanes (clones d r) (sources_of clones cluster r d).entries l stood);
      };
      sent = kept.sent;
      untold = λ off. absurd (some_none o (sym out ∙ (kept.untold off).out));
      unused = λ none off. never (sym (kept.opened tests.0) ∙ off);
    }
      where
        some_none : {X : Type 0} (x : X) → Some x ≡ None → ⊥
        some_none x e = cc

    keeps_new : Keeps setup state clones (record cluster { links = set_in cluster.links r d new })
    keeps_new =
        link_keeps setup state clones cluster keeps r d new (λ _ _. new_kept)
        (λ _ _ n n_in. reached (lanes_of cluster r) d o.lanes (let a = long in let b = (keeps.recipients r r_in).lane_count in omega (arith, a, b))
        (subst (λ x. reach d (lanes_of cluster r) (ends_of l.kept x) ≡ true) out tests.2) n)
        still_done

    keeps_kept : Keeps setup state clones (keep.change cluster r d)
    keeps_kept =
        subst (λ (x : LinkOf). Keeps setup state clones (record cluster { links = set_in cluster.links r d (record (link_in cluster r d) { link = x }) })) (sym kept_is) keeps_new

  pub record_keeps : Keeps setup state clones (keep.change cluster r d)
  record_keeps = let some = some_of l.out tests.1 in keeps_kept some.0 some.1
