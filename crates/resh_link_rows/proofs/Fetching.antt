-- The row of a fetch.
use Rattle.std.proofs.Common.{◌≡◌, ◌<◌, ℕ, true, false, not, ◌&&◌, List, length, sym, ap, subst, ◌∙◌}
use Rattle.resh_value.specs.declared.value.ShardId.{ShardId}
use Rattle.resh_cells.specs.Cells.{link_in, shard_in, with_link}
use Rattle.resh_cells.specs.declared.cluster.Cluster.{Cluster}
use Rattle.resh_events.specs.rows.Fetch as fetch
use Rattle.resh_events.specs.rows.Clone.{has_room}
use Rattle.resh_feed.specs.Items.{up_to_final}
use Rattle.resh_fetcher.specs.Conditions.{may_fetch}
use Rattle.resh_fetcher.specs.Laws.{StandsOn, log_part}
use Rattle.resh_fetcher.specs.Links.{LinkOf, next_entries, with_fetched}
use Rattle.resh_fetcher.specs.Standing.{LinkFits}
use Rattle.resh_model.specs.Orders.{State}
use Rattle.resh_oplog.specs.Logs.{later_entries}
use Rattle.resh_oplog.specs.declared.entry.Entry.{Entry}
use Rattle.resh_setup.specs.declared.setup.Setup.{Setup}
use Rattle.resh_invariant.specs.Courses.{course_of}
use Rattle.resh_invariant.specs.Keeping.{Keeps}
use Rattle.resh_invariant.specs.Recipients.{IsLinkKept}
use Rattle.resh_invariant.specs.Sources.{Clones, sources_of}
use Rattle.resh_invariant.proofs.Ones.{both, link_keeps, link_there, never, off_of, row_there}

module _ (stands : StandsOn) (setup : Setup) (state : State) (clones : Clones) (cluster : Cluster) (keeps : Keeps setup state clones cluster)
    (r d : ℕ) (is : fetch.may cluster r d ≡ true) where
  abbrev l : LinkOf
  l = (link_in cluster r d).link

  abbrev log : List Entry
  log = (shard_in cluster d).shard.log.entries

  tests : (l.is_open ≡ true) × (l.read_out ≡ true) × (l.reading.finished ≡ false)
  tests =
      let all = both (may_fetch l) (has_room l) is in
      let first = both l.is_open (l.read_out && not l.reading.finished) all.0 in
      let more = both l.read_out (not l.reading.finished) first.1 in
      (first.0, more.0, off_of l.reading.finished more.1)

  r_in : r < length setup.shards
  r_in = row_there setup state clones cluster keeps r d tests.0

  d_in : d < length setup.shards
  d_in = link_there setup state clones cluster keeps r d tests.0

  kept : IsLinkKept setup r d (course_of cluster.control) (shard_in cluster r).donor (sources_of clones cluster r d) (link_in cluster r d)
  kept = (keeps.recipients r r_in).each_link d d_in

  same_part : log_part l log ≡ (sources_of clones cluster r d).entries
  same_part =
      ap (λ t. up_to_final (later_entries t l.recipient.0 log)) (kept.reads (kept.opened tests.0)).time
      ∙ ap (λ (q : ShardId). up_to_final (later_entries cluster.control.fetch_time q.0 log)) kept.owned.recipient

  fits : LinkFits setup.lanes (clones d r) (sources_of clones cluster r d).entries (with_fetched l (next_entries l log))
  fits =
      subst (λ es. LinkFits setup.lanes (clones d r) es (with_fetched l (next_entries l log))) same_part
      (stands.fetched setup.lanes (clones d r) log l (keeps.donors d d_in).log tests.1 tests.2
      (subst (λ es. LinkFits setup.lanes (clones d r) es l) (sym same_part) (kept.reads (kept.opened tests.0)).fits))

  pub fetch_keeps : Keeps setup state clones (fetch.change cluster r d)
  fetch_keeps =
      link_keeps setup state clones cluster keeps r d (with_link (λ l. with_fetched l (fetch.got cluster r d)) (link_in cluster r d))
      (λ _ _. record {
        owned = record { recipient = kept.owned.recipient; donor = kept.owned.donor; lanes = kept.owned.lanes; batch = kept.owned.batch };
        cuts = kept.cuts;
        started = kept.started;
        opened = kept.opened;
        reads = λ on. record { time = (kept.reads on).time; fits = fits };
        sent = kept.sent;
        untold = λ off. never (sym tests.1 ∙ (kept.untold off).read_out);
        unused = λ none off. never (sym (kept.opened tests.0) ∙ off);
      })
      (λ _ _ l l_in. (keeps.recipients r r_in).behind d l d_in l_in) (λ done. done)
