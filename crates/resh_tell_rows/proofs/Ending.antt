-- A recipient at its end: its links close and its lanes are emptied.
use Rattle.std.proofs.Common.{◌≡◌, ◌≢◌, ◌≤◌, ◌<◌, ◌^◌, ℕ, zero, suc, Bool, true, false, List, [], ◌∷◌, length, map, replicate, slice_index_or, Option, None, refl, sym, ap, subst, ◌∙◌, arith}
use Rattle.std.proofs.lemmas.List.{length-map, length-replicate}
use Rattle.std.specs.FinMap.{empty, get, get-empty}
use Rattle.resh_value.specs.Order.{compare_of}
use Rattle.resh_value.specs.declared.value.Value.{Value}
use Rattle.resh_cells.specs.Cells.{no_lane, no_link, with_link}
use Rattle.resh_cells.specs.declared.cluster.LinkCell.{LinkCell}
use Rattle.resh_donor.specs.States as donor
use Rattle.resh_donor.specs.declared.phase.DonorPhase.TheVariants.{Done}
use Rattle.resh_events.specs.rows.Clone.{donates}
use Rattle.resh_fetcher.specs.Links as link
use Rattle.resh_fetcher.specs.Links.{LinkOf}
use Rattle.resh_fetcher.specs.Standing.{LinkFits}
use Rattle.resh_feed.specs.Items.{Document}
use Rattle.resh_lane.specs.Lanes as lane
use Rattle.resh_lane.specs.Lanes.{LaneOf, number_of}
use Rattle.resh_lane.proofs.Staying.{stays_lane}
use Rattle.resh_oplog.specs.declared.entry.Entry.{Entry}
use Rattle.resh_progress.specs.Kinds.{ToDonate}
use Rattle.resh_progress.specs.Tellings.{has}
use Rattle.resh_rules.specs.Pools.{IsPool, PoolOf, cleared, waiting_of}
use Rattle.resh_rules.specs.Slots.{IsSound}
use Rattle.resh_rules.proofs.Ruling.{empty_sound}
use Rattle.resh_setup.specs.declared.setup.Setup.{Setup}
use Rattle.resh_invariant.specs.Courses.{Course, is_unused}
use Rattle.resh_invariant.specs.Recipients.{IsLaneKept, IsLinkKept, IsRecipientKept, IsReported}
use Rattle.resh_invariant.specs.Sources.{Source, feeds_on}
use Rattle.resh_invariant.proofs.Ones.{never}
use Rattle.resh_tell_rows.proofs.Marking.{map_in}

none_waits : (n : ℕ) (id : Value) (d : ℕ) → slice_index_or (waiting_of (replicate n empty) id) d None ≡ None
none_waits zero id d = refl
none_waits (suc n) id zero = get-empty compare_of id
none_waits (suc n) id (suc d) = none_waits n id d

cleared_pool : (pool : PoolOf) → IsPool pool → IsPool (cleared pool)
cleared_pool pool is = record {
  sound = λ id.
      let nothing : get empty id ≡ None = get-empty compare_of id in
      subst (λ o. IsSound pool.chunks id (record { output = o; waiting = waiting_of (replicate (length pool.stashes) empty) id })) (sym nothing)
      (empty_sound pool.chunks id (waiting_of (replicate (length pool.stashes) empty) id) (none_waits (length pool.stashes) id));
  few = let many = length-replicate (length pool.stashes) (empty {X = Document} {R = compare_of}) in let few = is.few in omega (arith, many, few);
}

-- a link that closes
abbrev pub close : LinkCell → LinkCell
close one = with_link link.closed one

closed_fits : (n : ℕ) (docs : List Document) (entries : List Entry) (l : LinkOf) → LinkFits n docs entries l → LinkFits n docs entries (link.closed l)
closed_fits n docs entries l fits = record {
  front = fits.front;
  out = fits.out;
  rest = fits.rest;
  parts = fits.parts;
  kept = fits.kept;
  sent = fits.sent;
  reading = fits.reading;
  unread = fits.unread;
  clones = fits.clones;
  read_out = fits.read_out;
  kept_out = fits.kept_out;
}

closed_link : (setup : Setup) (r d : ℕ) (course : Course) (before now : donor.State) (source : Source) (one : LinkCell) → course.decision ≢ None
    → has now.told ToDonate ≡ has before.told ToDonate → IsLinkKept setup r d course before source one → IsLinkKept setup r d course now source (close one)
closed_link setup r d course before now source one decided same kept = record {
  owned = record { recipient = kept.owned.recipient; donor = kept.owned.donor; lanes = kept.owned.lanes; batch = kept.owned.batch };
  cuts = kept.cuts;
  started = kept.started ∙ sym same;
  opened = λ e. never (sym e);
  reads = λ on. let was = kept.reads (sym same ∙ on) in record { time = was.time; fits = closed_fits setup.lanes source.documents source.entries one.link was.fits };
  sent = kept.sent;
  untold = λ off. let was = kept.untold off in record { place = was.place; out = was.out; buffer = was.buffer; read_out = was.read_out; kept_out = was.kept_out; sent = was.sent };
  unused = λ none off. absurd (decided none);
}

-- a lane that is emptied
emptied_lane : (setup : Setup) (l : ℕ) (before now : donor.State) (sources : ℕ → Source) (one : LaneOf) → now.phase ≡ Done
    → IsLaneKept setup l before sources one → IsLaneKept setup l now sources (lane.emptied one)
emptied_lane setup l before now sources one done kept = record {
  sound = stays_lane.done one kept.sound;
  pool = cleared_pool one.pool kept.pool;
  chunks = kept.chunks;
  stashes = length-replicate (length one.pool.stashes) (empty {X = Document} {R = compare_of}) ∙ kept.stashes;
  started = sym (ap donates done);
  fits = λ on. never (sym on ∙ ap donates done);
  untold = kept.untold;
  unused = λ on. never (sym on ∙ ap is_unused done);
}

-- a recipient whose links close and whose lanes are emptied
module _ (setup : Setup) (r : ℕ) (course : Course) (reported : Bool) (clash : Option Value) (before now : donor.State) (sources : ℕ → Source)
    (links : List LinkCell) (lanes : List LaneOf) (kept : IsRecipientKept setup r course reported clash before sources links lanes)
    (decided : course.decision ≢ None) (same : has now.told ToDonate ≡ has before.told ToDonate) (done : now.phase ≡ Done)
    (report : IsReported setup course.phase reported clash now sources (map close links) (map lane.emptied lanes)) where
  link_is : (d : ℕ) → d < length setup.shards → slice_index_or (map close links) d no_link ≡ close (slice_index_or links d no_link)
  link_is d lt = map_in close links d no_link (subst (λ n. d < n) (sym kept.link_count) lt)

  lane_is : (l : ℕ) → l < setup.lanes → slice_index_or (map lane.emptied lanes) l no_lane ≡ lane.emptied (slice_index_or lanes l no_lane)
  lane_is l lt = map_in lane.emptied lanes l no_lane (subst (λ n. l < n) (sym kept.lane_count) lt)

  pub recipient_ends : IsRecipientKept setup r course reported clash now sources (map close links) (map lane.emptied lanes)
  recipient_ends = record {
    link_count = length-map links close ∙ kept.link_count;
    lane_count = length-map lanes lane.emptied ∙ kept.lane_count;
    each_link = λ d lt. subst (λ x. IsLinkKept setup r d course now (sources d) x) (sym (link_is d lt))
        (closed_link setup r d course before now (sources d) (slice_index_or links d no_link) decided same (kept.each_link d lt));
    each_lane = λ l lt. subst (λ x. IsLaneKept setup l now sources x) (sym (lane_is l lt))
        (emptied_lane setup l before now sources (slice_index_or lanes l no_lane) done (kept.each_lane l lt));
    behind = λ d l d_in l_in.
        subst (λ (x : LinkCell). number_of x.link.kept.lanes l ≤ number_of (slice_index_or (map lane.emptied lanes) l no_lane).at d) (sym (link_is d d_in))
        (subst (λ (x : LaneOf). number_of (slice_index_or links d no_link).link.kept.lanes l ≤ number_of x.at d) (sym (lane_is l l_in)) (kept.behind d l d_in l_in));
    reports = report;
  }
