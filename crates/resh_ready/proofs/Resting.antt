-- A link of which nothing is left to do: none of it is out, its buffer is empty, and its clone part is kept.
use Rattle.std.proofs.Common.{◌≡◌, ◌≤◌, ◌<◌, ◌⊎◌, inl, inr, ℕ, ◌==◌, Bool, true, false, not, ◌&&◌, cond, List, [], ◌∷◌, ◌++◌, length, nat_le, nat_lt, Option, Some, None, is_some, refl, sym, ap, subst, ◌∙◌, eq-eqb, arith}
use Rattle.resh_cells.specs.Cells.{lane_in, lanes_of, link_in, shard_in}
use Rattle.resh_cells.specs.Cuts.{cut_for, last_cut}
use Rattle.resh_cells.specs.declared.cluster.Cluster.{Cluster}
use Rattle.resh_cells.specs.declared.cluster.LinkCell.{LinkCell}
use Rattle.resh_coord.specs.Control.{is_true_at}
use Rattle.resh_events.specs.Steps.{may_step}
use Rattle.resh_events.specs.Sweep.{goes_on, next_reading}
use Rattle.resh_events.specs.Table.{may}
use Rattle.resh_events.specs.rows.Apply as apply
use Rattle.resh_events.specs.rows.Clone as clone
use Rattle.resh_events.specs.rows.Clone.{donates, has_room}
use Rattle.resh_events.specs.rows.Fetch as fetch
use Rattle.resh_events.specs.rows.Record.{reach}
use Rattle.resh_feed.specs.declared.item.Item.{Item}
use Rattle.resh_feed.specs.declared.item.Reading.{Reading}
use Rattle.resh_fetcher.specs.Conditions.{may_clone, may_fetch}
use Rattle.resh_fetcher.specs.Links.{LinkOf, ends, ends_of, is_cloned}
use Rattle.resh_fetcher.specs.Standing.{OutStands, read_with}
use Rattle.resh_fetcher.specs.declared.state.Out.{Out}
use Rattle.resh_lane.specs.Lanes.{number_of}
use Rattle.resh_model.specs.Orders.{State}
use Rattle.resh_oplog.specs.declared.piece.Piece.{Piece}
use Rattle.resh_progress.specs.Kinds.{ToDonate}
use Rattle.resh_progress.specs.Tellings.{has}
use Rattle.resh_setup.specs.Validity.{IsValid}
use Rattle.resh_setup.specs.declared.event.Event.TheVariants.{Clone, Fetch}
use Rattle.resh_setup.specs.declared.setup.Setup.{Setup}
use Rattle.resh_shard.specs.Writes.{shard_id}
use Rattle.resh_value.specs.declared.value.ShardId.{ShardId}
use Rattle.resh_invariant.specs.Courses.{course_of}
use Rattle.resh_invariant.specs.Keeping.{Keeps}
use Rattle.resh_invariant.specs.Recipients.{IsLinkKept, ReadsOn}
use Rattle.resh_invariant.specs.Sources.{Clones, sources_of}
use Rattle.resh_invariant.proofs.Going.{donating_told, goes_or_ends}
use Rattle.resh_invariant.proofs.Ones.{both, never}
use Rattle.resh_leading.specs.Leading.{AreAllCut, LeadsOn}
use Rattle.resh_ready.specs.Laws.{FetchesNothing, IsIdleLink}
use Rattle.resh_ready.proofs.Lists.{all_reach, all_two, first_off, le_of, le_true, lt_of, lt_true, nothing_more}
use Rattle.resh_ready.proofs.Pieces.{finds, found}

-- what the events of a link ask
apply_asks : (setup : Setup) (cluster : Cluster) (r d l : ℕ) → (link_in cluster r d).link.failed ≡ false
    → goes_on setup cluster (shard_id r) (shard_id d) l ≡ false
    → apply.may cluster r d l (last_cut (cut_for (link_in cluster r d).sent l) (number_of (lane_in cluster r l).at d)) ≡ false
unfolding may
apply_asks setup cluster r d l alive off = first_off _ (link_in cluster r d).link.failed alive off

clone_asks : (setup : Setup) (cluster : Cluster) (r d : ℕ) → (link_in cluster r d).link.read_out ≡ false
    → may_step setup cluster (next_reading setup cluster (shard_id r) (shard_id d)) ≡ false → clone.may cluster r d ≡ false
unfolding may
clone_asks setup cluster r d is off =
    sym (ap (λ t. may_step setup cluster (cond t (Fetch (shard_id r) (shard_id d)) (Clone (shard_id r) (shard_id d)))) is) ∙ off

fetch_asks : (setup : Setup) (cluster : Cluster) (r d : ℕ) → (link_in cluster r d).link.read_out ≡ true
    → may_step setup cluster (next_reading setup cluster (shard_id r) (shard_id d)) ≡ false → fetch.may cluster r d ≡ false
unfolding may
fetch_asks setup cluster r d is off =
    sym (ap (λ t. may_step setup cluster (cond t (Fetch (shard_id r) (shard_id d)) (Clone (shard_id r) (shard_id d)))) is) ∙ off

-- an open link without a batch out, which cuts none
empty : (opens : Bool) (out : Option Out) (items : List Item) → opens ≡ true → out ≡ None
    → (opens && (not (is_some out) && nat_lt 0 (length items))) ≡ false → items ≡ []
empty opens out [] is none off = refl
empty opens out (x ∷ items) is none off =
    never (sym (all_two opens (not (is_some out) && nat_lt 0 (length (x ∷ items))) is
    (all_two (not (is_some out)) (nat_lt 0 (length (x ∷ items))) (ap (λ (o : Option Out). not (is_some o)) none) (lt_true 0 (length (x ∷ items)) (omega arith)))) ∙ off)

module _ (setup : Setup) (state : State) (clones : Clones) (cluster : Cluster) (valid : IsValid setup) (keeps : Keeps setup state clones cluster)
    (leads : LeadsOn setup cluster) (none : cluster.control.decision ≡ None)
    (donate : (s : ℕ) → s < length setup.shards → donates (shard_in cluster s).donor.phase ≡ true)
    (r d : ℕ) (r_in : r < length setup.shards) (d_in : d < length setup.shards) (idle : IsIdleLink setup cluster r d) where
  abbrev cell : LinkCell
  cell = link_in cluster r d

  abbrev pub l : LinkOf
  l = (link_in cluster r d).link

  own_told : has (shard_in cluster r).donor.told ToDonate ≡ true
  own_told =
      donating_told (shard_in cluster r).donor
      (goes_or_ends cluster.control.phase cluster.control.decision (is_true_at cluster.control.told r) (shard_in cluster r).donor (keeps.donors r r_in).donor) (donate r r_in)

  pub kept : IsLinkKept setup r d (course_of cluster.control) (shard_in cluster r).donor (sources_of clones cluster r d) (link_in cluster r d)
  kept = (keeps.recipients r r_in).each_link d d_in

  pub reads : ReadsOn setup (course_of cluster.control) (sources_of clones cluster r d) l
  reads = kept.reads own_told

  opens : l.is_open ≡ true
  opens = leads.opened r d r_in d_in none own_told

  started : (lane : ℕ) → lane < setup.lanes → (lane_in cluster r lane).started ≡ true
  started lane lt = ((keeps.recipients r r_in).each_lane lane lt).started ∙ donate r r_in

  abbrev at : ℕ → ℕ
  at lane = number_of (lane_in cluster r lane).at d

  -- a lane at a piece that was cut applies it
  not_before : (o : Out) → AreAllCut setup.lanes cell (Some o) → (lane : ℕ) → lane < setup.lanes → at lane < number_of o.lanes lane → ⊥
  not_before o all lane lt before =
      let there = all lane (at lane) lt ((keeps.recipients r r_in).behind d lane d_in lt) before in
      let stands = ap (λ (p : Piece). p.position) there.1.2 ∙ there.2 in
      let one = finds (cut_for cell.sent lane) (at lane) there.1.0 there.0 there.1.1 (eq-eqb _ (at lane) stands) in
      let is = found (cut_for cell.sent lane) (at lane) one.0 one.1 in
      let whose : one.0.donor ≡ shard_id d = (kept.sent lane one.0 is.1).of.whose in
      let same : one.0.donor.0 ≡ d = ap (λ (q : ShardId). q.0) whose in
      let its : apply.may cluster r d lane (Some one.0) ≡ true =
      all_two ((lane_in cluster r lane).started && (one.0.donor.0 == d)) (one.0.position == number_of (lane_in cluster r lane).at one.0.donor.0)
      (all_two (lane_in cluster r lane).started (one.0.donor.0 == d) (started lane lt) (eq-eqb one.0.donor.0 d same))
      (ap (λ k. one.0.position == number_of (lane_in cluster r lane).at k) same ∙ is.0) in
      never (sym its ∙ sym (ap (apply.may cluster r d lane) one.1) ∙ apply_asks setup cluster r d lane (leads.alive r d none) (idle.applies lane lt))

  -- so each lane has come to the end of a batch that is out
  come : (o : Out) → AreAllCut setup.lanes cell (Some o) → (lane : ℕ) → lane < setup.lanes → number_of o.lanes lane ≤ at lane
  come o all lane lt = by (nat_le (number_of o.lanes lane) (at lane)) refl
    where
      by : (t : Bool) → nat_le (number_of o.lanes lane) (at lane) ≡ t → number_of o.lanes lane ≤ at lane
      by true is = le_of (number_of o.lanes lane) (at lane) is
      by false is = absurd (not_before o all lane lt (lt_of (number_of o.lanes lane) (at lane) is))

  pub none_out : l.out ≡ None
  none_out = by l.out refl (leads.cut r d r_in d_in)
    where
      by : (o : Option Out) → l.out ≡ o → AreAllCut setup.lanes cell o → l.out ≡ None
      by None is all = is
      by (Some o) is all =
          let reached : reach d (lanes_of cluster r) o.lanes ≡ true =
          all_reach d (lanes_of cluster r) o.lanes (λ lane lt. come o all lane (subst (λ n. lane < n) (keeps.recipients r r_in).lane_count lt)) in
          never (sym (all_two (l.is_open && is_some l.out) (reach d (lanes_of cluster r) (ends l))
          (all_two l.is_open (is_some l.out) opens (ap (λ (x : Option Out). is_some x) is))
          (ap (λ (x : Option Out). reach d (lanes_of cluster r) (ends_of l.kept x)) is ∙ reached)) ∙ idle.keeps)

  pub no_buffer : l.buffer ≡ []
  no_buffer = empty l.is_open l.out l.buffer opens none_out idle.cuts

  pub some_batch : 0 < l.batch
  some_batch = let is = kept.owned.batch in let some = valid.sizes.some_entries in omega (arith, is, some)

  room : has_room l ≡ true
  room = let long : length l.buffer ≡ 0 = ap length no_buffer in let some = some_batch in lt_true (length l.buffer) l.batch (omega (arith, long, some))

  pub read_out : l.read_out ≡ true
  read_out = by l.read_out refl idle.reads
    where
      by : (t : Bool) → l.read_out ≡ t → (may_step setup cluster (next_reading setup cluster (shard_id r) (shard_id d)) ≡ false) ⊎ FetchesNothing cluster r d → l.read_out ≡ true
      by true is reading = is
      by false is (inr fetches) = (both l.read_out (not l.reading.finished) (both l.is_open (l.read_out && not l.reading.finished) (both (may_fetch l) (has_room l) fetches.may).0).1).0
      by false is (inl off) =
          never (sym (all_two (may_clone l && donates (shard_in cluster d).donor.phase) (has_room l)
          (all_two (may_clone l) (donates (shard_in cluster d).donor.phase) (all_two l.is_open (not l.read_out) opens (ap not is)) (donate d d_in)) room)
          ∙ clone_asks setup cluster r d is off)

  -- its fetch gets nothing, or it has the last entry
  pub reading : (l.reading.finished ≡ true) ⊎ ((l.reading.finished ≡ false) × FetchesNothing cluster r d)
  reading = by l.reading.finished refl idle.reads
    where
      by : (t : Bool) → l.reading.finished ≡ t → (may_step setup cluster (next_reading setup cluster (shard_id r) (shard_id d)) ≡ false) ⊎ FetchesNothing cluster r d
          → (l.reading.finished ≡ true) ⊎ ((l.reading.finished ≡ false) × FetchesNothing cluster r d)
      by true is reading = inl is
      by false is (inr fetches) = inr (is, fetches)
      by false is (inl off) =
          never (sym (all_two (may_fetch l) (has_room l) (all_two l.is_open (l.read_out && not l.reading.finished) opens (all_two l.read_out (not l.reading.finished) read_out (ap not is))) room)
          ∙ fetch_asks setup cluster r d read_out off)

  -- what it has got is what is kept
  all_kept : reads.fits.front ++ (reads.fits.out ++ l.buffer) ≡ reads.fits.front
  all_kept =
      let no_sent : reads.fits.out ≡ [] = subst (λ o. OutStands setup.lanes l.kept o reads.fits.front reads.fits.out) none_out reads.fits.sent in
      ap (λ x. reads.fits.front ++ (x ++ l.buffer)) no_sent ∙ ap (λ x. reads.fits.front ++ x) no_buffer ∙ nothing_more reads.fits.front

  pub cloned : is_cloned l ≡ true
  cloned =
      let long : length (reads.fits.front ++ (reads.fits.out ++ l.buffer)) ≡ length reads.fits.front = ap length all_kept in
      let many = reads.fits.clones in
      let place = reads.fits.kept.place in
      all_two l.read_out (nat_le l.clones l.kept.place) read_out (le_true l.clones l.kept.place (omega (arith, long, many, place)))

  pub same_end : l.kept.finished ≡ l.reading.finished
  same_end =
      ap (λ (q : Reading). q.finished) reads.fits.kept.reading ∙ sym (ap (λ (f : List Item). (read_with f).finished) all_kept)
      ∙ sym (ap (λ (q : Reading). q.finished) reads.fits.reading)
