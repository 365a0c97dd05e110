-- A donor that tells more: its recipients' links and lanes go on standing in its feed.
use Rattle.std.proofs.Common.{◌≡◌, ◌≤◌, ◌<◌, ℕ, zero, suc, Bool, true, false, cond, List, [], ◌∷◌, ◌++◌, ◌+◌, length, map, filter, min, slice_index_or, Option, refl, sym, ap, subst, ◌∙◌, arith}
use Rattle.std.specs.List.{AllByRecursion, Contains}
use Rattle.resh_value.specs.declared.value.Value.{Value}
use Rattle.resh_value.specs.declared.value.ShardId.{ShardId}
use Rattle.resh_cells.specs.Cells.{no_lane, no_link}
use Rattle.resh_cells.specs.Cuts.{cut_for}
use Rattle.resh_cells.specs.declared.cluster.LinkCell.{LinkCell}
use Rattle.resh_coord.specs.declared.phase.Phase.{Phase}
use Rattle.resh_coord.specs.declared.phase.Phase.TheVariants.{Initializing, PreparingToDonate, Cloning, Applying, BlockingWrites, Committing, Aborting, Done}
use Rattle.resh_donor.specs.States as donor
use Rattle.resh_feed.specs.Feeds.{items_of, whats}
use Rattle.resh_feed.specs.Fits.{FitSlots}
use Rattle.resh_feed.specs.Items.{Document, fetched_item, has_final}
use Rattle.resh_feed.specs.Lanes.{is_on, lane_feed}
use Rattle.resh_feed.proofs.Fitting.{fits_longer}
use Rattle.resh_fetcher.specs.Laws.{StandsOn}
use Rattle.resh_fetcher.specs.Standing.{LinkFits, OutStands, StandsAt, IsEntry, kept_reading, read_with, IsReadOut}
use Rattle.resh_lane.specs.Feeds.{FitsFeed}
use Rattle.resh_lane.specs.Lanes.{LaneOf, number_of}
use Rattle.resh_oplog.specs.declared.entry.Entry.{Entry}
use Rattle.resh_oplog.specs.declared.entry.What.{What}
use Rattle.resh_oplog.specs.declared.entry.What.TheVariants.{Insert}
use Rattle.resh_oplog.specs.declared.piece.Piece.{Piece}
use Rattle.resh_place.specs.Cuts.{AreCutFrom}
use Rattle.resh_place.proofs.Cutting.{cuts_stand}
use Rattle.resh_place.proofs.Lists.{no_member}
use Rattle.resh_rules.specs.Pools.{held_of}
use Rattle.resh_rules.specs.Slots.{slot}
use Rattle.resh_setup.specs.declared.setup.Setup.{Setup}
use Rattle.resh_shard.specs.Writes.{shard_id}
use Rattle.resh_invariant.specs.Courses.{Course}
use Rattle.resh_invariant.specs.Frames.{Grows, longer, untold}
use Rattle.resh_invariant.specs.Recipients.{HasAll, IsLaneKept, IsLinkKept, IsRecipientKept, IsReported, IsUntouched}
use Rattle.resh_invariant.specs.Sources.{Source, feed_by, feeds_on}

filter_more : {X : Type 0} (p : X → Bool) (a b : List X) → filter p (a ++ b) ≡ filter p a ++ filter p b
filter_more p [] b = refl
filter_more p (x ∷ a) b = by (p x) (filter_more p a b)
  where
    by : (t : Bool) → filter p (a ++ b) ≡ filter p a ++ filter p b
        → cond t (x ∷ filter p (a ++ b)) (filter p (a ++ b)) ≡ cond t (x ∷ filter p a) (filter p a) ++ filter p b
    by true rest = ap (λ l. x ∷ l) rest
    by false rest = rest

nothing_more : {X : Type 0} (a : List X) → a ++ [] ≡ a
nothing_more [] = refl
nothing_more (x ∷ a) = ap (λ l. x ∷ l) (nothing_more a)

empty_of : {X : Type 0} (a : List X) → length a ≡ 0 → a ≡ []
empty_of [] e = refl
empty_of (x ∷ a) e = absurd (never (length a) e)
  where
    never : (n : ℕ) → suc n ≡ 0 → ⊥
    never n e = omega (arith, e)

never : {A : Type 0} → true ≡ false → A
never e = cc

-- more entries are more of a feed
feed_more : (ds : List Document) (es more : List Entry)
    → whats (items_of ds (es ++ more)) ≡ whats (items_of ds es) ++ whats (map fetched_item more)
feed_more [] [] more = refl
feed_more [] (e ∷ es) more = ap (λ l. e.what ∷ l) (feed_more [] es more)
feed_more (d ∷ ds) es more = ap (λ l. Insert d ∷ l) (feed_more ds es more)

feed_longer : (before now : Source) (more : List Entry) → now.documents ≡ before.documents
    → now.entries ≡ before.entries ++ more → feed_by now ≡ feed_by before ++ whats (map fetched_item more)
feed_longer before now more docs es =
    ap (λ ds. whats (items_of ds now.entries)) docs ∙ ap (λ l. whats (items_of before.documents l)) es
    ∙ feed_more before.documents before.entries more

-- a source that has ended grows no more
same_source : (before now : Source) → Grows before now → has_final before.entries ≡ true
    → (now.documents ≡ before.documents) × (now.entries ≡ before.entries)
same_source before now (longer more on docs es none) ended =
    (docs, es ∙ ap (λ l. before.entries ++ l) (none ended) ∙ nothing_more before.entries)
same_source before now (untold off unended) ended = never (sym ended ∙ unended)

same_feed : (before now : Source) → Grows before now → has_final before.entries ≡ true → feed_by now ≡ feed_by before
same_feed before now grows ended =
    let same = same_source before now grows ended in
    ap (λ ds. whats (items_of ds now.entries)) same.0 ∙ ap (λ l. whats (items_of before.documents l)) same.1

-- a link of which nothing was got stands in any feed
module _ (n : ℕ) (docs docs0 : List Document) (es es0 : List Entry) (cell : LinkCell) (is : IsUntouched cell)
    (was : LinkFits n docs0 es0 cell.link) where
  front_empty : was.front ≡ []
  front_empty = empty_of was.front (sym was.kept.place ∙ is.place)

  out_empty : was.out ≡ []
  out_empty = subst (λ o. OutStands n cell.link.kept o was.front was.out) is.out was.sent

  all_empty : was.front ++ (was.out ++ cell.link.buffer) ≡ []
  all_empty =
      ap (λ l. l ++ (was.out ++ cell.link.buffer)) front_empty ∙ ap (λ l. l ++ cell.link.buffer) out_empty ∙ is.buffer

  no_clones : cell.link.clones ≡ 0
  no_clones = was.clones ∙ ap (λ l. min (length docs0) (length l)) all_empty ∙ least (length docs0)
    where
      least : (k : ℕ) → min k 0 ≡ 0
      least k = omega arith

  pub untouched_fits : LinkFits n docs es cell.link
  untouched_fits = record {
    front = [];
    out = [];
    rest = items_of docs es;
    parts = subst (λ b. items_of docs es ≡ [] ++ ([] ++ (b ++ items_of docs es))) (sym is.buffer) refl;
    kept = subst (λ f. StandsAt n f cell.link.kept.place cell.link.kept.lanes (kept_reading cell.link.kept)) front_empty was.kept;
    sent = subst (λ o. OutStands n cell.link.kept o [] []) (sym is.out) refl;
    reading = was.reading ∙ ap read_with (all_empty ∙ sym is.buffer);
    unread = λ none. subst (λ b. AllByRecursion (λ item. IsEntry item.after) ([] ++ b)) (sym is.buffer) tt;
    clones = no_clones ∙ sym (least (length docs)) ∙ ap (λ b. min (length docs) (length b)) (sym is.buffer);
    read_out = subst (λ b. IsReadOut b (length docs) (length ([] ++ ([] ++ cell.link.buffer)))) (sym is.read_out)
        (subst (λ b. length b ≤ length docs) (sym is.buffer) (first (length docs)));
    kept_out = subst (λ b. IsReadOut b (length docs) 0) (sym is.kept_out) (first (length docs));
  }
    where
      least : (k : ℕ) → min k 0 ≡ 0
      least k = omega arith

      first : (k : ℕ) → 0 ≤ k
      first k = omega arith

-- nothing that was cut stands in any feed
none_cut : (sent : List (List Piece)) → AllByRecursion (λ (pieces : List Piece). pieces ≡ []) sent → (l : ℕ)
    → cut_for sent l ≡ []
none_cut [] all l = refl
none_cut (pieces ∷ sent) all zero = all.0
none_cut (pieces ∷ sent) all (suc l) = none_cut sent all.1 l

pub untouched_cuts : (lanes : ℕ) (donor : ShardId) (feed : List What) (sent : List (List Piece))
    → AllByRecursion (λ (pieces : List Piece). pieces ≡ []) sent → AreCutFrom lanes donor feed sent
untouched_cuts lanes donor feed sent none l piece there =
    absurd (no_member piece (subst (λ ps. Contains ps piece) (none_cut sent none l) there))

-- a link's part
pub link_grows : StandsOn → (setup : Setup) (r d : ℕ) (course : Course) (own : donor.State) (before now : Source)
    (cell : LinkCell) → Grows before now → IsLinkKept setup r d course own before cell
    → IsLinkKept setup r d course own now cell
link_grows stands setup r d course own before now cell (longer more on docs es none) kept = record {
  owned = kept.owned;
  cuts = kept.cuts;
  started = kept.started;
  opened = kept.opened;
  reads = λ begun. let reads = kept.reads begun in record {
    time = reads.time;
    fits = subst (λ ds. LinkFits setup.lanes ds now.entries cell.link) (sym docs)
        (subst (λ l. LinkFits setup.lanes before.documents l cell.link) (sym es)
        (stands.longer setup.lanes before.documents before.entries more cell.link reads.fits));
  };
  sent = subst (λ f. AreCutFrom setup.lanes (shard_id d) f cell.sent) (sym (feed_longer before now more docs es))
      (cuts_stand.longer setup.lanes (shard_id d) (feed_by before) (whats (map fetched_item more)) cell.sent kept.sent);
  untold = λ off. kept.untold (on off);
  unused = kept.unused;
}
link_grows stands setup r d course own before now cell (untold off unended) kept = record {
  owned = kept.owned;
  cuts = kept.cuts;
  started = kept.started;
  opened = kept.opened;
  reads = λ begun. let reads = kept.reads begun in record {
    time = reads.time;
    fits = untouched_fits setup.lanes now.documents before.documents now.entries before.entries cell (kept.untold off) reads.fits;
  };
  sent = untouched_cuts setup.lanes (shard_id d) (feed_by now) cell.sent (kept.untold off).sent;
  untold = λ _. kept.untold off;
  unused = kept.unused;
}

-- slots that have taken nothing fit any feed
untaken_slots : (slots : Value → Option Document) (at high : ℕ) (feed other : List What) → high ≡ 0
    → FitSlots slots at high feed → FitSlots slots at high other
untaken_slots slots at high feed other none fits =
    subst (λ h. FitSlots slots at h feed → FitSlots slots at h other) (sym none)
    (λ was. record {
      reached = was.reached;
      within = least (length other);
      slots = λ id. record { formed = (was.slots id).formed; again = λ from le. (was.slots id).again from le };
    }) fits
  where
    least : (k : ℕ) → 0 ≤ k
    least k = omega arith

longer_slots : (slots : Value → Option Document) (at high : ℕ) (feed more : List What)
    → FitSlots slots at high feed → FitSlots slots at high (feed ++ more)
longer_slots slots at high feed more was = record {
  reached = was.reached;
  within = within feed more was.within;
  slots = λ id. fits_longer id feed more at high (slots id) was.within (was.slots id);
}
  where
    within : (a b : List What) → high ≤ length a → high ≤ length (a ++ b)
    within a b le = let e = length_more a b in omega (arith, le, e)
      where
        length_more : (a b : List What) → length (a ++ b) ≡ length a + length b
        length_more [] b = omega arith
        length_more (x ∷ a) b = let e = length_more a b in omega (arith, e)

-- a lane's part
pub lane_grows : (setup : Setup) (l : ℕ) (own : donor.State) (before now : ℕ → Source) (lane : LaneOf)
    → ((d : ℕ) → d < length setup.shards → Grows (before d) (now d))
    → IsLaneKept setup l own before lane → IsLaneKept setup l own now lane
lane_grows setup l own before now lane grows kept = record {
  sound = kept.sound;
  pool = kept.pool;
  chunks = kept.chunks;
  stashes = kept.stashes;
  started = kept.started;
  fits = λ on. record { each = λ d lt. slots d (inside d lt) (grows d (inside d lt)) ((kept.fits on).each d lt) };
  untold = λ d lt off. high d lt (grows d lt) off;
  unused = kept.unused;
}
  where
    inside : (d : ℕ) → d < length lane.pool.stashes → d < length setup.shards
    inside d lt = subst (λ n. d < n) kept.stashes lt

    slots : (d : ℕ) → d < length setup.shards → Grows (before d) (now d)
        → FitsFeed lane.pool.chunks lane.pool d (number_of lane.at d) (number_of lane.high d) (feeds_on setup.lanes l before d)
        → FitsFeed lane.pool.chunks lane.pool d (number_of lane.at d) (number_of lane.high d) (feeds_on setup.lanes l now d)
    slots d lt (longer more on docs es none) was =
        subst (λ f. FitsFeed lane.pool.chunks lane.pool d (number_of lane.at d) (number_of lane.high d) f)
        (sym (ap (lane_feed setup.lanes l) (feed_longer (before d) (now d) more docs es)
        ∙ filter_more (is_on setup.lanes l) (feed_by (before d)) (whats (map fetched_item more))))
        (longer_slots (λ id. slot lane.pool.chunks (held_of lane.pool id) d) (number_of lane.at d) (number_of lane.high d)
        (feeds_on setup.lanes l before d) (lane_feed setup.lanes l (whats (map fetched_item more))) was)
    slots d lt (untold off unended) was =
        untaken_slots (λ id. slot lane.pool.chunks (held_of lane.pool id) d) (number_of lane.at d) (number_of lane.high d)
        (feeds_on setup.lanes l before d) (feeds_on setup.lanes l now d) (kept.untold d lt off) was

    high : (d : ℕ) → d < length setup.shards → Grows (before d) (now d) → (now d).donating ≡ false
        → number_of lane.high d ≡ 0
    high d lt (longer more on docs es none) off = kept.untold d lt (on off)
    high d lt (untold was unended) off = kept.untold d lt was

-- and a recipient's
module _ (setup : Setup) (links : List LinkCell) (lanes : List LaneOf) (before now : ℕ → Source)
    (grows : (d : ℕ) → d < length setup.shards → Grows (before d) (now d)) where
  all_grows : HasAll setup before links lanes → HasAll setup now links lanes
  all_grows all = record {
    finished = all.finished;
    ended = λ d lt. ap has_final (same_source (before d) (now d) (grows d lt) (all.ended d lt)).1 ∙ all.ended d lt;
    at = λ l d l_in d_in. all.at l d l_in d_in
        ∙ ap (λ f. length (lane_feed setup.lanes l f)) (sym (same_feed (before d) (now d) (grows d d_in) (all.ended d d_in)));
  }

  report_grows : (phase : Phase) (reported : Bool) (clash : Option Value) (own : donor.State)
      → IsReported setup phase reported clash own before links lanes
      → IsReported setup phase reported clash own now links lanes
  report_grows BlockingWrites reported clash own was = λ on. (all_grows (was on).0, (was on).1)
  report_grows Committing reported clash own was = λ on. all_grows (was on)
  report_grows Initializing reported clash own was = tt
  report_grows PreparingToDonate reported clash own was = tt
  report_grows Cloning reported clash own was = tt
  report_grows Applying reported clash own was = tt
  report_grows Aborting reported clash own was = tt
  report_grows Done reported clash own was = tt

  pub recipient_grows : StandsOn → (r : ℕ) (course : Course) (reported : Bool) (clash : Option Value)
      (own : donor.State) → IsRecipientKept setup r course reported clash own before links lanes
      → IsRecipientKept setup r course reported clash own now links lanes
  recipient_grows stands r course reported clash own kept = record {
    link_count = kept.link_count;
    lane_count = kept.lane_count;
    each_link = λ d lt. link_grows stands setup r d course own (before d) (now d) (slice_index_or links d no_link) (grows d lt) (kept.each_link d lt);
    each_lane = λ l lt. lane_grows setup l own before now (slice_index_or lanes l no_lane) grows (kept.each_lane l lt);
    behind = kept.behind;
    reports = report_grows course.phase reported clash own kept.reports;
  }
