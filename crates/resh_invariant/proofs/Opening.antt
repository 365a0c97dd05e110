-- The opening state keeps the invariant.
use Rattle.std.proofs.Common.{◌≡◌, ◌≤◌, ◌<◌, ◌^◌, ◌==◌, ◌&&◌, ℕ, zero, suc, Bool, true, false, cond, List, [], ◌∷◌, length, map, filter, replicate, nat_le, nat_lt, slice_index_or, Option, None, refl, sym, ap, subst, ◌∙◌, arith, rules}
use Rattle.std.proofs.lemmas.List.{get_or-replicate, length-map, length-replicate}
use Rattle.std.proofs.lemmas.List.FromFn.{get_or-map-range_with_len, length-map-range_with_len}
use Rattle.std.specs.FinMap.{empty, get, get-empty}
use Rattle.std.specs.List.{AllByRecursion, range_with_len}
use Rattle.std.specs.List.Sorted.{IsStrictlySortedBy}
use Rattle.resh_value.specs.Order.{compare_of}
use Rattle.resh_value.specs.Whole.{IsWhole}
use Rattle.resh_value.proofs.WholeLaws.{whole_decides}
use Rattle.resh_value.specs.declared.value.Value.{Value}
use Rattle.resh_bag.specs.Answer.{text_limit}
use Rattle.resh_bag.specs.Bag.{opening_bag}
use Rattle.resh_bag.proofs.bags.Opening.{opens_placed}
use Rattle.resh_bag.proofs.bags.WholeHeld.{opens}
use Rattle.resh_cells.specs.Cells.{client_in, lanes_of, links_of, no_client, no_lane, no_link, no_shard, shard_in}
use Rattle.resh_cells.specs.Clocks.{clock_of}
use Rattle.resh_cells.specs.declared.cell.Cell.TheVariants as cell
use Rattle.resh_cells.specs.declared.cluster.ClientCell.{ClientCell}
use Rattle.resh_cells.specs.declared.cluster.LinkCell.{LinkCell}
use Rattle.resh_cells.specs.declared.cluster.ShardCell.{ShardCell}
use Rattle.resh_chunks.specs.Chunks.{Chunks, owner_of}
use Rattle.resh_coord.specs.Control.{is_true_at}
use Rattle.resh_coord.specs.declared.phase.Phase.TheVariants.{Initializing}
use Rattle.resh_donor.specs.States as donor
use Rattle.resh_events.specs.Opening.{documents_at, opening, opening_lane, opening_link, opening_shard}
use Rattle.resh_feed.specs.Items.{Document}
use Rattle.resh_lane.specs.Lanes.{number_of}
use Rattle.resh_lane.proofs.Fitting.{zeros}
use Rattle.resh_lane.proofs.Staying.{stays_lane}
use Rattle.resh_model.specs.Orders as orders
use Rattle.resh_model.proofs.bags.ValidSetups.{valid_is_whole}
use Rattle.resh_oplog.specs.declared.entry.What.TheVariants.{Insert}
use Rattle.resh_oplog.specs.declared.piece.Piece.{Piece}
use Rattle.resh_place.proofs.Cutting.{cuts_stand}
use Rattle.resh_rules.specs.Pools.{IsPool, empty_pool, waiting_of}
use Rattle.resh_rules.specs.Slots.{IsSound}
use Rattle.resh_rules.proofs.Ruling.{empty_sound}
use Rattle.resh_command.specs.declared.reply.Reply.{Reply}
use Rattle.resh_setup.specs.declared.client.Client.{Client}
use Rattle.resh_setup.specs.Validity.{IsValid}
use Rattle.resh_setup.specs.declared.setup.Setup.{Setup}
use Rattle.resh_shard.specs.Shards.{opened}
use Rattle.resh_shard.specs.Writes.{shard_id}
use Rattle.resh_cells.specs.Belonging.{IsShardOf}
use Rattle.resh_feed.specs.Feeds.{items_of, whats}
use Rattle.resh_lane.specs.Lanes.{LaneOf}
use Rattle.resh_oplog.specs.Logs.{IsLog}
use Rattle.resh_shard.specs.declared.act.Which.TheVariants.{Old, New}
use Rattle.resh_story.specs.Stories.{HasStory, clones_of}
use Rattle.resh_story.proofs.Keeping.{keeps_story, opens_story}
use Rattle.resh_versions.specs.Chains as stands
use Rattle.resh_versions.specs.Standing.{standing}
use Rattle.resh_keeping.proofs.Kept as keeping
use Rattle.resh_invariant.specs.Courses.{course_of}
use Rattle.resh_invariant.specs.Donors.{IsDonorKept}
use Rattle.resh_invariant.specs.Items.{AreItemsOf, IsItemOf}
use Rattle.resh_invariant.specs.Keeping.{HoldsPlace, IsClientKept, Keeps}
use Rattle.resh_invariant.specs.Laws.{OpensKept}
use Rattle.resh_invariant.specs.Recipients.{IsLaneKept, IsLinkKept, IsRecipientKept}
use Rattle.resh_invariant.specs.Sources.{Source, feed_by, sources_of, told_clones}
use Rattle.resh_invariant.proofs.Ones.{both}
use Rattle.resh_invariant.proofs.Loading.{blank, loaded_floor, loaded_holds, loaded_into, loaded_items, loaded_shard}

never : {A : Type 0} → true ≡ false → A
never e = cc

-- a lane and a link that are made
none_waits : (n : ℕ) (id : Value) (d : ℕ) → slice_index_or (waiting_of (replicate n empty) id) d None ≡ None
none_waits zero id d = refl
none_waits (suc n) id zero = get-empty compare_of id
none_waits (suc n) id (suc d) = none_waits n id d

empty_is_pool : (old_map : Chunks) (n : ℕ) → n < 2 ^ 32 → IsPool (empty_pool old_map n)
empty_is_pool old_map n few = record {
  sound = λ id.
      let nothing : get empty id ≡ None = get-empty compare_of id in
      subst (λ o. IsSound old_map id (record { output = o; waiting = waiting_of (replicate n empty) id })) (sym nothing)
      (empty_sound old_map id (waiting_of (replicate n empty) id) (none_waits n id));
  few = let many = length-replicate n (empty {X = Document} {R = compare_of}) in omega (arith, many, few);
}

no_pieces : (n : ℕ) → AllByRecursion (λ (pieces : List Piece). pieces ≡ []) (replicate n [])
no_pieces zero = tt
no_pieces (suc n) = (refl, no_pieces n)

whole_stored : (ds : List Document) → AllByRecursion IsWhole ds → AllByRecursion stands.IsStored ds
whole_stored [] all = tt
whole_stored (d ∷ ds) all = ((whole_decides d).1 all.0, whole_stored ds all.1)

nothing_logged : IsLog []
unfolding IsStrictlySortedBy
nothing_logged = record { rising = tt; whole = λ k d h. search rules; marked = λ k d h. search rules }

few_shards : (n : ℕ) (named : Bool) → (nat_lt 0 n && nat_le n 8 && named) ≡ true → n < 2 ^ 32
few_shards n named is =
    let le : n ≤ 8 = within n (both (nat_lt 0 n) (nat_le n 8) (both (nat_lt 0 n && nat_le n 8) named is).0).1 in
    omega (arith, le)
  where
    within : (n : ℕ) → nat_le n 8 ≡ true → n ≤ 8
    within n e = search (arith, rules)

module _ (setup : Setup) (valid : IsValid setup) where
  abbrev n : ℕ
  n = length setup.shards

  few : length setup.shards < 2 ^ 32
  few = few_shards (length setup.shards) _ valid.shards

  link_kept : (r d : ℕ) (source : Source) → IsLinkKept setup r d (course_of (opening setup).control) donor.at_first source (opening_link setup r d)
  link_kept r d source = record {
    owned = record { recipient = refl; donor = refl; lanes = refl; batch = refl };
    cuts = length-replicate setup.lanes [];
    started = refl;
    opened = λ e. never (sym e);
    reads = λ e. never (sym e);
    sent = cuts_stand.begun setup.lanes setup.lanes (shard_id d) (feed_by source);
    untold = λ off. record { place = refl; out = refl; buffer = refl; read_out = refl; kept_out = refl; sent = no_pieces setup.lanes };
    unused = λ none off. refl;
  }

  lane_kept : (l : ℕ) (sources : ℕ → Source) → IsLaneKept setup l donor.at_first sources (opening_lane setup)
  lane_kept l sources = record {
    sound = stays_lane.begun setup.old_map (length setup.shards);
    pool = empty_is_pool setup.old_map (length setup.shards) few;
    chunks = refl;
    stashes = length-replicate (length setup.shards) empty;
    started = refl;
    fits = λ e. never (sym e);
    untold = λ d lt off. zeros (length setup.shards) d;
    unused = λ on. refl;
  }

  -- a shard as it opens
  abbrev own : ℕ → List Document
  own s = documents_at setup s

  shard_at : (s : ℕ) → s < length setup.shards → shard_in (opening setup) s ≡ opening_shard setup s
  shard_at s lt = get_or-map-range_with_len (opening_shard setup) 0 (length setup.shards) s s no_shard lt (omega arith)

  abbrev loaded_cell : ℕ → ShardCell
  loaded_cell s = record (opening_shard setup s) {
    shard = record (opened (shard_id s) setup.old_map setup.new_map text_limit) { versions = loaded_into blank (own s) };
  }

  loaded_at : (s : ℕ) → opening_shard setup s ≡ loaded_cell s
  loaded_at s = ap (λ x. record (opening_shard setup s) { shard = x }) (loaded_shard (own s) (opened (shard_id s) setup.old_map setup.new_map text_limit))

  cell_at : (s : ℕ) → s < length setup.shards → shard_in (opening setup) s ≡ loaded_cell s
  cell_at s lt = shard_at s lt ∙ loaded_at s

  stored : AllByRecursion stands.IsStored setup.documents
  stored = whole_stored setup.documents (valid_is_whole setup valid).documents

  own_stored : (s : ℕ) (ds : List Document) → AllByRecursion stands.IsStored ds → AllByRecursion stands.IsStored (filter (λ d. owner_of setup.old_map d == s) ds)
  own_stored s [] all = tt
  own_stored s (d ∷ ds) all = by (owner_of setup.old_map d == s) (own_stored s ds all.1)
    where
      by : (t : Bool) → AllByRecursion stands.IsStored (filter (λ d. owner_of setup.old_map d == s) ds)
          → AllByRecursion stands.IsStored (cond t (d ∷ filter (λ d. owner_of setup.old_map d == s) ds) (filter (λ d. owner_of setup.old_map d == s) ds))
      by true rest = (all.0, rest)
      by false rest = rest

  story : (s : ℕ) → HasStory 0 (loaded_cell s).shard
  story s = subst (λ x. HasStory 0 x) (loaded_shard (own s) (opened (shard_id s) setup.old_map setup.new_map text_limit))
      (opens_story (shard_id s) setup.old_map setup.new_map text_limit (own s) (own_stored s setup.documents stored))

  of_setup : (s : ℕ) → s < length setup.shards → IsShardOf setup s (loaded_cell s).shard
  of_setup s lt = subst (λ (x : ShardCell). IsShardOf setup s x.shard) (cell_at s lt)
      (let is = keeping.opens setup in is.each s (subst (λ k. s < k) (sym is.count) lt))

  items : (s : ℕ) (time : ℕ) → AllByRecursion (λ d. IsItemOf setup.old_map s (Insert d)) (standing (loaded_cell s).shard.versions time)
  items s time = loaded_items setup.old_map s setup.documents (valid_is_whole setup valid).documents (story s).dated.filed (story s).dated.up_to time

  donor_kept : (s : ℕ) (told : Bool) (clock : ℕ) → s < length setup.shards
      → IsDonorKept setup s (course_of (opening setup).control) told 0 (λ r. clones_of (loaded_cell s).shard 0 r) clock (loaded_cell s)
  donor_kept s told clock lt = record {
    of = of_setup s lt;
    donor = refl;
    serves = record { names = refl; blocked = refl; which = refl };
    story = keeps_story.waits 0 clock (loaded_cell s).shard (story s) (least clock);
    log = nothing_logged;
    stored = λ off. record { documents = items s; entries = tt };
    prepared = λ e. never (sym e);
    named = λ none e. never e;
    past = λ e. never (sym e);
    floor = λ off. subst (λ k. k ≤ 0) (sym (loaded_floor (own s) blank)) (least 0);
    cloned = λ le r r_in. refl;
    unsealed = λ off. refl;
    whole = λ off r. refl;
    sealed = λ e. never (sym e);
    items = λ r r_in. fed (clones_of (loaded_cell s).shard 0 r)
        (filter_all (λ d. IsItemOf setup.old_map s (Insert d)) (λ d. owner_of setup.new_map d == r) (standing (loaded_cell s).shard.versions 0) (items s 0));
  }
    where
      least : (k : ℕ) → 0 ≤ k
      least k = omega arith

      fed : (ds : List Document) → AllByRecursion (λ d. IsItemOf setup.old_map s (Insert d)) ds → AreItemsOf setup.old_map s (whats (items_of ds []))
      fed [] all = tt
      fed (d ∷ ds) all = (all.0, fed ds all.1)

      filter_all : (P : Document → Type 0) (p : Document → Bool) (ds : List Document) → AllByRecursion P ds → AllByRecursion P (filter p ds)
      filter_all P p [] all = tt
      filter_all P p (d ∷ ds) all = by (p d) (filter_all P p ds all.1)
        where
          by : (t : Bool) → AllByRecursion P (filter p ds) → AllByRecursion P (cond t (d ∷ filter p ds) (filter p ds))
          by true rest = (all.0, rest)
          by false rest = rest

  links_at : (r : ℕ) → r < length setup.shards → links_of (opening setup) r ≡ map (opening_link setup r) (range_with_len 0 (length setup.shards))
  links_at r lt = get_or-map-range_with_len (λ r. map (opening_link setup r) (range_with_len 0 (length setup.shards))) 0 (length setup.shards) r r [] lt (omega arith)

  lanes_at : (r : ℕ) → r < length setup.shards → lanes_of (opening setup) r ≡ replicate setup.lanes (opening_lane setup)
  lanes_at r lt = get_or-replicate (length setup.shards) r (replicate setup.lanes (opening_lane setup)) [] lt

  link_at : (r d : ℕ) → d < length setup.shards → slice_index_or (map (opening_link setup r) (range_with_len 0 (length setup.shards))) d no_link ≡ opening_link setup r d
  link_at r d lt = get_or-map-range_with_len (opening_link setup r) 0 (length setup.shards) d d no_link lt (omega arith)

  lane_at : (l : ℕ) → l < setup.lanes → slice_index_or (replicate setup.lanes (opening_lane setup)) l no_lane ≡ opening_lane setup
  lane_at l lt = get_or-replicate setup.lanes l (opening_lane setup) no_lane lt

  recipient_kept : (r : ℕ) (reported : Bool) (clash : Option Value) (sources : ℕ → Source)
      → IsRecipientKept setup r (course_of (opening setup).control) reported clash donor.at_first sources
      (map (opening_link setup r) (range_with_len 0 (length setup.shards))) (replicate setup.lanes (opening_lane setup))
  recipient_kept r reported clash sources = record {
    link_count = length-map-range_with_len (opening_link setup r) 0 (length setup.shards);
    lane_count = length-replicate setup.lanes (opening_lane setup);
    each_link = λ d lt. subst (λ x. IsLinkKept setup r d (course_of (opening setup).control) donor.at_first (sources d) x) (sym (link_at r d lt)) (link_kept r d (sources d));
    each_lane = λ l lt. subst (λ x. IsLaneKept setup l donor.at_first sources x) (sym (lane_at l lt)) (lane_kept l sources);
    behind = λ d l d_in l_in.
        subst (λ (x : LinkCell). number_of x.link.kept.lanes l ≤ number_of (slice_index_or (replicate setup.lanes (opening_lane setup)) l no_lane).at d) (sym (link_at r d d_in))
        (below (number_of (replicate setup.lanes 0) l) (number_of (slice_index_or (replicate setup.lanes (opening_lane setup)) l no_lane).at d) (zeros setup.lanes l));
    reports = tt;
  }
    where
      below : (a b : ℕ) → a ≡ 0 → a ≤ b
      below a b e = omega (arith, e)

  client_at : (c : ℕ) → c < length setup.clients → client_in (opening setup) c ≡ no_client
  client_at c lt = get_or-replicate (length setup.clients) c no_client no_client lt

  abbrev no_replies : List Reply
  no_replies = []

  no_answers : (xs : List Client) (c : ℕ) → slice_index_or (map (λ (x : Client). no_replies) xs) c no_replies ≡ no_replies
  no_answers [] c = refl
  no_answers (x ∷ xs) zero = refl
  no_answers (x ∷ xs) (suc c) = no_answers xs c

  held_at_first : (s : ℕ) → s < length setup.shards → (lanes : List LaneOf) → HoldsPlace setup Initializing (loaded_cell s) lanes (opening_bag setup.old_map setup.documents) s
  held_at_first s lt lanes id = loaded_holds setup.old_map s setup.documents valid.documents.distinct id

  pub opening_keeps : Keeps setup (orders.opening setup) (told_clones (opening setup)) (opening setup)
  opening_keeps = record {
    shard_count = length-map-range_with_len (opening_shard setup) 0 (length setup.shards);
    clock_count = length-replicate (length setup.shards) 0;
    lane_rows = length-replicate (length setup.shards) (replicate setup.lanes (opening_lane setup));
    link_rows = length-map-range_with_len (λ r. map (opening_link setup r) (range_with_len 0 (length setup.shards))) 0 (length setup.shards);
    client_count = length-replicate (length setup.clients) no_client;
    answered = length-map setup.clients (λ (x : Client). no_replies);
    noted = record {
      told = length-replicate (length setup.shards) false;
      reported = length-replicate (length setup.shards) false;
      clashes = length-replicate (length setup.shards) None;
    };
    decided = record {
      stage = (refl, refl);
      map = refl;
      placed = opens_placed.placed setup.old_map setup.documents;
      whole = opens setup.old_map setup.documents (valid_is_whole setup valid).documents;
      fetch = omega arith;
    };
    clients = λ c lt. subst (λ (x : ClientCell). IsClientKept None (orders.replies_to (orders.opening setup) c) x) (sym (client_at c lt))
        (record { answers = sym (no_answers setup.clients c); knows = λ e. absurd (apart e) });
    donors = λ s lt. subst (λ (x : ShardCell). IsDonorKept setup s (course_of (opening setup).control) (is_true_at (opening setup).control.told s) 0 (λ r. clones_of x.shard 0 r)
        (clock_of (opening setup).clocks (cell.Shard s)) x) (sym (cell_at s lt)) (donor_kept s (is_true_at (opening setup).control.told s) (clock_of (opening setup).clocks (cell.Shard s)) lt);
    recipients = λ r lt.
        subst (λ (x : ShardCell). IsRecipientKept setup r (course_of (opening setup).control) (is_true_at (opening setup).control.reported r) (slice_index_or (opening setup).control.clashes r None) x.donor
        (sources_of (told_clones (opening setup)) (opening setup) r) (links_of (opening setup) r) (lanes_of (opening setup) r)) (sym (cell_at r lt))
        (subst (λ ks. IsRecipientKept setup r (course_of (opening setup).control) (is_true_at (opening setup).control.reported r) (slice_index_or (opening setup).control.clashes r None) donor.at_first
        (sources_of (told_clones (opening setup)) (opening setup) r) ks (lanes_of (opening setup) r)) (sym (links_at r lt))
        (subst (λ ls. IsRecipientKept setup r (course_of (opening setup).control) (is_true_at (opening setup).control.reported r) (slice_index_or (opening setup).control.clashes r None) donor.at_first
        (sources_of (told_clones (opening setup)) (opening setup) r) (map (opening_link setup r) (range_with_len 0 (length setup.shards))) ls) (sym (lanes_at r lt))
        (recipient_kept r (is_true_at (opening setup).control.reported r) (slice_index_or (opening setup).control.clashes r None) (sources_of (told_clones (opening setup)) (opening setup) r))));
    contents = λ s lt. subst (λ (x : ShardCell). HoldsPlace setup Initializing x (lanes_of (opening setup) s) (opening_bag setup.old_map setup.documents) s) (sym (cell_at s lt))
        (held_at_first s lt (lanes_of (opening setup) s));
  }
    where
      apart : Old ≡ New → ⊥
      apart e = cc

pub opens_kept : OpensKept
opens_kept = opening_keeps
