-- Each piece that a link ever cut stands in its donor's feed.
use Rattle.std.proofs.Common.{◌≡◌, ◌<◌, ◌+◌, ◌-◌, ◌==◌, ◌⊎◌, inl, inr, ⊎_elim, ℕ, zero, suc, Bool, true, false, ◌&&◌, nat_lt, List, [], ◌∷◌, ◌++◌, drop, length, map, replicate, slice_index, slice_index_or, slice_set, take, Some, refl, sym, ap, subst, ◌∙◌, arith}
use Rattle.std.proofs.lemmas.Bool.{eqb-true}
use Rattle.std.proofs.lemmas.List.{append_assoc, map-append, take-append-drop}
use Rattle.std.proofs.lemmas.List.Elements.{Contains-append_cases, filter-append}
use Rattle.std.specs.List.{Contains, list_all, range_with_len, slice_get}
use Rattle.resh_value.specs.Limits.{end_of_places}
use Rattle.resh_value.specs.declared.value.ShardId.{ShardId}
use Rattle.resh_bag.proofs.Lists.{was_there}
use Rattle.resh_cells.specs.Cuts.{cut_for, joined, joined_from, with_part}
use Rattle.resh_cells.specs.declared.cluster.LinkCell.{LinkCell}
use Rattle.resh_events.specs.rows.Cut.{batch_at, cut_at}
use Rattle.resh_feed.specs.Feeds.{whats}
use Rattle.resh_feed.specs.Lanes.{counts_after, id_lane, is_on, lane_feed}
use Rattle.resh_feed.specs.declared.item.Item.{Item}
use Rattle.resh_feed.proofs.Positions.{counts_long}
use Rattle.resh_lane.specs.Lanes.{end_of_positions}
use Rattle.resh_oplog.specs.declared.entry.What.{What}
use Rattle.resh_oplog.specs.declared.piece.Piece.{Piece}
use Rattle.resh_place.specs.Cuts.{AreCutFrom, IsCutFor}
use Rattle.resh_place.specs.Laws.{CutsStand}
use Rattle.resh_place.proofs.Lists.{no_member}
use Rattle.resh_place.proofs.Standing.{pieces_below, pieces_stand, within}
use Rattle.resh_split.specs.Laws.{CountBefore, IsPieceOf}
use Rattle.resh_split.specs.Parts.{are_below_end, is_below_end, part_of, parts_of, pieces}

-- what is at a place of a list with one place set
set_cases : (sent : List (List Piece)) (at l : ℕ) (now : List Piece) (p : Piece) → Contains (slice_index_or (slice_set sent at now) l []) p
    → Contains (slice_index_or sent l []) p ⊎ ((at ≡ l) × Contains now p)
set_cases [] at l now p there = inl there
set_cases (x ∷ xs) zero zero now p there = inr (refl, there)
set_cases (x ∷ xs) zero (suc l) now p there = inl there
set_cases (x ∷ xs) (suc at) zero now p there = inl there
set_cases (x ∷ xs) (suc at) (suc l) now p there = ⊎_elim (λ k. inl k) (λ k. inr (ap suc k.0, k.1)) (set_cases xs at l now p there)

-- a piece behind a lane's pieces is one of them, or of the part
part_cases : (sent : List (List Piece)) (at l : ℕ) (part : List Piece) (p : Piece) → Contains (cut_for (with_part at part sent) l) p → Contains (cut_for sent l) p ⊎ ((at ≡ l) × Contains part p)
part_cases sent at l part p there =
    ⊎_elim (λ k. inl k)
    (λ k. ⊎_elim (λ old. inl (subst (λ n. Contains (cut_for sent n) p) k.0 old)) (λ new. inr (k.0, new)) (Contains-append_cases (cut_for sent at) part p k.1))
    (set_cases sent at l (cut_for sent at ++ part) p there)

joined_cases : (from : ℕ) (sent parts : List (List Piece)) (l : ℕ) (p : Piece) → Contains (cut_for (joined_from from sent parts) l) p
    → Contains (cut_for sent l) p ⊎ ((k : ℕ) × (from + k ≡ l) × Contains (slice_index_or parts k []) p)
joined_cases from sent [] l p there = inl there
joined_cases from sent (part ∷ parts) l p there =
    ⊎_elim
    (λ c. ⊎_elim (λ old. inl old) (λ new. let e = new.0 in inr (zero, omega (arith, e), new.1)) (part_cases sent from l part p c))
    (λ k. let e = k.1 in inr (suc k.0, omega (arith, e), k.2))
    (joined_cases (from + 1) (with_part from part sent) parts l p there)

-- the part of a lane
numbered : (f : ℕ → List Piece) (from many k : ℕ) (p : Piece) → Contains (slice_index_or (map f (range_with_len from many)) k []) p → Contains (f (from + k)) p
numbered f from zero k p there = absurd (no_member p there)
numbered f from (suc many) zero p there = subst (λ n. Contains (f n) p) (sym (unmoved from)) there
  where
    unmoved : (a : ℕ) → a + 0 ≡ a
    unmoved a = omega arith
numbered f from (suc many) (suc k) p there = subst (λ n. Contains (f n) p) (shifted from k) (numbered f (from + 1) many k p there)
  where
    shifted : (a b : ℕ) → a + 1 + b ≡ a + suc b
    shifted a b = omega arith

joined_parts : (lanes : ℕ) (sent : List (List Piece)) (all : List Piece) (l : ℕ) (p : Piece) → Contains (cut_for (joined sent (parts_of lanes all)) l) p
    → Contains (cut_for sent l) p ⊎ (Contains all p × (id_lane p.id lanes ≡ l))
joined_parts lanes sent all l p there =
    ⊎_elim (λ old. inl old)
    (λ k. let w = was_there (λ (q : Piece). id_lane q.id lanes == (0 + k.0)) all p (numbered (part_of lanes all) 0 lanes k.0 p k.2) in
    inr (w.0, eqb-true (id_lane p.id lanes) (0 + k.0) w.1 ∙ k.1))
    (joined_cases 0 sent (parts_of lanes all) l p there)

-- each number of a list passes where all do
passes_at : (test : ℕ → Bool) (xs : List ℕ) (i : ℕ) → list_all test xs ≡ true → i < length xs → test (slice_index xs i) ≡ true
passes_at test [] i all lt = absurd (omega (arith, lt))
passes_at test (x ∷ xs) i all lt = by (λ j rest. passes_at test xs j rest) (test x) refl i lt all
  where
    by : ((j : ℕ) → list_all test xs ≡ true → j < length xs → test (slice_index xs j) ≡ true)
        → (b : Bool) → test x ≡ b → (i : ℕ) → i < suc (length xs) → (b && list_all test xs) ≡ true → test (slice_index (x ∷ xs) i) ≡ true
    by more true e zero lt rest = e
    by more true e (suc i) lt rest = more i rest (omega (arith, lt))
    by more false e i lt rest = cc

both_true : (a b : Bool) → (a && b) ≡ true → b ≡ true
both_true true b e = e
both_true false b e = cc

below_last : (position count end : ℕ) → position < count → count < end → position < end - 1
below_last position count end below small = omega (arith, below, small)

less : (a b : ℕ) → nat_lt a b ≡ true → a < b
less a b t = grind arith

last_position : (position count : ℕ) → position < count → nat_lt count end_of_places ≡ true → position < end_of_positions
last_position position count below test = below_last position count end_of_places below (less count end_of_places test)

-- a longer feed
get_longer : {X : Type 0} (xs more : List X) (i : ℕ) (x : X) → slice_get xs i ≡ Some x → slice_get (xs ++ more) i ≡ Some x
get_longer [] more i x e = cc
get_longer (y ∷ xs) more zero x e = e
get_longer (y ∷ xs) more (suc i) x e = get_longer xs more i x e

piece_longer : (lanes : ℕ) (donor : ShardId) (feed more : List What) (p : Piece) → IsPieceOf lanes donor feed p → IsPieceOf lanes donor (feed ++ more) p
piece_longer lanes donor feed more p is = record {
  whose = is.whose;
  id = is.id;
  there = ap (λ ws. slice_get ws p.position) (filter-append (is_on lanes (id_lane p.id lanes)) feed more)
      ∙ get_longer (lane_feed lanes (id_lane p.id lanes) feed) (lane_feed lanes (id_lane p.id lanes) more) p.position p.what is.there;
}

cut_longer : (lanes : ℕ) (donor : ShardId) (feed more : List What) (sent : List (List Piece)) → AreCutFrom lanes donor feed sent → AreCutFrom lanes donor (feed ++ more) sent
cut_longer lanes donor feed more sent are l p there =
    let is = are l p there in record { of = piece_longer lanes donor feed more p is.of; lane = is.lane; below = is.below }

-- nothing was cut
none_cut : (many l : ℕ) (p : Piece) → Contains (cut_for (replicate many []) l) p → ⊥
none_cut zero l p there = no_member p there
none_cut (suc many) zero p there = no_member p there
none_cut (suc many) (suc l) p there = none_cut many l p there

-- one batch
module _ (cell : LinkCell) (time : ℕ) (front rest : List What) (some : 0 < cell.link.lanes) (long : length cell.link.kept.lanes ≡ cell.link.lanes)
    (count : CountBefore cell.link.lanes cell.link.kept.lanes front) (bounded : is_below_end cell.link.lanes (batch_at time cell.link) ≡ true) where
  abbrev n : ℕ
  n = cell.link.lanes

  abbrev items : List What
  items = whats (take cell.link.batch cell.link.buffer)

  abbrev behind : List What
  behind = whats (drop cell.link.batch cell.link.buffer)

  abbrev feed : List What
  feed = front ++ (whats cell.link.buffer ++ rest)

  feed_is : front ++ (items ++ (behind ++ rest)) ≡ feed
  feed_is =
      ap (λ ws. front ++ ws)
      (sym (append_assoc items behind rest)
      ∙ ap (λ ws. ws ++ rest) (sym (map-append (λ (item : Item). item.what) (take cell.link.batch cell.link.buffer) (drop cell.link.batch cell.link.buffer))
      ∙ ap whats (take-append-drop cell.link.batch cell.link.buffer)))

  small : (l : ℕ) → l < n → nat_lt (slice_index (counts_after n cell.link.kept.lanes items) l) end_of_places ≡ true
  small l lt =
      passes_at (λ k. nat_lt k end_of_places) (counts_after n cell.link.kept.lanes items) l
      (both_true (nat_lt (cell.link.kept.place + length items) end_of_places) (are_below_end (counts_after n cell.link.kept.lanes items)) bounded)
      (subst (λ k. l < k) (sym (counts_are)) lt)
    where
      counts_are : length (counts_after n cell.link.kept.lanes items) ≡ n
      counts_are = counts_long n items cell.link.kept.lanes long

  new_cut : (p : Piece) → Contains (pieces n (batch_at time cell.link)) p → IsCutFor n cell.link.donor feed (id_lane p.id n) p
  new_cut p there = record {
    of = subst (λ ws. IsPieceOf n cell.link.donor ws p) feed_is
        (pieces_stand n some cell.link.donor time cell.link.kept.place cell.link.kept.lanes front items (behind ++ rest) long count p there);
    lane = refl;
    below = last_position p.position (slice_index (counts_after n cell.link.kept.lanes items) (id_lane p.id n))
        (pieces_below n some cell.link.donor time cell.link.kept.place cell.link.kept.lanes front items long count p there)
        (small (id_lane p.id n) (within n some p.id));
  }

  pub next_cut : AreCutFrom n cell.link.donor feed cell.sent → AreCutFrom n cell.link.donor feed (cut_at time cell).sent
  next_cut are l p there =
      ⊎_elim (λ old. are l p old) (λ new. subst (λ k. IsCutFor n cell.link.donor feed k p) new.1 (new_cut p new.0))
      (joined_parts n cell.sent (pieces n (batch_at time cell.link)) l p there)

pub cuts_stand : CutsStand
cuts_stand = record {
  begun = λ lanes many donor feed l p there. absurd (none_cut many l p there);
  next = λ cell time front rest some long count bounded are. next_cut cell time front rest some long count bounded are;
  longer = cut_longer;
}
