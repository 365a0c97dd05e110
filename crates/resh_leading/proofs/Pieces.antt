-- Each position that a batch adds to a lane has a piece in the lane's part.
use Rattle.std.proofs.Common.{◌≡◌, ◌<◌, ◌≤◌, ◌==◌, ◌⊎◌, inl, inr, ℕ, zero, suc, ◌+◌, true, List, [], ◌∷◌, ◌++◌, length, map, take, slice_index, slice_index_or, slice_set, Option, Some, None, option_map, refl, sym, ap, subst, ◌∙◌, arith}
use Rattle.std.proofs.lemmas.Bool.{cases_lt}
use Rattle.std.proofs.lemmas.List.{take-map}
use Rattle.std.proofs.lemmas.List.Elements.{Contains-append_left, Contains-append_right}
use Rattle.std.proofs.lemmas.List.FromFn.{get_or-map-range_with_len}
use Rattle.std.specs.List.{Contains}
use Rattle.resh_value.specs.declared.value.ShardId.{ShardId}
use Rattle.resh_value.specs.declared.value.Value.{Value}
use Rattle.resh_bag.proofs.Lists.{first_there, kept}
use Rattle.resh_cells.specs.Cuts.{cut_for, joined, joined_from, with_part}
use Rattle.resh_cells.specs.declared.cluster.LinkCell.{LinkCell}
use Rattle.resh_events.specs.rows.Cut.{batch_at, cut_at}
use Rattle.resh_feed.specs.Lanes.{counted, counts_after, id_lane}
use Rattle.resh_feed.specs.declared.item.Item.{Item}
use Rattle.resh_keeping.proofs.Places.{length-set}
use Rattle.resh_ending.proofs.Places.{set_here}
use Rattle.resh_oplog.specs.Logs.{id_written}
use Rattle.resh_oplog.specs.declared.entry.What.{What}
use Rattle.resh_oplog.specs.declared.piece.Piece.{Piece}
use Rattle.resh_place.proofs.Lists.{no_member}
use Rattle.resh_split.specs.Parts.{part_of, parts_of, pieces, pieces_from, pieces_of}
use Rattle.resh_story.proofs.Slots.{same_number}
use Rattle.resh_leading.specs.Leading.{AreAllCut}

-- a place of a list of which one place is one more
risen : (counts : List ℕ) (i l p : ℕ) → slice_index counts l ≤ p → p < slice_index (slice_set counts i (slice_index counts i + 1)) l
    → (i ≡ l) × (p ≡ slice_index counts l)
risen [] i l p low high = absurd (omega (arith, low, high))
risen (x ∷ xs) zero zero p low high = (refl, omega (arith, low, high))
risen (x ∷ xs) zero (suc l) p low high = absurd (omega (arith, low, high))
risen (x ∷ xs) (suc i) zero p low high = absurd (omega (arith, low, high))
risen (x ∷ xs) (suc i) (suc l) p low high = let rest = risen xs i l p low high in (ap suc rest.0, rest.1)

-- a piece of a lane and a position, of a donor
pub record HasPiece (lanes lane position : ℕ) (donor : ShardId) (list : List Piece) : Type 0 where
  pub piece : Piece
  pub there : Contains list piece
  pub on : id_lane piece.id lanes ≡ lane
  pub at : piece.position ≡ position
  pub whose : piece.donor ≡ donor

module _ (lanes lane position : ℕ) (donor : ShardId) where
  behind : (front list : List Piece) → HasPiece lanes lane position donor list → HasPiece lanes lane position donor (front ++ list)
  behind front list has = record {
    piece = has.piece;
    there = Contains-append_right front list has.piece has.there;
    on = has.on;
    at = has.at;
    whose = has.whose;
  }

  abbrev with_id : List ℕ → Option Value → List ℕ
  with_id counts o = counted counts (option_map (λ id. id_lane id lanes) o)

  all_there : (time place : ℕ) (counts : List ℕ) (items : List What) → slice_index counts lane ≤ position
      → position < slice_index (counts_after lanes counts items) lane
      → HasPiece lanes lane position donor (pieces_from lanes donor time place counts items)
  all_there time place counts [] low high = absurd (apart (slice_index counts lane) position low high)
    where
      apart : (a b : ℕ) → a ≤ b → b < a → ⊥
      apart a b h k = omega (arith, h, k)
  all_there time place counts (w ∷ ws) low high = by (id_written w) (λ later. all_there time (place + 1) later ws) high
    where
      by : (o : Option Value)
          → ((next : List ℕ) → slice_index next lane ≤ position → position < slice_index (counts_after lanes next ws) lane
          → HasPiece lanes lane position donor (pieces_from lanes donor time (place + 1) next ws))
          → position < slice_index (counts_after lanes (with_id counts o) ws) lane
          → HasPiece lanes lane position donor
          (pieces_of lanes donor time place counts w o ++ pieces_from lanes donor time (place + 1) (with_id counts o) ws)
      by None rest high = rest counts low high
      by (Some id) rest high = either (cases_lt position (slice_index (with_id counts (Some id)) lane))
        where
          either : (position < slice_index (with_id counts (Some id)) lane) ⊎ (slice_index (with_id counts (Some id)) lane ≤ position)
              → HasPiece lanes lane position donor
              (pieces_of lanes donor time place counts w (Some id) ++ pieces_from lanes donor time (place + 1) (with_id counts (Some id)) ws)
          either (inl below) =
              let is = risen counts (id_lane id lanes) lane position low below in record {
                piece = record {
                  donor = donor;
                  place = place;
                  position = slice_index counts (id_lane id lanes);
                  time = time;
                  id = id;
                  what = w;
                };
                there = first_there _ _;
                on = is.0;
                at = ap (slice_index counts) is.0 ∙ sym is.1;
                whose = refl;
              }
          either (inr above) =
              behind (pieces_of lanes donor time place counts w (Some id)) (pieces_from lanes donor time (place + 1) (with_id counts (Some id)) ws)
              (rest (with_id counts (Some id)) above high)

-- a part stands behind its lane's pieces
module _ (p : Piece) where
  set_has : (sent : List (List Piece)) (at l : ℕ) (part : List Piece) → Contains (slice_index_or sent l []) p
      → Contains (slice_index_or (slice_set sent at (slice_index_or sent at [] ++ part)) l []) p
  set_has [] at l part there = there
  set_has (x ∷ xs) zero zero part there = Contains-append_left x part p there
  set_has (x ∷ xs) zero (suc l) part there = there
  set_has (x ∷ xs) (suc at) zero part there = there
  set_has (x ∷ xs) (suc at) (suc l) part there = set_has xs at l part there

  joined_keeps : (from : ℕ) (sent parts : List (List Piece)) (l : ℕ) → Contains (cut_for sent l) p
      → Contains (cut_for (joined_from from sent parts) l) p
  joined_keeps from sent [] l there = there
  joined_keeps from sent (part ∷ parts) l there = joined_keeps (from + 1) (with_part from part sent) parts l (set_has sent from l part there)

  joined_has : (from : ℕ) (sent parts : List (List Piece)) (k : ℕ) → from + k < length sent
      → Contains (slice_index_or parts k []) p → Contains (cut_for (joined_from from sent parts) (from + k)) p
  joined_has from sent [] k lt there = absurd (no_member p there)
  joined_has from sent (part ∷ parts) zero lt there =
      let set : List (List Piece) = with_part from part sent in
      let within : from < length sent = subst (λ n. n < length sent) (unmoved from) lt in
      subst (λ n. Contains (cut_for (joined_from (from + 1) set parts) n) p) (sym (unmoved from))
      (joined_keeps (from + 1) set parts from
      (subst (λ (list : List Piece). Contains list p) (sym (set_here sent from (cut_for sent from ++ part) [] within))
      (Contains-append_right (cut_for sent from) part p there)))
    where
      unmoved : (a : ℕ) → a + 0 ≡ a
      unmoved a = omega arith
  joined_has from sent (part ∷ parts) (suc k) lt there =
      let set : List (List Piece) = with_part from part sent in
      subst (λ n. Contains (cut_for (joined_from (from + 1) set parts) n) p) (shifted from k)
      (joined_has (from + 1) set parts k
      (within from k (length sent) (length set) (length-set sent from (cut_for sent from ++ part)) lt) there)
    where
      shifted : (a b : ℕ) → a + 1 + b ≡ a + suc b
      shifted a b = omega arith

      within : (a b n m : ℕ) → m ≡ n → a + suc b < n → a + 1 + b < m
      within a b n m e lt = omega (arith, e, lt)

-- the batch that is cut
module _ (lanes time : ℕ) (cell : LinkCell) (same : cell.link.lanes ≡ lanes) (many : length cell.sent ≡ lanes) where
  abbrev items : List What
  items = map (λ (item : Item). item.what) (take cell.link.batch cell.link.buffer)

  abbrev all : List Piece
  all = pieces cell.link.lanes (batch_at time cell.link)

  here : (lane position : ℕ) → lane < lanes → HasPiece cell.link.lanes lane position cell.link.donor all
      → (piece : Piece) × Contains (cut_for (cut_at time cell).sent lane) piece × (piece.position ≡ position) × (piece.donor ≡ cell.link.donor)
  here lane position lt has =
      let within : lane < cell.link.lanes = subst (λ n. lane < n) (sym same) lt in
      let passes : (id_lane has.piece.id cell.link.lanes == lane) ≡ true
      = ap (λ n. n == lane) has.on ∙ same_number lane in
      let part : slice_index_or (parts_of cell.link.lanes all) lane [] ≡ part_of cell.link.lanes all lane
      = get_or-map-range_with_len (part_of cell.link.lanes all) 0 cell.link.lanes lane lane [] within (omega arith) in (
        has.piece,
        subst (λ n. Contains (cut_for (joined cell.sent (parts_of cell.link.lanes all)) n) has.piece) (plain lane)
            (joined_has has.piece 0 cell.sent (parts_of cell.link.lanes all) lane (within_sent lane lanes (length cell.sent) many lt)
            (subst (λ (list : List Piece). Contains list has.piece) (sym part)
            (kept (λ (q : Piece). id_lane q.id cell.link.lanes == lane) all has.piece has.there passes))),
        has.at,
        has.whose,
      )
    where
      plain : (a : ℕ) → 0 + a ≡ a
      plain a = omega arith

      within_sent : (a b c : ℕ) → c ≡ b → a < b → 0 + a < c
      within_sent a b c e lt = omega (arith, e, lt)

  pub cut_all : AreAllCut lanes (cut_at time cell) (cut_at time cell).link.out
  cut_all lane position lt low high =
      here lane position lt
      (all_there cell.link.lanes lane position cell.link.donor time cell.link.kept.place cell.link.kept.lanes items low
      (subst (λ (ws : List What). position < slice_index (counts_after cell.link.lanes cell.link.kept.lanes ws) lane)
      (take-map (λ (item : Item). item.what) cell.link.batch cell.link.buffer) high))
