-- Pieces of items stand at their positions, and batches join.
use Rattle.std.proofs.Common.{◌≡◌, ◌<◌, ◌+◌, ℕ, zero, suc, Bool, true, false, cond, List, [], ◌∷◌, ◌++◌, length, map, min, take, slice_index, Option, Some, None, refl, sym, ap, subst, ◌∙◌, arith}
use Rattle.std.proofs.lemmas.List.{append_assoc, length-append, map-append}
use Rattle.std.proofs.lemmas.List.Elements.{filter-append}
use Rattle.std.proofs.lemmas.List.Sums.{fold-append}
use Rattle.std.proofs.Math.Nat.{add-zero, mod-lt}
use Rattle.std.specs.List.{Contains, slice_get}
use Rattle.resh_value.specs.declared.value.ShardId.{ShardId}
use Rattle.resh_value.specs.declared.value.Value.{Value}
use Rattle.resh_oplog.specs.Logs.{id_written}
use Rattle.resh_oplog.specs.declared.entry.What.{What}
use Rattle.resh_oplog.specs.declared.piece.Piece.{Piece}
use Rattle.resh_feed.specs.Lanes.{id_lane, item_lane, counted, counts_after, is_on, lane_feed}
use Rattle.resh_feed.proofs.Positions.{counted_at, item_there, on, on_lane, one_more}
use Rattle.resh_split.specs.Laws.{IsPieceOf, CountBefore, timed}
use Rattle.resh_split.specs.Parts.{pieces_of, pieces_from}

module _ (n : ℕ) (some : 0 < n) where
  within : (id : Value) → id_lane id n < n
  within id = mod-lt _ some

  -- the pieces of items that stand in the feed behind a front
  pub pieces_stand : (donor : ShardId) (time place : ℕ) (counts : List ℕ) (front items rest : List What)
      → length counts ≡ n → CountBefore n counts front
      → (p : Piece) → Contains (pieces_from n donor time place counts items) p → IsPieceOf n donor (front ++ (items ++ rest)) p
  pieces_stand donor time place counts front [] rest long count p (k, inside, is) = absurd (omega arith)
  pieces_stand donor time place counts front (w ∷ ws) rest long count p there =
      by (id_written w) refl there
      (pieces_stand donor time (place + 1) (counted counts (item_lane n w)) (front ++ w ∷ []) ws rest (one_more n counts (item_lane n w) long) next p)
    where
      next : CountBefore n (counted counts (item_lane n w)) (front ++ w ∷ [])
      next l lt =
          counted_at n counts (item_lane n w) l long lt ∙ one (on (item_lane n w) l) (is_on n l w) (on_lane n l w (item_lane n w) refl)
          ∙ sym (ap length (filter-append (is_on n l) front (w ∷ [])) ∙ length-append (lane_feed n l front) (lane_feed n l (w ∷ [])))
        where
          one : (b c : Bool) → c ≡ b → cond b (slice_index counts l + 1) (slice_index counts l) ≡ length (lane_feed n l front) + length (cond c (w ∷ []) [])
          one true true e = let h = count l lt in omega (arith, h)
          one true false e = cc
          one false true e = cc
          one false false e = let h = count l lt in omega (arith, h)

      onward : IsPieceOf n donor ((front ++ w ∷ []) ++ (ws ++ rest)) p → IsPieceOf n donor (front ++ (w ∷ ws ++ rest)) p
      onward h = subst (λ f. IsPieceOf n donor f p) (append_assoc front (w ∷ []) (ws ++ rest)) h

      by : (o : Option Value) → id_written w ≡ o → Contains (pieces_of n donor time place counts w (id_written w) ++ pieces_from n donor time (place + 1) (counted counts (item_lane n w)) ws) p
          → (Contains (pieces_from n donor time (place + 1) (counted counts (item_lane n w)) ws) p → IsPieceOf n donor ((front ++ w ∷ []) ++ (ws ++ rest)) p)
          → IsPieceOf n donor (front ++ (w ∷ ws ++ rest)) p
      by None e h rest_of = onward (rest_of (subst (λ o. Contains (pieces_of n donor time place counts w o ++ pieces_from n donor time (place + 1) (counted counts (item_lane n w)) ws) p) e h))
      by (Some id) e h rest_of =
          first id e (subst (λ o. Contains (pieces_of n donor time place counts w o ++ pieces_from n donor time (place + 1) (counted counts (item_lane n w)) ws) p) e h) (λ c. onward (rest_of c))
        where
          first : (id : Value) → id_written w ≡ Some id
              → Contains (record { donor = donor; place = place; position = slice_index counts (id_lane id n); time = time; id = id; what = w } ∷ pieces_from n donor time (place + 1) (counted counts (item_lane n w)) ws) p
              → (Contains (pieces_from n donor time (place + 1) (counted counts (item_lane n w)) ws) p → IsPieceOf n donor (front ++ (w ∷ ws ++ rest)) p) → IsPieceOf n donor (front ++ (w ∷ ws ++ rest)) p
          first id e (zero, inside, is) more =
              subst (IsPieceOf n donor (front ++ (w ∷ ws ++ rest))) is
              (record { whose = refl; id = e; there = ap (slice_get (lane_feed n (id_lane id n) (front ++ (w ∷ ws ++ rest)))) (count (id_lane id n) (within id)) ∙ item_there n front w (ws ++ rest) id e })
          first id e (suc k, inside, is) more = more (k, omega arith, is)

pub pieces_join : (n : ℕ) (donor : ShardId) (time place : ℕ) (counts : List ℕ) (items more : List What)
    → pieces_from n donor time place counts (items ++ more) ≡ pieces_from n donor time place counts items ++ pieces_from n donor time (place + length items) (counts_after n counts items) more
pieces_join n donor time place counts [] more = ap (λ p. pieces_from n donor time p counts more) (sym (add-zero place))
pieces_join n donor time place counts (w ∷ ws) more =
    let later = counted counts (item_lane n w) in
    let first = pieces_of n donor time place counts w (id_written w) in
    let on_more : place + 1 + length ws ≡ place + length (w ∷ ws) = omega arith in
    ap (λ ps. first ++ ps) (pieces_join n donor time (place + 1) later ws more ∙ ap (λ p. pieces_from n donor time (place + 1) later ws ++ pieces_from n donor time p (counts_after n later ws) more) on_more)
    ∙ sym (append_assoc first (pieces_from n donor time (place + 1) later ws) (pieces_from n donor time (place + length (w ∷ ws)) (counts_after n later ws) more))

one_timed : (n : ℕ) (donor : ShardId) (time other place : ℕ) (counts : List ℕ) (w : What) (o : Option Value) → timed time (pieces_of n donor other place counts w o) ≡ pieces_of n donor time place counts w o
one_timed n donor time other place counts w None = refl
one_timed n donor time other place counts w (Some id) = refl

pub all_timed : (n : ℕ) (donor : ShardId) (time other place : ℕ) (counts : List ℕ) (items : List What) → timed time (pieces_from n donor other place counts items) ≡ pieces_from n donor time place counts items
all_timed n donor time other place counts [] = refl
all_timed n donor time other place counts (w ∷ ws) =
    map-append (λ (p : Piece). record p { time = time }) (pieces_of n donor other place counts w (id_written w)) (pieces_from n donor other (place + 1) (counted counts (item_lane n w)) ws)
    ∙ ap (λ ps. ps ++ timed time (pieces_from n donor other (place + 1) (counted counts (item_lane n w)) ws)) (one_timed n donor time other place counts w (id_written w))
    ∙ ap (λ ps. pieces_of n donor time place counts w (id_written w) ++ ps) (all_timed n donor time other (place + 1) (counted counts (item_lane n w)) ws)

pub counts_join : (n : ℕ) (counts : List ℕ) (items more : List What) → counts_after n counts (items ++ more) ≡ counts_after n (counts_after n counts items) more
counts_join n counts items more = fold-append (λ before w. counted before (item_lane n w)) counts items more
