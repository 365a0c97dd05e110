-- Pieces of the items that stand behind a front are the feed's, below the lanes' positions behind them.
use Rattle.std.proofs.Common.{◌≡◌, ◌<◌, ◌+◌, ℕ, zero, suc, Bool, true, false, cond, List, [], ◌∷◌, ◌++◌, length, slice_index, Option, Some, None, refl, sym, ap, subst, ◌∙◌, arith}
use Rattle.std.proofs.Math.Nat.{mod-lt}
use Rattle.std.proofs.lemmas.List.{append_assoc, append-nil, length-append}
use Rattle.std.proofs.lemmas.List.Elements.{filter-append}
use Rattle.std.proofs.lemmas.Option.{slice_get_within}
use Rattle.std.specs.List.{Contains, slice_get}
use Rattle.resh_value.specs.declared.value.ShardId.{ShardId}
use Rattle.resh_value.specs.declared.value.Value.{Value}
use Rattle.resh_oplog.specs.Logs.{id_written}
use Rattle.resh_oplog.specs.declared.entry.What.{What}
use Rattle.resh_oplog.specs.declared.piece.Piece.{Piece}
use Rattle.resh_feed.specs.Lanes.{id_lane, item_lane, counted, counts_after, is_on, lane_feed}
use Rattle.resh_feed.proofs.Positions.{count_is, counted_at, item_there, on, on_lane, one_more}
use Rattle.resh_split.specs.Laws.{CountBefore, IsPieceOf}
use Rattle.resh_split.specs.Parts.{pieces_of, pieces_from}

module _ (n : ℕ) (some : 0 < n) where
  pub within : (id : Value) → id_lane id n < n
  within id = mod-lt _ some

  -- the pieces of items that stand in the feed behind a front
  pub pieces_stand : (donor : ShardId) (time place : ℕ) (counts : List ℕ) (front items rest : List What)
      → length counts ≡ n → CountBefore n counts front
      → (p : Piece) → Contains (pieces_from n donor time place counts items) p → IsPieceOf n donor (front ++ (items ++ rest)) p
  pieces_stand donor time place counts front [] rest long count p (k, inside, is) = absurd (omega arith)
  pieces_stand donor time place counts front (w ∷ ws) rest long count p there =
      by (id_written w) refl there
      (pieces_stand donor time (place + 1) (counted counts (item_lane n w)) (front ++ w ∷ []) ws rest (one_more n counts (item_lane n w) long) next p)
    where
      next : CountBefore n (counted counts (item_lane n w)) (front ++ w ∷ [])
      next l lt =
          counted_at n counts (item_lane n w) l long lt ∙ one (on (item_lane n w) l) (is_on n l w) (on_lane n l w (item_lane n w) refl)
          ∙ sym (ap length (filter-append (is_on n l) front (w ∷ [])) ∙ length-append (lane_feed n l front) (lane_feed n l (w ∷ [])))
        where
          one : (b c : Bool) → c ≡ b → cond b (slice_index counts l + 1) (slice_index counts l) ≡ length (lane_feed n l front) + length (cond c (w ∷ []) [])
          one true true e = let h = count l lt in omega (arith, h)
          one true false e = cc
          one false true e = cc
          one false false e = let h = count l lt in omega (arith, h)

      onward : IsPieceOf n donor ((front ++ w ∷ []) ++ (ws ++ rest)) p → IsPieceOf n donor (front ++ (w ∷ ws ++ rest)) p
      onward h = subst (λ f. IsPieceOf n donor f p) (append_assoc front (w ∷ []) (ws ++ rest)) h

      by : (o : Option Value) → id_written w ≡ o → Contains (pieces_of n donor time place counts w (id_written w) ++ pieces_from n donor time (place + 1) (counted counts (item_lane n w)) ws) p
          → (Contains (pieces_from n donor time (place + 1) (counted counts (item_lane n w)) ws) p → IsPieceOf n donor ((front ++ w ∷ []) ++ (ws ++ rest)) p)
          → IsPieceOf n donor (front ++ (w ∷ ws ++ rest)) p
      by None e h rest_of = onward (rest_of (subst (λ o. Contains (pieces_of n donor time place counts w o ++ pieces_from n donor time (place + 1) (counted counts (item_lane n w)) ws) p) e h))
      by (Some id) e h rest_of =
          first id e (subst (λ o. Contains (pieces_of n donor time place counts w o ++ pieces_from n donor time (place + 1) (counted counts (item_lane n w)) ws) p) e h) (λ c. onward (rest_of c))
        where
          first : (id : Value) → id_written w ≡ Some id
              → Contains (record { donor = donor; place = place; position = slice_index counts (id_lane id n); time = time; id = id; what = w } ∷ pieces_from n donor time (place + 1) (counted counts (item_lane n w)) ws) p
              → (Contains (pieces_from n donor time (place + 1) (counted counts (item_lane n w)) ws) p → IsPieceOf n donor (front ++ (w ∷ ws ++ rest)) p) → IsPieceOf n donor (front ++ (w ∷ ws ++ rest)) p
          first id e (zero, inside, is) more =
              subst (IsPieceOf n donor (front ++ (w ∷ ws ++ rest))) is
              (record { whose = refl; id = e; there = ap (slice_get (lane_feed n (id_lane id n) (front ++ (w ∷ ws ++ rest)))) (count (id_lane id n) (within id)) ∙ item_there n front w (ws ++ rest) id e })
          first id e (suc k, inside, is) more = more (k, omega arith, is)

  -- each stands below its lane's position behind the items
  pub pieces_below : (donor : ShardId) (time place : ℕ) (counts : List ℕ) (front items : List What)
      → length counts ≡ n → CountBefore n counts front
      → (p : Piece) → Contains (pieces_from n donor time place counts items) p → p.position < slice_index (counts_after n counts items) (id_lane p.id n)
  pieces_below donor time place counts front items long count p there =
      let l : ℕ = id_lane p.id n in
      let piece : IsPieceOf n donor (front ++ (items ++ [])) p = pieces_stand donor time place counts front items [] long count p there in
      let inside : p.position < length (lane_feed n l (front ++ (items ++ []))) = slice_get_within (lane_feed n l (front ++ (items ++ []))) p.position p.what piece.there in
      let parts : length (lane_feed n l (front ++ (items ++ []))) ≡ length (lane_feed n l front) + length (lane_feed n l items) =
      ap (λ ws. length (lane_feed n l (front ++ ws))) (append-nil items)
      ∙ ap length (filter-append (is_on n l) front items) ∙ length-append (lane_feed n l front) (lane_feed n l items) in
      let before : slice_index counts l ≡ length (lane_feed n l front) = count l (within p.id) in
      let after : slice_index (counts_after n counts items) l ≡ slice_index counts l + length (lane_feed n l items) = count_is n items counts long l (within p.id) in
      omega (arith, inside, parts, before, after)
