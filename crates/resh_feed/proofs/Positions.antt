-- A lane's position behind items is the number of its items, and each item stands at its position.
use Rattle.std.proofs.Common.{◌≡◌, ◌<◌, ◌+◌, ◌==◌, ℕ, Bool, true, false, cond, List, [], ◌∷◌, ◌++◌, length, slice_index, slice_set, Option, Some, None, refl, sym, ap, subst, ◌∙◌, ⊎_elim, arith}
use Rattle.std.proofs.lemmas.Bool.Decides.{eqb_tells}
use Rattle.std.proofs.lemmas.List.{get_or-set_same, get_or-set_other, length-set}
use Rattle.std.proofs.lemmas.List.Elements.{filter-append}
use Rattle.std.specs.List.{slice_get}
use Rattle.std.specs.Option.{option_map, option_map_or}
use Rattle.resh_value.specs.declared.value.Value.{Value}
use Rattle.resh_oplog.specs.Logs.{id_written}
use Rattle.resh_oplog.specs.declared.entry.What.{What}
use Rattle.resh_feed.specs.Lanes.{counted, counts_after, id_lane, is_on, item_lane, lane_feed}
use Rattle.resh_feed.proofs.LaneFeeding.{same_number}

abbrev pub on : Option ℕ → ℕ → Bool
on None l = false
on (Some k) l = k == l

pub on_lane : (n l : ℕ) (w : What) (o : Option ℕ) → item_lane n w ≡ o → is_on n l w ≡ on o l
on_lane n l w None e = ap (λ x. option_map_or (λ k. k == l) x false) e
on_lane n l w (Some k) e = ap (λ x. option_map_or (λ k. k == l) x false) e

module _ (n : ℕ) where
  pub one_more : (counts : List ℕ) (o : Option ℕ) → length counts ≡ n → length (counted counts o) ≡ n
  one_more counts None long = long
  one_more counts (Some l) long = length-set counts l (slice_index counts l + 1) ∙ long

  pub counted_at : (counts : List ℕ) (o : Option ℕ) (l : ℕ) → length counts ≡ n → l < n → slice_index (counted counts o) l ≡ cond (on o l) (slice_index counts l + 1) (slice_index counts l)
  counted_at counts None l long lt = refl
  counted_at counts (Some k) l long lt =
      ⊎_elim
      (λ e. subst (λ x. slice_index (slice_set counts x (slice_index counts x + 1)) l ≡ slice_index counts l + 1) (sym e.1) (get_or-set_same counts l (slice_index counts l + 1) 0 (omega (arith, long)))
      ∙ ap (λ b. cond b (slice_index counts l + 1) (slice_index counts l)) (sym e.0))
      (λ e. get_or-set_other counts k l (slice_index counts k + 1) 0 (λ q. e.1 (sym q)) ∙ ap (λ b. cond b (slice_index counts l + 1) (slice_index counts l)) (sym e.0))
      (eqb_tells k l)

  -- a lane's count is the length of its part
  pub count_is : (ws : List What) (counts : List ℕ) → length counts ≡ n → (l : ℕ) → l < n → slice_index (counts_after n counts ws) l ≡ slice_index counts l + length (lane_feed n l ws)
  count_is [] counts long l lt = omega arith
  count_is (w ∷ ws) counts long l lt =
      count_is ws (counted counts (item_lane n w)) (one_more counts (item_lane n w) long) l lt
      ∙ ap (λ k. k + length (lane_feed n l ws)) (counted_at counts (item_lane n w) l long lt)
      ∙ by (on (item_lane n w) l) (is_on n l w) (on_lane n l w (item_lane n w) refl)
    where
      by : (b c : Bool) → c ≡ b → cond b (slice_index counts l + 1) (slice_index counts l) + length (lane_feed n l ws) ≡ slice_index counts l + length (cond c (w ∷ lane_feed n l ws) (lane_feed n l ws))
      by true true e = omega arith
      by true false e = cc
      by false true e = cc
      by false false e = refl

  pub counts_long : (ws : List What) (counts : List ℕ) → length counts ≡ n → length (counts_after n counts ws) ≡ n
  counts_long [] counts long = long
  counts_long (w ∷ ws) counts long = counts_long ws (counted counts (item_lane n w)) (one_more counts (item_lane n w) long)

  at_end : (front : List What) (w : What) (rest : List What) → slice_get (front ++ w ∷ rest) (length front) ≡ Some w
  at_end [] w rest = refl
  at_end (x ∷ xs) w rest = at_end xs w rest

  -- one item among the feed's
  pub item_there : (front : List What) (w : What) (rest : List What) (id : Value) → id_written w ≡ Some id
      → slice_get (lane_feed n (id_lane id n) (front ++ w ∷ rest)) (length (lane_feed n (id_lane id n) front)) ≡ Some w
  item_there front w rest id is =
      let l : ℕ = id_lane id n in
      let here : is_on n l w ≡ true = ap (λ o. option_map_or (λ k. k == l) (option_map (λ v. id_lane v n) o) false) is ∙ same_number l in
      ap (λ x. slice_get x (length (lane_feed n l front))) (filter-append (is_on n l) front (w ∷ rest) ∙ ap (λ b. lane_feed n l front ++ cond b (w ∷ lane_feed n l rest) (lane_feed n l rest)) here)
      ∙ at_end (lane_feed n l front) w (lane_feed n l rest)
