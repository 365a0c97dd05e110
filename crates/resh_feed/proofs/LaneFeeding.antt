-- A lane's part of a feed has the effects of the whole feed on the slots of the lane's own `_id`s, and none on others.
use Rattle.std.proofs.Common.{◌≡◌, ◌==◌, ℕ, Bool, true, false, cond, List, [], ◌∷◌, filter, codes, Option, Some, None, option_map, is_some, unwrap_or, refl, sym, ap, subst, ◌∙◌, ⊎_elim}
use Rattle.std.proofs.lemmas.Bool.{eqb-true}
use Rattle.std.proofs.lemmas.Bool.Decides.{eqb_tells}
use Rattle.std.specs.Option.{option_map_or}
use Rattle.resh_value.specs.Lookup.{field_of, id_of}
use Rattle.resh_value.specs.Order.{is_same}
use Rattle.resh_value.specs.OrderLaws.{same_from_test}
use Rattle.resh_value.specs.declared.value.Value.{Value}
use Rattle.resh_value.specs.declared.value.Value.TheVariants.{Null}
use Rattle.resh_oplog.specs.Logs.{is_whole}
use Rattle.resh_oplog.proofs.Contents.{says_whole}
use Rattle.resh_oplog.specs.declared.entry.What.{What}
use Rattle.resh_oplog.specs.declared.entry.What.TheVariants.{Insert, Update, Delete, Final}
use Rattle.resh_feed.specs.Items.{Document}
use Rattle.resh_feed.specs.Lanes.{id_lane, is_on, lane_feed}
use Rattle.resh_feed.specs.Laws.{AllWhole}
use Rattle.resh_feed.specs.Effects.{AreFormed, IsFormed, effect_of, effects_on, turn, writes}

pub same_number : (n : ℕ) → (n == n) ≡ true
same_number n = ⊎_elim (λ k. k.0) (λ k. absurd (k.1 refl)) (eqb_tells n n)

module _ (id : Value) (n : ℕ) where
  own_lane : (own : Value) → is_same id own ≡ true → (id_lane own n == id_lane id n) ≡ true
  own_lane own same = ap (λ v. id_lane v n == id_lane id n) (sym (same_from_test id own same)) ∙ same_number (id_lane id n)

  on_by : (o : Option Value) → is_some o ≡ true → is_same id (unwrap_or o Null) ≡ true → option_map_or (λ l. l == id_lane id n) (option_map (λ v. id_lane v n) o) false ≡ true
  on_by None h same = cc
  on_by (Some v) h same = own_lane v same

  on_own : (w : What) → is_whole w ≡ true → writes id w ≡ true → is_on n (id_lane id n) w ≡ true
  on_own (Insert d) h same = on_by (field_of d (codes "_id")) ((says_whole.inserts d).0 h).id same
  on_own (Update own c) h same = own_lane own same
  on_own (Delete own) h same = own_lane own same
  on_own Final h same = cc

  off_own : (w : What) → is_whole w ≡ true → is_on n (id_lane id n) w ≡ false → (b : Bool) → writes id w ≡ b → b ≡ false
  off_own w h off true e = let no : true ≡ false = sym (on_own w h e) ∙ off in cc
  off_own w h off false e = refl

  pub own_effects : (ws : List What) → AllWhole ws → (s : Option Document) → effects_on id (lane_feed n (id_lane id n) ws) s ≡ effects_on id ws s
  own_effects [] h s = refl
  own_effects (w ∷ ws) h s = by (own_effects ws h.1) (is_on n (id_lane id n) w) refl
    where
      by : ((x : Option Document) → effects_on id (lane_feed n (id_lane id n) ws) x ≡ effects_on id ws x) → (b : Bool) → is_on n (id_lane id n) w ≡ b → effects_on id (cond b (w ∷ lane_feed n (id_lane id n) ws) (lane_feed n (id_lane id n) ws)) s ≡ effects_on id ws (turn id w s)
      by rest true e = rest (turn id w s)
      by rest false e = rest s ∙ ap (effects_on id ws) (sym (ap (λ b. cond b (effect_of w s) s) (off_own w h.0 e (writes id w) refl)))

  by_other : (lane : ℕ) → (id_lane id n == lane) ≡ false → (o : Option Value) → is_some o ≡ true → is_same id (unwrap_or o Null) ≡ true → option_map_or (λ l. l == lane) (option_map (λ v. id_lane v n) o) false ≡ false
  by_other lane apart None h same = cc
  by_other lane apart (Some v) h same = ap (λ x. id_lane x n == lane) (sym (same_from_test id v same)) ∙ apart

  off_other : (lane : ℕ) → (id_lane id n == lane) ≡ false → (w : What) → is_whole w ≡ true → writes id w ≡ true → is_on n lane w ≡ false
  off_other lane apart (Insert d) h same = by_other lane apart (field_of d (codes "_id")) ((says_whole.inserts d).0 h).id same
  off_other lane apart (Update own c) h same = ap (λ x. id_lane x n == lane) (sym (same_from_test id own same)) ∙ apart
  off_other lane apart (Delete own) h same = ap (λ x. id_lane x n == lane) (sym (same_from_test id own same)) ∙ apart
  off_other lane apart Final h same = cc

  pub other_effects : (lane : ℕ) → (id_lane id n == lane) ≡ false → (ws : List What) → AllWhole ws → (s : Option Document) → effects_on id (lane_feed n lane ws) s ≡ s
  other_effects lane apart [] h s = refl
  other_effects lane apart (w ∷ ws) h s = by (other_effects lane apart ws h.1 s) (is_on n lane w) refl (writes id w) refl
    where
      by : effects_on id (lane_feed n lane ws) s ≡ s → (b : Bool) → is_on n lane w ≡ b → (c : Bool) → writes id w ≡ c → effects_on id (cond b (w ∷ lane_feed n lane ws) (lane_feed n lane ws)) s ≡ s
      by rest false e c f = rest
      by rest true e true f = let no : true ≡ false = sym e ∙ off_other lane apart w h.0 f in cc
      by rest true e false f = ap (λ x. effects_on id (lane_feed n lane ws) (cond x (effect_of w s) s)) f ∙ rest

-- the names of what is whole rise
whole_formed : (w : What) → is_whole w ≡ true → IsFormed w
whole_formed (Insert d) h = ((says_whole.inserts d).0 h).rising
whole_formed (Update id c) h = (says_whole.updates id c).0 h
whole_formed (Delete id) h = tt
whole_formed Final h = tt

pub all_formed : (ws : List What) → AllWhole ws → AreFormed ws
all_formed [] h = tt
all_formed (w ∷ ws) h = (whole_formed w h.0, all_formed ws h.1)
