-- An item that comes again before items among which it stands changes nothing of what they leave.
use Rattle.std.proofs.Common.{◌≡◌, ◌≤◌, ◌<◌, ◌+◌, ℕ, zero, suc, Bool, true, false, cond, List, [], ◌∷◌, length, Option, Some, None, option_map, refl, sym, ap, subst, ◌∙◌, arith}
use Rattle.std.specs.List.{slice_get}
use Rattle.resh_value.specs.Change.{changed, changed_value, is_among}
use Rattle.resh_value.specs.Lookup.{field_of}
use Rattle.resh_value.specs.Names.{HasRisingNames}
use Rattle.resh_value.specs.declared.value.Value.{Value}
use Rattle.resh_value.specs.declared.change.Change.{Change}
use Rattle.resh_value.proofs.ChangeLaws.{field_of-changed, HasRisingNames-changed}
use Rattle.resh_value.proofs.FieldLaws.{same_fields}
use Rattle.resh_oplog.specs.declared.entry.What.{What}
use Rattle.resh_oplog.specs.declared.entry.What.TheVariants.{Insert, Update, Delete, Final}
use Rattle.resh_feed.specs.Items.{Document}
use Rattle.resh_feed.specs.Effects.{effect_of, writes, turn, effects_on, IsFormed, AreFormed, IsFormedSlot}

-- one field
module _ {X : Type 0} where
  value_kept : (a : Option X) (gone : Bool) (b : Option X) (lost : Bool) (x y : Option X) → changed_value a gone x ≡ changed_value a gone y
      → changed_value a gone (changed_value b lost x) ≡ changed_value a gone (changed_value b lost y)
  value_kept (Some v) gone b lost x y e = refl
  value_kept None true b lost x y e = refl
  value_kept None false b lost x y e = ap (changed_value b lost) e

  value_again : (a : Option X) (gone : Bool) (x : Option X) → changed_value a gone (changed_value a gone x) ≡ changed_value a gone x
  value_again (Some v) gone x = refl
  value_again None true x = refl
  value_again None false x = refl

-- one document
module _ (a : Document) (u : List (List ℕ)) (rises : HasRisingNames a) where
  document_again : (d : Document) → HasRisingNames d → changed a u (changed a u d) ≡ changed a u d
  document_again d r =
      let c : Document = changed a u d in
      let rc : HasRisingNames c = HasRisingNames-changed a u d r in
      same_fields (changed a u c) c (HasRisingNames-changed a u c rc) rc
      (λ q. field_of-changed a u c q rises rc ∙ ap (changed_value (field_of a q) (is_among u q)) (field_of-changed a u d q rises r)
      ∙ value_again (field_of a q) (is_among u q) (field_of d q) ∙ sym (field_of-changed a u d q rises r))

  document_kept : (b : Document) (v : List (List ℕ)) → HasRisingNames b → (d e : Document) → HasRisingNames d → HasRisingNames e → changed a u d ≡ changed a u e
      → changed a u (changed b v d) ≡ changed a u (changed b v e)
  document_kept b v rb d e rd re same =
      let d' : Document = changed b v d in
      let e' : Document = changed b v e in
      let rd' : HasRisingNames d' = HasRisingNames-changed b v d rd in
      let re' : HasRisingNames e' = HasRisingNames-changed b v e re in
      let known : (q : List ℕ) → changed_value (field_of a q) (is_among u q) (field_of d q) ≡ changed_value (field_of a q) (is_among u q) (field_of e q) =
      λ q. sym (field_of-changed a u d q rises rd) ∙ ap (λ (x : Document). field_of x q) same ∙ field_of-changed a u e q rises re in
      same_fields (changed a u d') (changed a u e') (HasRisingNames-changed a u d' rd') (HasRisingNames-changed a u e' re')
      (λ q. field_of-changed a u d' q rises rd' ∙ ap (changed_value (field_of a q) (is_among u q)) (field_of-changed b v d q rb rd)
      ∙ value_kept (field_of a q) (is_among u q) (field_of b q) (is_among v q) (field_of d q) (field_of e q) (known q)
      ∙ sym (ap (changed_value (field_of a q) (is_among u q)) (field_of-changed b v e q rb re)) ∙ sym (field_of-changed a u e' q rises re'))

some_same : {X : Type 0} (x y : X) → Some x ≡ Some y → x ≡ y
some_same x y e = cc

-- one slot
formed_effect : (what : What) (s : Option Document) → IsFormed what → IsFormedSlot s → IsFormedSlot (effect_of what s)
formed_effect (Insert d) s f r = f
formed_effect (Update id c) None f r = tt
formed_effect (Update id c) (Some d) f r = HasRisingNames-changed c.assign c.unset d r
formed_effect (Delete id) s f r = tt
formed_effect Final s f r = r

effect_again : (what : What) (s : Option Document) → IsFormed what → IsFormedSlot s → effect_of what (effect_of what s) ≡ effect_of what s
effect_again (Insert d) s f r = refl
effect_again (Update id c) None f r = refl
effect_again (Update id c) (Some d) f r = ap Some (document_again c.assign c.unset f d r)
effect_again (Delete id) s f r = refl
effect_again Final s f r = refl

update_kept : (c : Change) → HasRisingNames c.assign → (what : What) → IsFormed what → (s t : Option Document) → IsFormedSlot s → IsFormedSlot t
    → option_map (changed c.assign c.unset) s ≡ option_map (changed c.assign c.unset) t
    → option_map (changed c.assign c.unset) (effect_of what s) ≡ option_map (changed c.assign c.unset) (effect_of what t)
update_kept c rc (Insert d) f s t rs rt e = refl
update_kept c rc (Delete id) f s t rs rt e = refl
update_kept c rc Final f s t rs rt e = e
update_kept c rc (Update id b) f None None rs rt e = refl
update_kept c rc (Update id b) f None (Some y) rs rt e = cc
update_kept c rc (Update id b) f (Some x) None rs rt e = cc
update_kept c rc (Update id b) f (Some x) (Some y) rs rt e =
    ap Some (document_kept c.assign c.unset rc b.assign b.unset f x y rs rt (some_same (changed c.assign c.unset x) (changed c.assign c.unset y) e))

effect_kept : (e : What) → IsFormed e → (what : What) → IsFormed what → (s t : Option Document) → IsFormedSlot s → IsFormedSlot t → effect_of e s ≡ effect_of e t
    → effect_of e (effect_of what s) ≡ effect_of e (effect_of what t)
effect_kept (Insert d) fe what f s t rs rt same = refl
effect_kept (Update id c) fe what f s t rs rt same = update_kept c fe what f s t rs rt same
effect_kept (Delete id) fe what f s t rs rt same = refl
effect_kept Final fe what f s t rs rt same = ap (effect_of what) same

-- with the test whether the item writes the `_id`
either_formed : (b : Bool) (what : What) (s : Option Document) → IsFormed what → IsFormedSlot s → IsFormedSlot (cond b (effect_of what s) s)
either_formed true what s f r = formed_effect what s f r
either_formed false what s f r = r

either_again : (b : Bool) (what : What) (s : Option Document) → IsFormed what → IsFormedSlot s → cond b (effect_of what (cond b (effect_of what s) s)) (cond b (effect_of what s) s) ≡ cond b (effect_of what s) s
either_again true what s f r = effect_again what s f r
either_again false what s f r = refl

either_kept : (a b : Bool) (e what : What) → IsFormed e → IsFormed what → (s t : Option Document) → IsFormedSlot s → IsFormedSlot t
    → cond a (effect_of e s) s ≡ cond a (effect_of e t) t
    → cond a (effect_of e (cond b (effect_of what s) s)) (cond b (effect_of what s) s) ≡ cond a (effect_of e (cond b (effect_of what t) t)) (cond b (effect_of what t) t)
either_kept true true e what fe f s t rs rt same = effect_kept e fe what f s t rs rt same
either_kept true false e what fe f s t rs rt same = same
either_kept false b e what fe f s t rs rt same = ap (λ x. cond b (effect_of what x) x) same

module _ (id : Value) where
  pub turn_formed : (what : What) (s : Option Document) → IsFormed what → IsFormedSlot s → IsFormedSlot (turn id what s)
  turn_formed what s f r = either_formed (writes id what) what s f r

  pub turn_again : (what : What) (s : Option Document) → IsFormed what → IsFormedSlot s → turn id what (turn id what s) ≡ turn id what s
  turn_again what s f r = either_again (writes id what) what s f r

  pub turn_kept : (e what : What) → IsFormed e → IsFormed what → (s t : Option Document) → IsFormedSlot s → IsFormedSlot t → turn id e s ≡ turn id e t
      → turn id e (turn id what s) ≡ turn id e (turn id what t)
  turn_kept e what fe f s t rs rt same = either_kept (writes id e) (writes id what) e what fe f s t rs rt same

  -- two slots that an item makes alike are made alike by items among which it stands
  pub alike : (e : What) → IsFormed e → (whats : List What) → AreFormed whats → (i : ℕ) → slice_get whats i ≡ Some e
      → (s t : Option Document) → IsFormedSlot s → IsFormedSlot t → turn id e s ≡ turn id e t → effects_on id whats s ≡ effects_on id whats t
  alike e fe [] fs i at s t rs rt same = cc
  alike e fe (w ∷ ws) fs zero at s t rs rt same =
      let is : w ≡ e = cc in
      ap (effects_on id ws) (ap (λ x. turn id x s) is ∙ same ∙ sym (ap (λ x. turn id x t) is))
  alike e fe (w ∷ ws) fs (suc i) at s t rs rt same =
      alike e fe ws fs.1 i at (turn id w s) (turn id w t) (turn_formed w s fs.0 rs) (turn_formed w t fs.0 rt) (turn_kept e w fe fs.0 s t rs rt same)

  pub absorbed : (e : What) → IsFormed e → (whats : List What) → AreFormed whats → (i : ℕ) → slice_get whats i ≡ Some e → (s : Option Document) → IsFormedSlot s
      → effects_on id whats (turn id e s) ≡ effects_on id whats s
  absorbed e fe whats fs i at s r = alike e fe whats fs i at (turn id e s) s (turn_formed e s fe r) r (turn_again e s fe r)
