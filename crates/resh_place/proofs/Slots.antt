-- What is held of one `_id`, and its slots.
use Rattle.std.proofs.Common.{◌≡◌, ℕ, ◌==◌, Bool, true, false, cond, Option, Some, None, is_some, refl, sym, ap, ◌∙◌, ◌⊎◌, inl, inr}
use Rattle.std.proofs.lemmas.Bool.{eqb-true}
use Rattle.std.specs.Option.{option_or}
use Rattle.resh_value.specs.declared.value.Value.{Value}
use Rattle.resh_chunks.specs.Chunks.{Chunks, owner_of}
use Rattle.resh_feed.proofs.LaneFeeding.{same_number}
use Rattle.resh_place.specs.Parts.{Waits}
use Rattle.resh_rules.specs.Held.{Held, waits, is_owned}
use Rattle.resh_rules.specs.Slots.{slot, IsSound}
use Rattle.resh_shard.specs.Laws.{comes}
use Rattle.resh_stash.specs.Stored.{Document}

pub some_same : {X : Type 0} (x y : X) → Some x ≡ Some y → x ≡ y
some_same x y e = cc

pub never_some : {X : Type 0} (x : X) → None ≡ Some x → ⊥
never_some x e = cc

pub differ : (m n : ℕ) → (m == n) ≡ false → m ≡ n → ⊥
differ m n apart same = let off : true ≡ false = sym (same_number n) ∙ sym (ap (λ k. k == n) same) ∙ apart in cc

-- what comes was held, and belongs there
pub came : (new_map : Chunks) (shard : ℕ) (o : Option Document) (d : Document) → comes (λ n. n == shard) new_map o ≡ Some d → (o ≡ Some d) × (owner_of new_map d ≡ shard)
came new_map shard None d e = cc
came new_map shard (Some x) d e = by (owner_of new_map x == shard) refl e
  where
    by : (b : Bool) → (owner_of new_map x == shard) ≡ b → cond b (Some x) None ≡ Some d → (Some x ≡ Some d) × (owner_of new_map d ≡ shard)
    by true t is = (is, ap (owner_of new_map) (sym (some_same x d is)) ∙ eqb-true (owner_of new_map x) shard t)
    by false t is = cc

pub comes_there : (new_map : Chunks) (shard : ℕ) (d : Document) → owner_of new_map d ≡ shard → comes (λ n. n == shard) new_map (Some d) ≡ Some d
comes_there new_map shard d is = ap (λ b. cond b (Some d) None) (ap (λ n. n == shard) is ∙ same_number shard)

module _ (old_map : Chunks) (id : Value) (h : Held) (sound : IsSound old_map id h) where
  pub waiting_slot : (donor : ℕ) (d : Document) → waits h donor ≡ Some d → slot old_map h donor ≡ Some d
  waiting_slot donor d w = ap (λ o. option_or o (cond (is_owned old_map donor h.output) h.output None)) w

  -- the output's document fills the slot of its owner, and nothing waits there
  pub output_slot : (o : Document) → h.output ≡ Some o → slot old_map h (owner_of old_map o) ≡ Some o
  output_slot o is =
      ap (λ w. option_or w (cond (is_owned old_map (owner_of old_map o) h.output) h.output None)) (none (waits h (owner_of old_map o)) refl)
      ∙ ap (λ x. cond (is_owned old_map (owner_of old_map o) x) x None) is
      ∙ ap (λ b. cond b (Some o) None) (same_number (owner_of old_map o))
    where
      none : (w : Option Document) → waits h (owner_of old_map o) ≡ w → waits h (owner_of old_map o) ≡ None
      none None e = e
      none (Some x) e =
          let apart : is_owned old_map (owner_of old_map o) h.output ≡ false = (sound.behind (owner_of old_map o) x e).1 in
          let owned : is_owned old_map (owner_of old_map o) h.output ≡ true = ap (is_owned old_map (owner_of old_map o)) is ∙ same_number (owner_of old_map o) in
          let off : true ≡ false = sym owned ∙ apart in
          cc

  -- a slot that is filled while nothing waits there is the output's
  pub filled_owner : (donor : ℕ) (d : Document) → slot old_map h donor ≡ Some d → Waits h ⊎ (is_owned old_map donor h.output ≡ true)
  filled_owner donor d is = by (waits h donor) refl (is_owned old_map donor h.output) refl
    where
      by : (w : Option Document) → waits h donor ≡ w → (b : Bool) → is_owned old_map donor h.output ≡ b → Waits h ⊎ (is_owned old_map donor h.output ≡ true)
      by (Some x) e b f = inl (donor, x, e)
      by None e true f = inr f
      by None e false f =
          let off : None ≡ Some d = sym (ap (λ b. cond b h.output None) f) ∙ sym (ap (λ o. option_or o (cond (is_owned old_map donor h.output) h.output None)) e) ∙ is in
          cc

  -- and where a slot is filled there is an output
  pub filled_output : (donor : ℕ) (d : Document) → slot old_map h donor ≡ Some d → is_some h.output ≡ true
  filled_output donor d is = by h.output refl (waits h donor) refl
    where
      by : (o : Option Document) → h.output ≡ o → (w : Option Document) → waits h donor ≡ w → is_some h.output ≡ true
      by (Some o) e w f = ap is_some e
      by None e (Some x) f = (sound.behind donor x f).0
      by None e None f =
          let off : None ≡ Some d = sym (ap (λ x. cond (is_owned old_map donor x) x None) e) ∙ sym (ap (λ w. option_or w (cond (is_owned old_map donor h.output) h.output None)) f) ∙ is in
          cc

  pub one_owner : (one other : ℕ) → is_owned old_map one h.output ≡ true → is_owned old_map other h.output ≡ true → one ≡ other
  one_owner one other a b = by h.output a b
    where
      by : (o : Option Document) → is_owned old_map one o ≡ true → is_owned old_map other o ≡ true → one ≡ other
      by None a b = cc
      by (Some d) a b = sym (eqb-true (owner_of old_map d) one a) ∙ eqb-true (owner_of old_map d) other b
