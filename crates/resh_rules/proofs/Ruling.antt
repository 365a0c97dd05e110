-- What the rules keep of what is held of an `_id`, and what they do to its slots.
use Rattle.std.proofs.Common.{◌≡◌, ◌≢◌, ℕ, suc, ◌<◌, ◌≤◌, Bool, true, false, cond, not, List, length, get_or, set, Option, Some, None, is_some, is_none, position, option_map, slice_index_or, arith, refl, sym, ap, subst, ◌∙◌, ⊎_elim, true≢false, length-set}
use Rattle.std.specs.List.{position_or_len}
use Rattle.std.specs.Option.{option_or}
use Rattle.std.proofs.lemmas.Bool.Decides.{leb_tells, eqb_tells}
use Rattle.std.proofs.lemmas.Grind.{get_or-set_at}
use Rattle.std.proofs.lemmas.List.{get_or-set_same, get_or-set_other, get_or_past}
use Rattle.std.proofs.lemmas.List.Quantifiers.{position-Some}
use Rattle.std.proofs.lemmas.List.Sums.{fails_before_first}
use Rattle.std.proofs.lemmas.Option.{none-some}
use Rattle.resh_value.specs.declared.change.Change.{Change}
use Rattle.resh_value.specs.Lookup.{id_of}
use Rattle.resh_value.specs.Whole.{IsWhole}
use Rattle.resh_value.specs.declared.value.Value.{Value}
use Rattle.resh_chunks.specs.Chunks.{Chunks, owner_of}
use Rattle.resh_stash.specs.Stored.{Document, changed_to}
use Rattle.resh_feed.specs.Effects.{set_to, changed_by, emptied}
use Rattle.resh_rules.specs.Held.{Held, waits, is_owned, with_output, with_waiting}
use Rattle.resh_rules.specs.Finding.{found, pick}
use Rattle.resh_rules.specs.Rules.{inserted, updated, first_waiting, refilled, deleted}
use Rattle.resh_rules.specs.Slots.{slot, IsSound, StandsFor, HasEffect}
use Rattle.resh_rules.specs.declared.rule.Found.TheVariants.{Waiting, Nothing, Own, Others}

by_equal : {P : Type 0} (a b : ℕ) → (a ≡ b → P) → (a ≢ b → P) → P
by_equal a b f g = ⊎_elim (λ h. f h.1) (λ h. g h.1) (eqb_tells a b)

module _ {X : Type 0} where
  by_option : {P : Type 0} (o : Option X) → (o ≡ None → P) → ((x : X) → o ≡ Some x → P) → P
  by_option None f g = f refl
  by_option (Some x) f g = g x refl

  same : (x y : X) → Some x ≡ Some y → x ≡ y
  same x y e = cc

  or_none : (o : Option X) → option_or o None ≡ o
  or_none None = refl
  or_none (Some x) = refl

  within : (xs : List (Option X)) (i : ℕ) (x : X) → get_or xs i None ≡ Some x → i < length xs
  within xs i x e = ⊎_elim (λ h. absurd (none-some x (sym (get_or_past xs i None h.1) ∙ e))) (λ h. h.1) (leb_tells (length xs) i)

  not_some : (o : Option X) → is_some o ≡ false → o ≡ None
  not_some None h = refl
  not_some (Some x) h = cc

  some_of : (o : Option X) → is_some o ≡ true → (x : X) × (o ≡ Some x)
  some_of None h = cc
  some_of (Some x) h = (x, refl)

  -- no place is filled where none is the first
  none_filled : (xs : List (Option X)) (i : ℕ) → position is_some xs ≡ None → get_or xs i None ≡ None
  none_filled xs i e =
      let first = position_or_len is_some xs in
      let past : length xs ≤ first =
      ⊎_elim (λ h. absurd (none-some first (sym e ∙ ap (λ t. cond t (Some first) None) h.0))) (λ h. let lt = h.1 in omega arith) (leb_tells (suc first) (length xs)) in
      ⊎_elim (λ h. get_or_past xs i None h.1) (λ h. let lt = h.1 in not_some (get_or xs i None) (fails_before_first is_some xs i None (omega arith))) (leb_tells (length xs) i)

-- whose document it is
module _ (old : Chunks) (x : Document) (donor : ℕ) where
  owned_at : owner_of old x ≡ donor → is_owned old donor (Some x) ≡ true
  owned_at e = ⊎_elim (λ h. h.0) (λ h. absurd (h.1 e)) (eqb_tells (owner_of old x) donor)

  unowned_at : owner_of old x ≢ donor → is_owned old donor (Some x) ≡ false
  unowned_at n = ⊎_elim (λ h. absurd (n h.1)) (λ h. h.0) (eqb_tells (owner_of old x) donor)

-- each place with what is true there
module _ {X : Type 0} (P : X → Type 0) (old : Chunks) (donor : ℕ) (held : Held) (one two three four : X) where
  by_found : ((x : Document) → waits held donor ≡ Some x → P one)
      → (waits held donor ≡ None → held.output ≡ None → P two)
      → ((x : Document) → waits held donor ≡ None → held.output ≡ Some x → owner_of old x ≡ donor → P three)
      → ((x : Document) → waits held donor ≡ None → held.output ≡ Some x → owner_of old x ≢ donor → P four)
      → P (pick one two three four (found old donor held))
  by_found a b c d =
      let R : Option Document → Option Document → Type 0 = λ w o. P (pick one two three four (cond (is_some w) Waiting (cond (is_none o) Nothing (cond (is_owned old donor o) Own Others)))) in
      let Q : Bool → Type 0 = λ t. P (pick one two three four (cond t Own Others)) in
      by_option (waits held donor)
      (λ n. subst (λ w. R w held.output) (sym n) (by_option held.output
      (λ o. subst (R None) (sym o) (b n o))
      (λ x o. subst (R None) (sym o) (by_equal (owner_of old x) donor
      (λ e. subst Q (sym (owned_at old x donor e)) (c x n o e))
      (λ e. subst Q (sym (unowned_at old x donor e)) (d x n o e))))))
      (λ x w. subst (λ w. R w held.output) (sym w) (a x w))

-- what waits after a stash's document is another
by_waiting : {P : Type 0} (held : Held) (donor other : ℕ) (v : Option Document) (y : Document) → waits (with_waiting held donor v) other ≡ Some y
    → (other ≡ donor → v ≡ Some y → P) → (other ≢ donor → waits held other ≡ Some y → P) → P
by_waiting held donor other v y w f g =
    by_equal other donor
    (λ e.
    let lt : other < length (set held.waiting donor v) = within (set held.waiting donor v) other y w in
    let here : donor < length held.waiting = omega (arith, length-set held.waiting donor v) in
    f e (sym (get_or-set_at held.waiting donor other v None e here) ∙ w))
    (λ n. g n (sym (get_or-set_other held.waiting donor other v None n) ∙ w))

-- what is held stays sound
module _ (old : Chunks) (id : Value) where
  pub empty_sound : (waiting : List (Option Document)) → ((donor : ℕ) → slice_index_or waiting donor None ≡ None) → IsSound old id (record { output = None; waiting = waiting })
  empty_sound waiting none =
      let never : (donor : ℕ) (x : Document) → slice_index_or waiting donor None ≡ Some x → ⊥ = λ donor x w. none-some x (sym (none donor) ∙ w) in
      record { output_whole = λ x e. absurd (none-some x e); output_named = λ x e. absurd (none-some x e); whole = λ d x w. absurd (never d x w); named = λ d x w. absurd (never d x w); owned = λ d x w. absurd (never d x w); behind = λ d x w. absurd (never d x w) }

  module _ (held : Held) (s : IsSound old id held) where
    apart : (donor : ℕ) (x y : Document) → waits held donor ≡ Some y → held.output ≡ Some x → owner_of old x ≢ donor
    apart donor x y w o e = true≢false (sym (owned_at old x donor e) ∙ ap (is_owned old donor) (sym o) ∙ (s.behind donor y w).1)

    none_behind : held.output ≡ None → (donor : ℕ) → waits held donor ≡ None
    none_behind o donor = by_option (waits held donor) (λ n. n) (λ y w. absurd (true≢false (sym (s.behind donor y w).0 ∙ ap is_some o)))

    alone : (donor : ℕ) (x : Document) → held.output ≡ Some x → owner_of old x ≡ donor → waits held donor ≡ None
    alone donor x o e = by_option (waits held donor) (λ n. n) (λ y w. absurd (apart donor x y w o e))

    -- a document comes to a stash
    put_sound : (donor : ℕ) (x : Document) → IsWhole x → id_of x ≡ id → owner_of old x ≡ donor → is_some held.output ≡ true → is_owned old donor held.output ≡ false → IsSound old id (with_waiting held donor (Some x))
    put_sound donor x is named owner filled other =
        record {
          output_whole = s.output_whole;
          output_named = s.output_named;
          whole = λ d y w. by_waiting held donor d (Some x) y w (λ e v. subst IsWhole (same x y v) is) (λ n u. s.whole d y u);
          named = λ d y w. by_waiting held donor d (Some x) y w (λ e v. ap id_of (sym (same x y v)) ∙ named) (λ n u. s.named d y u);
          owned = λ d y w. by_waiting held donor d (Some x) y w (λ e v. ap (owner_of old) (sym (same x y v)) ∙ owner ∙ sym e) (λ n u. s.owned d y u);
          behind = λ d y w. by_waiting held donor d (Some x) y w (λ e v. (filled, ap (λ k. is_owned old k held.output) e ∙ other)) (λ n u. s.behind d y u);
        }

    -- a document goes from a stash
    clear_sound : (donor : ℕ) → IsSound old id (with_waiting held donor None)
    clear_sound donor =
        record {
          output_whole = s.output_whole;
          output_named = s.output_named;
          whole = λ d y w. by_waiting held donor d None y w (λ e v. absurd (none-some y v)) (λ n u. s.whole d y u);
          named = λ d y w. by_waiting held donor d None y w (λ e v. absurd (none-some y v)) (λ n u. s.named d y u);
          owned = λ d y w. by_waiting held donor d None y w (λ e v. absurd (none-some y v)) (λ n u. s.owned d y u);
          behind = λ d y w. by_waiting held donor d None y w (λ e v. absurd (none-some y v)) (λ n u. s.behind d y u);
        }

    -- a document comes to the output
    output_sound : (x : Document) → IsWhole x → id_of x ≡ id → ((donor : ℕ) (y : Document) → waits held donor ≡ Some y → owner_of old x ≢ donor) → IsSound old id (with_output held (Some x))
    output_sound x is named other =
        record {
          output_whole = λ y e. subst IsWhole (same x y e) is;
          output_named = λ y e. ap id_of (sym (same x y e)) ∙ named;
          whole = s.whole;
          named = s.named;
          owned = s.owned;
          behind = λ d y w. (refl, unowned_at old x d (other d y w));
        }

  -- a document goes from a stash to the output
  refill_sound : (held : Held) (donor : ℕ) (y : Document) → IsSound old id held → waits held donor ≡ Some y → IsSound old id (with_waiting (with_output held (Some y)) donor None)
  refill_sound held donor y s w =
      output_sound (with_waiting held donor None) (clear_sound held s donor) y (s.whole donor y w) (s.named donor y w)
      (λ d z u. by_waiting held donor d None z u (λ e v. absurd (none-some z v)) (λ n v e. n (sym e ∙ s.owned donor y w)))

module _ (old : Chunks) (id : Value) (held : Held) (donor : ℕ) where
  pub inserted_sound : (document : Document) → IsSound old id held → IsWhole document → id_of document ≡ id → owner_of old document ≡ donor → IsSound old id (inserted old donor document held)
  inserted_sound document s is named owner =
      by_found (IsSound old id) old donor held
      (with_waiting held donor (Some document)) (with_output held (Some document)) (with_output held (Some document)) (with_waiting held donor (Some document))
      (λ x w. put_sound old id held s donor document is named owner (s.behind donor x w).0 (s.behind donor x w).1)
      (λ n o. output_sound old id held s document is named (λ d y w. absurd (none-some y (sym (none_behind old id held s o d) ∙ w))))
      (λ x n o e. output_sound old id held s document is named (λ d y w k. apart old id held s d x y w o (e ∙ sym owner ∙ k)))
      (λ x n o e. put_sound old id held s donor document is named owner (ap is_some o) (ap (is_owned old donor) o ∙ unowned_at old x donor e))

  pub updated_sound : (change : Change) → IsSound old id held → ((document : Document) → IsWhole document → IsWhole (changed_to change document)) → ((document : Document) → id_of (changed_to change document) ≡ id_of document)
      → ((document : Document) → owner_of old (changed_to change document) ≡ owner_of old document) → IsSound old id (updated old donor change held)
  updated_sound change s whole named owner =
      let f : Document → Document = changed_to change in
      by_found (IsSound old id) old donor held (with_waiting held donor (option_map f (waits held donor))) held (with_output held (option_map f held.output)) held
      (λ x w.
      subst (λ v. IsSound old id (with_waiting held donor (option_map f v))) (sym w)
      (put_sound old id held s donor (f x) (whole x (s.whole donor x w)) (named x ∙ s.named donor x w) (owner x ∙ s.owned donor x w) (s.behind donor x w).0 (s.behind donor x w).1))
      (λ n o. s)
      (λ x n o e.
      subst (λ v. IsSound old id (with_output held (option_map f v))) (sym o)
      (output_sound old id held s (f x) (whole x (s.output_whole x o)) (named x ∙ s.output_named x o) (λ d y w k. apart old id held s d x y w o (sym (owner x) ∙ k))))
      (λ x n o e. s)

  pub deleted_sound : IsSound old id held → IsSound old id (deleted old donor held)
  deleted_sound s =
      by_found (IsSound old id) old donor held (with_waiting held donor None) held (refilled held (first_waiting held)) held
      (λ x w. clear_sound old id held s donor)
      (λ n o. s)
      (λ x n o e.
      by_option (first_waiting held)
      (λ f. subst (λ t. IsSound old id (refilled held t)) (sym f) (empty_sound old id held.waiting (λ d. none_filled held.waiting d f)))
      (λ t f.
      let filled = some_of (waits held t) (position-Some is_some held.waiting t None f).1 in
      subst (λ t. IsSound old id (refilled held t)) (sym f)
      (subst (λ v. IsSound old id (with_waiting (with_output held v) t None)) (sym filled.1) (refill_sound old id held t filled.0 s filled.1))))
      (λ x n o e. s)

-- a donor's slot from what waits and from the output
module _ (old : Chunks) (held : Held) (donor : ℕ) where
  slot_unowned : is_owned old donor held.output ≡ false → slot old held donor ≡ waits held donor
  slot_unowned h = ap (λ b. option_or (waits held donor) (cond b held.output None)) h ∙ or_none (waits held donor)

  slot_output : waits held donor ≡ None → is_owned old donor held.output ≡ true → slot old held donor ≡ held.output
  slot_output n h = λ i. option_or (n i) (cond (h i) held.output None)

  slot_waiting : (x : Document) → waits held donor ≡ Some x → slot old held donor ≡ Some x
  slot_waiting x w = ap (λ v. option_or v (cond (is_owned old donor held.output) held.output None)) w

  -- another donor's slot after a step
  others_waiting : (other : ℕ) (v : Option Document) → other ≢ donor → slot old (with_waiting held donor v) other ≡ slot old held other
  others_waiting other v n = ap (λ w. option_or w (cond (is_owned old other held.output) held.output None)) (get_or-set_other held.waiting donor other v None n)

  others_output : (v : Option Document) → is_owned old donor held.output ≡ false → is_owned old donor v ≡ false → slot old (with_output held v) donor ≡ slot old held donor
  others_output v before after = ap (λ b. option_or (waits held donor) (cond b v None)) after ∙ or_none (waits held donor) ∙ sym (slot_unowned before)

-- whose the output's document is
module _ (old : Chunks) (held : Held) (x : Document) (o : held.output ≡ Some x) where
  output_owned : (donor : ℕ) → owner_of old x ≡ donor → is_owned old donor held.output ≡ true
  output_owned donor e = ap (is_owned old donor) o ∙ owned_at old x donor e

  output_unowned : (donor : ℕ) → owner_of old x ≢ donor → is_owned old donor held.output ≡ false
  output_unowned donor n = ap (is_owned old donor) o ∙ unowned_at old x donor n

-- the slots after a refill
module _ (old : Chunks) (id : Value) (held : Held) (s : IsSound old id held) (donor from : ℕ) (x y : Document) (n : waits held donor ≡ None) (o : held.output ≡ Some x) (e : owner_of old x ≡ donor) (w : waits held from ≡ Some y) where
  refill_effect : HasEffect old donor emptied held (with_waiting (with_output held (Some y)) from None)
  refill_effect =
      let after : Held = with_waiting (with_output held (Some y)) from None in
      let owner : owner_of old y ≡ from = s.owned from y w in
      let apart : from ≢ donor = λ k. none-some y (sym n ∙ ap (waits held) (sym k) ∙ w) in
      record {
        here = slot_unowned old after donor (unowned_at old y donor (λ k. apart (sym owner ∙ k))) ∙ get_or-set_other held.waiting from donor None None (λ k. apart (sym k)) ∙ n;
        others = λ d m.
            by_equal d from
            (λ k. slot_output old after d (get_or-set_at held.waiting from d None None k (within held.waiting from y w)) (owned_at old y d (owner ∙ sym k)) ∙ sym (slot_waiting old held d y (ap (waits held) k ∙ w)))
            (λ k. slot_unowned old after d (unowned_at old y d (λ q. k (sym q ∙ owner))) ∙ get_or-set_other held.waiting from d None None k ∙ sym (slot_unowned old held d (output_unowned old held x o d (λ q. m (sym q ∙ e)))));
      }

module _ (old : Chunks) (id : Value) (held : Held) (donor : ℕ) where
  pub inserted_effect : (document : Document) → IsSound old id held → owner_of old document ≡ donor → donor < length held.waiting → HasEffect old donor (set_to document) held (inserted old donor document held)
  inserted_effect document s owner lt =
      let put : HasEffect old donor (set_to document) held (with_waiting held donor (Some document)) =
      record { here = slot_waiting old (with_waiting held donor (Some document)) donor document (get_or-set_same held.waiting donor (Some document) None lt); others = λ d m. others_waiting old held donor d (Some document) m } in
      let other : (d : ℕ) → d ≢ donor → is_owned old d (Some document) ≡ false = λ d m. unowned_at old document d (λ k. m (sym k ∙ owner)) in
      let here : waits held donor ≡ None → slot old (with_output held (Some document)) donor ≡ Some document = λ n. slot_output old (with_output held (Some document)) donor n (owned_at old document donor owner) in
      by_found (HasEffect old donor (set_to document) held) old donor held
      (with_waiting held donor (Some document)) (with_output held (Some document)) (with_output held (Some document)) (with_waiting held donor (Some document))
      (λ x w. put)
      (λ n o. record { here = here n; others = λ d m. others_output old held d (Some document) (ap (is_owned old d) o) (other d m) })
      (λ x n o e. record { here = here n; others = λ d m. others_output old held d (Some document) (output_unowned old held x o d (λ k. m (sym k ∙ e))) (other d m) })
      (λ x n o e. put)

  pub updated_effect : (change : Change) → IsSound old id held → ((document : Document) → owner_of old (changed_to change document) ≡ owner_of old document)
      → HasEffect old donor (changed_by change.assign change.unset) held (updated old donor change held)
  updated_effect change s owner =
      let f : Document → Document = changed_to change in
      let E : Held → Type 0 = HasEffect old donor (changed_by change.assign change.unset) held in
      let left : is_owned old donor held.output ≡ false → waits held donor ≡ None → E held = λ h n.
      let none : slot old held donor ≡ None = slot_unowned old held donor h ∙ n in
      record { here = none ∙ ap (option_map f) (sym none); others = λ d m. refl } in
      by_found E old donor held (with_waiting held donor (option_map f (waits held donor))) held (with_output held (option_map f held.output)) held
      (λ x w.
      let lt = within held.waiting donor x w in
      subst (λ v. E (with_waiting held donor (option_map f v))) (sym w)
      (record {
        here = slot_waiting old (with_waiting held donor (Some (f x))) donor (f x) (get_or-set_same held.waiting donor (Some (f x)) None lt) ∙ ap (option_map f) (sym (slot_waiting old held donor x w));
        others = λ d m. others_waiting old held donor d (Some (f x)) m;
      }))
      (λ n o. left (ap (is_owned old donor) o) n)
      (λ x n o e.
      subst (λ v. E (with_output held (option_map f v))) (sym o)
      (record {
        here = slot_output old (with_output held (Some (f x))) donor n (owned_at old (f x) donor (owner x ∙ e)) ∙ ap (option_map f) (sym (slot_output old held donor n (output_owned old held x o donor e) ∙ o));
        others = λ d m. others_output old held d (Some (f x)) (output_unowned old held x o d (λ k. m (sym k ∙ e))) (unowned_at old (f x) d (λ k. m (sym k ∙ owner x ∙ e)));
      }))
      (λ x n o e. left (output_unowned old held x o donor e) n)

  pub deleted_effect : IsSound old id held → HasEffect old donor emptied held (deleted old donor held)
  deleted_effect s =
      let E : Held → Type 0 = HasEffect old donor emptied held in
      let left : is_owned old donor held.output ≡ false → waits held donor ≡ None → E held = λ h n. record { here = slot_unowned old held donor h ∙ n; others = λ d m. refl } in
      by_found E old donor held (with_waiting held donor None) held (refilled held (first_waiting held)) held
      (λ x w.
      record {
        here = slot_unowned old (with_waiting held donor None) donor (s.behind donor x w).1 ∙ get_or-set_same held.waiting donor None None (within held.waiting donor x w);
        others = λ d m. others_waiting old held donor d None m;
      })
      (λ n o. left (ap (is_owned old donor) o) n)
      (λ x n o e.
      by_option (first_waiting held)
      (λ f. subst (λ t. E (refilled held t)) (sym f) (record { here = slot_unowned old (with_output held None) donor refl ∙ n; others = λ d m. others_output old held d None (output_unowned old held x o d (λ k. m (sym k ∙ e))) refl }))
      (λ t f.
      let filled = some_of (waits held t) (position-Some is_some held.waiting t None f).1 in
      subst (λ t. E (refilled held t)) (sym f)
      (subst (λ v. E (with_waiting (with_output held v) t None)) (sym filled.1) (refill_effect old id held s donor t x filled.0 n o e filled.1))))
      (λ x n o e. left (output_unowned old held x o donor e) n)

-- what is held stands for its slots
module _ (old : Chunks) (id : Value) (held : Held) where
  pub stands : IsSound old id held → StandsFor (slot old held) held
  stands s =
      let mine : (x : Document) → held.output ≡ Some x → slot old held (owner_of old x) ≡ held.output = λ x o. slot_output old held (owner_of old x) (alone old id held s (owner_of old x) x o refl) (output_owned old held x o (owner_of old x) refl) in
      record {
        nothing = λ none. by_option held.output (λ o. (o, none_behind old id held s o)) (λ x o. absurd (none-some x (sym (none (owner_of old x)) ∙ mine x o ∙ o)));
        filled = λ donor y f.
            by_option held.output
            (λ o. absurd (none-some y (sym (slot_unowned old held donor (ap (is_owned old donor) o) ∙ none_behind old id held s o donor) ∙ f)))
            (λ x o. (owner_of old x, ap is_some o, sym (mine x o), alone old id held s (owner_of old x) x o refl, λ other n. sym (slot_unowned old held other (output_unowned old held x o other (λ k. n (sym k))))));
      }
