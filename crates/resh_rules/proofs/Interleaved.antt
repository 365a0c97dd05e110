-- Entries of several donors, one after another: each acts on the slot of its donor alone.
use Rattle.std.proofs.Common.{◌≡◌, ◌<◌, ℕ, cond, List, [], ◌∷◌, length, All, Option, Some, None, option_map, refl, sym, ap, subst, ◌∙◌, ⊎_elim, length-set}
use Rattle.std.proofs.lemmas.Bool.Decides.{eqb_tells}
use Rattle.std.proofs.lemmas.List.Elements.{All-head, All-tail}
use Rattle.resh_value.specs.declared.value.Value.{Value}
use Rattle.resh_chunks.specs.Chunks.{Chunks}
use Rattle.resh_oplog.specs.declared.entry.What.{What}
use Rattle.resh_oplog.specs.declared.entry.What.TheVariants.{Insert, Update, Delete, Final}
use Rattle.resh_stash.specs.Stored.{Document, changed_to}
use Rattle.resh_feed.specs.Effects.{effect_of}
use Rattle.resh_rules.specs.Finding.{found, pick}
use Rattle.resh_rules.specs.Held.{Held, waits, with_output, with_waiting}
use Rattle.resh_rules.specs.Interleaving.{after_all, of_donor, in_turn, effects, AllMayCome, MayCome, MayComeFrom}
use Rattle.resh_rules.specs.Rules.{refilled, first_waiting, output_changed, step_of, waiting_changed}
use Rattle.resh_rules.specs.Slots.{slot, IsSound, HasEffect}
use Rattle.resh_rules.proofs.Ruling.{inserted_sound, inserted_effect, updated_sound, updated_effect, deleted_sound, deleted_effect}
use Rattle.resh_rules.specs.declared.rule.Found.{Found}
use Rattle.resh_rules.specs.declared.rule.Found.TheVariants.{Waiting, Nothing, Own, Others}
use Rattle.resh_value.proofs.WholeLaws.{whole_changed}
use Rattle.resh_rules.proofs.Unnamed.{id_stays, owner_stays}

one_picked : {X : Type 0} (P : X → Type 0) (one two three four : X) → P one → P two → P three → P four → (at : Found) → P (pick one two three four at)
one_picked P one two three four p q r s Waiting = p
one_picked P one two three four p q r s Nothing = q
one_picked P one two three four p q r s Own = r
one_picked P one two three four p q r s Others = s

-- no entry brings a place to wait, or takes one
module _ (held : Held) where
  abbrev pub HasPlaces : Held → Type 0
  HasPlaces after = length after.waiting ≡ length held.waiting

  refilled_places : (first : Option ℕ) → HasPlaces (refilled held first)
  refilled_places None = refl
  refilled_places (Some donor) = length-set held.waiting donor None

  pub step_places : (old : Chunks) (donor : ℕ) (what : What) → HasPlaces (step_of old donor what held)
  step_places old donor (Insert d) =
      one_picked HasPlaces (with_waiting held donor (Some d)) (with_output held (Some d)) (with_output held (Some d)) (with_waiting held donor (Some d))
      (length-set held.waiting donor (Some d)) refl refl (length-set held.waiting donor (Some d)) (found old donor held)
  step_places old donor (Update id change) =
      one_picked HasPlaces (waiting_changed donor change held) held (output_changed change held) held
      (length-set held.waiting donor (option_map (changed_to change) (waits held donor))) refl refl refl (found old donor held)
  step_places old donor (Delete id) =
      one_picked HasPlaces (with_waiting held donor None) held (refilled held (first_waiting held)) held
      (length-set held.waiting donor None) refl (refilled_places (first_waiting held)) refl (found old donor held)
  step_places old donor Final = refl

module _ (old : Chunks) (id : Value) where
  -- one entry
  module _ (held : Held) (s : IsSound old id held) (donor : ℕ) where
    pub step_sound : (what : What) → MayComeFrom old id donor what → IsSound old id (step_of old donor what held)
    step_sound (Insert d) may = inserted_sound old id held donor d s may.0 may.1 may.2
    step_sound (Update own change) may =
        updated_sound old id held donor change s (λ d is. whole_changed d change.assign change.unset may.0 may.1.id is) (λ d. id_stays change.assign change.unset d may.1.id) (λ d. owner_stays old change.assign change.unset d may.1.key)
    step_sound (Delete own) may = deleted_sound old id held donor s
    step_sound Final may = s

    pub step_effect : (what : What) → donor < length held.waiting → MayComeFrom old id donor what → HasEffect old donor (effect_of what) held (step_of old donor what held)
    step_effect (Insert d) lt may = inserted_effect old id held donor d s may.2 lt
    step_effect (Update own change) lt may = updated_effect old id held donor change s (λ d. owner_stays old change.assign change.unset d may.1.key)
    step_effect (Delete own) lt may = deleted_effect old id held donor s
    step_effect Final lt may = record { here = refl; others = λ other n. refl }

  -- what may come after an entry
  rest_may : (held : Held) (entry : ℕ × What) (entries : List (ℕ × What)) → AllMayCome old id held (entry ∷ entries)
      → AllMayCome old id (step_of old entry.0 entry.1 held) entries
  rest_may held entry entries all =
      subst (λ donors. All (MayCome old id donors) entries) (sym (step_places held old entry.0 entry.1)) (All-tail (MayCome old id (length held.waiting)) entry entries all)

  first_may : (held : Held) (entry : ℕ × What) (entries : List (ℕ × What)) → AllMayCome old id held (entry ∷ entries) → MayCome old id (length held.waiting) entry
  first_may held entry entries all = All-head (MayCome old id (length held.waiting)) entry entries all

  pub all_sound : (held : Held) (entries : List (ℕ × What)) → IsSound old id held → AllMayCome old id held entries → IsSound old id (after_all old entries held)
  all_sound held [] s all = s
  all_sound held (e ∷ es) s all =
      all_sound (step_of old e.0 e.1 held) es (step_sound held s e.0 e.1 (first_may held e es all).1) (rest_may held e es all)

  -- an entry turns the slot of its donor, and leaves another's
  slot_turns : (held : Held) (donor : ℕ) (entry : ℕ × What) (entries : List (ℕ × What)) → HasEffect old entry.0 (effect_of entry.1) held (step_of old entry.0 entry.1 held)
      → effects donor entries (slot old (step_of old entry.0 entry.1 held) donor) ≡ effects donor (entry ∷ entries) (slot old held donor)
  slot_turns held donor e es h =
      let after : Held = step_of old e.0 e.1 held in
      let before : Option Document = slot old held donor in
      let own : List (ℕ × What) = of_donor donor es in
      ⊎_elim
      (λ k. ap (in_turn own) (subst (λ d. slot old after d ≡ effect_of e.1 (slot old held d)) k.1 h.here) ∙ ap (λ t. in_turn (cond t (e ∷ own) own) before) (sym k.0))
      (λ k. ap (in_turn own) (h.others donor (λ q. k.1 (sym q))) ∙ ap (λ t. in_turn (cond t (e ∷ own) own) before) (sym k.0))
      (eqb_tells e.0 donor)

  pub all_slots : (held : Held) (entries : List (ℕ × What)) → IsSound old id held → AllMayCome old id held entries
      → (donor : ℕ) → slot old (after_all old entries held) donor ≡ effects donor entries (slot old held donor)
  all_slots held [] s all donor = refl
  all_slots held (e ∷ es) s all donor =
      let may = first_may held e es all in
      all_slots (step_of old e.0 e.1 held) es (step_sound held s e.0 e.1 may.1) (rest_may held e es all) donor ∙ slot_turns held donor e es (step_effect held s e.0 e.1 may.0 may.1)

  pub alike_slots : (held : Held) (one other : List (ℕ × What)) → IsSound old id held → AllMayCome old id held one → AllMayCome old id held other
      → ((donor : ℕ) → of_donor donor one ≡ of_donor donor other) → (donor : ℕ) → slot old (after_all old one held) donor ≡ slot old (after_all old other held) donor
  alike_slots held one other s may might alike donor =
      all_slots held one s may donor ∙ ap (λ entries. in_turn entries (slot old held donor)) (alike donor) ∙ sym (all_slots held other s might donor)
