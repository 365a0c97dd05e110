-- Steps one after another.
use Rattle.std.proofs.Common.{◌≡◌, ℕ, suc, ◌+◌, ◌<◌, List, [], ◌∷◌, ◌++◌, length, take, get_or, refl, sym, ap, subst, ◌∙◌, append_assoc, arith}
use Rattle.std.proofs.lemmas.List.{append-nil, length-append}
use Rattle.std.proofs.lemmas.Option.{slice_get_read}
use Rattle.resh_setup.specs.declared.event.Event.{Event}
use Rattle.resh_setup.specs.declared.setup.Setup.{Setup}
use Rattle.resh_events.specs.Lucks.{Lucks}
use Rattle.resh_events.specs.Steps.{Line}
use Rattle.resh_core.specs.Cores.{CoreOf, HasStepped}
use Rattle.resh_run.specs.Cluster.{HaveAllStepped, HaveStepped, StepsOnce, lines_at, lines_from}
use Rattle.resh_run.proofs.Taken.{take_more}

-- each step shows its lines
pub stepped_many : (events : List Event) (old : CoreOf) (before : Lucks) (shown : List (List Line)) (new : CoreOf) (later : Lucks)
    → HaveStepped events old before shown new later → length shown ≡ length events
stepped_many [] old before [] new later h = refl
stepped_many [] old before (x ∷ xs) new later h = absurd h
stepped_many (e ∷ es) old before [] new later h = absurd h
stepped_many (e ∷ es) old before (x ∷ xs) new later h = ap suc (stepped_many es h.0 h.1 xs new later h.3)

-- one step more
pub steps_push : (events : List Event) (event : Event) (old middle new : CoreOf) (before told later : Lucks) (shown : List (List Line)) (lines : List Line)
    → HaveStepped events old before shown middle told → HasStepped middle told event lines new later
    → HaveStepped (events ++ event ∷ []) old before (shown ++ lines ∷ []) new later
steps_push [] event old middle new before told later [] lines h s =
    (new, later, subst (λ (c : CoreOf). HasStepped c before event lines new later) h.0 (subst (λ (t : Lucks). HasStepped middle t event lines new later) h.1 s), (refl, refl))
steps_push [] event old middle new before told later (x ∷ xs) lines h s = absurd h
steps_push (e ∷ es) event old middle new before told later [] lines h s = absurd h
steps_push (e ∷ es) event old middle new before told later (x ∷ xs) lines h s =
    (h.0, h.1, h.2, steps_push es event h.0 middle new h.1 told later xs lines h.3 s)

module _ (setup : Setup) where
  pub lines_push : (number : ℕ) (shown : List (List Line)) (lines : List Line)
      → lines_from setup number (shown ++ lines ∷ []) ≡ lines_from setup number shown ++ lines_at setup (number + length shown) lines
  lines_push number [] lines = let same : number ≡ number + 0 = omega arith in append-nil (lines_at setup number lines) ∙ ap (λ (n : ℕ). lines_at setup n lines) same
  lines_push number (x ∷ xs) lines =
      let here : (number + 1) + length xs ≡ number + length (x ∷ xs) = omega arith in
      ap (λ (rest : List (List ℕ)). lines_at setup number x ++ rest) (lines_push (number + 1) xs lines ∙ ap (λ (n : ℕ). lines_from setup (number + 1) xs ++ lines_at setup n lines) here)
      ∙ sym (append_assoc (lines_at setup number x) (lines_from setup (number + 1) xs) (lines_at setup (number + length (x ∷ xs)) lines))

-- some events have been made as steps, and these are their lines
pub record HaveShown (setup : Setup) (events : List Event) (old : CoreOf) (before : Lucks) (count : ℕ) (texts : List (List ℕ)) (new : CoreOf) (later : Lucks) : Type 0 where
  pub shown : List (List Line)
  pub stepped : HaveStepped events old before shown new later
  pub many : length shown ≡ count
  pub texts_are : texts ≡ lines_from setup 1 shown

pub none_shown : (setup : Setup) (old : CoreOf) (before : Lucks) (texts : List (List ℕ)) → texts ≡ [] → HaveShown setup [] old before 0 texts old before
none_shown setup old before texts none = record { shown = []; stepped = (refl, refl); many = refl; texts_are = none }

pub shown_more : (setup : Setup) (events : List Event) (n number : ℕ) (event : Event) (old middle new : CoreOf) (before told later : Lucks) (texts more : List (List ℕ))
    → HaveShown setup (take n events) old before n texts middle told → n < length events → event ≡ get_or events n event → number ≡ n + 1
    → StepsOnce setup number event middle told texts new later more → HaveShown setup (take (n + 1) events) old before (n + 1) more new later
shown_more setup events n number event old middle new before told later texts more h within is numbered s =
    let here = slice_get_read events (length events) n event refl within is in
    let all = steps_push (take n events) event old middle new before told later h.shown s.0 h.stepped s.1 in
    let many : length (h.shown ++ s.0 ∷ []) ≡ n + 1 = omega (arith, length-append h.shown (s.0 ∷ []), h.many) in
    let place : 1 + length h.shown ≡ number = omega (arith, h.many, numbered) in
    record {
      shown = h.shown ++ s.0 ∷ [];
      stepped = subst (λ (es : List Event). HaveStepped es old before (h.shown ++ s.0 ∷ []) new later) (sym (take_more n events event here)) all;
      many = many;
      texts_are = s.2 ∙ ap (λ (ts : List (List ℕ)). ts ++ lines_at setup number s.0) h.texts_are
          ∙ sym (lines_push setup 1 h.shown s.0 ∙ ap (λ (m : ℕ). lines_from setup 1 h.shown ++ lines_at setup m s.0) place);
    }

pub all_shown : (setup : Setup) (old new : CoreOf) (before later : Lucks) (events : List Event) (count : ℕ) (texts : List (List ℕ)) → events ≡ setup.steps
    → HaveShown setup events old before count texts new later → HaveAllStepped setup old before texts new later
all_shown setup old new before later events count texts all h =
    (h.shown, subst (λ (es : List Event). HaveStepped es old before h.shown new later) all h.stepped, h.texts_are)
