-- The rule of a cell with turns: of its word, of its slot, and of what each pass knows.
use Rattle.std.specs.Prelude.{◌≡◌, ℕ, ◌+◌, ◌<◌, ◌≤◌, Bool, true, false, ◌==◌, ◌⊎◌, MatchBool}
use Rattle.std.specs.Prelude.{Box, List, [], ◌∷◌, length, Option, Some, None}
use mathlib.Core.Option.{some, none, Option as Maybe}
use lib.ListN.{get_elem?}
use Rattle.atomic_table.specs.Table.{State, Me, Step}
use Rattle.resh_turn.specs.declared.story.Made.{Made}
use Rattle.resh_turn.specs.declared.rule.Known.{Known}
use Rattle.resh_turn.specs.declared.rule.View.{View}
use Rattle.resh_turn.specs.Replay.{own_of, IsFront, Each}

-- what a box holds has
abbrev pub boxed : {S Z R : Type 0} → (S → R) → Box S Z → R
boxed f b = f b.value

abbrev pub known : {T : Type 0} → ℕ → List (Made T) → List (Made T) → Known T
known number seen own = record { number = number; seen = seen; own = own }

-- a view with no pass taken in
abbrev pub view : {T G : Type 0} → Bool → Bool → Option G → Known T → ℕ → View T G
view live makes begun k count =
    record { live = live; holds = false; makes = makes; begun = begun; known = k; made = count; gathered = [] }

module _ {T G : Type 0} where
  -- the pass that the cell is made with, once there are so many
  abbrev pub opening : G → ℕ → View T G
  opening begun count = view true true (Some begun) (known 0 [] []) count

  abbrev pub opened : G → View T G
  opened begun = opening begun 1

  -- a new pass, whose number is that of those before it
  abbrev pub newcomer : View T G → View T G
  newcomer v = view v.live false v.begun (known v.made v.known.seen []) 0

  abbrev pub with_one_more : View T G → View T G
  with_one_more v = record v { made = v.made + 1 }

  abbrev pub gathering : View T G → View T G → View T G
  gathering v w = record v { gathered = w.known ∷ v.gathered }

  abbrev pub spent : View T G
  spent = view false false None (known 0 [] []) 0

  -- what the holder knows: the journal that it found
  abbrev pub holding : View T G → List (Made T) → View T G
  holding v found = record v { holds = true; known = record v.known { seen = found } }

  -- what a pass knows that has put the value back
  abbrev pub returned : View T G → List (Made T) → View T G
  returned v journal = record v { holds = false; known = known v.known.number journal (own_of v.known.number journal) }

  -- what was taken in: the pass has stopped, and what it knew of the journal is so
  abbrev pub IsGathered : List (View T G) → List (Made T) → Known T → Type 0
  IsGathered views log k =
      ((w : View T G) × (get_elem? views k.number ≡ some w) × (w.live ≡ false))
      × IsFront k.seen log × (k.own ≡ own_of k.number log)

module _ {S T G : Type 0} (start : S → G) (journal : S → List (Made T)) where
  -- the value lies in the slot
  abbrev pub IsFree : G → List ℕ → List (Maybe (Option S)) → List (Made T) → Type 0
  IsFree begun words homes log =
      (words ≡ 0 ∷ []) × (x : S) × (homes ≡ some (Some x) ∷ []) × (journal x ≡ log) × (Some (start x) ≡ Some begun)

  -- one pass holds the turn, and the slot is out with it
  abbrev pub IsTaken : ℕ → List ℕ → List (Maybe (Option S)) → List (View T G) → Type 0
  IsTaken holder words homes views =
      (words ≡ 1 ∷ []) × (homes ≡ none ∷ [])
      × (v : View T G) × (get_elem? views holder ≡ some v) × (v.live ≡ true) × (v.holds ≡ true)

  -- what a pass knows of the journal
  abbrev pub Fits : G → List ℕ → List (Made T) → ℕ → ℕ → View T G → Type 0
  Fits begun words log holder seat v =
      (v.known.number ≡ seat) × (v.begun ≡ Some begun) × IsFront v.known.seen log × (v.known.own ≡ own_of seat log)
      × (v.holds ≡ true → (words ≡ 1 ∷ []) × (seat ≡ holder) × (v.known.seen ≡ log))

  -- the pass that makes the others
  abbrev pub Makes : ℕ → ℕ → View T G → Type 0
  Makes count seat v = v.makes ≡ true → (v.made ≡ count) × (seat ≡ 0)

  abbrev pub Below : ℕ → List (Made T) → Type 0
  Below count log = Each (λ e. e.by < count) log

  -- each pass that wasn't taken in
  abbrev pub AtEach : List (View T G) → (ℕ → View T G → Type 0) → Type 0
  AtEach views P = (seat : ℕ) (v : View T G) → get_elem? views seat ≡ some v → v.live ≡ true → P seat v

  pub record Kept (begun : G) (passes : ℕ) (s : State (Option S) (View T G)) : Type 0 where
    pub log : List (Made T)
    pub holder : ℕ
    pub count : ℕ
    pub counted : length s.views ≡ count
    pub value : IsFree begun s.words s.homes log ⊎ IsTaken holder s.words s.homes s.views
    pub fits : AtEach s.views (Fits begun s.words log holder)
    pub makes : AtEach s.views (Makes count)
    pub gathered : AtEach s.views (λ _ v. Each (IsGathered s.views log) v.gathered)
    pub below : Below count log
    pub few : count ≤ passes

  -- One try to take the turn: where the word said free, the pass holds the value, whose journal begins with all that
  -- it has seen and has just its own steps of it. Else nothing changed.
  abbrev pub Takes : View T G → S → View T G → Type 0
  Takes v x w =
      (w ≡ holding v (journal x)) × IsFront v.known.seen (journal x)
      × (v.known.own ≡ own_of v.known.number (journal x)) × (Some (start x) ≡ v.begun)

  abbrev pub taking : Step (Option S) → Me (Option S) (View T G) → ℕ → Me (Option S) (View T G) → Type 0
  taking step before found after =
      MatchBool (found == 0)
      ((x : S) × (after.1 ≡ (0, Some x) ∷ before.1) × Takes before.0 x after.0)
      (after ≡ before)

  -- what a pass knows after the step that puts back what it carries
  abbrev pub returned_by : View T G → Option S → View T G
  returned_by v None = v
  returned_by v (Some x) = returned v (journal x)

  abbrev pub returned_with : View T G → List (ℕ × Option S) → View T G
  returned_with v [] = v
  returned_with v (c ∷ _) = returned_by v c.1

  -- the value is back, and the pass has seen its whole journal
  abbrev pub releasing : Step (Option S) → Me (Option S) (View T G) → ℕ → Me (Option S) (View T G) → Type 0
  releasing step before found after = after ≡ (returned_with before.0 before.1, [])
