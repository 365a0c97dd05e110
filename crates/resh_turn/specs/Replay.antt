-- Steps, and the state after them.
use Rattle.std.specs.Prelude.{◌≡◌, ℕ, true, List, [], ◌∷◌, ◌++◌, ◌==◌, length, drop}
use Rattle.std.specs.List.{filter, list_all}
use Rattle.resh_turn.specs.declared.story.Made.{Made}

module _ {T : Type 0} where
  abbrev pub made : ℕ → T → Made T
  made by step = record { by = by; step = step }

  -- the journal has this step behind what it had
  abbrev pub Adds : Made T → List (Made T) → List (Made T) → Type 0
  Adds step before after = after ≡ before ++ step ∷ []

  -- the steps that the pass of this number made, in their order
  abbrev pub own_of : ℕ → List (Made T) → List (Made T)
  own_of number journal = filter (λ e. e.by == number) journal

  -- the second journal begins with the first
  abbrev pub IsFront : List (Made T) → List (Made T) → Type 0
  IsFront front whole = (rest : List (Made T)) × (whole ≡ front ++ rest)

-- the state after steps
abbrev pub replay : {T G : Type 0} → (G → Made T → G) → G → List (Made T) → G
replay next state [] = state
replay next state (e ∷ es) = replay next (next state e) es

-- P holds of each
abbrev pub Each : {A : Type 0} → (A → Type 0) → List A → Type 0
Each P [] = Unit {0}
Each P (x ∷ xs) = P x × Each P xs

-- the journal is the one that was found, and then steps of this pass
abbrev pub Grows : {T : Type 0} → ℕ → List (Made T) → List (Made T) → Type 0
Grows number found journal =
    (journal ≡ found ++ drop (length found) journal)
    × (list_all (λ e. e.by == number) (drop (length found) journal) ≡ true)
