-- A machine that messages move: its phase, and what it was told.
use Rattle.std.specs.Prelude.{◌≡◌, ◌≢◌, ◌≤◌, ℕ, Bool, true, cond, ◌||◌, ◌⊎◌, Option, Some, is_some, unwrap_or, refl}
use Rattle.std.specs.Coded.{Coded, code_by, coded×}
use Rattle.resh_progress.specs.Kinds.{Kind, ToRelease}
use Rattle.resh_progress.specs.Tellings.{has, nothing, told_too}
use Rattle.resh_progress.specs.declared.told.Told.{Told}
use Rattle.resh_progress.specs.contracts.told.Told as told

pub record State (Phase : Type 0) : Type 0 where
  pub phase : Phase
  pub told : Told

-- a state is stored as the pair of its parts
abbrev pub state_code : {Phase : Type 0} → Coded Phase → Coded (State Phase)
state_code {Phase} code =
    code_by (Phase × Told) (coded× code told.the_row.coded) (λ s. (s.phase, s.told))
    (λ p. record { phase = p.0; told = p.1 }) (λ _. refl)

-- the phase to which a message moves, where it moves
abbrev pub Next : Type 0 → Type 0
Next Phase = Phase → Kind → Option Phase

-- what was told on the way to each phase, where no release came
abbrev pub Way : Type 0 → Type 0
Way Phase = Phase → Told

module _ {Phase : Type 0} where
  -- a machine that was told nothing
  abbrev pub at_first : Phase → State Phase
  at_first first = record { phase = first; told = nothing }

  -- a message may come that came before, or that moves the phase
  abbrev pub may : Next Phase → State Phase → Kind → Bool
  may next state kind = has state.told kind || is_some (next state.phase kind)

  -- a message that came before changes nothing
  abbrev pub after : Next Phase → State Phase → Kind → State Phase
  after next state kind =
      cond (has state.told kind) state
      (record { phase = unwrap_or (next state.phase kind) state.phase; told = told_too state.told kind })

  -- a phase that was reached without a release
  abbrev pub going : Way Phase → Phase → State Phase
  going told_until phase = record { phase = phase; told = told_until phase }

  -- a release came in a phase before the last, and nothing later did
  pub record IsReleased (last : Phase) (told_until : Way Phase) (state : State Phase) : Type 0 where
    pub phase : Phase
    pub before : phase ≢ last
    pub done : state.phase ≡ last
    pub told : state.told ≡ told_too (told_until phase) ToRelease

  -- what a machine may have come to
  abbrev pub IsReached : Phase → Way Phase → State Phase → Type 0
  IsReached last told_until state = (state.told ≡ told_until state.phase) ⊎ IsReleased last told_until state

  -- no message moves to an earlier phase
  abbrev pub Rises : Next Phase → (Phase → ℕ) → Type 0
  Rises next place_of =
      (phase later : Phase) (kind : Kind) → next phase kind ≡ Some later → place_of phase ≤ place_of later

  -- a message that may come, where no release came, leads on to what the machine may come to
  abbrev pub GoesOn : Next Phase → Phase → Way Phase → Type 0
  GoesOn next last told_until =
      (phase : Phase) (kind : Kind) → may next (going told_until phase) kind ≡ true
      → IsReached last told_until (after next (going told_until phase) kind)

  -- after a message one of its kind changes nothing
  abbrev pub ARepeatChangesNothing : Next Phase → Type 0
  ARepeatChangesNothing next =
      (state : State Phase) (kind : Kind)
      → (has (after next state kind).told kind ≡ true)
      × (after next (after next state kind) kind ≡ after next state kind)

  -- a message leaves what was told of other kinds
  abbrev pub OtherKindsAreKept : Next Phase → Type 0
  OtherKindsAreKept next =
      (state : State Phase) (kind other : Kind) → other ≢ kind
      → has (after next state kind).told other ≡ has state.told other

  abbrev pub PhasesNeverGoBack : Next Phase → (Phase → ℕ) → Type 0
  PhasesNeverGoBack next place_of =
      (state : State Phase) (kind : Kind) → place_of state.phase ≤ place_of (after next state kind).phase

  -- in the last phase no message moves
  abbrev pub TheEndIsKept : Next Phase → Phase → Type 0
  TheEndIsKept next last =
      (state : State Phase) (kind : Kind) → state.phase ≡ last → may next state kind ≡ true
      → after next state kind ≡ state

  -- a message that may come leads on to what the machine may come to
  abbrev pub ReachesOn : Next Phase → Phase → Way Phase → Type 0
  ReachesOn next last told_until =
      (state : State Phase) (kind : Kind) → may next state kind ≡ true → IsReached last told_until state
      → IsReached last told_until (after next state kind)
