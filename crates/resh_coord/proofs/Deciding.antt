-- One decision, phases that begin anew and never go back.
use Rattle.std.proofs.Common.{◌≡◌, ◌≤◌, ℕ, zero, suc, Bool, true, false, cond, List, [], ◌∷◌, length, replicate, Option, Some, None, is_some, slice_index_or, slice_set, refl, sym, ap, subst, ◌∙◌, arith, rules}
use Rattle.resh_value.specs.declared.value.Value.{Value}
use Rattle.resh_coord.specs.Control.{Control, Agrees, IsControl, advanced, begun, begins, decided_at, decided_by_clashes, first_clash, is_true_at, left, may_advance, may_leave, unless_decided, aborted}
use Rattle.resh_coord.specs.Laws.{place_of}
use Rattle.resh_coord.specs.declared.cause.Cause.{Cause}
use Rattle.resh_coord.specs.declared.cause.End.{End}
use Rattle.resh_coord.specs.declared.phase.Phase.{Phase}
use Rattle.resh_coord.specs.declared.phase.Phase.TheVariants.{Initializing, PreparingToDonate, Cloning, Applying, BlockingWrites, Committing, Aborting, Done}

some_isnt_none : {X : Type 0} {A : Type 0} (x : X) → None ≡ Some x → A
some_isnt_none x e = cc

-- in a phase that goes with what is decided, a decision that stands is kept
left_keeps : (phase : Phase) (time : ℕ) (c : Control) (end : End) → Agrees phase c.decision → c.decision ≡ Some end → (left phase time c).decision ≡ Some end
left_keeps Initializing time c end a d = some_isnt_none end (sym a ∙ d)
left_keeps PreparingToDonate time c end a d = d
left_keeps Cloning time c end a d = d
left_keeps Applying time c end a d = d
left_keeps BlockingWrites time c end a d = some_isnt_none end (sym a ∙ d)
left_keeps Committing time c end a d = d
left_keeps Aborting time c end a d = d
left_keeps Done time c end a d = d

pub advance_keeps : (c : Control) (time : ℕ) (end : End) → IsControl c → c.decision ≡ Some end → (advanced time c).decision ≡ Some end
advance_keeps c time end is d = by (may_advance c)
  where
    by : (may : Bool) → (cond may (left c.phase time c) c).decision ≡ Some end
    by true = left_keeps c.phase time c end is.decision d
    by false = d

begun_keeps_in : (phase : Phase) (c : Control) (end : End) → Agrees phase c.decision → c.decision ≡ Some end → (cond (begins phase) (record c { phase = PreparingToDonate; told = replicate (length c.told) false; reported = replicate (length c.reported) false }) c).decision ≡ Some end
begun_keeps_in Initializing c end a d = d
begun_keeps_in phase c end a d = d

pub begun_keeps : (c : Control) (end : End) → IsControl c → c.decision ≡ Some end → (begun c).decision ≡ Some end
begun_keeps c end is d = begun_keeps_in c.phase c end is.decision d

pub fail_keeps : (c : Control) (cause : Cause) (end : End) → c.decision ≡ Some end → unless_decided cause c ≡ c
fail_keeps c cause end d = ap (λ o. cond (is_some o) c (aborted cause c)) d

none_marked : (n place : ℕ) → is_true_at (replicate n false) place ≡ false
none_marked zero place = refl
none_marked (suc n) zero = refl
none_marked (suc n) (suc place) = none_marked n place

decided_told : (shard : ℕ) (clash : Option Value) (c : Control) (place : ℕ) → is_true_at (decided_at shard clash c).told place ≡ false
decided_told shard None c place = none_marked (length c.told) place
decided_told shard (Some id) c place = none_marked (length c.told) place

decided_reported : (shard : ℕ) (clash : Option Value) (c : Control) (place : ℕ) → is_true_at (decided_at shard clash c).reported place ≡ false
decided_reported shard None c place = none_marked (length c.reported) place
decided_reported shard (Some id) c place = none_marked (length c.reported) place

left_told : (phase : Phase) (time : ℕ) (c : Control) (place : ℕ) → is_true_at (left phase time c).told place ≡ false
left_told PreparingToDonate time c place = none_marked (length c.told) place
left_told Cloning time c place = none_marked (length c.told) place
left_told Applying time c place = none_marked (length c.told) place
left_told BlockingWrites time c place = decided_told (first_clash c.clashes) (slice_index_or c.clashes (first_clash c.clashes) None) (record c { clashes = slice_set c.clashes (first_clash c.clashes) None }) place
left_told phase time c place = none_marked (length c.told) place

left_reported : (phase : Phase) (time : ℕ) (c : Control) (place : ℕ) → is_true_at (left phase time c).reported place ≡ false
left_reported PreparingToDonate time c place = none_marked (length c.reported) place
left_reported Cloning time c place = none_marked (length c.reported) place
left_reported Applying time c place = none_marked (length c.reported) place
left_reported BlockingWrites time c place = decided_reported (first_clash c.clashes) (slice_index_or c.clashes (first_clash c.clashes) None) (record c { clashes = slice_set c.clashes (first_clash c.clashes) None }) place
left_reported phase time c place = none_marked (length c.reported) place

pub told_anew : (c : Control) (time shard : ℕ) → may_advance c ≡ true → is_true_at (advanced time c).told shard ≡ false
told_anew c time shard may = ap (λ b. is_true_at (cond b (left c.phase time c) c).told shard) may ∙ left_told c.phase time c shard

pub reported_anew : (c : Control) (time shard : ℕ) → may_advance c ≡ true → is_true_at (advanced time c).reported shard ≡ false
reported_anew c time shard may = ap (λ b. is_true_at (cond b (left c.phase time c) c).reported shard) may ∙ left_reported c.phase time c shard

-- phases
begun_after : (phase : Phase) → place_of phase ≤ place_of (cond (begins phase) PreparingToDonate phase)
begun_after Initializing = omega arith
begun_after phase = omega arith

begun_phase : (may : Bool) (c : Control) → (cond may (record c { phase = PreparingToDonate; told = replicate (length c.told) false; reported = replicate (length c.reported) false }) c).phase ≡ cond may PreparingToDonate c.phase
begun_phase true c = refl
begun_phase false c = refl

pub begun_never_back : (c : Control) → place_of c.phase ≤ place_of (begun c).phase
begun_never_back c = subst (λ phase. place_of c.phase ≤ place_of phase) (sym (begun_phase (begins c.phase) c)) (begun_after c.phase)

decided_after : (shard : ℕ) (clash : Option Value) (c : Control) → place_of BlockingWrites ≤ place_of (decided_at shard clash c).phase
decided_after shard None c = omega arith
decided_after shard (Some id) c = omega arith

left_after : (phase : Phase) (time : ℕ) (c : Control) → place_of phase ≤ place_of (left phase time c).phase
left_after PreparingToDonate time c = omega arith
left_after Cloning time c = omega arith
left_after Applying time c = omega arith
left_after BlockingWrites time c = decided_after (first_clash c.clashes) (slice_index_or c.clashes (first_clash c.clashes) None) (record c { clashes = slice_set c.clashes (first_clash c.clashes) None })
left_after Initializing time c = omega arith
left_after Committing time c = omega arith
left_after Aborting time c = omega arith
left_after Done time c = omega arith

pub advance_never_back : (c : Control) (time : ℕ) → place_of c.phase ≤ place_of (advanced time c).phase
advance_never_back c time = by (may_advance c)
  where
    by : (may : Bool) → place_of c.phase ≤ place_of (cond may (left c.phase time c) c).phase
    by true = left_after c.phase time c
    by false = omega arith

undecided_before : (phase : Phase) (decision : Option End) → Agrees phase decision → is_some decision ≡ false → place_of phase ≤ place_of Aborting
undecided_before Initializing decision a none = omega arith
undecided_before PreparingToDonate decision a none = omega arith
undecided_before Cloning decision a none = omega arith
undecided_before Applying decision a none = omega arith
undecided_before BlockingWrites decision a none = omega arith
undecided_before Committing decision a none = omega arith
undecided_before Aborting decision a none = omega arith
undecided_before Done decision a none = absurd (never (sym a ∙ none))
  where
    never : true ≡ false → ⊥
    never e = cc

pub fail_never_back : (c : Control) (cause : Cause) → IsControl c → place_of c.phase ≤ place_of (unless_decided cause c).phase
fail_never_back c cause is = by (is_some c.decision) refl
  where
    by : (b : Bool) → is_some c.decision ≡ b → place_of c.phase ≤ place_of (cond b c (aborted cause c)).phase
    by true e = omega arith
    by false e = undecided_before c.phase c.decision is.decision e
