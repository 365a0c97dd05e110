-- No call of the coordinator adds to the phases to come; beginning, leaving a phase and deciding take of them.
use Rattle.std.proofs.Common.{◌≡◌, ◌<◌, ◌≤◌, ◌⊎◌, inl, inr, ℕ, suc, ◌+◌, ◌*◌, Bool, true, false, cond, List, [], ◌∷◌, length, replicate, Option, Some, None, is_some, refl, sym, ap, subst, ◌∙◌, slice_index_or, slice_set}
use native.Mathlib.Omega.{arith}
use Rattle.resh_value.specs.declared.value.Value.{Value}
use Rattle.resh_coord.specs.Control.{Control, advanced, aborted, begins, begun, decided_at, decided_by_clashes, first_clash, is_true_at, left, may_advance, may_leave, unless_decided, with_crash, with_phase, with_report, with_told}
use Rattle.resh_coord.specs.declared.cause.Cause.{Cause}
use Rattle.resh_coord.specs.declared.cause.End.{End}
use Rattle.resh_coord.specs.declared.phase.Phase.{Phase}
use Rattle.resh_coord.specs.declared.phase.Phase.TheVariants.{Initializing, PreparingToDonate, Cloning, Applying, BlockingWrites, Committing, Aborting, Done}
use Rattle.resh_keeping.proofs.Places.{length-set}
use Rattle.resh_rounds.specs.Rounds.{marks_left, unmarked}
use Rattle.resh_rounds.specs.Sums.{total}
use Rattle.resh_rounds.specs.Supplies.{behind, phases_left}
use Rattle.resh_ending.proofs.Places.{length-replicate}
use Rattle.resh_rounds.proofs.Sums.{same, total_less_in, total_set}

-- the same phase, in which no more marks are to come
pub record StaysIn (one other : Control) : Type 0 where
  pub phase : other.phase ≡ one.phase
  pub decision : other.decision ≡ one.decision
  pub marks : marks_left other ≤ marks_left one

-- fewer phases are to come, or the phase stays; and so do the numbers of marks
pub record StageGoes (one other : Control) : Type 0 where
  pub moves : (phases_left other < phases_left one) ⊎ StaysIn one other
  pub told : length other.told ≡ length one.told
  pub reported : length other.reported ≡ length one.reported

pub stays : (c : Control) → StaysIn c c
stays c = record { phase = refl; decision = refl; marks = same (marks_left c) }

pub stage_same : (c : Control) → StageGoes c c
stage_same c = record { moves = inr (stays c); told = refl; reported = refl }

phases_same : (one other : Control) → StaysIn one other → phases_left other ≡ phases_left one
phases_same one other h =
    ap (λ (p : Phase). cond (is_some other.decision) 0 7 + behind p) h.phase
    ∙ ap (λ (o : Option End). cond (is_some o) 0 7 + behind one.phase) h.decision

below_same : (a b : ℕ) → b ≡ a → b ≤ a
below_same a b e = omega arith

below_less : (a b : ℕ) → b < a → b ≤ a
below_less a b lt = omega arith

pub no_more_phases : (one other : Control) → StageGoes one other → phases_left other ≤ phases_left one
no_more_phases one other h = by h.moves
  where
    by : (phases_left other < phases_left one) ⊎ StaysIn one other → phases_left other ≤ phases_left one
    by (inl lt) = below_less (phases_left one) (phases_left other) lt
    by (inr stay) = below_same (phases_left one) (phases_left other) (phases_same one other stay)

at_most : (a b c : ℕ) → b ≤ a → c ≤ b → c ≤ a
at_most a b c h k = omega arith

less_then : (a b c : ℕ) → b < a → c ≤ b → c < a
less_then a b c lt le = omega arith

then_less : (a b c : ℕ) → b ≤ a → c < b → c < a
then_less a b c le lt = omega arith

pub stage_then : (one other last : Control) → StageGoes one other → StageGoes other last → StageGoes one last
stage_then one other last h k = record {
  moves = by h.moves k.moves;
  told = k.told ∙ h.told;
  reported = k.reported ∙ h.reported;
}
  where
    by : (phases_left other < phases_left one) ⊎ StaysIn one other → (phases_left last < phases_left other) ⊎ StaysIn other last
        → (phases_left last < phases_left one) ⊎ StaysIn one last
    by (inl lt) more = inl (less_then (phases_left one) (phases_left other) (phases_left last) lt (no_more_phases other last k))
    by (inr stay) (inl lt) =
        inl (then_less (phases_left one) (phases_left other) (phases_left last) (no_more_phases one other h) lt)
    by (inr stay) (inr more) = inr (record {
      phase = more.phase ∙ stay.phase;
      decision = more.decision ∙ stay.decision;
      marks = at_most (marks_left one) (marks_left other) (marks_left last) stay.marks more.marks;
    })

-- marks
nothing : (n : ℕ) → 0 ≤ n
nothing n = omega arith

front_most : (a b x : ℕ) → x ≤ a → x + b ≤ a + b
front_most a b x h = omega arith

back_most : (a b x : ℕ) → x ≤ b → a + x ≤ a + b
back_most a b x h = omega arith

front_less : (a b x : ℕ) → x < a → x + b < a + b
front_less a b x h = omega arith

back_less : (a b x : ℕ) → x < b → a + x < a + b
back_less a b x h = omega arith

zero_one : 0 < 1
zero_one = omega arith

marked_most : (marks : List Bool) (s : ℕ) → unmarked (slice_set marks s true) ≤ unmarked marks
marked_most marks s =
    total_set (λ (mark : Bool). cond mark 0 1) marks s true false (nothing (cond (slice_index_or marks s false) 0 1))

marked_less : (marks : List Bool) (s : ℕ) → s < length marks → is_true_at marks s ≡ false
    → unmarked (slice_set marks s true) < unmarked marks
marked_less marks s lt is =
    total_less_in (λ (mark : Bool). cond mark 0 1) marks s true false lt
    (subst (λ (t : Bool). 0 < cond t 0 1) (sym is) zero_one)

pub told_less : (s : ℕ) (c : Control) → s < length c.told → is_true_at c.told s ≡ false
    → marks_left (with_told s c) < marks_left c
told_less s c lt is =
    front_less (unmarked c.told) (unmarked c.reported) (unmarked (slice_set c.told s true)) (marked_less c.told s lt is)

pub report_less : (s : ℕ) (clash : Option Value) (c : Control) → s < length c.reported → is_true_at c.reported s ≡ false
    → marks_left (with_report s clash c) < marks_left c
report_less s clash c lt is =
    back_less (unmarked c.told) (unmarked c.reported) (unmarked (slice_set c.reported s true)) (marked_less c.reported s lt is)

mark_small : (t : Bool) (a b : ℕ) → a ≤ b → cond t 0 1 + a ≤ suc b
mark_small true a b h = omega arith
mark_small false a b h = omega arith

unmarked_small : (marks : List Bool) → unmarked marks ≤ length marks
unfolding total
unmarked_small [] = same 0
unmarked_small (mark ∷ marks) = mark_small mark (unmarked marks) (length marks) (unmarked_small marks)

-- two marks a shard
pub marks_small : (c : Control) (n : ℕ) → length c.told ≡ n → length c.reported ≡ n → marks_left c < 2 * n + 1
marks_small c n told reported =
    sum (unmarked c.told) (unmarked c.reported) (length c.told) (length c.reported) n (unmarked_small c.told) (unmarked_small c.reported)
    told reported
  where
    sum : (a b x y n : ℕ) → a ≤ x → b ≤ y → x ≡ n → y ≡ n → a + b < 2 * n + 1
    sum a b x y n h k e f = omega arith

pub crash_goes : (c : Control) → StageGoes c (with_crash c)
crash_goes c = record {
  moves = inr (record { phase = refl; decision = refl; marks = same (marks_left c) });
  told = refl;
  reported = refl;
}

pub told_goes : (s : ℕ) (c : Control) → StageGoes c (with_told s c)
told_goes s c = record {
  moves = inr (record {
    phase = refl;
    decision = refl;
    marks = front_most (unmarked c.told) (unmarked c.reported) (unmarked (slice_set c.told s true)) (marked_most c.told s);
  });
  told = length-set c.told s true;
  reported = refl;
}

pub report_goes : (s : ℕ) (clash : Option Value) (c : Control) → StageGoes c (with_report s clash c)
report_goes s clash c = record {
  moves = inr (record {
    phase = refl;
    decision = refl;
    marks = back_most (unmarked c.told) (unmarked c.reported) (unmarked (slice_set c.reported s true)) (marked_most c.reported s);
  });
  told = refl;
  reported = length-set c.reported s true;
}

-- phases
more : (w n m : ℕ) → n < m → w + n < w + m
more w n m lt = omega arith

step_on : (w n : ℕ) (p q : Phase) → q ≡ p → n < behind p → w + n < w + behind q
step_on w n p q is lt = subst (λ (x : Phase). w + n < w + behind x) (sym is) (more w n (behind p) lt)

decides : (w m : ℕ) → 2 ≤ m → 1 < w + m
decides w m le = omega arith

two : 2 ≤ 2
two = same 2

two_three : 2 < 3
two_three = omega arith

three_four : 3 < 4
three_four = omega arith

four_five : 4 < 5
four_five = omega arith

five_six : 5 < 6
five_six = omega arith

decided_less : (c d : Control) (shard : ℕ) (o : Option Value) → c.phase ≡ BlockingWrites → phases_left (decided_at shard o d) < phases_left c
decided_less c d shard None is = subst (λ (p : Phase). 1 < cond (is_some c.decision) 0 7 + behind p) (sym is) (decides (cond (is_some c.decision) 0 7) 2 two)
decided_less c d shard (Some id) is = subst (λ (p : Phase). 1 < cond (is_some c.decision) 0 7 + behind p) (sym is) (decides (cond (is_some c.decision) 0 7) 2 two)

leaves : (p : Phase) (time : ℕ) (c : Control) → c.phase ≡ p → may_leave p c.told c.reported ≡ true
    → phases_left (left p time c) < phases_left c
leaves Initializing time c is may = cc
leaves PreparingToDonate time c is may = step_on (cond (is_some c.decision) 0 7) 4 PreparingToDonate c.phase is four_five
leaves Cloning time c is may = step_on (cond (is_some c.decision) 0 7) 3 Cloning c.phase is three_four
leaves Applying time c is may = step_on (cond (is_some c.decision) 0 7) 2 Applying c.phase is two_three
leaves BlockingWrites time c is may =
    decided_less c (record c { clashes = slice_set c.clashes (first_clash c.clashes) None }) (first_clash c.clashes)
    (slice_index_or c.clashes (first_clash c.clashes) None) is
leaves Committing time c is may = step_on (cond (is_some c.decision) 0 7) 0 Committing c.phase is zero_one
leaves Aborting time c is may = step_on (cond (is_some c.decision) 0 7) 0 Aborting c.phase is zero_one
leaves Done time c is may = cc

decided_told : (d : Control) (shard : ℕ) (o : Option Value) → length (decided_at shard o d).told ≡ length d.told
decided_told d shard None = length-replicate false (length d.told)
decided_told d shard (Some id) = length-replicate false (length d.told)

decided_reported : (d : Control) (shard : ℕ) (o : Option Value) → length (decided_at shard o d).reported ≡ length d.reported
decided_reported d shard None = length-replicate false (length d.reported)
decided_reported d shard (Some id) = length-replicate false (length d.reported)

left_told : (p : Phase) (time : ℕ) (c : Control) → length (left p time c).told ≡ length c.told
left_told Initializing time c = length-replicate false (length c.told)
left_told PreparingToDonate time c = length-replicate false (length c.told)
left_told Cloning time c = length-replicate false (length c.told)
left_told Applying time c = length-replicate false (length c.told)
left_told BlockingWrites time c =
    decided_told (record c { clashes = slice_set c.clashes (first_clash c.clashes) None }) (first_clash c.clashes)
    (slice_index_or c.clashes (first_clash c.clashes) None)
left_told Committing time c = length-replicate false (length c.told)
left_told Aborting time c = length-replicate false (length c.told)
left_told Done time c = length-replicate false (length c.told)

left_reported : (p : Phase) (time : ℕ) (c : Control) → length (left p time c).reported ≡ length c.reported
left_reported Initializing time c = length-replicate false (length c.reported)
left_reported PreparingToDonate time c = length-replicate false (length c.reported)
left_reported Cloning time c = length-replicate false (length c.reported)
left_reported Applying time c = length-replicate false (length c.reported)
left_reported BlockingWrites time c =
    decided_reported (record c { clashes = slice_set c.clashes (first_clash c.clashes) None }) (first_clash c.clashes)
    (slice_index_or c.clashes (first_clash c.clashes) None)
left_reported Committing time c = length-replicate false (length c.reported)
left_reported Aborting time c = length-replicate false (length c.reported)
left_reported Done time c = length-replicate false (length c.reported)

pub advanced_goes : (time : ℕ) (c : Control) → StageGoes c (advanced time c)
advanced_goes time c = by (may_advance c) refl
  where
    by : (t : Bool) → may_advance c ≡ t → StageGoes c (cond t (left c.phase time c) c)
    by true is = record {
      moves = inl (leaves c.phase time c refl is);
      told = left_told c.phase time c;
      reported = left_reported c.phase time c;
    }
    by false is = stage_same c

-- leaving a phase takes of the phases to come
pub advanced_less : (time : ℕ) (c : Control) → may_advance c ≡ true → phases_left (advanced time c) < phases_left c
advanced_less time c may =
    subst (λ (t : Bool). phases_left (cond t (left c.phase time c) c) < phases_left c) (sym may) (leaves c.phase time c refl may)

starts : (p : Phase) → begins p ≡ true → p ≡ Initializing
starts Initializing h = refl
starts PreparingToDonate h = cc
starts Cloning h = cc
starts Applying h = cc
starts BlockingWrites h = cc
starts Committing h = cc
starts Aborting h = cc
starts Done h = cc

begin_less : (c : Control) → begins c.phase ≡ true → phases_left (with_phase PreparingToDonate c) < phases_left c
begin_less c may = step_on (cond (is_some c.decision) 0 7) 5 Initializing c.phase (starts c.phase may) five_six

pub begun_goes : (c : Control) → StageGoes c (begun c)
begun_goes c = by (begins c.phase) refl
  where
    by : (t : Bool) → begins c.phase ≡ t → StageGoes c (cond t (with_phase PreparingToDonate c) c)
    by true is = record {
      moves = inl (begin_less c is);
      told = length-replicate false (length c.told);
      reported = length-replicate false (length c.reported);
    }
    by false is = stage_same c

pub begun_less : (c : Control) → begins c.phase ≡ true → phases_left (begun c) < phases_left c
begun_less c may =
    subst (λ (t : Bool). phases_left (cond t (with_phase PreparingToDonate c) c) < phases_left c) (sym may) (begin_less c may)

-- a decision
seven : (n : ℕ) → 1 < 7 + n
seven n = omega arith

pub unless_moves : (cause : Cause) (c : Control)
    → (phases_left (unless_decided cause c) < phases_left c) ⊎ (unless_decided cause c ≡ c)
unless_moves cause c = by (is_some c.decision) refl
  where
    by : (t : Bool) → is_some c.decision ≡ t
        → (phases_left (cond t c (aborted cause c)) < phases_left c) ⊎ (cond t c (aborted cause c) ≡ c)
    by true is = inr refl
    by false is = inl (subst (λ (t : Bool). 1 < cond t 0 7 + behind c.phase) (sym is) (seven (behind c.phase)))

pub unless_goes : (cause : Cause) (c : Control) → StageGoes c (unless_decided cause c)
unless_goes cause c = by (is_some c.decision) refl
  where
    by : (t : Bool) → is_some c.decision ≡ t → StageGoes c (cond t c (aborted cause c))
    by true is = stage_same c
    by false is = record {
      moves = inl (subst (λ (t : Bool). 1 < cond t 0 7 + behind c.phase) (sym is) (seven (behind c.phase)));
      told = length-replicate false (length c.told);
      reported = length-replicate false (length c.reported);
    }
