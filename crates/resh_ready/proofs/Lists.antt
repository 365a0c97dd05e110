-- Tests, and what holds at each place of a list.
use Rattle.std.proofs.Common.{◌≡◌, ◌≤◌, ◌<◌, ℕ, zero, suc, Bool, true, false, not, ◌&&◌, List, [], ◌∷◌, ◌++◌, length, nat_le, nat_lt, slice_index_or, take, refl, sym, ap, ◌∙◌, arith}
use Rattle.resh_cells.specs.Cells.{no_lane, no_link}
use Rattle.resh_cells.specs.declared.cluster.LinkCell.{LinkCell}
use Rattle.resh_coord.specs.Control.{all_true, is_true_at}
use Rattle.resh_events.specs.rows.Record.{reach}
use Rattle.resh_events.specs.rows.Report.{all_links}
use Rattle.resh_fetcher.specs.Links.{LinkOf}
use Rattle.resh_lane.specs.Lanes.{LaneOf, number_of}
use Rattle.resh_invariant.proofs.Ones.{both, never}

pub all_two : (a b : Bool) → a ≡ true → b ≡ true → (a && b) ≡ true
all_two a b e f = λ i. e i && f i

pub first_off : (a b : Bool) → b ≡ false → (a && not b) ≡ false → a ≡ false
first_off true b e off = never (sym (ap not e) ∙ off)
first_off false b e off = refl

pub le_true : (a b : ℕ) → a ≤ b → nat_le a b ≡ true
le_true a b le = grind arith

pub lt_true : (a b : ℕ) → a < b → nat_lt a b ≡ true
lt_true a b lt = grind arith

pub le_of : (a b : ℕ) → nat_le a b ≡ true → a ≤ b
le_of a b is = grind arith

pub lt_of : (a b : ℕ) → nat_le a b ≡ false → b < a
lt_of a b is = grind arith

later : (a b : ℕ) → a < b → suc a < suc b
later a b lt = omega arith

sooner : (a b : ℕ) → suc a < suc b → a < b
sooner a b lt = omega arith

first : (b : ℕ) → 0 < suc b
first b = omega arith

outside : (a : ℕ) → a < 0 → ⊥
outside a lt = omega arith

pub nothing_more : {X : Type 0} (a : List X) → a ++ [] ≡ a
nothing_more [] = refl
nothing_more (x ∷ a) = ap (λ l. x ∷ l) (nothing_more a)

-- a list of which some are taken, and none is
pub none_taken : {X : Type 0} (most : ℕ) (xs : List X) → 0 < most → take most xs ≡ [] → xs ≡ []
none_taken most [] some none = refl
none_taken zero (x ∷ xs) some none = absurd (outside 0 some)
none_taken (suc most) (x ∷ xs) some none = cc

pub marked : (marks : List Bool) (s : ℕ) → all_true marks ≡ true → s < length marks → is_true_at marks s ≡ true
marked [] s all lt = absurd (outside s lt)
marked (m ∷ marks) zero all lt = (both m (all_true marks) all).0
marked (m ∷ marks) (suc s) all lt = marked marks s (both m (all_true marks) all).1 (sooner s (length marks) lt)

pub all_pass : (passes : LinkOf → Bool) (cells : List LinkCell)
    → ((d : ℕ) → d < length cells → passes (slice_index_or cells d no_link).link ≡ true) → all_links passes cells ≡ true
all_pass passes [] each = refl
all_pass passes (cell ∷ cells) each =
    all_two (passes cell.link) (all_links passes cells) (each 0 (first (length cells)))
    (all_pass passes cells (λ d lt. each (suc d) (later d (length cells) lt)))

pub all_reach : (d : ℕ) (lanes : List LaneOf) (numbers : List ℕ)
    → ((l : ℕ) → l < length lanes → number_of numbers l ≤ number_of (slice_index_or lanes l no_lane).at d)
    → reach d lanes numbers ≡ true
all_reach d [] numbers each = refl
all_reach d (lane ∷ lanes) [] each = refl
all_reach d (lane ∷ lanes) (number ∷ numbers) each =
    all_two (nat_le number (number_of lane.at d)) (reach d lanes numbers) (le_true number (number_of lane.at d) (each 0 (first (length lanes))))
    (all_reach d lanes numbers (λ l lt. each (suc l) (later l (length lanes) lt)))
