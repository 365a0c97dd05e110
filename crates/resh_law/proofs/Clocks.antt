-- Clocks of which those of some cells are set to a time that is later than each of them.
use Rattle.std.proofs.Common.{◌≡◌, ◌≤◌, ◌<◌, ◌⊎◌, inl, inr, ⊎_elim, ℕ, zero, suc, ◌+◌, Bool, true, false, cond, List, [], ◌∷◌, ◌++◌, length, map, filter, refl, sym, ap, subst, ◌∙◌, arith}
use Rattle.std.proofs.lemmas.Bool.{cases_lt}
use Rattle.std.specs.List.{AllByRecursion, fold, range_with_len}
use Rattle.std.specs.Prelude.{max}
use Rattle.resh_cells.specs.Clocks.{clock_of, with_clock}
use Rattle.resh_cells.specs.declared.cell.Cell.{Cell}
use Rattle.resh_cells.specs.declared.cell.Cell.TheVariants as named
use Rattle.resh_cells.specs.declared.cluster.Clocks.{Clocks}
use Rattle.resh_events.specs.Runs.{Given, Moment, Run, cells_of, stamp_of}
use Rattle.resh_events.specs.Schedules.{Stands}
use Rattle.resh_setup.specs.declared.event.Event.{Event}
use Rattle.resh_setup.specs.declared.setup.Setup.{Setup}
use Rattle.resh_setup.specs.declared.trace.Met.{Met}
use Rattle.resh_stamp.specs.Times.{latest}
use Rattle.resh_stamp.specs.declared.stamp.Stamp.{Stamp}
use Rattle.resh_licence.proofs.Places.{length-set, rows_by, set_by, set_here}
use Rattle.resh_invariant.specs.Frames.{AreLater}

-- the clocks of some cells stand before a time, or at most at it
abbrev pub AreBefore : ℕ → Clocks → List Cell → Type 0
AreBefore time clocks cells = AllByRecursion (λ x. clock_of clocks x < time) cells

abbrev AreAtMost : ℕ → Clocks → List Cell → Type 0
AreAtMost time clocks cells = AllByRecursion (λ x. clock_of clocks x ≤ time) cells

-- the clocks with those of some cells set
abbrev pub set_to : ℕ → Clocks → List Cell → Clocks
set_to time clocks cells = fold (with_clock time) clocks cells

-- a cell is one of some
abbrev pub IsIn : Cell → List Cell → Type 0
IsIn x [] = ⊥
IsIn x (y ∷ ys) = (x ≡ y) ⊎ IsIn x ys

pub all_in : (Q : Cell → Type 0) (x : Cell) (cells : List Cell) → AllByRecursion Q cells → IsIn x cells → Q x
all_in Q x [] all is = absurd is
all_in Q x (y ∷ ys) all (inl e) = subst Q (sym e) all.0
all_in Q x (y ∷ ys) all (inr is) = all_in Q x ys all.1 is

same_size : (n : ℕ) → n ≤ n
same_size n = omega arith

through : (a b c : ℕ) → a ≤ b → b ≤ c → a ≤ c
through a b c one other = omega arith

up_to : (a b : ℕ) → a < b → a ≤ b
up_to a b lt = omega arith

-- one clock is set
clock_by : (P : ℕ → ℕ → Type 0) (time : ℕ) (clocks : Clocks) (at x : Cell) → ((n : ℕ) → P n n) → P (clock_of clocks at) time
    → P (clock_of clocks x) (clock_of (with_clock time clocks at) x)
clock_by P time clocks named.Coordinator named.Coordinator same here = here
clock_by P time clocks named.Coordinator (named.Shard t) same here = same (clock_of clocks (named.Shard t))
clock_by P time clocks named.Coordinator (named.Lane s m) same here = same (clock_of clocks (named.Lane s m))
clock_by P time clocks named.Coordinator (named.Link s e) same here = same (clock_of clocks (named.Link s e))
clock_by P time clocks named.Coordinator (named.Client b) same here = same (clock_of clocks (named.Client b))
clock_by P time clocks (named.Shard s) named.Coordinator same here = same clocks.control
clock_by P time clocks (named.Shard s) (named.Shard t) same here = set_by P clocks.shards s t time 0 same (λ q. here)
clock_by P time clocks (named.Shard s) (named.Lane t m) same here = same (clock_of clocks (named.Lane t m))
clock_by P time clocks (named.Shard s) (named.Link t e) same here = same (clock_of clocks (named.Link t e))
clock_by P time clocks (named.Shard s) (named.Client b) same here = same (clock_of clocks (named.Client b))
clock_by P time clocks (named.Lane r l) named.Coordinator same here = same clocks.control
clock_by P time clocks (named.Lane r l) (named.Shard t) same here = same (clock_of clocks (named.Shard t))
clock_by P time clocks (named.Lane r l) (named.Lane t m) same here = rows_by P clocks.lanes r l t m time 0 same (λ q k. here)
clock_by P time clocks (named.Lane r l) (named.Link t e) same here = same (clock_of clocks (named.Link t e))
clock_by P time clocks (named.Lane r l) (named.Client b) same here = same (clock_of clocks (named.Client b))
clock_by P time clocks (named.Link r d) named.Coordinator same here = same clocks.control
clock_by P time clocks (named.Link r d) (named.Shard t) same here = same (clock_of clocks (named.Shard t))
clock_by P time clocks (named.Link r d) (named.Lane t m) same here = same (clock_of clocks (named.Lane t m))
clock_by P time clocks (named.Link r d) (named.Link t e) same here = rows_by P clocks.links r d t e time 0 same (λ q k. here)
clock_by P time clocks (named.Link r d) (named.Client b) same here = same (clock_of clocks (named.Client b))
clock_by P time clocks (named.Client c) named.Coordinator same here = same clocks.control
clock_by P time clocks (named.Client c) (named.Shard t) same here = same (clock_of clocks (named.Shard t))
clock_by P time clocks (named.Client c) (named.Lane t m) same here = same (clock_of clocks (named.Lane t m))
clock_by P time clocks (named.Client c) (named.Link t e) same here = same (clock_of clocks (named.Link t e))
clock_by P time clocks (named.Client c) (named.Client b) same here = set_by P clocks.clients c b time 0 same (λ q. here)

one_counts : (time : ℕ) (clocks : Clocks) (at : Cell) → length (with_clock time clocks at).shards ≡ length clocks.shards
one_counts time clocks named.Coordinator = refl
one_counts time clocks (named.Shard s) = length-set clocks.shards s time
one_counts time clocks (named.Lane r l) = refl
one_counts time clocks (named.Link r d) = refl
one_counts time clocks (named.Client c) = refl

still : (time : ℕ) (clocks : Clocks) (at : Cell) (cells : List Cell) → AreAtMost time clocks cells
    → AreAtMost time (with_clock time clocks at) cells
still time clocks at [] all = tt
still time clocks at (x ∷ xs) all = (
  clock_by (λ a b. a ≤ time → b ≤ time) time clocks at x (λ n h. h) (λ h. same_size time) all.0,
  still time clocks at xs all.1,
)

rises : (time : ℕ) (clocks : Clocks) (cells : List Cell) → AreAtMost time clocks cells → (x : Cell)
    → clock_of clocks x ≤ clock_of (set_to time clocks cells) x
rises time clocks [] all x = same_size (clock_of clocks x)
rises time clocks (y ∷ ys) all x =
    through (clock_of clocks x) (clock_of (with_clock time clocks y) x) (clock_of (set_to time (with_clock time clocks y) ys) x)
    (clock_by (λ a b. a ≤ b) time clocks y x same_size all.0)
    (rises time (with_clock time clocks y) ys (still time clocks y ys all.1) x)

counts : (time : ℕ) (clocks : Clocks) (cells : List Cell) → length (set_to time clocks cells).shards ≡ length clocks.shards
counts time clocks [] = refl
counts time clocks (y ∷ ys) = counts time (with_clock time clocks y) ys ∙ one_counts time clocks y

at_most : (time : ℕ) (clocks : Clocks) (cells : List Cell) → AreBefore time clocks cells → AreAtMost time clocks cells
at_most time clocks [] all = tt
at_most time clocks (x ∷ xs) all = (up_to (clock_of clocks x) time all.0, at_most time clocks xs all.1)

-- no clock goes back
pub later : (time : ℕ) (clocks : Clocks) (cells : List Cell) → AreBefore time clocks cells
    → AreLater clocks (set_to time clocks cells)
later time clocks cells all = record {
  count = counts time clocks cells;
  rise = rises time clocks cells (at_most time clocks cells all);
}

-- a clock that is set stays so
pub stays_set : (time : ℕ) (clocks : Clocks) (cells : List Cell) (x : Cell) → clock_of clocks x ≡ time
    → clock_of (set_to time clocks cells) x ≡ time
stays_set time clocks [] x e = e
stays_set time clocks (y ∷ ys) x e =
    stays_set time (with_clock time clocks y) ys x
    (clock_by (λ a b. a ≡ time → b ≡ time) time clocks y x (λ n h. h) (λ h. refl) e)

-- and that of each shard among the cells is
pub shard_set : (time s : ℕ) (clocks : Clocks) (cells : List Cell) → s < length clocks.shards → IsIn (named.Shard s) cells
    → clock_of (set_to time clocks cells) (named.Shard s) ≡ time
shard_set time s clocks [] lt is = absurd is
shard_set time s clocks (y ∷ ys) lt (inl e) =
    stays_set time (with_clock time clocks y) ys (named.Shard s)
    (subst (λ z. clock_of (with_clock time clocks z) (named.Shard s) ≡ time) e (set_here clocks.shards s time 0 lt))
shard_set time s clocks (y ∷ ys) lt (inr is) =
    shard_set time s (with_clock time clocks y) ys (subst (λ n. s < n) (sym (one_counts time clocks y)) lt) is

-- the latest of some times
more_left : (a b c : ℕ) → max a b ≤ c → a ≤ c
more_left a b c le = omega arith

more_right : (a b c : ℕ) → max a b ≤ c → b ≤ c
more_right a b c le = omega arith

from_now : (now : ℕ) (times : List ℕ) → now ≤ latest now times
from_now now [] = same_size now
from_now now (time ∷ times) = more_left now time (latest (max now time) times) (from_now (max now time) times)

each_time : (now : ℕ) (times : List ℕ) → AllByRecursion (λ t. t ≤ latest now times) times
each_time now [] = tt
each_time now (time ∷ times) =
    (more_right now time (latest (max now time) times) (from_now (max now time) times), each_time (max now time) times)

below_next : (a b : ℕ) → a ≤ b → a < b + 1
below_next a b le = omega arith

all_below : (time : ℕ) (clocks : Clocks) (cells : List Cell) → AllByRecursion (λ t. t ≤ time) (map (clock_of clocks) cells)
    → AreBefore (time + 1) clocks cells
all_below time clocks [] all = tt
all_below time clocks (x ∷ xs) all = (below_next (clock_of clocks x) time all.0, all_below time clocks xs all.1)

-- an event's time is later than the clocks of the cells that it holds
stamp_later : (setup : Setup) (run : Run) (event : Event) (met : Met) (given : Given)
    → AreBefore (stamp_of setup run event met given).time run.cluster.clocks (cells_of setup run event met)
stamp_later setup run event met given =
    all_below _ run.cluster.clocks (cells_of setup run event met)
    (each_time _ (map (clock_of run.cluster.clocks) (cells_of setup run event met)))

pub held_before : (setup : Setup) (run : Run) (m : Moment) → Stands setup run m
    → AreBefore m.made.stamp.time run.cluster.clocks (cells_of setup run m.made.event m.made.met)
held_before setup run m is =
    subst (λ (stamp : Stamp). AreBefore stamp.time run.cluster.clocks (cells_of setup run m.made.event m.made.met)) (sym is.stamp)
    (stamp_later setup run m.made.event m.made.met m.given)

-- a shard that passes is among the cells of those that do
pub shard_among : (p : ℕ → Bool) (from many s : ℕ) (rest : List Cell) → from ≤ s → s < from + many → p s ≡ true
    → IsIn (named.Shard s) (map named.Shard (filter p (range_with_len from many)) ++ rest)
shard_among p from zero s rest le lt on = absurd (nowhere from s le lt)
  where
    nowhere : (a b : ℕ) → a ≤ b → b < a + 0 → ⊥
    nowhere a b le lt = omega arith
shard_among p from (suc many) s rest le lt on =
    ⊎_elim (λ h. by (p from) (shard_among p (from + 1) many s rest (next from s h) (inside from s many lt) on)) here (cases_lt from s)
  where
    next : (a b : ℕ) → a < b → a + 1 ≤ b
    next a b h = omega arith

    inside : (a b n : ℕ) → b < a + suc n → b < a + 1 + n
    inside a b n h = omega arith

    same : (a b : ℕ) → a ≤ b → b ≤ a → b ≡ a
    same a b one other = omega arith

    by : (b : Bool) → IsIn (named.Shard s) (map named.Shard (filter p (range_with_len (from + 1) many)) ++ rest)
        → IsIn (named.Shard s)
        (map named.Shard (cond b (from ∷ filter p (range_with_len (from + 1) many)) (filter p (range_with_len (from + 1) many))) ++ rest)
    by true is = inr is
    by false is = is

    here : s ≤ from → IsIn (named.Shard s) (map named.Shard (filter p (range_with_len from (suc many))) ++ rest)
    here h =
        let e : s ≡ from = same from s le h in
        subst
        (λ b. IsIn (named.Shard s)
        (map named.Shard (cond b (from ∷ filter p (range_with_len (from + 1) many)) (filter p (range_with_len (from + 1) many))) ++ rest))
        (sym (subst (λ n. p n ≡ true) e on)) (inl (ap named.Shard e))
