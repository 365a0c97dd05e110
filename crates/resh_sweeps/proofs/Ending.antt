-- Rounds end: one that takes nothing would leave every link idle, so that all recipients report and the phase is left.
use Rattle.std.proofs.Common.{◌≡◌, ◌<◌, ◌≤◌, ◌⊎◌, inl, inr, ℕ, zero, suc, ◌+◌, Bool, true, false, not, ◌&&◌, List, [], ◌∷◌, ◌++◌, length, nat_lt, refl, sym, ap, subst, ◌∙◌, slice_index_or}
use Rattle.std.specs.List.{flat_map, range_with_len}
use Rattle.std.proofs.lemmas.Bool.Decides.{nat_tests}
use native.Mathlib.Omega.{arith}
use Rattle.resh_value.specs.declared.value.ShardId.{ShardId}
use Rattle.resh_coord.specs.Control.{Control, all_true, is_true_at, may_advance, may_leave, may_report, takes_reports}
use Rattle.resh_coord.specs.declared.phase.Phase.{Phase}
use Rattle.resh_coord.specs.declared.phase.Phase.TheVariants.{Initializing, PreparingToDonate, Cloning, Applying, BlockingWrites, Committing, Aborting, Done}
use Rattle.resh_shard.specs.Writes.{shard_id}
use Rattle.resh_setup.specs.Validity.{IsValid}
use Rattle.resh_setup.specs.declared.event.Event.TheVariants.{Client, Begin, Tell, Advance, Record, Report}
use Rattle.resh_setup.specs.declared.setup.Setup.{Setup}
use Rattle.resh_cells.specs.Cells.{links_of}
use Rattle.resh_cells.specs.declared.cluster.Cluster.{Cluster}
use Rattle.resh_cells.specs.declared.cluster.LinkCell.{LinkCell}
use Rattle.resh_events.specs.Runs.{Moment, Run, after_all}
use Rattle.resh_events.specs.Sweep.{Trial, TriesAll, applying, each, link_round, round, step}
use Rattle.resh_events.specs.rows.Report as report
use Rattle.resh_events.specs.rows.Report.{are_ready}
use Rattle.resh_ending.proofs.Applying.{lt_by}
use Rattle.resh_rounds.specs.Rounds.{is_waiting, left_in}
use Rattle.resh_rounds.proofs.Rounds.{rounds_fall}
use Rattle.resh_law.specs.Laws.{EveryScheduleKeeps}
use Rattle.resh_leading.specs.Laws.{FeedsAreFew, StaysLeading}
use Rattle.resh_ready.specs.Laws.{IdleLinksAreReady}
use Rattle.resh_sweeps.specs.Laws.{IsSweeping, RoundsEnd, has_work, rounds_left}
use Rattle.resh_sweeps.proofs.Idling.{Halves, HasPart, StaysThere, all_idle, halves, joined, led_after, part_at, stays_there}
use Rattle.resh_sweeps.proofs.Numbers.{left_falls}
use Rattle.resh_sweeps.proofs.Sweeping.{IsLed, led}
use Rattle.resh_sweeps.proofs.Walking.{AllRest, AreTrialsOf, WalkEnds, walk_ends, walk_rests}

-- a round's trials
module _ (setup : Setup) where
  abbrev asked : List Trial
  asked = each setup (length setup.clients) (λ c. step (Client c) ∷ [])

  abbrev told : List Trial
  told = each setup (length setup.shards) (λ s. step (Tell (shard_id s)) ∷ [])

  abbrev of_links : ℕ → List Trial
  of_links r = each setup (length setup.shards) (λ d. link_round setup (shard_id r) (shard_id d))

  abbrev links : List Trial
  links = each setup (length setup.shards) of_links

  abbrev reporting : ℕ → List Trial
  reporting s = step (Report (shard_id s)) ∷ []

  abbrev reports : List Trial
  reports = each setup (length setup.shards) reporting

  abbrev begun : List Trial
  begun = step Begin ∷ told

  abbrev leaving : List Trial
  leaving = step Advance ∷ []

  trials_both : (xs ys : List Trial) → AreTrialsOf setup xs → AreTrialsOf setup ys → AreTrialsOf setup (xs ++ ys)
  trials_both [] ys h k = k
  trials_both (x ∷ xs) ys h k = (h.0, trials_both xs ys h.1 k)

  trials_each : (f : ℕ → List Trial) (from many : ℕ) → ((k : ℕ) → k < from + many → AreTrialsOf setup (f k))
      → AreTrialsOf setup (flat_map f (range_with_len from many))
  trials_each f from zero all = tt
  trials_each f from (suc many) all =
      trials_both (f from) (flat_map f (range_with_len (from + 1) many)) (all from (first from many))
      (trials_each f (from + 1) many (λ k lt. all k (moved from many k lt)))
    where
      first : (n m : ℕ) → n < n + suc m
      first n m = omega arith

      moved : (n m k : ℕ) → k < n + 1 + m → k < n + suc m
      moved n m k lt = omega arith

  within : (k n : ℕ) → k < 0 + n → k < n
  within k n lt = omega arith

  link_trials : (r d : ShardId) → r.0 < length setup.shards → d.0 < length setup.shards → AreTrialsOf setup (link_round setup r d)
  link_trials r d in_rows in_row = (
    (in_rows, in_row),
    (
      (in_rows, in_row),
      trials_both (each setup setup.lanes (λ l. applying r d l ∷ [])) (step (Record r d) ∷ [])
          (trials_each (λ l. applying r d l ∷ []) 0 setup.lanes (λ l lt. (tt, tt))) ((in_rows, in_row), tt),
    ),
  )

  round_trials : AreTrialsOf setup (round setup)
  round_trials =
      trials_both (((asked ++ begun) ++ links) ++ reports) leaving
      (trials_both ((asked ++ begun) ++ links) reports
      (trials_both (asked ++ begun) links
      (trials_both asked begun (trials_each (λ c. step (Client c) ∷ []) 0 (length setup.clients) (λ c lt. (tt, tt)))
      (tt, trials_each (λ s. step (Tell (shard_id s)) ∷ []) 0 (length setup.shards) (λ s lt. (tt, tt))))
      (trials_each of_links 0 (length setup.shards) (λ r in_rows.
      trials_each (λ d. link_round setup (shard_id r) (shard_id d)) 0 (length setup.shards) (λ d in_row.
      link_trials (shard_id r) (shard_id d) (within r (length setup.shards) in_rows) (within d (length setup.shards) in_row)))))
      (trials_each reporting 0 (length setup.shards) (λ s lt. (tt, tt))))
      (tt, tt)

-- what waits
waiting_works : (p : Phase) (told : List Bool) → is_waiting p told ≡ true → has_work p ≡ true
waiting_works Initializing told h = cc
waiting_works PreparingToDonate told h = cc
waiting_works Cloning told h = refl
waiting_works Applying told h = refl
waiting_works BlockingWrites told h = refl
waiting_works Committing told h = cc
waiting_works Aborting told h = cc
waiting_works Done told h = cc

waiting_takes : (p : Phase) (told : List Bool) → is_waiting p told ≡ true → takes_reports p ≡ true
waiting_takes Initializing told h = cc
waiting_takes PreparingToDonate told h = cc
waiting_takes Cloning told h = refl
waiting_takes Applying told h = refl
waiting_takes BlockingWrites told h = refl
waiting_takes Committing told h = cc
waiting_takes Aborting told h = cc
waiting_takes Done told h = cc

and_true : (a b : Bool) → a ≡ true → b ≡ true → (a && b) ≡ true
and_true true b h k = k
and_true false b h k = cc

waiting_leaves : (p : Phase) (told reported : List Bool) → is_waiting p told ≡ true → all_true reported ≡ true
    → may_leave p told reported ≡ true
waiting_leaves Initializing told reported h k = cc
waiting_leaves PreparingToDonate told reported h k = cc
waiting_leaves Cloning told reported h k = and_true (all_true told) (all_true reported) h k
waiting_leaves Applying told reported h k = k
waiting_leaves BlockingWrites told reported h k = and_true (all_true told) (all_true reported) h k
waiting_leaves Committing told reported h k = cc
waiting_leaves Aborting told reported h k = cc
waiting_leaves Done told reported h k = cc

all_marked : (marks : List Bool) → ((s : ℕ) → s < length marks → slice_index_or marks s false ≡ true) → all_true marks ≡ true
all_marked [] all = refl
all_marked (mark ∷ marks) all =
    and_true mark (all_true marks) (all 0 (first (length marks))) (all_marked marks (λ s lt. all (suc s) (later s (length marks) lt)))
  where
    first : (n : ℕ) → 0 < suc n
    first n = omega arith

    later : (a b : ℕ) → a < b → suc a < suc b
    later a b lt = omega arith

marked_by : (a b t r : Bool) → a ≡ true → b ≡ true → r ≡ true → ((a && (b && not t)) && r) ≡ false → t ≡ true
marked_by true true true r h k m e = refl
marked_by true true false true h k m e = cc
marked_by true true false false h k m e = cc
marked_by true false t r h k m e = cc
marked_by false b t r h k m e = cc

below_is : (a b : ℕ) → a < b → nat_lt a b ≡ true
below_is a b lt = grind (arith, nat_tests)

never_both : (t : Bool) → t ≡ true → t ≡ false → ⊥
never_both true h e = cc
never_both false h e = cc

-- all trials of a round rest: it can't be, while the coordinator waits
module _ (ready : IdleLinksAreReady) (setup : Setup) (valid : IsValid setup) (one last : Cluster) (is : IsLed setup one)
    (waits : is_waiting one.control.phase one.control.told ≡ true) (rests : AllRest setup (round setup) one last) where
  abbrev to_leave : Halves setup one last (((asked setup ++ begun setup) ++ links setup) ++ reports setup) (leaving setup)
  to_leave = halves setup one last (((asked setup ++ begun setup) ++ links setup) ++ reports setup) (leaving setup) rests

  abbrev leaves : Cluster
  leaves = to_leave.mid

  abbrev to_report : Halves setup one leaves ((asked setup ++ begun setup) ++ links setup) (reports setup)
  to_report = halves setup one leaves ((asked setup ++ begun setup) ++ links setup) (reports setup) to_leave.front

  abbrev idle : Cluster
  idle = to_report.mid

  abbrev to_links : Halves setup one idle (asked setup ++ begun setup) (links setup)
  to_links = halves setup one idle (asked setup ++ begun setup) (links setup) to_report.front

  led_linking : IsLed setup to_links.mid
  led_linking = led_after setup (asked setup ++ begun setup) one to_links.mid is to_links.front

  led_idle : IsLed setup idle
  led_idle = led_after setup (links setup) to_links.mid idle led_linking to_links.back

  same_idle : idle.control ≡ one.control
  same_idle = (stays_there setup ((asked setup ++ begun setup) ++ links setup) one idle to_report.front).control

  same_leaves : StaysThere idle leaves
  same_leaves = stays_there setup (reports setup) idle leaves to_report.back

  ready_at : (r : ℕ) → r < length setup.shards → are_ready idle.control.phase (links_of idle r) ≡ true
  ready_at r in_rows =
      ready setup led_idle.state led_idle.kept.0 idle r valid led_idle.kept.1 led_idle.leads
      (subst (λ (c : Control). is_waiting c.phase c.told ≡ true) (sym same_idle) waits) in_rows
      (λ d in_row. all_idle setup to_links.mid idle led_linking to_links.back r d in_rows in_row)

  never_may : (s : ℕ) → s < length setup.shards → report.may idle s ≡ false
  never_may s lt = by (part_at setup (reporting setup) 0 (length setup.shards) s idle leaves (least s) (reached s (length setup.shards) lt) led_idle to_report.back)
    where
      least : (k : ℕ) → 0 ≤ k
      least k = omega arith

      reached : (k n : ℕ) → k < n → k < 0 + n
      reached k n lt = omega arith

      by : HasPart setup (reporting setup) s idle leaves → report.may idle s ≡ false
      by part =
          let behind : List Trial = flat_map (reporting setup) (range_with_len part.next part.many) in
          let same : StaysThere part.before leaves
          = stays_there setup (reporting setup s ++ behind) part.before leaves
          (joined setup part.before part.behind leaves (reporting setup s) behind part.here part.more) in
          let control : idle.control ≡ part.before.control = sym same_leaves.control ∙ same.control in
          let links : idle.links ≡ part.before.links = sym same_leaves.links ∙ same.links in
          ap (λ (c : Control). may_report c s && are_ready c.phase (links_of idle s)) control
          ∙ ap (λ (rows : List (List LinkCell)). may_report part.before.control s && are_ready part.before.control.phase (slice_index_or rows s [])) links
          ∙ part.here.2.says

  reported_at : (s : ℕ) → s < length idle.control.reported → is_true_at idle.control.reported s ≡ true
  reported_at s lt =
      let in_rows : s < length setup.shards = lt_by s (length idle.control.reported) (length setup.shards) led_idle.running.manned.reported lt in
      marked_by (takes_reports idle.control.phase) (nat_lt s (length idle.control.reported)) (is_true_at idle.control.reported s)
      (are_ready idle.control.phase (links_of idle s))
      (waiting_takes idle.control.phase idle.control.told
      (subst (λ (c : Control). is_waiting c.phase c.told ≡ true) (sym same_idle) waits))
      (below_is s (length idle.control.reported) lt) (ready_at s in_rows) (never_may s in_rows)

  never_rests : ⊥
  never_rests =
      let same : leaves.control ≡ idle.control = same_leaves.control in
      let may : may_advance idle.control ≡ true
      = waiting_leaves idle.control.phase idle.control.told idle.control.reported
      (subst (λ (c : Control). is_waiting c.phase c.told ≡ true) (sym same_idle) waits)
      (all_marked idle.control.reported reported_at) in
      never_both (may_advance leaves.control) (ap (λ (c : Control). may_advance c) same ∙ may) to_leave.back.2.says

-- a round keeps all of which rounds end
pub round_stays : EveryScheduleKeeps → StaysLeading → FeedsAreFew → (setup : Setup) → IsValid setup → (run : Run) (moments : List Moment)
    → IsSweeping setup run → TriesAll setup run (round setup) moments → IsSweeping setup (after_all setup run moments)
round_stays laws leading few setup valid run moments is tried =
    (walk_ends laws leading few setup valid run (round setup) moments is (round_trials setup) tried).sweeping

is_less : (a b : ℕ) → nat_lt a b ≡ true → a < b
is_less a b e = grind (arith, nat_tests)

not_less : (a b : ℕ) → nat_lt a b ≡ false → b ≤ a
not_less a b e = grind (arith, nat_tests)

pub rounds_end : EveryScheduleKeeps → StaysLeading → FeedsAreFew → IdleLinksAreReady → RoundsEnd
rounds_end laws leading few ready setup run moments valid is over tried =
    by (nat_lt (rounds_left setup (after_all setup run moments)) (rounds_left setup run)) refl
  where
    ends : WalkEnds laws leading few setup valid run (after_all setup run moments)
    ends = walk_ends laws leading few setup valid run (round setup) moments is (round_trials setup) tried

    waits : rounds_left setup run ≤ rounds_left setup (after_all setup run moments)
        → ((left_in setup (after_all setup run moments) < left_in setup run)
        ⊎ (((after_all setup run moments).cluster.control ≡ run.cluster.control)
        × (is_waiting run.cluster.control.phase run.cluster.control.told ≡ true)))
        → rounds_left setup (after_all setup run moments) < rounds_left setup run
    waits even (inl lt) = left_falls few setup run (after_all setup run moments) (led setup (after_all setup run moments) ends.sweeping) lt
    waits even (inr e) =
        absurd (never_rests ready setup valid run.cluster (after_all setup run moments).cluster (led setup run is) e.1
        (walk_rests laws leading few setup valid run (round setup) moments is
        (waiting_works run.cluster.control.phase run.cluster.control.told e.1) (round_trials setup) tried even))

    by : (t : Bool) → nat_lt (rounds_left setup (after_all setup run moments)) (rounds_left setup run) ≡ t
        → rounds_left setup (after_all setup run moments) < rounds_left setup run
    by true lt = is_less (rounds_left setup (after_all setup run moments)) (rounds_left setup run) lt
    by false not_lt =
        waits (not_less (rounds_left setup (after_all setup run moments)) (rounds_left setup run) not_lt)
        (rounds_fall setup run moments valid is.running over tried)
