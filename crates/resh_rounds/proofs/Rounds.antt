-- A round that is begun while not all is done takes of what is left, or leaves the coordinator as it is: it has told all and
-- waits for reports.
use Rattle.std.proofs.Common.{◌≡◌, ◌<◌, ◌≤◌, ◌⊎◌, inl, inr, ℕ, zero, suc, ◌+◌, Bool, true, false, not, ◌&&◌, List, [], ◌∷◌, ◌++◌, length, nat_lt, Option, is_none, is_some, refl, sym, ap, subst, ◌∙◌, slice_get, slice_index_or}
use Rattle.std.specs.Prelude.{⊤}
use Rattle.std.specs.List.{flat_map, list_all, range_with_len}
use Rattle.std.proofs.lemmas.Bool.Decides.{nat_tests}
use native.Mathlib.Omega.{arith}
use Rattle.resh_value.specs.declared.value.ShardId.{ShardId}
use Rattle.resh_coord.specs.Control.{Control, all_true, begins, is_true_at, may_advance, may_leave, may_tell, message_in, message_of}
use Rattle.resh_coord.specs.declared.phase.Phase.{Phase}
use Rattle.resh_coord.specs.declared.phase.Phase.TheVariants.{Initializing, PreparingToDonate, Cloning, Applying, BlockingWrites, Committing, Aborting, Done}
use Rattle.resh_model.specs.Orders.{commands_of}
use Rattle.resh_shard.specs.Writes.{shard_id}
use Rattle.resh_setup.specs.Validity.{IsValid}
use Rattle.resh_setup.specs.declared.event.Event.{Event}
use Rattle.resh_setup.specs.declared.event.Event.TheVariants.{Client, Begin, Tell, Advance, Apply, Report}
use Rattle.resh_setup.specs.declared.setup.Setup.{Setup}
use Rattle.resh_cells.specs.Cells.{no_client}
use Rattle.resh_cells.specs.declared.cluster.ClientCell.{ClientCell}
use Rattle.resh_cells.specs.declared.cluster.Cluster.{Cluster}
use Rattle.resh_events.specs.Runs.{Moment, Run, after, after_all}
use Rattle.resh_events.specs.Sweep.{AreApplies, Trial, Tries, TriesAll, all_of, applying, each, is_done, is_over, link_round, next_reading, reading, round, step}
use Rattle.resh_events.specs.Targets.{next_command}
use Rattle.resh_rounds.specs.Rounds.{RoundsFall, is_waiting, left_in}
use Rattle.resh_rounds.specs.Serving.{IsRunning}
use Rattle.resh_rounds.proofs.Moving.{Falls, IsQuiet, Same, StepWent, Went, less_then, step_went, then_less, went_none, went_then}

-- trials that can have left all as it was
abbrev IsQuietTrial : Setup → Trial → Cluster → Type 0
IsQuietTrial setup (step event) cluster = IsQuiet setup event cluster
IsQuietTrial setup (reading r d) cluster = ⊤
IsQuietTrial setup (applying r d l) cluster = ⊤

abbrev AreQuiet : Setup → List Trial → Cluster → Type 0
AreQuiet setup [] cluster = ⊤
AreQuiet setup (trial ∷ trials) cluster = IsQuietTrial setup trial cluster × AreQuiet setup trials cluster

-- of a cluster with the same coordinator and the same clients
event_before : (setup : Setup) (event : Event) (one other : Cluster) → other.control ≡ one.control → other.clients ≡ one.clients
    → IsQuiet setup event other → IsQuiet setup event one
event_before setup (Client c) one other e f h = λ over.
    subst (λ (cs : List ClientCell). is_none (slice_get (commands_of (slice_get setup.clients c)) (length (slice_index_or cs c no_client).replies)) ≡ true)
    f (h (ap (λ (k : Control). k.phase) e ∙ over))
event_before setup Begin one other e f h = subst (λ (c : Control). begins c.phase ≡ false) e h
event_before setup (Tell s) one other e f h = subst (λ (c : Control). (may_tell c s.0 && not (is_true_at c.told s.0)) ≡ false) e h
event_before setup Advance one other e f h = subst (λ (c : Control). may_advance c ≡ false) e h
event_before setup event one other e f h = tt

trial_before : (setup : Setup) (trial : Trial) (one other : Cluster) → other.control ≡ one.control → other.clients ≡ one.clients
    → IsQuietTrial setup trial other → IsQuietTrial setup trial one
trial_before setup (step event) one other e f h = event_before setup event one other e f h
trial_before setup (reading r d) one other e f h = tt
trial_before setup (applying r d l) one other e f h = tt

before : (setup : Setup) (trials : List Trial) (one other : Cluster) → other.control ≡ one.control → other.clients ≡ one.clients
    → AreQuiet setup trials other → AreQuiet setup trials one
before setup [] one other e f h = tt
before setup (trial ∷ trials) one other e f h =
    (trial_before setup trial one other e f h.0, before setup trials one other e f h.1)

after_both : (setup : Setup) (run : Run) (ms ns : List Moment)
    → after_all setup run (ms ++ ns) ≡ after_all setup (after_all setup run ms) ns
unfolding after_all
after_both setup run [] ns = refl
after_both setup run (m ∷ ms) ns = after_both setup (after setup run m) ms ns

-- applies one after another
applies_went : (setup : Setup) (run : Run) (r d : ShardId) (l : ℕ) (applies : List (List Moment)) → IsValid setup
    → IsRunning setup run.cluster → AreApplies setup r d l run applies → Went setup run (after_all setup run (all_of applies))
unfolding after_all
applies_went setup run r d l [] valid is h = went_none setup run is
applies_went setup run r d l (moments ∷ more) valid is (goes, (lines, made), rest) =
    let one : StepWent setup run (after_all setup run moments) (Apply r d l) = step_went setup run (Apply r d l) moments lines valid is made in
    subst (λ (other : Run). Went setup run other) (sym (after_both setup run moments (all_of more)))
    (went_then setup run (after_all setup run moments) _ one.went
    (applies_went setup (after_all setup run moments) r d l more valid one.went.running rest))

record TrialWent (setup : Setup) (run other : Run) (trial : Trial) : Type 0 where
  went : Went setup run other
  moves : Falls setup run other ⊎ (Same run other × IsQuietTrial setup trial run.cluster)

still : (setup : Setup) (run other : Run) → Went setup run other → Falls setup run other ⊎ (Same run other × ⊤)
still setup run other h = by h.moves
  where
    by : Falls setup run other ⊎ Same run other → Falls setup run other ⊎ (Same run other × ⊤)
    by (inl lt) = inl lt
    by (inr e) = inr (e, tt)

trial_went : (setup : Setup) (run : Run) (trial : Trial) (moments : List Moment) → IsValid setup → IsRunning setup run.cluster
    → Tries setup run trial moments → TrialWent setup run (after_all setup run moments) trial
trial_went setup run (step event) moments valid is (lines, made) =
    let one : StepWent setup run (after_all setup run moments) event = step_went setup run event moments lines valid is made in
    record { went = one.went; moves = one.moves }
trial_went setup run (reading r d) moments valid is (lines, made) =
    let event : Event = next_reading setup run.cluster r d in
    let one : StepWent setup run (after_all setup run moments) event = step_went setup run event moments lines valid is made in
    record { went = one.went; moves = still setup run (after_all setup run moments) one.went }
trial_went setup run (applying r d l) moments valid is (applies, equal, made) =
    let one : Went setup run (after_all setup run moments)
    = subst (λ (ms : List Moment). Went setup run (after_all setup run ms)) (sym equal)
    (applies_went setup run r d l applies valid is made) in
    record { went = one; moves = still setup run (after_all setup run moments) one }

record TrialsWent (setup : Setup) (run other : Run) (trials : List Trial) : Type 0 where
  went : Went setup run other
  moves : Falls setup run other ⊎ (Same run other × AreQuiet setup trials run.cluster)

both_moves : (setup : Setup) (run to last : Run) (trial : Trial) (trials : List Trial) → TrialWent setup run to trial
    → TrialsWent setup to last trials
    → Falls setup run last ⊎ (Same run last × AreQuiet setup (trial ∷ trials) run.cluster)
both_moves setup run to last trial trials one others = by one.moves others.moves
  where
    by : Falls setup run to ⊎ (Same run to × IsQuietTrial setup trial run.cluster)
        → Falls setup to last ⊎ (Same to last × AreQuiet setup trials to.cluster)
        → Falls setup run last ⊎ (Same run last × AreQuiet setup (trial ∷ trials) run.cluster)
    by (inl lt) next = inl (less_then (left_in setup run) (left_in setup to) (left_in setup last) lt others.went.most)
    by (inr e) (inl lt) = inl (then_less (left_in setup run) (left_in setup to) (left_in setup last) one.went.most lt)
    by (inr e) (inr f) =
        inr ((f.0.0 ∙ e.0.0, f.0.1 ∙ e.0.1), (e.1, before setup trials run.cluster to.cluster e.0.0 e.0.1 f.1))

trials_went : (setup : Setup) (run : Run) (trials : List Trial) (moments : List Moment) → IsValid setup
    → IsRunning setup run.cluster → TriesAll setup run trials moments
    → TrialsWent setup run (after_all setup run moments) trials
unfolding after_all
trials_went setup run [] moments valid is none =
    subst (λ (ms : List Moment). TrialsWent setup run (after_all setup run ms) []) (sym none)
    (record { went = went_none setup run is; moves = inr ((refl, refl), tt) })
trials_went setup run (trial ∷ trials) moments valid is (first, rest, equal, tried, more) =
    let to : Run = after_all setup run first in
    let last : Run = after_all setup to rest in
    let one : TrialWent setup run to trial = trial_went setup run trial first valid is tried in
    let others : TrialsWent setup to last trials = trials_went setup to trials rest valid one.went.running more in
    let ends : after_all setup run moments ≡ last
    = ap (λ (ms : List Moment). after_all setup run ms) equal ∙ after_both setup run first rest in
    subst (λ (other : Run). TrialsWent setup run other (trial ∷ trials)) (sym ends)
    (record {
      went = went_then setup run to last one.went others.went;
      moves = both_moves setup run to last trial trials one others;
    })

-- parts of a round
module _ (setup : Setup) (cluster : Cluster) where
  front : (xs ys : List Trial) → AreQuiet setup (xs ++ ys) cluster → AreQuiet setup xs cluster
  front [] ys q = tt
  front (x ∷ xs) ys q = (q.0, front xs ys q.1)

  behind : (xs ys : List Trial) → AreQuiet setup (xs ++ ys) cluster → AreQuiet setup ys cluster
  behind [] ys q = q
  behind (x ∷ xs) ys q = behind xs ys q.1

sooner : (a b : ℕ) → suc a < suc b → a < b
sooner a b lt = omega arith

never : (k : ℕ) → k < 0 → ⊥
never k lt = omega arith

unmoved : (a : ℕ) → a + 0 ≡ a
unmoved a = omega arith

shifted : (a b : ℕ) → a + 1 + b ≡ a + suc b
shifted a b = omega arith

zero_on : (k : ℕ) → 0 + k ≡ k
zero_on k = omega arith

quiet_at : (setup : Setup) (cluster : Cluster) (f : ℕ → List Trial) (from many : ℕ)
    → AreQuiet setup (flat_map f (range_with_len from many)) cluster → (k : ℕ) → k < many → AreQuiet setup (f (from + k)) cluster
quiet_at setup cluster f from zero q k lt = absurd (never k lt)
quiet_at setup cluster f from (suc many) q zero lt =
    subst (λ (n : ℕ). AreQuiet setup (f n) cluster) (sym (unmoved from))
    (front setup cluster (f from) (flat_map f (range_with_len (from + 1) many)) q)
quiet_at setup cluster f from (suc many) q (suc k) lt =
    subst (λ (n : ℕ). AreQuiet setup (f n) cluster) (shifted from k)
    (quiet_at setup cluster f (from + 1) many (behind setup cluster (f from) (flat_map f (range_with_len (from + 1) many)) q) k
    (sooner k many lt))

-- what a quiet round says
record IsStill (setup : Setup) (cluster : Cluster) : Type 0 where
  clients : (c : ℕ) → c < length setup.clients → cluster.control.phase ≡ Done → is_none (next_command setup cluster c) ≡ true
  begin : begins cluster.control.phase ≡ false
  tell : (s : ℕ) → s < length setup.shards → (may_tell cluster.control s && not (is_true_at cluster.control.told s)) ≡ false
  advance : may_advance cluster.control ≡ false

module _ (setup : Setup) where
  abbrev asked : List Trial
  asked = each setup (length setup.clients) (λ c. step (Client c) ∷ [])

  abbrev told : List Trial
  told = each setup (length setup.shards) (λ s. step (Tell (shard_id s)) ∷ [])

  abbrev links : List Trial
  links = each setup (length setup.shards)
      (λ r. each setup (length setup.shards) (λ d. link_round setup (shard_id r) (shard_id d)))

  abbrev reports : List Trial
  reports = each setup (length setup.shards) (λ s. step (Report (shard_id s)) ∷ [])

  still_round : (cluster : Cluster) → AreQuiet setup (round setup) cluster → IsStill setup cluster
  still_round cluster q =
      let begun : List Trial = step Begin ∷ told in
      let first_parts : List Trial = asked ++ begun in
      let with_links : List Trial = first_parts ++ links in
      let with_reports : List Trial = with_links ++ reports in
      let last : AreQuiet setup (step Advance ∷ []) cluster = behind setup cluster with_reports (step Advance ∷ []) q in
      let one : AreQuiet setup with_reports cluster = front setup cluster with_reports (step Advance ∷ []) q in
      let two : AreQuiet setup with_links cluster = front setup cluster with_links reports one in
      let three : AreQuiet setup first_parts cluster = front setup cluster first_parts links two in
      let four : AreQuiet setup begun cluster = behind setup cluster asked begun three in
      let asks = quiet_at setup cluster (λ c. step (Client c) ∷ []) 0 (length setup.clients) (front setup cluster asked begun three) in
      let tells = quiet_at setup cluster (λ s. step (Tell (shard_id s)) ∷ []) 0 (length setup.shards) four.1 in
      record {
        clients = λ c lt. subst (λ (k : ℕ). cluster.control.phase ≡ Done → is_none (next_command setup cluster k) ≡ true) (zero_on c)
            (asks c lt).0;
        begin = four.0;
        tell = λ s lt. subst (λ (k : ℕ). (may_tell cluster.control k && not (is_true_at cluster.control.told k)) ≡ false) (zero_on s)
            (tells s lt).0;
        advance = last.0;
      }

-- all were told by then
first : (n : ℕ) → 0 < suc n
first n = omega arith

later : (a b : ℕ) → a < b → suc a < suc b
later a b lt = omega arith

and_true : (a b : Bool) → a ≡ true → b ≡ true → (a && b) ≡ true
and_true true b h k = k
and_true false b h k = cc

all_marked : (marks : List Bool) → ((s : ℕ) → s < length marks → slice_index_or marks s false ≡ true) → all_true marks ≡ true
all_marked [] all = refl
all_marked (mark ∷ marks) all =
    and_true mark (all_true marks) (all 0 (first (length marks))) (all_marked marks (λ s lt. all (suc s) (later s (length marks) lt)))

marked_by : (a b t : Bool) → a ≡ true → b ≡ true → ((a && b) && not t) ≡ false → t ≡ true
marked_by true true true h k e = refl
marked_by true true false h k e = cc
marked_by true false t h k e = cc
marked_by false b t h k e = cc

below_is : (a b : ℕ) → a < b → nat_lt a b ≡ true
below_is a b lt = grind (arith, nat_tests)

all_told : (setup : Setup) (cluster : Cluster) → IsRunning setup cluster → IsStill setup cluster
    → is_some (message_of cluster.control) ≡ true → all_true cluster.control.told ≡ true
all_told setup cluster is still some =
    all_marked cluster.control.told (λ s lt. marked_by (is_some (message_of cluster.control)) (nat_lt s (length cluster.control.told))
    (is_true_at cluster.control.told s) some (below_is s (length cluster.control.told) lt)
    (still.tell s (subst (λ (n : ℕ). s < n) is.manned.told lt)))

-- no command is left
none_left : (f : ℕ → Bool) (from many : ℕ) → ((k : ℕ) → k < many → f (from + k) ≡ true) → list_all f (range_with_len from many) ≡ true
none_left f from zero all = refl
none_left f from (suc many) all =
    and_true (f from) (list_all f (range_with_len (from + 1) many))
    (subst (λ (n : ℕ). f n ≡ true) (unmoved from) (all zero (first many)))
    (none_left f (from + 1) many (λ k lt. subst (λ (n : ℕ). f n ≡ true) (sym (shifted from k)) (all (suc k) (later k many lt))))

over_by : (a b : Bool) → a ≡ true → b ≡ true → (a && b) ≡ false → ⊥
over_by true true h k e = cc
over_by true false h k e = cc
over_by false b h k e = cc

not_both : (t : Bool) → t ≡ true → t ≡ false → ⊥
not_both true h e = cc
not_both false h e = cc

module _ (setup : Setup) (cluster : Cluster) (is : IsRunning setup cluster) (goes : is_over setup cluster ≡ false)
    (still : IsStill setup cluster) where
  in_phase : (p : Phase) → cluster.control.phase ≡ p → is_some (message_in p cluster.control.fetch_time) ≡ true
      → all_true cluster.control.told ≡ true
  in_phase p phase some =
      all_told setup cluster is still (ap (λ (q : Phase). is_some (message_in q cluster.control.fetch_time)) phase ∙ some)

  never_left : (p : Phase) → cluster.control.phase ≡ p → may_leave p cluster.control.told cluster.control.reported ≡ true → ⊥
  never_left p phase may =
      not_both (may_advance cluster.control)
      (ap (λ (q : Phase). may_leave q cluster.control.told cluster.control.reported) phase ∙ may) still.advance

  waits : (p : Phase) → cluster.control.phase ≡ p → is_waiting p cluster.control.told ≡ true
  waits Initializing phase = absurd (not_both (begins cluster.control.phase) (ap begins phase) still.begin)
  waits PreparingToDonate phase = absurd (never_left PreparingToDonate phase (in_phase PreparingToDonate phase refl))
  waits Cloning phase = in_phase Cloning phase refl
  waits Applying phase = refl
  waits BlockingWrites phase = in_phase BlockingWrites phase refl
  waits Committing phase = absurd (never_left Committing phase (in_phase Committing phase refl))
  waits Aborting phase = absurd (never_left Aborting phase (in_phase Aborting phase refl))
  waits Done phase =
      absurd (over_by (is_done setup cluster.control.phase)
      (list_all (λ c. is_none (next_command setup cluster c)) (range_with_len 0 (length setup.clients)))
      (ap (is_done setup) phase)
      (none_left (λ c. is_none (next_command setup cluster c)) 0 (length setup.clients)
      (λ k lt. subst (λ (n : ℕ). is_none (next_command setup cluster n) ≡ true) (sym (zero_on k)) (still.clients k lt phase))) goes)

pub rounds_fall : RoundsFall
rounds_fall setup run moments valid is goes tried = by (trials_went setup run (round setup) moments valid is tried).moves
  where
    to : Run
    to = after_all setup run moments

    by : Falls setup run to ⊎ (Same run to × AreQuiet setup (round setup) run.cluster)
        → (left_in setup to < left_in setup run)
        ⊎ ((to.cluster.control ≡ run.cluster.control)
        × (is_waiting run.cluster.control.phase run.cluster.control.told ≡ true))
    by (inl lt) = inl lt
    by (inr e) =
        inr (e.0.0, waits setup run.cluster is goes (still_round setup run.cluster e.1) run.cluster.control.phase refl)
