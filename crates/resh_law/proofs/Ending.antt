-- A schedule at its end is the walk of its order.
use Rattle.std.proofs.Common.{◌≡◌, ◌≤◌, ◌<◌, ◌+◌, ◌⊎◌, inl, inr, ℕ, zero, suc, Bool, true, false, ◌&&◌, List, [], length, map, slice_get, Option, Some, None, is_none, refl, sym, ap, subst, ◌∙◌, arith}
use Rattle.std.proofs.lemmas.Bool.{cases_lt}
use Rattle.std.proofs.lemmas.Option.{slice_get_past}
use Rattle.std.specs.List.{list_all, range_with_len}
use Rattle.resh_value.specs.declared.value.Value.{Value}
use Rattle.resh_bag.specs.Bag.{held}
use Rattle.resh_bag.specs.Placement.{part}
use Rattle.resh_cells.specs.Cells.{lanes_of, no_client, no_shard, shard_in}
use Rattle.resh_cells.specs.declared.cluster.Cluster.{Cluster}
use Rattle.resh_chunks.specs.Chunks.{Chunks}
use Rattle.resh_coord.specs.declared.phase.Phase.{Phase}
use Rattle.resh_coord.specs.declared.phase.Phase.TheVariants.{Initializing, PreparingToDonate, Cloning, Applying, BlockingWrites, Committing, Aborting, Done}
use Rattle.resh_events.specs.Runs.{after_all, opening_run}
use Rattle.resh_events.specs.Sweep.{is_done, is_over}
use Rattle.resh_events.specs.Targets as asked
use Rattle.resh_events.specs.Turns.{order_of}
use Rattle.resh_model.specs.Orders.{IsFinished, State, commands_of, holdings_of, last_state, next_command, opening, replies_to, walked}
use Rattle.resh_setup.specs.Validity.{IsValid}
use Rattle.resh_setup.specs.declared.setup.Setup.{Setup}
use Rattle.resh_setup.specs.declared.turn.Turn.{Turn}
use Rattle.resh_shard.specs.Shards.{documents_of}
use Rattle.resh_versions.specs.Standing.{now}
use Rattle.resh_invariant.specs.Courses.{IsStage, is_committed}
use Rattle.resh_invariant.specs.Keeping.{Keeps, map_in_force, stands_for}
use Rattle.resh_invariant.specs.Sources.{Clones}
use Rattle.resh_client_rows.specs.Laws.{KeepsTurns}
use Rattle.resh_law.specs.Laws.{EveryScheduleKeeps, IsWalkOf, OrdersDecide, SchedulesEnd, holdings_in, replies_in}
use Rattle.resh_law.proofs.EndingHoldings.{listed_by, lists_part, same_by_place}

never : {A : Type 0} → false ≡ true → A
never e = cc

both : (a b : Bool) → (a && b) ≡ true → (a ≡ true) × (b ≡ true)
both true b e = (refl, e)
both false b e = never e

is_phase_done : (setup : Setup) (phase : Phase) → is_done setup phase ≡ true → phase ≡ Done
is_phase_done setup Initializing e = never e
is_phase_done setup PreparingToDonate e = never e
is_phase_done setup Cloning e = never e
is_phase_done setup Applying e = never e
is_phase_done setup BlockingWrites e = never e
is_phase_done setup Committing e = never e
is_phase_done setup Aborting e = never e
is_phase_done setup Done e = refl

none_of : {X : Type 0} (o : Option X) → is_none o ≡ true → o ≡ None
none_of None e = refl
none_of (Some x) e = never e

-- what passes all the way passes at each number
each_passes : (p : ℕ → Bool) (from n : ℕ) → list_all p (range_with_len from n) ≡ true → (k : ℕ) → from ≤ k → k < from + n → p k ≡ true
each_passes p from zero e k le lt = absurd (omega (arith, le, lt))
each_passes p from (suc n) e k le lt =
    let w = both (p from) (list_all p (range_with_len (from + 1) n)) e in
    by w.0 (each_passes p (from + 1) n w.1 k) (cases_lt from k)
  where
    by : p from ≡ true → (from + 1 ≤ k → k < (from + 1) + n → p k ≡ true) → (from < k) ⊎ (k ≤ from) → p k ≡ true
    by here later (inl above) = later (omega (arith, above)) (omega (arith, lt))
    by here later (inr below) = let same : from ≡ k = omega (arith, le, below) in subst (λ x. p x ≡ true) same here

-- a map in force is of the setup's shards
many_shards : (setup : Setup) (committed : Bool) → IsValid setup → (map_in_force setup committed).shards ≡ length setup.shards
many_shards setup true valid = valid.new.count
many_shards setup false valid = valid.old.count

module _ (setup : Setup) (valid : IsValid setup) (state : State) (clones : Clones) (cluster : Cluster)
    (kept : Keeps setup state clones cluster) (done : cluster.control.phase ≡ Done) where
  ends : IsStage Done cluster.control.decision state.fate
  ends = subst (λ p. IsStage p cluster.control.decision state.fate) done kept.decided.stage

  -- no lane holds anything that its shard hasn't
  stands : (s : ℕ) → s < length setup.shards → (id : Value) → now (shard_in cluster s).shard.versions id ≡ held state.bag s id
  stands s lt id =
      subst (λ p. stands_for setup p (shard_in cluster s) (lanes_of cluster s) id ≡ held state.bag s id) done (kept.contents s lt id)

  parts_held : (s : ℕ) → s < length cluster.shards → documents_of (shard_in cluster s).shard ≡ part state.map state.bag s
  parts_held s lt =
      let inside : s < length setup.shards = subst (λ n. s < n) kept.shard_count lt in
      lists_part state.map state.bag s (shard_in cluster s).shard.versions kept.decided.placed
      (kept.donors s inside).story.dated.filed (stands s inside)

  many : length cluster.shards ≡ state.map.shards
  many = kept.shard_count ∙ sym (many_shards setup (is_committed cluster.control.decision) valid) ∙ sym (ap (λ (c : Chunks). c.shards) kept.decided.map)

  holdings : holdings_in cluster ≡ holdings_of state
  holdings =
      listed_by (λ c. documents_of c.shard) (part state.map state.bag) cluster.shards no_shard 0
      (λ s lt. let same : s ≡ 0 + s = omega arith in parts_held s lt ∙ ap (part state.map state.bag) same)
      ∙ ap (λ n. map (part state.map state.bag) (range_with_len 0 n)) many

  replies : replies_in cluster ≡ state.answers
  replies = same_by_place (λ c. c.replies) cluster.clients state.answers no_client [] (kept.client_count ∙ sym kept.answered)
      (λ c lt. (kept.clients c (subst (λ n. c < n) kept.client_count lt)).answers)

  -- no client has a command left, nor a client that isn't there
  module _ (all : list_all (λ c. is_none (asked.next_command setup cluster c)) (range_with_len 0 (length setup.clients)) ≡ true) where
    none_left : (c : ℕ) → (c < length setup.clients) ⊎ (length setup.clients ≤ c) → next_command setup state c ≡ None
    none_left c (inl lt) =
        ap (λ said. slice_get (commands_of (slice_get setup.clients c)) (length said)) (sym (kept.clients c lt).answers)
        ∙ none_of (asked.next_command setup cluster c)
        (each_passes (λ c. is_none (asked.next_command setup cluster c)) 0 (length setup.clients) all c (omega arith) (omega (arith, lt)))
    none_left c (inr past) =
        ap (λ client. slice_get (commands_of client) (length (replies_to state c))) (slice_get_past setup.clients c past)
        ∙ slice_get_past [] (length (replies_to state c)) (omega arith)

    finished : IsFinished setup state ends.0
    finished = record { decided = ends.2; served = λ c. none_left c (cases_lt c (length setup.clients)) }

-- a cluster that keeps the invariant with the turns so far, where all is over
module _ (setup : Setup) (valid : IsValid setup) (order : List Turn) (cluster : Cluster)
    (kept : KeepsTurns setup (opening setup) order cluster) (over : is_over setup cluster ≡ true) where
  abbrev last : State
  last = walked setup (opening setup) order

  parts_of_over : (cluster.control.phase ≡ Done)
      × (list_all (λ c. is_none (asked.next_command setup cluster c)) (range_with_len 0 (length setup.clients)) ≡ true)
  parts_of_over =
      let w = both (is_done setup cluster.control.phase) (list_all (λ c. is_none (asked.next_command setup cluster c)) (range_with_len 0 (length setup.clients))) over in
      (is_phase_done setup cluster.control.phase w.0, w.1)

  pub walks : IsWalkOf setup cluster order
  walks = record {
    end = (ends setup valid last kept.1.0 cluster kept.1.1 parts_of_over.0).0;
    decided = (ends setup valid last kept.1.0 cluster kept.1.1 parts_of_over.0).1;
    lawful = record { allowed = kept.0; finished = finished setup valid last kept.1.0 cluster kept.1.1 parts_of_over.0 parts_of_over.1 };
    replies = replies setup valid last kept.1.0 cluster kept.1.1 parts_of_over.0;
    holdings = holdings setup valid last kept.1.0 cluster kept.1.1 parts_of_over.0;
  }

-- from the law that every schedule keeps the invariant
pub schedules_end : EveryScheduleKeeps → SchedulesEnd
schedules_end keeps setup moments valid made over =
    walks setup valid (order_of setup (opening_run setup) moments) (after_all setup (opening_run setup) moments).cluster
    (keeps.schedule setup moments valid made) over

pub orders_decide : SchedulesEnd → OrdersDecide
orders_decide ends setup one other valid made also over done same =
    let first = ends setup one valid made over in
    let second = ends setup other valid also done in (
      first.replies ∙ ap (λ (o : List Turn). (last_state setup o).answers) same ∙ sym second.replies,
      first.holdings ∙ ap (λ (o : List Turn). holdings_of (last_state setup o)) same ∙ sym second.holdings,
    )
