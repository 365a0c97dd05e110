-- The sweep: what is tried after a file's steps, round by round, until all is done.
use Rattle.std.specs.Prelude.{◌≡◌, ℕ, Bool, true, false, not, ◌&&◌, cond, List, [], ◌∷◌, ◌++◌, length, is_none}
use Rattle.std.specs.List.{flat_map, list_all, range_with_len}
use Rattle.resh_value.specs.declared.value.ShardId.{ShardId}
use Rattle.resh_coord.specs.declared.phase.Phase.{Phase}
use Rattle.resh_coord.specs.declared.phase.Phase.TheVariants.{Done}
use Rattle.resh_shard.specs.Writes.{shard_id}
use Rattle.resh_setup.specs.declared.event.Event.{Event}
use Rattle.resh_setup.specs.declared.event.Event.TheVariants.{Client, Begin, Tell, Advance, Clone, Fetch, Cut, Apply, Record, Report}
use Rattle.resh_setup.specs.declared.setup.Setup.{Setup}
use Rattle.resh_cells.specs.Cells.{link_in}
use Rattle.resh_cells.specs.declared.cluster.Cluster.{Cluster}
use Rattle.resh_events.specs.Runs.{Moment, Run, after_all}
use Rattle.resh_events.specs.Steps.{IsStep, Line, may_step}
use Rattle.resh_events.specs.Targets.{next_command}

-- what is tried at a place of a round: a step; a clone, or a fetch once the link is read out; an apply, as often as it
-- isn't idle and its link hasn't failed
pub data Trial : Type 0 where
  step : Event → Trial
  reading : ShardId → ShardId → Trial
  applying : ShardId → ShardId → ℕ → Trial

-- the moments of lists of them, one list after another
abbrev pub all_of : List (List Moment) → List Moment
all_of lists = flat_map (λ moments. moments) lists

module _ (setup : Setup) where
  abbrev pub each : {X : Type 0} → ℕ → (ℕ → List X) → List X
  each many one = flat_map one (range_with_len 0 many)

  abbrev pub shards : ℕ
  shards = length setup.shards

  -- a link reads, cuts, has its pieces applied lane by lane, and records
  abbrev pub link_round : ShardId → ShardId → List Trial
  link_round r d =
      reading r d ∷ step (Cut r d) ∷ each setup.lanes (λ l. applying r d l ∷ []) ++ step (Record r d) ∷ []

  -- a round: each client, begin, each tell, each link by recipient and donor, each report, advance
  abbrev pub round : List Trial
  round = each (length setup.clients) (λ c. step (Client c) ∷ [])
      ++ step Begin ∷ each shards (λ s. step (Tell (shard_id s)) ∷ [])
      ++ each shards (λ r. each shards (λ d. link_round (shard_id r) (shard_id d)))
      ++ each shards (λ s. step (Report (shard_id s)) ∷ []) ++ step Advance ∷ []

  abbrev pub is_done : Phase → Bool
  is_done Done = true
  is_done other = false

  -- the coordinator is done, and no client has a command left
  abbrev pub is_over : Cluster → Bool
  is_over cluster = is_done cluster.control.phase
      && list_all (λ c. is_none (next_command setup cluster c)) (range_with_len 0 (length setup.clients))

  abbrev pub next_reading : Cluster → ShardId → ShardId → Event
  next_reading cluster r d = cond (link_in cluster r.0 d.0).link.read_out (Fetch r d) (Clone r d)

  -- an apply isn't idle and its link hasn't failed
  abbrev pub goes_on : Cluster → ShardId → ShardId → ℕ → Bool
  goes_on cluster r d l = may_step setup cluster (Apply r d l) && not (link_in cluster r.0 d.0).link.failed

  -- a step makes these events
  abbrev pub Makes : Run → Event → List Moment → Type 0
  Makes run event moments = (lines : List Line) × IsStep setup run event moments lines

  -- applies one after another, as long as there is one
  abbrev pub AreApplies : ShardId → ShardId → ℕ → Run → List (List Moment) → Type 0
  AreApplies r d l run [] = goes_on run.cluster r d l ≡ false
  AreApplies r d l run (moments ∷ more) =
      (goes_on run.cluster r d l ≡ true) × Makes run (Apply r d l) moments
      × AreApplies r d l (after_all setup run moments) more

  -- what a trial makes
  abbrev pub Tries : Run → Trial → List Moment → Type 0
  Tries run (step event) moments = Makes run event moments
  Tries run (reading r d) moments = Makes run (next_reading run.cluster r d) moments
  Tries run (applying r d l) moments =
      (applies : List (List Moment)) × (moments ≡ all_of applies) × AreApplies r d l run applies

  -- trials one after another
  abbrev pub TriesAll : Run → List Trial → List Moment → Type 0
  TriesAll run [] moments = moments ≡ []
  TriesAll run (trial ∷ trials) moments =
      (first : List Moment) × (rest : List Moment) × (moments ≡ first ++ rest) × Tries run trial first
      × TriesAll (after_all setup run first) trials rest

  -- rounds, each begun while not all is done
  abbrev pub IsSweep : Run → List (List Moment) → Type 0
  IsSweep run [] = is_over run.cluster ≡ true
  IsSweep run (moments ∷ more) =
      (is_over run.cluster ≡ false) × TriesAll run round moments × IsSweep (after_all setup run moments) more

  -- what the sweep makes from a run
  abbrev pub Sweeps : Run → List Moment → Type 0
  Sweeps run moments = (rounds : List (List Moment)) × (moments ≡ all_of rounds) × IsSweep run rounds
