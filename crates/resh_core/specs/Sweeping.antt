-- Trials one after another as code makes them, list by list.
use Rattle.std.specs.Prelude.{◌≡◌, ⊤, ℕ, Bool, true, false, cond, List, [], ◌∷◌, length, is_none}
use Rattle.std.specs.List.{flat_map, list_all, range_with_len}
use Rattle.resh_value.specs.declared.value.ShardId.{ShardId}
use Rattle.resh_shard.specs.Writes.{shard_id}
use Rattle.resh_setup.specs.declared.event.Event.TheVariants.{Client, Tell, Clone, Fetch, Apply, Report}
use Rattle.resh_setup.specs.declared.event.Event.{Event}
use Rattle.resh_cells.specs.Cells.{link_in}
use Rattle.resh_setup.specs.declared.setup.Setup.{Setup}
use Rattle.resh_cells.specs.declared.cluster.Cluster.{Cluster}
use Rattle.resh_events.specs.Lucks.{Lucks}
use Rattle.resh_events.specs.Runs.{Moment, Run, after_all}
use Rattle.resh_events.specs.Sweep.{Makes, Trial, TriesAll, all_of, applying, goes_on, is_over, link_round, round, step}
use Rattle.resh_events.specs.Targets.{next_command}
use Rattle.resh_core.specs.Cores.{CoreOf, HasMade, IsSound, run_of}
use Rattle.resh_core.specs.Making.{core_of}
use Rattle.resh_core.specs.declared.making.State.{State}

-- no client has a command left
abbrev pub have_asked_all : Setup → Cluster → Bool
have_asked_all setup cluster =
    list_all (λ c. is_none (next_command setup cluster c)) (range_with_len 0 (length setup.clients))

-- a link that is read out fetches, and another one clones
abbrev pub reading_at : Cluster → ShardId → ShardId → Event
reading_at cluster r d = cond (link_in cluster r.0 d.0).link.read_out (Fetch r d) (Clone r d)

-- some trials have made these events, and the core is sound after them
pub record HasTried (setup : Setup) (old : State) (before : Lucks) (trials : List Trial) (new : State) (later : Lucks)
    : Type 0 where
  pub moments : List Moment
  pub tries : TriesAll setup (run_of (core_of setup old) before) trials moments
  pub made : HasMade (core_of setup old) before moments (core_of setup new) later
  pub sound : IsSound setup new.order new.cluster

-- the trials of the first clients, shards, donors, recipients and lanes
abbrev pub client_trials : ℕ → List Trial
client_trials clients = flat_map (λ c. step (Client c) ∷ []) (range_with_len 0 clients)

abbrev pub tell_trials : ℕ → List Trial
tell_trials shards = flat_map (λ s. step (Tell (shard_id s)) ∷ []) (range_with_len 0 shards)

abbrev pub report_trials : ℕ → List Trial
report_trials shards = flat_map (λ s. step (Report (shard_id s)) ∷ []) (range_with_len 0 shards)

abbrev pub lane_trials : ShardId → ShardId → ℕ → List Trial
lane_trials r d lanes = flat_map (λ l. applying r d l ∷ []) (range_with_len 0 lanes)

module _ (setup : Setup) where
  abbrev pub link_trials : ShardId → ℕ → List Trial
  link_trials r donors = flat_map (λ d. link_round setup r (shard_id d)) (range_with_len 0 donors)

  abbrev pub recipient_trials : ℕ → List Trial
  recipient_trials recipients =
      flat_map (λ r. link_trials (shard_id r) (length setup.shards)) (range_with_len 0 recipients)

module _ (setup : Setup) where
  -- applies so far, each of which went on
  abbrev pub SomeApplies : ShardId → ShardId → ℕ → Run → List (List Moment) → Type 0
  SomeApplies r d l run [] = ⊤
  SomeApplies r d l run (moments ∷ more) =
      (goes_on setup run.cluster r d l ≡ true) × Makes setup run (Apply r d l) moments
      × SomeApplies r d l (after_all setup run moments) more

  -- rounds so far, each begun while not all was done
  abbrev pub SomeRounds : Run → List (List Moment) → Type 0
  SomeRounds run [] = ⊤
  SomeRounds run (moments ∷ more) =
      (is_over setup run.cluster ≡ false) × TriesAll setup run (round setup) moments
      × SomeRounds (after_all setup run moments) more

-- some applies have been made, or some rounds, and the core is sound after them
pub record HasApplied (setup : Setup) (r d : ShardId) (l : ℕ) (old : State) (before : Lucks) (new : State) (later : Lucks)
    : Type 0 where
  pub applies : List (List Moment)
  pub some : SomeApplies setup r d l (run_of (core_of setup old) before) applies
  pub made : HasMade (core_of setup old) before (all_of applies) (core_of setup new) later
  pub sound : IsSound setup new.order new.cluster

pub record HasRounds (setup : Setup) (old : State) (before : Lucks) (new : State) (later : Lucks) : Type 0 where
  pub rounds : List (List Moment)
  pub some : SomeRounds setup (run_of (core_of setup old) before) rounds
  pub made : HasMade (core_of setup old) before (all_of rounds) (core_of setup new) later
  pub sound : IsSound setup new.order new.cluster
