-- A shard that isn't blocked serves under the map in force, and moves nothing.
use Rattle.std.proofs.Common.{◌≡◌, ◌≢◌, ◌<◌, ℕ, Bool, true, false, not, length, Option, Some, None, refl, sym, ap, ◌∙◌}
use Rattle.resh_cells.specs.Cells.{shard_in}
use Rattle.resh_cells.specs.declared.cluster.Cluster.{Cluster}
use Rattle.resh_coord.specs.Control.{is_true_at}
use Rattle.resh_coord.specs.declared.cause.End.{End}
use Rattle.resh_coord.specs.declared.cause.End.TheVariants.{Committed, Aborted}
use Rattle.resh_coord.specs.declared.phase.Phase.{Phase}
use Rattle.resh_coord.specs.declared.phase.Phase.TheVariants as phase
use Rattle.resh_donor.specs.States as donor
use Rattle.resh_donor.specs.declared.phase.DonorPhase.{DonorPhase}
use Rattle.resh_donor.specs.declared.phase.DonorPhase.TheVariants.{Unused, PreparingToDonate, Donating, BlockingWrites, Done}
use Rattle.resh_model.specs.Orders.{Fate, State}
use Rattle.resh_progress.specs.Kinds.{ToInstall}
use Rattle.resh_progress.specs.Tellings.{has}
use Rattle.resh_setup.specs.declared.setup.Setup.{Setup}
use Rattle.resh_shard.specs.Shards.{map_by}
use Rattle.resh_shard.specs.declared.act.Which.TheVariants.{New}
use Rattle.resh_invariant.specs.Courses.{IsDonorIn, IsGoing, IsStage, is_blocking, is_committed, which_by}
use Rattle.resh_invariant.specs.Keeping.{Keeps, is_moving, map_in_force}
use Rattle.resh_invariant.specs.Sources.{Clones}
use Rattle.resh_invariant.proofs.Ones.{never}

not_installed : (to : DonorPhase) → to ≢ Done → has (donor.told_until to) ToInstall ≡ false
not_installed Unused ne = refl
not_installed PreparingToDonate ne = refl
not_installed Donating ne = refl
not_installed BlockingWrites ne = refl
not_installed Done ne = absurd (ne refl)

-- a donor that goes on wasn't told to install, and neither was one that is released
goes_on : (to : DonorPhase) (state : donor.State) → to ≢ Done → IsGoing to state → has state.told ToInstall ≡ false
goes_on to state ne is = ap (λ (x : donor.State). has x.told ToInstall) is ∙ not_installed to ne

released : (state : donor.State) → donor.IsReleased state → has state.told ToInstall ≡ false
released state is = ap (λ t. has t ToInstall) is.told ∙ not_installed is.phase is.before

-- who was told to install was told so after the switch
installed_then : (p : Phase) (decision : Option End) (fate : Fate) (told : Bool) (state : donor.State) → IsStage p decision fate → IsDonorIn p decision told state
    → has state.told ToInstall ≡ true → is_committed decision ≡ true
installed_then phase.Initializing decision fate told state stage is on = never (sym on ∙ goes_on Unused state (λ e. cc) is)
installed_then phase.PreparingToDonate decision fate true state stage is on = never (sym on ∙ goes_on PreparingToDonate state (λ e. cc) is)
installed_then phase.PreparingToDonate decision fate false state stage is on = never (sym on ∙ goes_on Unused state (λ e. cc) is)
installed_then phase.Cloning decision fate true state stage is on = never (sym on ∙ goes_on Donating state (λ e. cc) is)
installed_then phase.Cloning decision fate false state stage is on = never (sym on ∙ goes_on PreparingToDonate state (λ e. cc) is)
installed_then phase.Applying decision fate told state stage is on = never (sym on ∙ goes_on Donating state (λ e. cc) is)
installed_then phase.BlockingWrites decision fate true state stage is on = never (sym on ∙ goes_on BlockingWrites state (λ e. cc) is)
installed_then phase.BlockingWrites decision fate false state stage is on = never (sym on ∙ goes_on Donating state (λ e. cc) is)
installed_then phase.Committing decision fate told state stage is on = ap is_committed stage.0
installed_then phase.Aborting decision fate true state stage is on = never (sym on ∙ released state is)
installed_then phase.Aborting decision fate false state stage is on = never (sym on ∙ goes_on is.0 state is.1 is.2)
installed_then phase.Done None fate told state stage is on = absurd is
installed_then phase.Done (Some Committed) fate told state stage is on = refl
installed_then phase.Done (Some (Aborted cause)) fate told state stage is on = never (sym on ∙ released state is)

none_committed : (decision : Option End) → decision ≡ None → is_committed decision ≡ false
none_committed decision none = ap is_committed none

-- after the switch, who isn't blocked was told to install
committed_then : (p : Phase) (decision : Option End) (fate : Fate) (told : Bool) (state : donor.State) → IsStage p decision fate → IsDonorIn p decision told state
    → is_committed decision ≡ true → is_blocking state.phase ≡ false → has state.told ToInstall ≡ true
committed_then phase.Initializing decision fate told state stage is on free = never (sym on ∙ none_committed decision stage.0)
committed_then phase.PreparingToDonate decision fate told state stage is on free = never (sym on ∙ none_committed decision stage.0)
committed_then phase.Cloning decision fate told state stage is on free = never (sym on ∙ none_committed decision stage.0)
committed_then phase.Applying decision fate told state stage is on free = never (sym on ∙ none_committed decision stage.0)
committed_then phase.BlockingWrites decision fate told state stage is on free = never (sym on ∙ none_committed decision stage.0)
committed_then phase.Committing decision fate true state stage is on free = ap (λ (x : donor.State). has x.told ToInstall) is
committed_then phase.Committing decision fate false state stage is on free = never (sym (ap (λ (x : donor.State). is_blocking x.phase) is) ∙ free)
committed_then phase.Aborting decision fate told state stage is on free = never (sym on ∙ ap is_committed stage.1)
committed_then phase.Done None fate told state stage is on free = absurd is
committed_then phase.Done (Some Committed) fate told state stage is on free = ap (λ (x : donor.State). has x.told ToInstall) is
committed_then phase.Done (Some (Aborted cause)) fate told state stage is on free = never (sym on)

-- who isn't blocked moves nothing
moves_nothing : (p : Phase) (decision : Option End) (told : Bool) (state : donor.State) → IsDonorIn p decision told state → is_blocking state.phase ≡ false
    → is_moving p (has state.told ToInstall) ≡ false
moves_nothing phase.Initializing decision told state is free = refl
moves_nothing phase.PreparingToDonate decision told state is free = refl
moves_nothing phase.Cloning decision told state is free = refl
moves_nothing phase.Applying decision told state is free = refl
moves_nothing phase.BlockingWrites decision told state is free = refl
moves_nothing phase.Committing decision true state is free = ap (λ (x : donor.State). not (has x.told ToInstall)) is
moves_nothing phase.Committing decision false state is free = never (sym (ap (λ (x : donor.State). is_blocking x.phase) is) ∙ free)
moves_nothing phase.Aborting decision told state is free = refl
moves_nothing phase.Done decision told state is free = refl

module _ (setup : Setup) (state : State) (clones : Clones) (cluster : Cluster) (keeps : Keeps setup state clones cluster) (s : ℕ) (s_in : s < length setup.shards) where
  -- a shard that serves under the new map was told so after the switch
  pub new_committed : (shard_in cluster s).shard.which ≡ New → is_committed cluster.control.decision ≡ true
  new_committed new =
      installed_then cluster.control.phase cluster.control.decision state.fate (is_true_at cluster.control.told s) (shard_in cluster s).donor keeps.decided.stage
      (keeps.donors s s_in).donor (by (has (shard_in cluster s).donor.told ToInstall) (sym (keeps.donors s s_in).serves.which ∙ new))
    where
      by : (b : Bool) → which_by b ≡ New → b ≡ true
      by true e = refl
      by false e = cc

  module _ (free : (shard_in cluster s).shard.blocked ≡ false) where
    going : is_blocking (shard_in cluster s).donor.phase ≡ false
    going = sym (keeps.donors s s_in).serves.blocked ∙ free

    pub stays : is_moving cluster.control.phase (has (shard_in cluster s).donor.told ToInstall) ≡ false
    stays =
        moves_nothing cluster.control.phase cluster.control.decision (is_true_at cluster.control.told s) (shard_in cluster s).donor (keeps.donors s s_in).donor going

    by_install : (installed : Bool) → has (shard_in cluster s).donor.told ToInstall ≡ installed → (committed : Bool) → is_committed cluster.control.decision ≡ committed
        → map_in_force setup committed ≡ map_by (which_by installed) setup.old_map setup.new_map
    by_install true on true done = refl
    by_install false off false done = refl
    by_install true on false done =
        never (sym (installed_then cluster.control.phase cluster.control.decision state.fate (is_true_at cluster.control.told s) (shard_in cluster s).donor keeps.decided.stage
        (keeps.donors s s_in).donor on) ∙ done)
    by_install false off true done =
        never (sym (committed_then cluster.control.phase cluster.control.decision state.fate (is_true_at cluster.control.told s) (shard_in cluster s).donor keeps.decided.stage
        (keeps.donors s s_in).donor done going) ∙ off)

    -- it serves under the map in force
    pub map_is : state.map ≡ map_by (shard_in cluster s).shard.which setup.old_map setup.new_map
    map_is =
        keeps.decided.map
        ∙ by_install (has (shard_in cluster s).donor.told ToInstall) refl (is_committed cluster.control.decision) refl
        ∙ ap (λ w. map_by w setup.old_map setup.new_map) (sym (keeps.donors s s_in).serves.which)
