-- What the phases that wait for reports say: nothing is decided, and every shard donates.
use Rattle.std.proofs.Common.{◌≡◌, Bool, true, false, cond, Option, ap, ◌∙◌}
use Rattle.resh_coord.specs.declared.cause.End.{End}
use Rattle.resh_coord.specs.declared.phase.Phase.TheVariants as phase
use Rattle.resh_donor.specs.States as donor
use Rattle.resh_donor.specs.declared.phase.DonorPhase.TheVariants.{PreparingToDonate, Donating, BlockingWrites}
use Rattle.resh_events.specs.rows.Clone.{donates}
use Rattle.resh_progress.specs.Kinds.{ToBlock}
use Rattle.resh_progress.specs.Tellings.{has}
use Rattle.resh_invariant.specs.Courses.{IsDonorIn}

pub cloning_donates : (decision : Option End) (told : Bool) (state : donor.State) → told ≡ true
    → IsDonorIn phase.Cloning decision told state → donates state.phase ≡ true
cloning_donates decision told state all is =
    ap (λ (s : donor.State). donates s.phase) is ∙ ap (λ (t : Bool). donates (cond t Donating PreparingToDonate)) all

pub applying_donates : (decision : Option End) (told : Bool) (state : donor.State)
    → IsDonorIn phase.Applying decision told state → donates state.phase ≡ true
applying_donates decision told state is = ap (λ (s : donor.State). donates s.phase) is

pub applying_open : (decision : Option End) (told : Bool) (state : donor.State)
    → IsDonorIn phase.Applying decision told state → has state.told ToBlock ≡ false
applying_open decision told state is = ap (λ (s : donor.State). has s.told ToBlock) is

pub blocking_donates : (decision : Option End) (told : Bool) (state : donor.State) → told ≡ true
    → IsDonorIn phase.BlockingWrites decision told state → donates state.phase ≡ true
blocking_donates decision told state all is =
    ap (λ (s : donor.State). donates s.phase) is ∙ ap (λ (t : Bool). donates (cond t BlockingWrites Donating)) all

pub blocking_blocks : (decision : Option End) (told : Bool) (state : donor.State) → told ≡ true
    → IsDonorIn phase.BlockingWrites decision told state → has state.told ToBlock ≡ true
blocking_blocks decision told state all is =
    ap (λ (s : donor.State). has s.told ToBlock) is ∙ ap (λ (t : Bool). has (donor.told_until (cond t BlockingWrites Donating)) ToBlock) all
