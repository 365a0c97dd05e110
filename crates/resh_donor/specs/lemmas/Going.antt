-- A message that may come, where no release came, leads on to what a donor may come to.
use Rattle.std.specs.Prelude.{◌≡◌, true, refl}
use Rattle.std.proofs.Common.{rules, inl, inr}
use Rattle.resh_progress.specs.Kinds.{Kind, ToPrepare, ToDonate, ToBlock, ToInstall, ToRelease}
use Rattle.resh_progress.specs.Machines as machine
use Rattle.resh_donor.specs.States.{State, after, may, told_until, IsReached}
use Rattle.resh_donor.specs.declared.phase.DonorPhase.{DonorPhase}
use Rattle.resh_donor.specs.declared.phase.DonorPhase.TheVariants.{Unused, PreparingToDonate, Donating, BlockingWrites, Done}

abbrev going : DonorPhase → State
going = machine.going told_until

pub on_going : (phase : DonorPhase) (kind : Kind) → may (going phase) kind ≡ true → IsReached (after (going phase) kind)
on_going Unused ToPrepare m = inl refl
on_going Unused ToRelease m = inr (record {
  phase = Unused;
  before = search rules;
  done = refl;
  told = refl;
})
on_going Unused kind m = search (rules, m)
on_going PreparingToDonate ToPrepare m = inl refl
on_going PreparingToDonate ToDonate m = inl refl
on_going PreparingToDonate ToRelease m = inr (record {
  phase = PreparingToDonate;
  before = search rules;
  done = refl;
  told = refl;
})
on_going PreparingToDonate kind m = search (rules, m)
on_going Donating ToPrepare m = inl refl
on_going Donating ToDonate m = inl refl
on_going Donating ToBlock m = inl refl
on_going Donating ToRelease m = inr (record {
  phase = Donating;
  before = search rules;
  done = refl;
  told = refl;
})
on_going Donating kind m = search (rules, m)
on_going BlockingWrites ToRelease m = inr (record {
  phase = BlockingWrites;
  before = search rules;
  done = refl;
  told = refl;
})
on_going BlockingWrites kind m = inl refl
on_going Done ToRelease m = search (rules, m)
on_going Done kind m = inl refl
