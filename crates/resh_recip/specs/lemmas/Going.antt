-- A message that may come, where no release came, leads on to what a recipient may come to.
use Rattle.std.specs.Prelude.{◌≡◌, true, refl}
use Rattle.std.proofs.Common.{rules, inl, inr}
use Rattle.resh_progress.specs.Kinds.{Kind, ToDonate, ToInstall, ToRelease}
use Rattle.resh_progress.specs.Machines as machine
use Rattle.resh_recip.specs.States.{State, after, may, told_until, IsReached}
use Rattle.resh_recip.specs.declared.phase.RecipientPhase.{RecipientPhase}
use Rattle.resh_recip.specs.declared.phase.RecipientPhase.TheVariants.{AwaitingFetchTime, Cloning, Applying, StrictConsistency, Done}

abbrev going : RecipientPhase → State
going = machine.going told_until

pub on_going : (phase : RecipientPhase) (kind : Kind) → may (going phase) kind ≡ true
    → IsReached (after (going phase) kind)
on_going AwaitingFetchTime ToDonate m = inl refl
on_going AwaitingFetchTime ToRelease m = inr (record {
  phase = AwaitingFetchTime;
  before = search rules;
  done = refl;
  told = refl;
})
on_going AwaitingFetchTime kind m = search (rules, m)
on_going Cloning ToDonate m = inl refl
on_going Cloning ToRelease m = inr (record {
  phase = Cloning;
  before = search rules;
  done = refl;
  told = refl;
})
on_going Cloning kind m = search (rules, m)
on_going Applying ToDonate m = inl refl
on_going Applying ToRelease m = inr (record {
  phase = Applying;
  before = search rules;
  done = refl;
  told = refl;
})
on_going Applying kind m = search (rules, m)
on_going StrictConsistency ToDonate m = inl refl
on_going StrictConsistency ToInstall m = inl refl
on_going StrictConsistency ToRelease m = inr (record {
  phase = StrictConsistency;
  before = search rules;
  done = refl;
  told = refl;
})
on_going StrictConsistency kind m = search (rules, m)
on_going Done ToDonate m = inl refl
on_going Done ToInstall m = inl refl
on_going Done kind m = search (rules, m)
