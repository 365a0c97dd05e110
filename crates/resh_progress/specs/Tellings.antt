-- Which kinds of messages a machine was told, and what a message does to it.
use Rattle.std.specs.Prelude.{Bool, true, false}
use Rattle.resh_progress.specs.Kinds.{Kind, ToPrepare, ToDonate, ToBlock, ToInstall, ToRelease}
use Rattle.resh_progress.specs.declared.step.Step.{Step}
use Rattle.resh_progress.specs.declared.step.Step.TheVariants.{Moved, Same}
use Rattle.resh_progress.specs.declared.told.Told.{Told}

abbrev pub nothing : Told
nothing = record { prepare = false; donate = false; block = false; install = false; release = false }

abbrev pub has : Told → Kind → Bool
has told ToPrepare = told.prepare
has told ToDonate = told.donate
has told ToBlock = told.block
has told ToInstall = told.install
has told ToRelease = told.release

abbrev pub told_too : Told → Kind → Told
told_too told ToPrepare = record told { prepare = true }
told_too told ToDonate = record told { donate = true }
told_too told ToBlock = record told { block = true }
told_too told ToInstall = record told { install = true }
told_too told ToRelease = record told { release = true }

-- a machine moves unless what comes has come before
abbrev pub step_unless : Bool → Step
step_unless true = Same
step_unless false = Moved
