-- The kinds of messages.
use Rattle.resh_progress.specs.declared.message.Message.{Message}
use Rattle.resh_progress.specs.declared.message.Message.TheVariants.{Prepare, Donate, Block, Install, Release}

-- what a message tells a shard to do, whatever else it says
pub data Kind : Type 0 where
  ToPrepare : Kind
  ToDonate : Kind
  ToBlock : Kind
  ToInstall : Kind
  ToRelease : Kind

abbrev pub kind_of : Message → Kind
kind_of Prepare = ToPrepare
kind_of (Donate fetch_time) = ToDonate
kind_of Block = ToBlock
kind_of Install = ToInstall
kind_of Release = ToRelease
