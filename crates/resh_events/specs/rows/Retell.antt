-- A shard is told once more what it was told before, which changes nothing.
use Rattle.std.specs.Prelude.{ℕ, Bool, List, [], ◌∷◌}
use Rattle.resh_progress.specs.Kinds.{Kind, ToPrepare, ToDonate, ToBlock, ToInstall, ToRelease}
use Rattle.resh_progress.specs.Tellings.{has}
use Rattle.resh_setup.specs.declared.event.MessageKind.{MessageKind}
use Rattle.resh_setup.specs.declared.event.MessageKind.TheVariants.{Prepare, Donate, Block, Install, Release}
use Rattle.resh_cells.specs.Cells.{shard_in}
use Rattle.resh_cells.specs.declared.cluster.Cluster.{Cluster}
use Rattle.resh_cells.specs.declared.cell.Cell.{Cell}
use Rattle.resh_cells.specs.declared.cell.Cell.TheVariants as named
use Rattle.resh_setup.specs.declared.seen.Seen.{Seen}
use Rattle.resh_setup.specs.declared.seen.Seen.TheVariants.{NothingNew}

abbrev pub kind_of : MessageKind → Kind
kind_of Prepare = ToPrepare
kind_of Donate = ToDonate
kind_of Block = ToBlock
kind_of Install = ToInstall
kind_of Release = ToRelease

-- a message of this kind came to its donor, to which every message comes
abbrev pub may : Cluster → ℕ → MessageKind → Bool
may cluster s message = has (shard_in cluster s).donor.told (kind_of message)

abbrev pub change : Cluster → Cluster
change cluster = cluster

abbrev pub seen : Seen
seen = NothingNew

abbrev pub holds : ℕ → List Cell
holds s = named.Coordinator ∷ named.Shard s ∷ []
