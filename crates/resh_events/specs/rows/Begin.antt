-- The coordinator begins.
use Rattle.std.specs.Prelude.{Bool, List, [], ◌∷◌}
use Rattle.resh_coord.specs.Control.{begins, begun}
use Rattle.resh_cells.specs.Cells.{on_control}
use Rattle.resh_cells.specs.declared.cluster.Cluster.{Cluster}
use Rattle.resh_cells.specs.declared.cell.Cell.{Cell}
use Rattle.resh_cells.specs.declared.cell.Cell.TheVariants as named
use Rattle.resh_setup.specs.declared.seen.Seen.{Seen}
use Rattle.resh_setup.specs.declared.seen.Seen.TheVariants.{PreparingToDonate}

abbrev pub may : Cluster → Bool
may cluster = begins cluster.control.phase

abbrev pub change : Cluster → Cluster
change cluster = on_control begun cluster

abbrev pub seen : Seen
seen = PreparingToDonate

abbrev pub holds : List Cell
holds = named.Coordinator ∷ []
