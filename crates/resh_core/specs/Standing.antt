-- What a core keeps between its calls.
use Rattle.std.specs.Prelude.{◌≡◌, Bool, false, List}
use Rattle.resh_setup.specs.Validity.{IsValid}
use Rattle.resh_setup.specs.declared.setup.Setup.{Setup}
use Rattle.resh_setup.specs.declared.turn.Turn.{Turn}
use Rattle.resh_cells.specs.declared.cluster.Cluster.{Cluster}
use Rattle.resh_core.specs.Cores.{IsSound}

-- its setup is valid, and its turns led to its cluster as long as the core isn't given up
pub record Stands (setup : Setup) (given_up : Bool) (order : List Turn) (cluster : Cluster) : Type 0 where
  pub valid : IsValid setup
  pub sound : given_up ≡ false → IsSound setup order cluster
