-- A link goes back to its kept record, and its recipient's lanes with it: buffer and batch are gone.
use Rattle.std.specs.Prelude.{ℕ, Bool, List, [], ◌∷◌, ◌++◌}
use Rattle.resh_lane.specs.Lanes as lane
use Rattle.resh_fetcher.specs.Links.{gone_back}
use Rattle.resh_setup.specs.declared.setup.Setup.{Setup}
use Rattle.resh_cells.specs.Cells.{lanes_of, link_in, on_link, with_lanes}
use Rattle.resh_cells.specs.declared.cluster.Cluster.{Cluster}
use Rattle.resh_cells.specs.Clocks.{lane_cells}
use Rattle.resh_cells.specs.declared.cell.Cell.{Cell}
use Rattle.resh_cells.specs.declared.cell.Cell.TheVariants as named
use Rattle.resh_setup.specs.declared.seen.Seen.{Seen}
use Rattle.resh_setup.specs.declared.seen.Seen.TheVariants.{Back}

-- each lane's position for the donor goes back to its number
abbrev pub back : ℕ → List lane.LaneOf → List ℕ → List lane.LaneOf
back d [] numbers = []
back d (l ∷ ls) [] = l ∷ back d ls []
back d (l ∷ ls) (number ∷ numbers) = lane.gone_back d number l ∷ back d ls numbers

module _ (cluster : Cluster) (r d : ℕ) where
  abbrev pub may : Bool
  may = (link_in cluster r d).link.is_open

  abbrev pub change : Cluster
  change = on_link r d gone_back
      (with_lanes r (back d (lanes_of cluster r) (link_in cluster r d).link.kept.lanes) cluster)

  abbrev pub seen : Seen
  seen = Back (link_in cluster r d).link.kept.place

abbrev pub holds : Setup → ℕ → ℕ → List Cell
holds setup r d = lane_cells setup r ++ named.Link r d ∷ []
