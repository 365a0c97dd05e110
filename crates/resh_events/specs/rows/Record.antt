-- A link keeps the end of the batch that is out, once every lane has come to it.
use Rattle.std.specs.Prelude.{ℕ, Bool, true, false, ◌&&◌, List, [], ◌∷◌, ◌++◌, nat_le}
use Rattle.resh_lane.specs.Lanes.{LaneOf, number_of}
use Rattle.resh_fetcher.specs.Conditions.{may_keep}
use Rattle.resh_fetcher.specs.Links.{LinkOf, batch_kept, ends}
use Rattle.resh_setup.specs.declared.setup.Setup.{Setup}
use Rattle.resh_cells.specs.Cells.{lanes_of, link_in, on_link}
use Rattle.resh_cells.specs.declared.cluster.Cluster.{Cluster}
use Rattle.resh_cells.specs.Clocks.{lane_cells}
use Rattle.resh_cells.specs.declared.cell.Cell.{Cell}
use Rattle.resh_cells.specs.declared.cell.Cell.TheVariants as named
use Rattle.resh_setup.specs.declared.seen.Seen.{Seen}
use Rattle.resh_setup.specs.declared.seen.Seen.TheVariants.{Kept, KeptLast}

-- each lane's position for the donor isn't below its number
abbrev pub reach : ℕ → List LaneOf → List ℕ → Bool
reach d [] numbers = true
reach d (lane ∷ lanes) [] = true
reach d (lane ∷ lanes) (number ∷ numbers) = nat_le number (number_of lane.at d) && reach d lanes numbers

abbrev pub kept_seen : ℕ → Bool → Seen
kept_seen place true = KeptLast place
kept_seen place false = Kept place

module _ (cluster : Cluster) (r d : ℕ) where
  abbrev pub may : Bool
  may = (link_in cluster r d).link.is_open && may_keep (link_in cluster r d).link
      && reach d (lanes_of cluster r) (ends (link_in cluster r d).link)

  abbrev pub change : Cluster
  change = on_link r d batch_kept cluster

  abbrev pub seen : Seen
  seen =
      let l : LinkOf = batch_kept (link_in cluster r d).link in
      kept_seen l.kept.place l.kept.finished

abbrev pub holds : Setup → ℕ → ℕ → List Cell
holds setup r d = lane_cells setup r ++ named.Link r d ∷ []
