-- The rows of lanes.
use Rattle.resh_fetcher.specs.Laws.{StandsOn}
use Rattle.resh_lane_rows.specs.Laws.{LaneRowsKeep}
use Rattle.resh_lane_rows.proofs.Applying.{again_keeps, apply_keeps}
use Rattle.resh_lane_rows.proofs.Crashing.{crash_keeps}

pub lane_rows_keep : StandsOn → LaneRowsKeep
lane_rows_keep stands = record {
  apply = λ setup state clones cluster r d l piece keeps cut is. apply_keeps setup state clones cluster keeps r d l piece cut is;
  again = λ setup state clones cluster r d l position piece keeps cut is. again_keeps setup state clones cluster keeps r d l position piece cut is;
  crash = λ setup state clones cluster r d keeps is. crash_keeps stands setup state clones cluster keeps r d is;
}
