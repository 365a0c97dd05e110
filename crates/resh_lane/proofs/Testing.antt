-- The test of what may be given to a lane.
use Rattle.resh_oplog.specs.declared.piece.Piece.{Piece}
use Rattle.resh_rules.proofs.Giving.{both, fits_by_test, joined, less_by_test}
use Rattle.resh_lane.specs.Lanes.{LaneOf, end_of_positions}
use Rattle.resh_lane.specs.Laws.{FitsByTest}

pub lane_by_test : FitsByTest
lane_by_test lane piece = (
  λ e. let t = both _ _ e in ((less_by_test piece.position end_of_positions).0 t.0, (fits_by_test lane.pool piece.donor.0 piece.id piece.what).0 t.1),
  λ f. joined _ _ ((less_by_test piece.position end_of_positions).1 f.0) ((fits_by_test lane.pool piece.donor.0 piece.id piece.what).1 f.1),
)
