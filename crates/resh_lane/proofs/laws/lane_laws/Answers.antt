use Rattle.resh_lane.proofs.Fitting.{goes_on_fitting}
use Rattle.resh_lane.proofs.Ordered.{held_in_order, slots_in_order, positions_in_order, at_in_order, high_in_order}
use Rattle.resh_lane.proofs.Staying.{stays_lane}
use Rattle.resh_lane.proofs.Testing.{lane_by_test}
use Rattle.resh_lane.proofs.laws.lane_laws.Goals as goal

pub returns-clause-order : goal.returns-clause-order
returns-clause-order c = record { held = held_in_order; slots = slots_in_order; positions = positions_in_order; at = at_in_order; high = high_in_order }

pub returns-clause-feeds : goal.returns-clause-feeds
returns-clause-feeds c = goes_on_fitting

pub returns-clause-fits : goal.returns-clause-fits
returns-clause-fits c = lane_by_test

pub returns-clause-stays : goal.returns-clause-stays
returns-clause-stays c = stays_lane
