use Rattle.resh_stamp.proofs.Following.{has_next_is}
use Rattle.resh_stamp.proofs.Orders.{marks_ordered, stamps_ordered, times_end}
use Rattle.resh_stamp.proofs.laws.stamp_laws.Goals as goal

pub returns-clause-stamps : goal.returns-clause-stamps
returns-clause-stamps c = stamps_ordered

pub returns-clause-marks : goal.returns-clause-marks
returns-clause-marks c = marks_ordered

pub returns-clause-times_end : goal.returns-clause-times_end
returns-clause-times_end c = times_end

pub returns-clause-has_next : goal.returns-clause-has_next
returns-clause-has_next c = has_next_is
