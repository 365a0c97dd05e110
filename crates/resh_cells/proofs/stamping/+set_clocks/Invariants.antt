use Rattle.std.proofs.Common.{length}
use Rattle.resh_cells.proofs.stamping.+set_clocks.Given as goal

abbrev pub decreases-set_clocks : goal.decreases-set_clocks
decreases-set_clocks l = length l.cells.now
