use Rattle.std.proofs.Common.{◌≡◌}
use Rattle.resh_fetcher.specs.Links.{closed}
use Rattle.resh_cells.specs.Cells.{with_link}
use Rattle.resh_telling.proofs.Changing.{partly}
use Rattle.resh_telling.proofs.links.close_all.Given as goal

abbrev pub invariant-loop-place : goal.invariant-loop-place
invariant-loop-place l = l.links ≡ partly (with_link closed) l.place l.fn.links
