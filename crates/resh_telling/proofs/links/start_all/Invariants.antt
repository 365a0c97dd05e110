use Rattle.std.proofs.Common.{◌≡◌}
use Rattle.resh_fetcher.specs.Links.{started}
use Rattle.resh_cells.specs.Cells.{with_link}
use Rattle.resh_telling.proofs.Changing.{partly}
use Rattle.resh_telling.proofs.links.start_all.Given as goal

abbrev pub invariant-loop-place : goal.invariant-loop-place
invariant-loop-place l = l.links ≡ partly (with_link (λ link. started link l.fetch_time)) l.place l.fn.links
