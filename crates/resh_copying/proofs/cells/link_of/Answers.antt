use Rattle.std.proofs.Common.{Option, unwrap_or, ap, ◌∙◌}
use Rattle.resh_cells.specs.Cells.{no_link}
use Rattle.resh_cells.specs.declared.cluster.LinkCell.{LinkCell}
use Rattle.resh_copying.proofs.Places.{in_none, in_row}
use Rattle.resh_copying.proofs.cells.link_of.Goals as goal

pub returns-in-Some : goal.returns-in-Some
returns-in-Some c =
    ap (λ (o : Option LinkCell). unwrap_or o no_link) c.get-in-Some.ensures
    ∙ in_row c.args.cluster.now.links c.args.r.0 c.args.d.0 c.in-Some.links.now no_link c.in-Some.ensures

pub returns-in-None : goal.returns-in-None
returns-in-None c = in_none c.args.cluster.now.links c.args.r.0 c.args.d.0 no_link c.in-None.ensures
