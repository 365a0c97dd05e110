use Rattle.std.proofs.Common.{List, [], sym, ap, ◌∙◌}
use Rattle.resh_oplog.specs.declared.piece.Piece.{Piece}
use Rattle.resh_cells.specs.Cuts.{cut_for, last_cut}
use Rattle.resh_cells.specs.declared.cluster.LinkCell.{LinkCell}
use Rattle.resh_copying.proofs.Places.{or_default, or_item}
use Rattle.resh_copying.proofs.pieces.last_of.Goals as goal

pub returns-in-Some-get : goal.returns-in-Some-get
returns-in-Some-get c =
    c.last.ensures
    ∙ ap (λ (pieces : List Piece). last_cut pieces c.args.position)
    (sym (or_item c.in-Some.cell.now.sent c.args.lane [] c.in-Some-get.cuts.now c.in-Some-get.ensures)
    ∙ ap (λ (x : LinkCell). cut_for x.sent c.args.lane) c.in-Some.ensures)

pub returns-in-None-get : goal.returns-in-None-get
returns-in-None-get c =
    ap (λ (pieces : List Piece). last_cut pieces c.args.position)
    (or_default c.in-Some.cell.now.sent c.args.lane [] c.in-None-get.ensures
    ∙ ap (λ (x : LinkCell). cut_for x.sent c.args.lane) c.in-Some.ensures)
