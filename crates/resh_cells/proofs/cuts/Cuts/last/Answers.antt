use Rattle.std.proofs.Common.{sym, ap, ◌∙◌}
use Rattle.resh_cells.specs.Cuts.{last_cut}
use Rattle.resh_cells.proofs.LastCut.{none_past}
use Rattle.resh_cells.proofs.cuts.Cuts.last.Goals as goal

-- src/cuts.rt:63:13
pub returns-then-position-self : goal.returns-then-position-self
returns-then-position-self c = sym (ap (λ l. last_cut l c.args.position) (sym c.self.view_is) ∙ none_past c.self.inside.end c.args.position c.self.inside.pieces.items c.self.invariant c.if-position-self.true)
