use Rattle.std.proofs.Common.{◌-◌, ◌^◌, min, sym, ap, ◌∙◌}
use Rattle.resh_value.specs.Depth.{levels_of}
use Rattle.resh_value.proofs.levels.Levels.{levels-Doc}
use Rattle.resh_value.proofs.depth.+depth.Goals as goal

pub levels_of-returns-in-Doc : goal.levels_of-returns-in-Doc
levels_of-returns-in-Doc t c =
    c.depth.ensures ∙ ap (λ n. min n (2 ^ 32 - 1)) (sym (ap levels_of c.in-Doc.is ∙ levels-Doc c.in-Doc.document))
