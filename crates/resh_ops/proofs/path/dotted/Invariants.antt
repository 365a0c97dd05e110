use Rattle.std.proofs.Common.{◌≡◌, ◌∷◌, drop, string_bytes}
use Rattle.resh_ops.specs.Paths.{dotted}
use Rattle.resh_ops.proofs.path.dotted.Given as goal

abbrev pub invariant-loop-name : goal.invariant-loop-name
invariant-loop-name l = dotted (string_bytes l.text ∷ drop l.name-index l.rest) ≡ dotted (string_bytes l.initial.text ∷ l.rest)
