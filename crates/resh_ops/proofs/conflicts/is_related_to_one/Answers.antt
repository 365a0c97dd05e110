use Rattle.std.proofs.Common.{◌≡◌, ◌∙◌, Bool, true, false, sym}
use Rattle.std.specs.Prelude.{◌||◌}
use Rattle.resh_ops.proofs.Neighbours.{related_split}
use Rattle.resh_ops.proofs.conflicts.is_related_to_one.Goals as goal

decided : (a any extends begins : Bool) → any ≡ (extends || begins) → a ≡ extends → a ≡ true → a ≡ any
decided true any true begins split e t = sym split
decided true any false begins split e t = cc
decided false any extends begins split e t = cc

second : (a b any extends begins : Bool) → any ≡ (extends || begins) → a ≡ extends → b ≡ begins → a ≡ false → b ≡ any
second true b any extends begins split e g t = cc
second false b any true begins split e g t = cc
second false b any false begins split e g t = g ∙ sym split

pub returns-then-extends_one : goal.returns-then-extends_one
returns-then-extends_one c = decided _ _ _ _ (related_split c.args.path.now c.args.taken.now.keys) c.extends_one.ensures c.if-extends_one.true

pub returns-else-extends_one : goal.returns-else-extends_one
returns-else-extends_one c = second _ _ _ _ _ (related_split c.args.path.now c.args.taken.now.keys) c.extends_one.ensures c.begins_one.ensures c.if-extends_one.false
