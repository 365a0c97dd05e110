use Rattle.std.proofs.Common.{◌≡◌, ◌≤◌, length, drop}
use Rattle.resh_bag.specs.Bag.{opening_bag}
use Rattle.resh_model.proofs.collection.Collection.opening.Given as goal

abbrev pub invariant-loop-place : goal.invariant-loop-place
invariant-loop-place l = record { within : l.place ≤ length l.documents; opened : l.collection ≡ opening_bag l.map (drop l.place l.documents) }

abbrev pub decreases-loop-place : goal.decreases-loop-place
decreases-loop-place l = l.place
