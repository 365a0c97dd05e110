use Rattle.std.proofs.Common.{◌≡◌, ◌++◌, flat_map}
use Rattle.std.specs.Vec.Iter.{into_iter_items}
use Rattle.resh_pool.proofs.groups.joined.Given as goal

abbrev pub invariant-loop-group : goal.invariant-loop-group
invariant-loop-group g l =
    l.jobs.items ++ flat_map (λ group. group.items) (into_iter_items l.group-iterator) ≡ flat_map (λ group. group.items) l.fn.groups.items
