use Rattle.std.proofs.Common.{◌≡◌, ◌+◌, List, ◌++◌, length}
use Rattle.resh_pool.specs.declared.group.Group.{Group}
use Rattle.resh_pool.specs.Groups.{IsCut}
use Rattle.resh_pool.proofs.groups.cut.Given as goal

-- whatever the rest is cut into completes the groups
abbrev pub invariant-loop-rest : goal.invariant-loop-rest
invariant-loop-rest g l = record {
  count : l.first + length l.rest.items ≡ length l.fn.jobs.items;
  cut : (more : List (Group g.row.J.Denot)) → IsCut l.first more l.rest.items → IsCut 0 (l.groups.items ++ more) l.fn.jobs.items;
}

abbrev pub decreases-loop-rest : goal.decreases-loop-rest
decreases-loop-rest g l = length l.rest.items
