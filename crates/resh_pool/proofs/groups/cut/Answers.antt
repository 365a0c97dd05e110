use Rattle.std.proofs.Common.{rules, ◌≡◌, [], length, subst, append-nil}
use Rattle.std.proofs.lemmas.List.{nil_from_length}
use Rattle.resh_pool.specs.Groups.{IsCut}
use Rattle.resh_pool.proofs.groups.cut.Goals as goal

pub returns : goal.returns
returns g c =
    let at = c.loop-rest in
    let none : length at.rest.items ≡ 0 = search rules in
    subst (λ groups. IsCut 0 groups c.args.jobs.items) (append-nil at.groups.items) (at.invariant.cut [] (nil_from_length at.rest.items none))
