use Rattle.std.proofs.Common.{length, arith, refl, ap, ◌∙◌}
use Rattle.std.proofs.lemmas.List.{length-map}
use Rattle.resh_value.specs.Limits.{end_of_places}
use Rattle.resh_stash.specs.Stored.{StashOf}
use Rattle.resh_rules.specs.Pools.{cleared, spare_of}
use Rattle.resh_rules.specs.Writes.{count_of}
use Rattle.resh_rules.proofs.Pooling.{room_is, room_less, state_is}
use Rattle.resh_rules.proofs.Upkeeping.{nothing_held, nothing_kept, none_counted, spare_more}
use Rattle.resh_rules.proofs.pool.Pool.clear.Goals as goal

pub invariant_of-self : goal.invariant_of-self
invariant_of-self c =
    let many = length-map c.self.inside.stashes.items (λ (s : StashOf). s.documents) in
    nothing_kept c.self.inside.chunks (length c.self.inside.stashes.items) _ refl c.clear.ensures.documents c.clear_all.ensures.emptied (omega (arith, many, c.self.invariant.pool.few))

pub returns-clause-emptied : goal.returns-clause-emptied
returns-clause-emptied c =
    nothing_held c.self.inside.chunks c.self.inside.stashes.items c.self.inside.output c.clear.new.self c.clear_all.new.stashes.items c.clear.ensures.documents c.clear_all.ensures.emptied
    ∙ ap cleared (state_is c.self.inside.chunks c.self.inside.output c.self.inside.stashes.items c.args.self.now c.self.view_is)

pub returns-clause-spare : goal.returns-clause-spare
returns-clause-spare c =
    let room = room_is c.self.inside.chunks c.self.inside.output c.self.inside.stashes.items c.args.self.now c.self.view_is in
    let stashes = c.clear_all.ensures.spare c.self.inside.output in
    let output = spare_more c.self.inside.output c.clear.new.self c.clear_all.new.stashes.items c.clear.ensures.spare in
    let none = none_counted c.clear_all.new.stashes.items (length c.self.inside.stashes.items) c.clear_all.ensures.emptied in
    let left = room_less end_of_places (spare_of c.self.inside.output c.self.inside.stashes.items) (spare_of c.clear.new.self c.clear_all.new.stashes.items) (count_of c.self.inside.stashes.items) (count_of c.clear_all.new.stashes.items) 0 (omega (arith, stashes, output)) (omega (arith, none)) in
    omega (arith, room, left)
