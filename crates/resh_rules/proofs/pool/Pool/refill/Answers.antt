use Rattle.std.proofs.Common.{◌≡◌, List, is_some, position, None, Some, sym, ap, subst, ◌∙◌, arith}
use Rattle.std.proofs.lemmas.List.Quantifiers.{position-Some}
use Rattle.std.specs.Option.{option_map}
use Rattle.resh_value.specs.Limits.{end_of_places}
use Rattle.resh_stash.specs.Stored.{StashOf}
use Rattle.resh_rules.specs.Held.{Held}
use Rattle.resh_rules.specs.Pools.{PoolOf, held_of, pool_of, documents_of, spare_of, waiting_of}
use Rattle.resh_rules.specs.Rules.{donor_by, first_waiting, refilled}
use Rattle.resh_rules.specs.Writes.{IsWritten, count_of}
use Rattle.resh_rules.proofs.Giving.{stays_pool}
use Rattle.resh_rules.proofs.Pooling.{acted, refills_none, refills_some, room_is, room_less, sound_inside, state_is}
use Rattle.resh_rules.proofs.Writing.{lowered_output}
use Rattle.resh_rules.proofs.pool.Pool.refill.Goals as goal

abbrev step : Held → Held
step held = refilled held (first_waiting held)

pub invariant_of-self : goal.invariant_of-self
invariant_of-self c =
    let stashes = c.self.inside.stashes.items in
    let before = pool_of c.self.inside.chunks c.self.inside.output c.self.inside.stashes.items in
    let first : first_waiting (held_of before c.args.id.now) ≡ None = ap (λ (ss : List StashOf). position is_some (waiting_of (documents_of ss) c.args.id.now)) (sym c.as_slice.ensures.value) ∙ sym c.first_holding.ensures ∙ c.in-None.is in
    record {
      pool = stays_pool c.args.id.now step before _ c.self.invariant.pool
          (refills_none c.self.inside.chunks c.args.id.now c.self.inside.output c.take.new.stash stashes first c.take.ensures.written)
          (sound_inside c.self.inside.chunks c.self.inside.output c.self.inside.stashes.items c.args.self.now c.self.view_is c.args.id.now step c.requires.sound);
      count = c.self.invariant.count;
    }

pub take_at-id-requires-clause-held : goal.take_at-id-requires-clause-held
take_at-id-requires-clause-held c =
    let stashes = c.self.inside.stashes.items in
    let first : first_waiting (held_of (pool_of c.self.inside.chunks c.self.inside.output c.self.inside.stashes.items) c.args.id.now) ≡ Some c.in-Some.place = ap (λ (ss : List StashOf). position is_some (waiting_of (documents_of ss) c.args.id.now)) (sym c.as_slice.ensures.value) ∙ sym c.first_holding.ensures ∙ c.in-Some.is in
    (position-Some is_some (waiting_of (documents_of stashes) c.args.id.now) c.in-Some.place None first).1

pub invariant_of-self-in-Some : goal.invariant_of-self-in-Some
invariant_of-self-in-Some c =
    let stashes = c.self.inside.stashes.items in
    let before = pool_of c.self.inside.chunks c.self.inside.output c.self.inside.stashes.items in
    let first : first_waiting (held_of before c.args.id.now) ≡ Some c.in-Some.place = ap (λ (ss : List StashOf). position is_some (waiting_of (documents_of ss) c.args.id.now)) (sym c.as_slice.ensures.value) ∙ sym c.first_holding.ensures ∙ c.in-Some.is in
    let put = subst (λ id. IsWritten c.self.inside.output.documents c.replace.new.stash.documents id (Some c.take_at-id.result.1)) c.take_at-id.ensures.id c.replace.ensures.written in
    record {
      pool = stays_pool c.args.id.now step before _ c.self.invariant.pool
          (refills_some c.self.inside.chunks c.args.id.now c.self.inside.output c.replace.new.stash stashes c.take_at-id.new.stashes.items c.in-Some.place c.take_at-id.result.1 first c.take_at-id.ensures.document c.take_at-id.ensures.written put)
          (sound_inside c.self.inside.chunks c.self.inside.output c.self.inside.stashes.items c.args.self.now c.self.view_is c.args.id.now step c.requires.sound);
      count = omega (arith, c.self.invariant.count, c.take_at-id.ensures.count);
    }

pub returns-in-None-clause-took : goal.returns-in-None-clause-took
returns-in-None-clause-took c =
    let first : first_waiting (held_of (pool_of c.self.inside.chunks c.self.inside.output c.self.inside.stashes.items) c.args.id.now) ≡ None = ap (λ (ss : List StashOf). position is_some (waiting_of (documents_of ss) c.args.id.now)) (sym c.as_slice.ensures.value) ∙ sym c.first_holding.ensures ∙ c.in-None.is in
    ap (option_map donor_by) (sym first) ∙ ap (λ (p : PoolOf). option_map donor_by (first_waiting (held_of p c.args.id.now))) (state_is c.self.inside.chunks c.self.inside.output c.self.inside.stashes.items c.args.self.now c.self.view_is)

pub returns-in-Some-clause-took : goal.returns-in-Some-clause-took
returns-in-Some-clause-took c =
    let first : first_waiting (held_of (pool_of c.self.inside.chunks c.self.inside.output c.self.inside.stashes.items) c.args.id.now) ≡ Some c.in-Some.place = ap (λ (ss : List StashOf). position is_some (waiting_of (documents_of ss) c.args.id.now)) (sym c.as_slice.ensures.value) ∙ sym c.first_holding.ensures ∙ c.in-Some.is in
    ap (option_map donor_by) (sym first) ∙ ap (λ (p : PoolOf). option_map donor_by (first_waiting (held_of p c.args.id.now))) (state_is c.self.inside.chunks c.self.inside.output c.self.inside.stashes.items c.args.self.now c.self.view_is)

pub returns-in-None-clause-acts : goal.returns-in-None-clause-acts
returns-in-None-clause-acts c =
    let first : first_waiting (held_of (pool_of c.self.inside.chunks c.self.inside.output c.self.inside.stashes.items) c.args.id.now) ≡ None = ap (λ (ss : List StashOf). position is_some (waiting_of (documents_of ss) c.args.id.now)) (sym c.as_slice.ensures.value) ∙ sym c.first_holding.ensures ∙ c.in-None.is in
    acted c.self.inside.chunks c.self.inside.output c.self.inside.stashes.items c.args.self.now c.self.view_is c.args.id.now step _
    (refills_none c.self.inside.chunks c.args.id.now c.self.inside.output c.take.new.stash c.self.inside.stashes.items first c.take.ensures.written)

pub returns-in-None-clause-spare : goal.returns-in-None-clause-spare
returns-in-None-clause-spare c =
    let room = room_is c.self.inside.chunks c.self.inside.output c.self.inside.stashes.items c.args.self.now c.self.view_is in
    let less = lowered_output c.self.inside.output c.take.new.stash c.self.inside.stashes.items 0 (omega (arith, c.take.ensures.spare)) in
    let left = room_less end_of_places (spare_of c.self.inside.output c.self.inside.stashes.items) (spare_of c.take.new.stash c.self.inside.stashes.items) (count_of c.self.inside.stashes.items) (count_of c.self.inside.stashes.items) 0 less (omega arith) in
    omega (arith, room, left)

pub returns-in-Some-clause-acts : goal.returns-in-Some-clause-acts
returns-in-Some-clause-acts c =
    let first : first_waiting (held_of (pool_of c.self.inside.chunks c.self.inside.output c.self.inside.stashes.items) c.args.id.now) ≡ Some c.in-Some.place = ap (λ (ss : List StashOf). position is_some (waiting_of (documents_of ss) c.args.id.now)) (sym c.as_slice.ensures.value) ∙ sym c.first_holding.ensures ∙ c.in-Some.is in
    let put = subst (λ id. IsWritten c.self.inside.output.documents c.replace.new.stash.documents id (Some c.take_at-id.result.1)) c.take_at-id.ensures.id c.replace.ensures.written in
    acted c.self.inside.chunks c.self.inside.output c.self.inside.stashes.items c.args.self.now c.self.view_is c.args.id.now step _
    (refills_some c.self.inside.chunks c.args.id.now c.self.inside.output c.replace.new.stash c.self.inside.stashes.items c.take_at-id.new.stashes.items c.in-Some.place c.take_at-id.result.1 first c.take_at-id.ensures.document c.take_at-id.ensures.written put)

pub returns-in-Some-clause-spare : goal.returns-in-Some-clause-spare
returns-in-Some-clause-spare c =
    let room = room_is c.self.inside.chunks c.self.inside.output c.self.inside.stashes.items c.args.self.now c.self.view_is in
    let taken = c.take_at-id.ensures.spare c.self.inside.output in
    let less = lowered_output c.self.inside.output c.replace.new.stash c.take_at-id.new.stashes.items 0 (omega (arith, c.replace.ensures.spare)) in
    let left = room_less end_of_places (spare_of c.self.inside.output c.self.inside.stashes.items) (spare_of c.replace.new.stash c.take_at-id.new.stashes.items) (count_of c.self.inside.stashes.items) (count_of c.take_at-id.new.stashes.items) 0 (omega (arith, taken, less)) (omega (arith, c.take_at-id.ensures.count)) in
    omega (arith, room, left)
