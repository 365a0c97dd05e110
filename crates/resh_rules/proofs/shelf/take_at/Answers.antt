use Rattle.std.proofs.Common.{None, sym, ap, ◌∙◌, arith}
use Rattle.std.specs.Option.{option_map}
use Rattle.resh_rules.proofs.Writing.{as_many, counted_at, image_parts, image_some, set_at, lowered_at, waits_at}
use Rattle.resh_rules.proofs.shelf.take_at.Goals as goal

pub unwrap-requires : goal.unwrap-requires
unwrap-requires c =
    image_some c.take.result _ _ (c.take.ensures.taken ∙ ap (option_map (λ document. (c.args.id.now, document))) (waits_at c.args.stashes.now.items c.args.place c.index_mut.result.now c.args.id.now c.requires.within c.index_mut.ensures.value)) c.requires.held

pub returns-clause-id : goal.returns-clause-id
returns-clause-id c = (image_parts _ c.args.id.now c.unwrap.result (sym c.unwrap.ensures ∙ c.take.ensures.taken)).0

pub returns-clause-document : goal.returns-clause-document
returns-clause-document c =
    sym (waits_at c.args.stashes.now.items c.args.place c.index_mut.result.now c.args.id.now c.requires.within c.index_mut.ensures.value)
    ∙ (image_parts _ c.args.id.now c.unwrap.result (sym c.unwrap.ensures ∙ c.take.ensures.taken)).1

pub returns-clause-written : goal.returns-clause-written
returns-clause-written c = record {
  here = λ other. set_at c.args.id.now other None c.args.stashes.now.items c.args.place c.index_mut.result.now c.take.new.stash c.requires.within c.index_mut.ensures.value c.take.ensures.written;
  donors = as_many c.args.stashes.now.items c.args.place c.take.new.stash;
}

pub returns-clause-spare : goal.returns-clause-spare
returns-clause-spare c output =
    let less = lowered_at output c.args.stashes.now.items c.args.place c.index_mut.result.now c.take.new.stash 0 c.requires.within c.index_mut.ensures.value (omega (arith, c.take.ensures.spare)) in
    omega (arith, less)

pub returns-clause-count : goal.returns-clause-count
returns-clause-count c =
    let counted = counted_at c.args.stashes.now.items c.args.place c.index_mut.result.now c.take.new.stash c.requires.within c.index_mut.ensures.value in
    omega (arith, counted, c.take.ensures.count)
