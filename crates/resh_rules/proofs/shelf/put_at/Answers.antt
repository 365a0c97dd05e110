use Rattle.std.proofs.Common.{Some, arith}
use Rattle.resh_rules.proofs.Writing.{as_many, counted_at, set_at, lowered_at}
use Rattle.resh_rules.proofs.shelf.put_at.Goals as goal

pub returns-clause-written : goal.returns-clause-written
returns-clause-written c = record {
  here = λ other. set_at c.args.id other (Some c.args.document) c.args.stashes.now.items c.args.place c.index_mut.result.now c.put.new.stash c.requires.within c.index_mut.ensures.value c.put.ensures.written;
  donors = as_many c.args.stashes.now.items c.args.place c.put.new.stash;
}

pub returns-clause-spare : goal.returns-clause-spare
returns-clause-spare c output = lowered_at output c.args.stashes.now.items c.args.place c.index_mut.result.now c.put.new.stash 1 c.requires.within c.index_mut.ensures.value c.put.ensures.spare

pub returns-clause-count : goal.returns-clause-count
returns-clause-count c =
    let counted = counted_at c.args.stashes.now.items c.args.place c.index_mut.result.now c.put.new.stash c.requires.within c.index_mut.ensures.value in
    omega (arith, counted, c.put.ensures.count)
