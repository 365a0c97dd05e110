use Rattle.std.proofs.Common.{subst, arith}
use Rattle.std.specs.Option.{option_map}
use Rattle.resh_stash.specs.Stored.{changed_to}
use Rattle.resh_rules.specs.Writes.{IsWritten}
use Rattle.resh_rules.proofs.Writing.{as_many, counted_at, set_at, spare_at, waits_at}
use Rattle.resh_rules.proofs.shelf.alter_at.Goals as goal

pub returns-clause-written : goal.returns-clause-written
returns-clause-written c =
    let items = c.args.stashes.now.items in
    let here = waits_at items c.args.place c.index_mut.result.now c.args.id.now c.requires.within c.index_mut.ensures.value in
    let written = subst (λ o. IsWritten c.index_mut.result.now.documents c.alter.new.stash.documents c.args.id.now (option_map (changed_to c.args.change.now) o)) here c.in_ok-alter.ensures.written in
    record {
      here = λ other. set_at c.args.id.now other _ items c.args.place c.index_mut.result.now c.alter.new.stash c.requires.within c.index_mut.ensures.value written;
      donors = as_many items c.args.place c.alter.new.stash;
    }

pub returns-clause-room : goal.returns-clause-room
returns-clause-room c = record {
  spare = λ output. spare_at output c.args.stashes.now.items c.args.place c.index_mut.result.now c.alter.new.stash c.requires.within c.index_mut.ensures.value c.alter.ensures.spare;
  count =
      let counted = counted_at c.args.stashes.now.items c.args.place c.index_mut.result.now c.alter.new.stash c.requires.within c.index_mut.ensures.value in
      omega (arith, counted, c.alter.ensures.count);
}
