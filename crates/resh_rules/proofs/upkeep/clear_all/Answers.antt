use Rattle.std.proofs.Common.{◌<◌, length, arith, add-one, ◌∙◌}
use Rattle.std.proofs.lemmas.List.{length-set}
use Rattle.resh_rules.proofs.Upkeeping.{emptied_more}
use Rattle.resh_rules.proofs.Writing.{lowered_at}
use Rattle.resh_rules.proofs.upkeep.clear_all.Goals as goal

pub loop-place-preserved : goal.loop-place-preserved
loop-place-preserved c =
    let within : c.loop-place.place < length c.loop-place.stashes.items = omega (arith, c.loop-place-test.true, c.len-place-end.ensures, c.loop-place.invariant.donors) in
    record {
      emptied = rw add-one (emptied_more c.loop-place.stashes.items c.loop-place.place c.clear.new.self within c.loop-place.invariant.emptied c.clear.ensures.documents);
      spare = λ output.
          let before = c.loop-place.invariant.spare output in
          let less = lowered_at output c.loop-place.stashes.items c.loop-place.place c.index_mut.result.now c.clear.new.self 0 within c.index_mut.ensures.value (omega (arith, c.clear.ensures.spare)) in
          omega (arith, before, less);
      donors = length-set c.loop-place.stashes.items c.loop-place.place c.clear.new.self ∙ c.loop-place.invariant.donors;
    }
