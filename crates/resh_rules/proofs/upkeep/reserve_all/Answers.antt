use Rattle.std.proofs.Common.{◌<◌, length, arith, add-one, ◌∙◌}
use Rattle.std.proofs.lemmas.List.{length-set}
use Rattle.resh_rules.proofs.Upkeeping.{failed, kept_at, room_at, room_more}
use Rattle.resh_rules.proofs.Writing.{lowered_at}
use Rattle.resh_rules.proofs.upkeep.reserve_all.Goals as goal

pub returns-in_err-reserve-clause-succeeds : goal.returns-in_err-reserve-clause-succeeds
returns-in_err-reserve-clause-succeeds c have =
    let within : c.loop-place.place < length c.loop-place.stashes.items = omega (arith, c.loop-place-test.true, c.len-place-end.ensures, c.loop-place.invariant.donors) in
    let room = room_at c.args.n c.loop-place.stashes.items c.loop-place.place c.index_mut.result.now
    (λ output h. let there = have output h in let kept = c.loop-place.invariant.spare output in omega (arith, there, kept)) within c.index_mut.ensures.value in
    failed _ c.reserve.result _ c.in_err-reserve.was (c.reserve.ensures.succeeds room)

pub loop-place-preserved : goal.loop-place-preserved
loop-place-preserved c =
    let within : c.loop-place.place < length c.loop-place.stashes.items = omega (arith, c.loop-place-test.true, c.len-place-end.ensures, c.loop-place.invariant.donors) in
    record {
      room = rw add-one (room_more c.args.n c.loop-place.stashes.items c.loop-place.place c.reserve.new.self within c.loop-place.invariant.room c.in_ok-reserve.ensures.room);
      spare = λ output.
          let before = c.loop-place.invariant.spare output in
          let less = lowered_at output c.loop-place.stashes.items c.loop-place.place c.index_mut.result.now c.reserve.new.self 0 within c.index_mut.ensures.value (omega (arith, c.reserve.ensures.spare)) in
          omega (arith, before, less);
      kept = kept_at c.loop-place.stashes.items c.loop-place.place c.index_mut.result.now c.reserve.new.self within c.index_mut.ensures.value c.reserve.ensures.kept ∙ c.loop-place.invariant.kept;
      donors = length-set c.loop-place.stashes.items c.loop-place.place c.reserve.new.self ∙ c.loop-place.invariant.donors;
    }
