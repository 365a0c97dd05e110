use Rattle.std.proofs.Common.{◌≡◌, ℕ, suc, ◌++◌, List, Some, slice_get, slice_set, take, add-one, sym, ap, ◌∙◌}
use Rattle.std.specs.FinMap.{values}
use Rattle.resh_lane.specs.Lanes.{LaneOf, emptied}
use Rattle.resh_bag.specs.Bag.{Document}
use Rattle.resh_events.specs.rows.Tell.{outputs}
use Rattle.resh_telling.proofs.Changing.{out_next, partly, partly_at, partly_next}
use Rattle.resh_telling.proofs.lanes.finish_all.Goals as goal

-- the lanes with one more emptied
lanes_next : (lanes now : List LaneOf) (place : ℕ) (lane new : LaneOf) → now ≡ partly emptied place lanes → Some lane ≡ slice_get now place → new ≡ emptied lane
    → slice_set now place new ≡ partly emptied (suc place) lanes
lanes_next lanes now place lane new so there is =
    ap (λ row. slice_set row place new) so
    ∙ partly_next emptied lanes place lane new (ap (λ row. slice_get row place) (sym so) ∙ sym there) is

-- their documents with those of one more
documents_next : (lanes now : List LaneOf) (place : ℕ) (lane : LaneOf) (before after : List Document) → now ≡ partly emptied place lanes → Some lane ≡ slice_get now place
    → before ≡ outputs (take place lanes) → after ≡ before ++ values lane.pool.output → after ≡ outputs (take (suc place) lanes)
documents_next lanes now place lane before after so there held joined =
    joined
    ∙ ap (λ documents. documents ++ values lane.pool.output) held
    ∙ out_next (λ (l : LaneOf). values l.pool.output) lanes place lane
    (sym (partly_at emptied lanes place) ∙ (ap (λ row. slice_get row place) (sym so) ∙ sym there))

pub loop-place-preserved : goal.loop-place-preserved
loop-place-preserved c = record {
  lanes = rw add-one (lanes_next c.args.lanes.now c.loop-place.lanes c.loop-place.place c.in-Some.cell.now c.finish.new.cell c.loop-place.invariant.lanes c.in-Some.ensures.value c.in_ok-finish-in-Some.ensures.lane);
  documents = rw add-one (documents_next c.args.lanes.now c.loop-place.lanes c.loop-place.place c.in-Some.cell.now c.loop-place.documents.items c.finish.new.documents.items c.loop-place.invariant.lanes c.in-Some.ensures.value c.loop-place.invariant.documents c.in_ok-finish-in-Some.ensures.documents);
  whole = c.in_ok-finish-in-Some.ensures.whole c.loop-place.invariant.whole;
}
