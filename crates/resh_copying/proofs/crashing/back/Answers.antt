use Rattle.std.proofs.Common.{◌≡◌, ◌<◌, ℕ, suc, List, Some, take, length, slice_get, slice_index_or, slice_set, add-one, sym, ap, ◌∙◌}
use Rattle.resh_lane.specs.Lanes.{LaneOf, gone_back}
use Rattle.resh_events.specs.rows.Crash.{back}
use Rattle.resh_copying.proofs.Going.{back_more, back_none, back_past}
use Rattle.resh_copying.proofs.crashing.back.Goals as goal

-- the lanes with one more gone back
lanes_next : (d : ℕ) (lanes now : List LaneOf) (numbers : List ℕ) (place : ℕ) (lane new : LaneOf)
    → now ≡ back d lanes (take place numbers) → place < length numbers → Some lane ≡ slice_get now place
    → new ≡ gone_back d (slice_index_or numbers place 0) lane
    → slice_set now place new ≡ back d lanes (take (suc place) numbers)
lanes_next d lanes now numbers place lane new so below there is =
    ap (λ (ls : List LaneOf). slice_set ls place new) so
    ∙ (ap (slice_set (back d lanes (take place numbers)) place) is
    ∙ back_more d lanes numbers place lane below (there ∙ ap (λ (ls : List LaneOf). slice_get ls place) so))

pub loop-place-init : goal.loop-place-init
loop-place-init c = sym (back_none c.args.d.0 c.args.lanes.now)

pub loop-place-preserved : goal.loop-place-preserved
loop-place-preserved c =
    rw add-one
    (lanes_next c.args.d.0 c.args.lanes.now c.loop-place.lanes c.args.numbers.now c.loop-place.place c.in-Some.cell.now c.back.new.self.state
    c.loop-place.invariant c.loop-place-test.true c.in-Some.ensures.value
    (c.back.ensures.state ∙ ap (λ (x : LaneOf). gone_back c.args.d.0 (slice_index_or c.args.numbers.now c.loop-place.place 0) x) c.cell.view_is))

pub returns-in_default : goal.returns-in_default
returns-in_default c =
    c.loop-place.invariant
    ∙ back_past c.args.d.0 c.args.lanes.now c.args.numbers.now c.loop-place.place
    (c.in_default.ensures.value ∙ ap (λ (ls : List LaneOf). slice_get ls c.loop-place.place) c.loop-place.invariant)
