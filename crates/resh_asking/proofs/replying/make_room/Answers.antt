use Rattle.std.proofs.Common.{sym}
use Rattle.std.proofs.lemmas.Result.{on_ok_weaker}
use Rattle.resh_asking.proofs.Becoming.{same_replies}
use Rattle.resh_asking.proofs.replying.make_room.Goals as goal

pub returns-in-Some : goal.returns-in-Some
returns-in-Some c =
    on_ok_weaker c.find_room.result (same_replies c.args.cluster.now c.args.client c.in-Some.cell.now c.find_room.new.replies (sym c.in-Some.ensures.value)) c.find_room.ensures
