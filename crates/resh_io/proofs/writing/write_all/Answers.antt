use Rattle.std.proofs.Common.{arith}
use Rattle.resh_io.proofs.SentBytes.{length-unsent, Appends-more}
use Rattle.resh_io.proofs.writing.write_all.Goals as goal

pub loop-sent-preserved : goal.loop-sent-preserved
loop-sent-preserved g c =
    let (fits, sent, later) = c.loop-sent.invariant in (
      length-unsent c.args.bytes.now c.loop-sent.sent c.in-Ok.count fits c.in-Ok.ensures.bound,
      Appends-more _ _ _ c.args.bytes.now c.loop-sent.sent c.in-Ok.count sent c.in-Ok.ensures.bytes,
      omega (arith, c.in-Ok.ensures.cause.later),
    )
