use Rattle.std.proofs.Common.{arith}
use Rattle.std.proofs.lemmas.Result.{err_from_is_err_and}
use Rattle.resh_io.proofs.TakenBytes.{ReadsAll-from_fault}
use Rattle.resh_io.proofs.reading.read_all.Goals as goal

pub returns-in_err-count-clause-bytes : goal.returns-in_err-count-clause-bytes
returns-in_err-count-clause-bytes g c =
    let p = err_from_is_err_and c.from_residual.result c.from_residual.ensures.1 in
    let before = c.loop-bytes.bytes in
    rw (p.1, p.2) (ReadsAll-from_fault _ _ _ c.args.limit _ before.items c.read_some.new.bytes.items c.in_err-count.field-0.0 (omega arith) (omega arith) c.loop-bytes.invariant.1 c.in_err-count.ensures.bytes)
