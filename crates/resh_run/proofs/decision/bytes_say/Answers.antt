use Rattle.resh_run.proofs.Meant.{check_bytes, fault_bytes}
use Rattle.resh_run.proofs.decision.bytes_say.Goals as goal

pub returns-in-Err : goal.returns-in-Err
returns-in-Err c = fault_bytes c.args.purpose c.args.bytes.items _ _ (rw c.as_slice.ensures.value at c.in-Err.ensures.exact) c.fault_says.ensures

pub returns-in-ToCheck : goal.returns-in-ToCheck
returns-in-ToCheck c = check_bytes c.args.purpose c.args.bytes.items _ _ c.in-ToCheck.is (rw c.as_slice.ensures.value at c.in-Ok.ensures.exact) c.check_says.ensures
