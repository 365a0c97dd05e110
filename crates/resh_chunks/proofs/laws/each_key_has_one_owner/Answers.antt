use Rattle.resh_value.specs.OrderLaws.{compare_total}
use Rattle.resh_chunks.proofs.Tiling.{one_owner}
use Rattle.resh_chunks.proofs.laws.each_key_has_one_owner.Goals as goal

pub returns : goal.returns
returns c = one_owner compare_total
