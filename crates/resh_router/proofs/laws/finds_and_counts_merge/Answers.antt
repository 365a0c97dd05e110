use Rattle.resh_router.proofs.Answered.{merges_to_answer}
use Rattle.resh_router.proofs.laws.finds_and_counts_merge.Goals as goal

pub returns : goal.returns
returns c = merges_to_answer
