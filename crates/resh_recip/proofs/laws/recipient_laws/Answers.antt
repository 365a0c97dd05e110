use Rattle.resh_recip.proofs.Passing.{block_never, done_where_installed, done_where_released, prepare_never, reached_cloned, reached_consistent, started_where_donated}
use Rattle.resh_recip.proofs.laws.recipient_laws.Goals as goal

pub returns-clause-told : goal.returns-clause-told
returns-clause-told c = λ state r. (prepare_never state r, block_never state r)

pub returns-clause-passed : goal.returns-clause-passed
returns-clause-passed c = record { donate = started_where_donated; install = done_where_installed; release = done_where_released }

pub returns-clause-reached : goal.returns-clause-reached
returns-clause-reached c = record { by_message = c.machine_laws.ensures.reached; by_clone = reached_cloned; by_consistency = reached_consistent }
