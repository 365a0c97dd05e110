use Rattle.std.proofs.Common.{refl}
use Rattle.resh_coord.proofs.Deciding.{advance_keeps, advance_never_back, begun_keeps, begun_never_back, fail_keeps, fail_never_back, reported_anew, told_anew}
use Rattle.resh_coord.proofs.laws.coordinator_laws.Goals as goal

pub returns-clause-once : goal.returns-clause-once
returns-clause-once c = record { begin = begun_keeps; told = λ c shard. refl; reported = λ c shard clash. refl; advance = advance_keeps; fail = fail_keeps }

pub returns-clause-anew : goal.returns-clause-anew
returns-clause-anew c = record { told = told_anew; reported = reported_anew }

pub returns-clause-never_back : goal.returns-clause-never_back
returns-clause-never_back c = record { begin = begun_never_back; advance = advance_never_back; fail = fail_never_back }
