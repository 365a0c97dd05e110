use Rattle.resh_run.proofs.Meant.{outcome_of, headline, refuses_faults, runs_cluster, runs_placing, sums_ones, checks, prints_ones, tells_usage, runs_nothing, completes, commits, runs_one_mark}
use Rattle.resh_run.proofs.plain.plain_main.Goals as goal

pub returns-clause-headline : goal.returns-clause-headline
returns-clause-headline g c = headline _ _ _ _ (outcome_of _ _ _ c.decide-saying.result _ c.send.ensures.said c.decide-saying.ensures c.send.ensures.sent)

pub returns-clause-placed : goal.returns-clause-placed
returns-clause-placed g c = runs_placing _ _ _ _ (outcome_of _ _ _ c.decide-saying.result _ c.send.ensures.said c.decide-saying.ensures c.send.ensures.sent)

pub returns-clause-refused : goal.returns-clause-refused
returns-clause-refused g c = refuses_faults _ _ _ _ (outcome_of _ _ _ c.decide-saying.result _ c.send.ensures.said c.decide-saying.ensures c.send.ensures.sent)

pub returns-clause-complete : goal.returns-clause-complete
returns-clause-complete g c = completes _ _ _ _ (outcome_of _ _ _ c.decide-saying.result _ c.send.ensures.said c.decide-saying.ensures c.send.ensures.sent)

pub returns-clause-commits : goal.returns-clause-commits
returns-clause-commits g c = commits _ _ _ _ (outcome_of _ _ _ c.decide-saying.result _ c.send.ensures.said c.decide-saying.ensures c.send.ensures.sent)

pub returns-clause-one_mark : goal.returns-clause-one_mark
returns-clause-one_mark g c = runs_one_mark _ _ _ _ (outcome_of _ _ _ c.decide-saying.result _ c.send.ensures.said c.decide-saying.ensures c.send.ensures.sent)

pub returns-clause-outcome : goal.returns-clause-outcome
returns-clause-outcome g c = outcome_of _ _ _ c.decide-saying.result _ c.send.ensures.said c.decide-saying.ensures c.send.ensures.sent

pub returns-clause-checks : goal.returns-clause-checks
returns-clause-checks g c = checks _ _ _ _ (outcome_of _ _ _ c.decide-saying.result _ c.send.ensures.said c.decide-saying.ensures c.send.ensures.sent)

pub returns-clause-prints : goal.returns-clause-prints
returns-clause-prints g c = prints_ones _ _ _ _ (outcome_of _ _ _ c.decide-saying.result _ c.send.ensures.said c.decide-saying.ensures c.send.ensures.sent)

pub returns-clause-usage : goal.returns-clause-usage
returns-clause-usage g c = tells_usage _ _ _ _ (outcome_of _ _ _ c.decide-saying.result _ c.send.ensures.said c.decide-saying.ensures c.send.ensures.sent)

pub returns-clause-nothing_ran : goal.returns-clause-nothing_ran
returns-clause-nothing_ran g c = runs_nothing _ _ _ _ (outcome_of _ _ _ c.decide-saying.result _ c.send.ensures.said c.decide-saying.ensures c.send.ensures.sent)

pub returns-clause-cluster : goal.returns-clause-cluster
returns-clause-cluster g c = runs_cluster _ _ _ _ (outcome_of _ _ _ c.decide-saying.result _ c.send.ensures.said c.decide-saying.ensures c.send.ensures.sent)

pub returns-clause-sums : goal.returns-clause-sums
returns-clause-sums g c = sums_ones _ _ _ _ (outcome_of _ _ _ c.decide-saying.result _ c.send.ensures.said c.decide-saying.ensures c.send.ensures.sent)
