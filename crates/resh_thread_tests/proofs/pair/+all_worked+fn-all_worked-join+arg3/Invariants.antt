use Rattle.resh_thread_tests.proofs.pair.+all_worked+fn-all_worked-join+arg3.Given as goal

abbrev pub decreases-join+arg3 : goal.decreases-join+arg3
decreases-join+arg3 g l = l.others

abbrev pub decreases-all_worked : goal.decreases-all_worked
decreases-all_worked g l = l.threads
