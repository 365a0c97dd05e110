use Rattle.std.proofs.Common.{◌≡◌, length, sym, subst, arith}
use Rattle.std.proofs.lemmas.Result.{IfOk-weaker}
use Rattle.resh_pool.specs.Rounds.{AreTurned}
use Rattle.resh_pool.proofs.Turns.{turned_in_groups, turned_len}
use Rattle.resh_pool.proofs.round.run_round.Goals as goal

pub returns-clause-turned : goal.returns-clause-turned
returns-clause-turned g c =
    let turned = g.J.Job.turned in
    let made = c.in_ok-turned.ensures in
    let groups = c.in_ok-groups.groups in
    let results = c.in_ok-turned.turned in
    let len : length results.items ≡ length groups.items = omega (arith, made.len, results.ok.0, groups.ok.0) in
    let all = turned_in_groups turned (λ group. group.items) 0 groups.items results.items c.args.jobs.items len (λ k d l. let job = (made.each k d l).1 in (job.job, job.job_is, job.call.met)) c.in_ok-groups.ensures in
    IfOk-weaker c.joined.result _ _ (λ after is. subst (AreTurned turned 0 c.args.jobs.items) (sym is) all) c.joined.ensures

pub returns-clause-jobs : goal.returns-clause-jobs
returns-clause-jobs g c = IfOk-weaker c.joined.result _ _ (λ after is. turned_len g.J.Job.turned 0 _ _ is) (returns-clause-turned g c)
