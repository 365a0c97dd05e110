use Rattle.std.proofs.Common.{◌≡◌, ℕ, ◌+◌, ◌<◌, ◌≤◌, length, get_or}
use Rattle.resh_pool.proofs.group.turn_each.Given as goal

abbrev pub invariant-loop-place : goal.invariant-loop-place
invariant-loop-place g l = record {
  len : length l.jobs ≡ length l.initial.jobs;
  left : (j : ℕ) (d : g.row.J.Denot) → l.place ≤ j → get_or l.jobs j d ≡ get_or l.initial.jobs j d;
  made : (j : ℕ) (d : g.row.J.Denot) → j < l.place → g.J.Job.turned (get_or l.initial.jobs j d) (l.first + j) (get_or l.jobs j d);
}
