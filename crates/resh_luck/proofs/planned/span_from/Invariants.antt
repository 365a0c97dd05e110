use Rattle.std.proofs.Common.{◌≡◌, ◌<◌, ◌≤◌, ℕ, drop}
use Rattle.resh_luck.specs.Fates.{met}
use Rattle.resh_luck.proofs.planned.span_from.Given as goal

abbrev pub invariant-loop-row : goal.invariant-loop-row
invariant-loop-row l = record {
  later : l.call < l.until;
  alike : (k : ℕ) → l.call ≤ k → k < l.until → met l.rows l.kind k ≡ met (drop l.row-index l.rows) l.kind k;
}
