use Rattle.std.proofs.Common.{◌≡◌, Bool, [], map, take, drop}
use Rattle.std.specs.List.{list_any}
use Rattle.resh_ops.specs.Apart.{AreApart}
use Rattle.resh_ops.specs.Paths.{Path}
use Rattle.resh_ops.specs.Reading.{first_conflict}
use Rattle.resh_ops.proofs.conflicts.first_conflict.Given as goal

abbrev pub invariant-loop-path : goal.invariant-loop-path
invariant-loop-path l = record {
  same : first_conflict [] (map (λ p. p.now) l.paths) ≡ first_conflict (map (λ p. p.now) (take l.path-index l.paths)) (map (λ p. p.now) (drop l.path-index l.paths));
  holds : (f : Path → Bool) → list_any f (map (λ p. p.now) l.taken.keys) ≡ list_any f (map (λ p. p.now) (take l.path-index l.paths));
  apart : AreApart (map (λ p. p.now) l.taken.keys);
}
