use Rattle.std.proofs.Common.{◌≡◌, length, replicate, take}
use Rattle.std.specs.FinMap.{empty}
use Rattle.resh_rules.specs.Pools.{documents_of}
use Rattle.resh_rules.specs.Writes.{KeepsSpare}
use Rattle.resh_rules.proofs.upkeep.clear_all.Given as goal

abbrev pub invariant-loop-place : goal.invariant-loop-place
invariant-loop-place l = record {
  emptied : documents_of (take l.place l.stashes.items) ≡ replicate l.place empty;
  spare : KeepsSpare l.initial.stashes.items l.stashes.items;
  donors : length l.stashes.items ≡ length l.initial.stashes.items;
}
