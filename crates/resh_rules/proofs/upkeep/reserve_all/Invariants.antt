use Rattle.std.proofs.Common.{◌≡◌, length, take}
use Rattle.resh_rules.specs.Pools.{documents_of}
use Rattle.resh_rules.specs.Upkeep.{HaveRoom}
use Rattle.resh_rules.specs.Writes.{KeepsSpare}
use Rattle.resh_rules.proofs.upkeep.reserve_all.Given as goal

abbrev pub invariant-loop-place : goal.invariant-loop-place
invariant-loop-place l = record {
  room : HaveRoom (take l.place l.stashes.items) l.n;
  spare : KeepsSpare l.initial.stashes.items l.stashes.items;
  kept : documents_of l.stashes.items ≡ documents_of l.initial.stashes.items;
  donors : length l.stashes.items ≡ length l.initial.stashes.items;
}
