-- The row of a shard's write.
use Rattle.std.proofs.Common.{sym, subst}
use Rattle.resh_fetcher.specs.Laws.{StandsOn}
use Rattle.resh_invariant.specs.Keeping.{Keeps}
use Rattle.resh_invariant.specs.Sources.{Clones}
use Rattle.resh_write_rows.specs.Laws.{WriteKeeps, with_written}
use Rattle.resh_write_rows.specs.Owned.{HoldsAfter}
use Rattle.resh_write_rows.proofs.Writing.{written_keeps}

pub write_keeps : StandsOn → WriteKeeps
write_keeps stands setup state clones cluster s stamp clocks after bag valid keeps rise s_in free lt set node is holds =
    subst (λ x. HoldsAfter state s x bag → (later : Clones) × Keeps setup (record state { bag = bag }) later (with_written s x clocks cluster)) (sym is.is)
    (λ held. written_keeps stands setup state clones cluster keeps s s_in free stamp clocks rise lt set node is.part is.write is.part_is is.acts is.own bag held) holds
