use Rattle.std.proofs.Common.{ap, sym, ◌∙◌}
use Rattle.resh_chunks.specs.Chunks.{owner_of}
use Rattle.resh_shard.proofs.Decided.{leaves}
use Rattle.resh_shard.proofs.deciding.change_one.Goals as goal

pub returns-then-not-owns-clause-decision : goal.returns-then-not-owns-clause-decision
returns-then-not-owns-clause-decision c =
    leaves c.args.state.now c.args.document.now c.in-Ok.after _ c.owner_of.result c.in-Ok.ensures.ok.0 (sym c.owns.ensures ∙ c.if-not-owns.true) (c.owner_of.ensures.owner ∙ ap (λ m. owner_of m c.in-Ok.after) c.map.ensures)
