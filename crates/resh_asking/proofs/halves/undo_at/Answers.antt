use Rattle.std.proofs.Common.{◌≡◌, sym}
use Rattle.std.proofs.lemmas.Result.{on_ok_weaker}
use Rattle.resh_shard.specs.Shards.{undone_in}
use Rattle.resh_asking.proofs.Becoming.{became}
use Rattle.resh_asking.proofs.halves.undo_at.Goals as goal

pub returns-in-Some : goal.returns-in-Some
returns-in-Some c =
    on_ok_weaker c.undo.result (became c.args.cluster.now c.args.shard c.in-Some.cell.now c.undo.new.shard (λ old new. new ≡ undone_in c.args.id.now old) (sym c.in-Some.ensures.value))
    c.undo.ensures
