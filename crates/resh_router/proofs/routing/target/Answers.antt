use Rattle.std.proofs.Common.{◌∙◌, Some, ap, sym}
use Rattle.resh_bag.specs.Parts.{targets}
use Rattle.resh_router.specs.Targets.{shards_of, target_of}
use Rattle.resh_router.proofs.Targeted.{key_shards}
use Rattle.resh_router.proofs.routing.target.Goals as goal

pub returns-in-Update-clause-target : goal.returns-in-Update-clause-target
returns-in-Update-clause-target c = ap (target_of c.args.map.now) c.in-Update.is ∙ ap Some (sym c.by_key.ensures)

pub returns-in-Update-clause-shards : goal.returns-in-Update-clause-shards
returns-in-Update-clause-shards c =
    ap (shards_of c.args.map.now) c.by_key.ensures ∙ key_shards c.args.map.now c.in-Update.filter ∙ ap (targets c.args.map.now) (sym c.in-Update.is)
