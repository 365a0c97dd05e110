use Rattle.std.proofs.Common.{ap, ◌∙◌}
use Rattle.resh_value.specs.Lookup.{id_of}
use Rattle.resh_shard.specs.Shards.{undone_in}
use Rattle.resh_shard.proofs.Following.{undone_put}
use Rattle.resh_shard.proofs.shard.Shard.take_in.Goals as goal

pub returns-clause-undone : goal.returns-clause-undone
returns-clause-undone c taken =
    ap (undone_in (id_of c.args.document)) c.in_ok-put.ensures.ok
    ∙ undone_put c.self.inside.state c.args.stamp 1 c.args.document c.is_held.ensures.filed ∙ c.self.view_is
