use Rattle.std.proofs.Common.{ap, sym, ◌∙◌}
use Rattle.std.proofs.lemmas.Result.{IfOk-weaker}
use Rattle.resh_chunks.specs.Chunks.{owner_of}
use Rattle.resh_ops.specs.Updates.{updated}
use Rattle.resh_bag.specs.Answer.{has_key, result_doing}
use Rattle.resh_shard.specs.Decisions.{decided}
use Rattle.resh_shard.specs.Shards.{bag_of, map_of}
use Rattle.resh_shard.proofs.Decided.{hit_doing}
use Rattle.resh_shard.proofs.deciding.change.Goals as goal

pub returns-in-Some-clause-decision : goal.returns-in-Some-clause-decision
returns-in-Some-clause-decision c =
    let st = c.args.state.now in
    let f = c.args.filter.now in
    let u = c.args.update.now in
    let d = c.in-Some.document.now in
    IfOk-weaker c.change_one.result _ _ (λ made is. is
    ∙ ap (λ n. decided st (result_doing (map_of st) (bag_of st) n d (updated st.limit u d))) (sym c.in-Some.ensures.owned)
    ∙ ap (decided st) (hit_doing (map_of st) (bag_of st) f (λ x. result_doing (map_of st) (bag_of st) (owner_of (map_of st) f) x (updated st.limit u x)) d
    (ap (λ m. has_key m f) (sym c.map.ensures) ∙ sym c.has_key.ensures ∙ c.if-not-has_key.false) c.in-Some.ensures.hit))
    c.change_one.ensures.decision
