use Rattle.std.proofs.Common.{◌==◌, ap, sym, ◌∙◌}
use Rattle.resh_chunks.specs.Chunks.{owner_of}
use Rattle.resh_shard.specs.Shards.{bag_of, documents_of, map_of, number_of}
use Rattle.resh_bag.specs.Bag.{held}
use Rattle.resh_value.specs.Lookup.{id_of}
use Rattle.resh_shard.proofs.Held.{hit_elsewhere, not_hit}
use Rattle.resh_shard.proofs.reading.hit.Goals as goal

pub returns-then-not-owns-clause-hit : goal.returns-then-not-owns-clause-hit
returns-then-not-owns-clause-hit c =
    let st = c.args.state.now in
    hit_elsewhere (map_of st) (documents_of st) (number_of st) c.args.filter.now
    (ap (λ f. owner_of (map_of st) f == number_of st) (sym c.fields-fields.ensures) ∙ sym c.owns.ensures ∙ c.if-not-owns.true)

pub returns-clause-hit : goal.returns-clause-hit
returns-clause-hit c =
    let st = c.args.state.now in
    not_hit (map_of st) (bag_of st) (number_of st) c.args.filter.now c.in-Some.document.now
    (ap (λ f. owner_of (map_of st) f == number_of st) (sym c.fields-fields.ensures) ∙ sym c.owns.ensures ∙ c.if-not-owns.false)
    (c.in-Some.ensures.held ∙ ap (held (bag_of st) (number_of st)) c.id_or.ensures ∙ ap (λ f. held (bag_of st) (number_of st) (id_of f)) c.fields-fields.ensures)
    (sym c.matches.ensures.value ∙ c.if-matches.false)
