use Rattle.std.proofs.Common.{◌≡◌, ◌∙◌, ◌++◌, ◌∷◌, [], eqb, sym, ap, arith}
use Rattle.std.proofs.lemmas.Bool.{eq-eqb}
use Rattle.resh_chunks.specs.Chunks.{owner_of}
use Rattle.resh_model.specs.declared.collection.Entry.{Entry}
use Rattle.resh_model.proofs.shards.Holding.{passed_more, failed_more, unequal}
use Rattle.resh_model.proofs.plain.part_of.Goals as goal

pub loop-entry-preserved-then-owner_of-shard : goal.loop-entry-preserved-then-owner_of-shard
loop-entry-preserved-then-owner_of-shard c =
    failed_more (λ (e : Entry). e.document) (λ d. eqb (owner_of c.args.chunks.now d) c.args.shard) c.args.entries.now c.loop-entry.entry-index c.entry-item.result (omega arith) c.entry-item.is
    (ap (λ n. eqb n c.args.shard) (sym c.owner_of.ensures.owner) ∙ unequal c.owner_of.result.0 c.args.shard c.if-owner_of-shard.true) c.loop-entry.part.items c.loop-entry.invariant

pub loop-entry-preserved : goal.loop-entry-preserved
loop-entry-preserved c =
    passed_more (λ (e : Entry). e.document) (λ d. eqb (owner_of c.args.chunks.now d) c.args.shard) c.args.entries.now c.loop-entry.entry-index c.entry-item.result (omega arith) c.entry-item.is
    (ap (λ n. eqb n c.args.shard) (sym c.owner_of.ensures.owner) ∙ eq-eqb c.owner_of.result.0 c.args.shard c.if-owner_of-shard.false) c.loop-entry.part.items c.push.new.self.items c.loop-entry.invariant
    (c.in_ok-push.ensures.items ∙ ap (λ d. c.loop-entry.part.items ++ d ∷ []) c.in_ok-copy.ensures)
