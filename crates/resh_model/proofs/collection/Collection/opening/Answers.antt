use Rattle.std.proofs.Common.{◌-◌, ◌∙◌, arith}
use Rattle.resh_bag.specs.Bag.{put}
use Rattle.resh_model.proofs.bags.Opened.{opened_none, opened_more}
use Rattle.resh_model.proofs.collection.Collection.opening.Goals as goal

pub loop-place-init : goal.loop-place-init
loop-place-init c = record { within = omega arith; opened = c.new-collection.ensures ∙ opened_none c.args.map.now c.args.documents.now _ (omega arith) }

pub loop-place-preserved : goal.loop-place-preserved
loop-place-preserved c = record {
  within = omega arith;
  opened = c.in_ok-put.ensures.ok ∙ (λ i. put c.loop-place.collection (c.owner_of.ensures.owner i) (c.in_ok-copy.ensures i))
      ∙ opened_more c.args.map.now c.args.documents.now c.loop-place.place (c.loop-place.place - 1) c.index-documents-place.result c.loop-place.collection (omega arith) (omega arith) c.index-documents-place.is c.loop-place.invariant.opened;
}
