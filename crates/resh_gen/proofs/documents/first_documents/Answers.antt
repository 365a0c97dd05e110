use Rattle.std.proofs.Common.{◌∙◌}
use Rattle.resh_gen.proofs.Places.{documents_none, documents_pushed, document_drawn, state_first, state_two_after}
use Rattle.resh_gen.proofs.documents.first_documents.Goals as goal

pub loop-index-init : goal.loop-index-init
loop-index-init c = record {
  made = c.in_ok-documents.ensures.items ∙ documents_none c.args.draws.now.state;
  drawn = state_first c.args.draws.now.state;
}

pub loop-index-preserved : goal.loop-index-preserved
loop-index-preserved c =
    let number = c.args.draws.now.state in
    let s = c.loop-index.draws.state in
    let t = c.below_thousand-x.new.self.state in
    let was = c.loop-index.invariant.drawn in
    let next_is = c.below_thousand-x.ensures.state in
    record {
      made = documents_pushed number c.loop-index.index c.loop-index.documents.items c.push.new.self.items
          c.in_ok-document.field-0 c.loop-index.invariant.made
          (c.in_ok-document.ensures ∙ document_drawn number c.loop-index.index s was t next_is _ _ c.below_thousand-x.ensures.drawn c.below_thousand-y.ensures.drawn)
          c.in_ok-push.ensures.items;
      drawn = state_two_after number c.loop-index.index s was t next_is _ c.below_thousand-y.ensures.state;
    }
