use Rattle.std.proofs.Common.{ap, sym, ◌∙◌, map}
use Rattle.resh_bag.specs.Bag.{documents}
use Rattle.resh_model.specs.declared.collection.Entry.{Entry}
use Rattle.resh_model.proofs.bags.Gathered.{gathered_documents}
use Rattle.resh_model.proofs.collection.Collection.entries.Goals as goal

pub returns : goal.returns
returns c =
    ap (map (λ (e : Entry). e.document)) c.as_slice.ensures.value ∙ sym (gathered_documents c.self.inside.entries.items c.self.invariant) ∙ ap documents c.self.view_is
