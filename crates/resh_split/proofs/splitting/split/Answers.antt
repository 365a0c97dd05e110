use Rattle.std.proofs.Common.{◌+◌, [], ◌∷◌, ◌++◌, length, ap, sym, refl, ◌∙◌}
use Rattle.std.proofs.Math.Nat.{add-zero}
use Rattle.resh_split.specs.Parts.{pieces_from}
use Rattle.resh_split.proofs.Dealing.{no_parts, parts_more, parts_many, place_more, positions_more, positions_many}
use Rattle.resh_split.proofs.splitting.split.Goals as goal

pub loop-what-init : goal.loop-what-init
loop-what-init c =
    let parts = c.in_ok-empty_parts.ensures ∙ no_parts c.args.lanes in
    record { lanes = refl; place = sym (add-zero c.args.batch.place); counts = c.into_vec.ensures; many = ap length c.into_vec.ensures ∙ c.requires.starts; each = ap length parts ∙ parts_many c.args.lanes []; parts = parts }

pub loop-what-preserved : goal.loop-what-preserved
loop-what-preserved c =
    let before = c.loop-what.invariant in
    let so_far = c.loop-what.yielded ++ c.in-Some.what ∷ [] in
    let counts = positions_more c.args.lanes c.loop-what.deal.lanes c.args.batch.starts c.loop-what.deal.counts.items c.add.new.self.counts.items c.loop-what.yielded c.in-Some.what before.lanes before.counts c.in_ok-add.ensures.counts in
    let parts = parts_more c.args.lanes c.loop-what.deal.lanes c.args.batch.donor c.args.batch.time c.args.batch.place c.loop-what.place c.args.batch.starts c.loop-what.deal.counts.items c.loop-what.yielded c.in-Some.what c.loop-what.deal.parts.items c.add.new.self.parts.items c.requires.lanes before.lanes before.place before.counts before.parts c.in_ok-add.ensures.parts in
    record {
      lanes = c.in_ok-add.ensures.lanes ∙ before.lanes;
      place = c.in_ok-place.ensures ∙ ap (λ n. n + 1) before.place ∙ place_more c.args.batch.place c.loop-what.yielded c.in-Some.what;
      counts = counts;
      many = ap length counts ∙ positions_many c.args.lanes c.args.batch.starts so_far ∙ c.requires.starts;
      each = ap length parts ∙ parts_many c.args.lanes (pieces_from c.args.lanes c.args.batch.donor c.args.batch.time c.args.batch.place c.args.batch.starts so_far);
      parts = parts;
    }
