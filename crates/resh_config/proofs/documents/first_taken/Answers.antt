use Rattle.std.proofs.Common.{◌≡◌, Bool, true, false, not, arith}
use Rattle.std.proofs.lemmas.Grind.{common_steps}
use Rattle.resh_config.proofs.SamePlaces.{found_same, passed_more}
use Rattle.resh_config.proofs.documents.first_taken.Goals as goal

was_there : (b t : Bool) → t ≡ not b → t ≡ false → b ≡ true
was_there true t e f = cc
was_there false t e f = cc

was_free : (b t : Bool) → t ≡ not b → t ≡ true → b ≡ false
was_free true t e f = cc
was_free false t e f = cc

pub returns-then-not-branch : goal.returns-then-not-branch
returns-then-not-branch c =
    let l = c.loop-rest in
    found_same c.args.map.now (c.owner_of.result.0, c.id_or.result) c.document-item.result c.owner_of.ensures.owner c.id_or.ensures c.args.documents.now l.taken l.row l.rest.now
    c.in-len1-up.len_at_least c.document-item.is l.invariant (was_there _ c.in_ok-insert.field-0 c.in_ok-insert.ensures.added c.if-not-branch.true)

pub loop-rest-preserved : goal.loop-rest-preserved
loop-rest-preserved c =
    let l = c.loop-rest in
    passed_more c.args.map.now (c.owner_of.result.0, c.id_or.result) c.document-item.result c.owner_of.ensures.owner c.id_or.ensures c.args.documents.now l.taken l.row c.insert.new.self _ l.rest.now
    (grind (arith, common_steps)) l.invariant (was_free _ c.in_ok-insert.field-0 c.in_ok-insert.ensures.added c.if-not-branch.false) c.in_ok-insert.ensures.updates.0
