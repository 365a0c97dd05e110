use Rattle.std.proofs.Common.{◌≡◌, ◌+◌, true, length, min}
use Rattle.std.specs.Prelude.{IfOk}
use Rattle.std.proofs.lemmas.Result.{on_err_weaker, on_ok_weaker}
use Rattle.resh_split.specs.Parts.{is_below_end}
use Rattle.resh_setup.specs.declared.seen.Seen.{Seen}
use Rattle.resh_setup.specs.declared.seen.Seen.TheVariants.{Batch}
use Rattle.resh_cells.specs.declared.cluster.LinkCell.{LinkCell}
use Rattle.resh_events.specs.rows.Cut.{batch_at, cut_at}
use Rattle.resh_copying.proofs.Rows.{link_as_is, link_set, links_as_is, of_link}
use Rattle.resh_copying.proofs.cutting.cut.Goals as goal

pub returns-in_default-get_mut-clause-unchanged : goal.returns-in_default-get_mut-clause-unchanged
returns-in_default-get_mut-clause-unchanged c =
    links_as_is c.args.cluster.now c.args.r.0 c.in-Some.links.now c.in-Some.ensures.value

pub returns-clause-ok : goal.returns-clause-ok
returns-clause-ok c =
    on_ok_weaker c.send.result
    (λ is. link_set c.args.cluster.now c.args.r.0 c.args.d.0 c.in-Some.links.now c.in-Some-get_mut.cell.now c.in-Some.ensures.value c.in-Some-get_mut.ensures.value
    (λ (x : LinkCell). cut_at c.args.stamp.time x) c.send.new.cell is)
    c.send.ensures.ok

pub returns-clause-seen : goal.returns-clause-seen
returns-clause-seen c =
    of_link c.args.cluster.now c.args.r.0 c.args.d.0 c.in-Some.links.now c.in-Some-get_mut.cell.now c.in-Some.ensures.value c.in-Some-get_mut.ensures.value
    (λ (x : LinkCell). IfOk c.send.result (λ (seen : Seen). seen ≡ Batch x.link.kept.place (x.link.kept.place + min x.link.batch (length x.link.buffer))))
    c.send.ensures.seen

pub returns-clause-bounded : goal.returns-clause-bounded
returns-clause-bounded c =
    of_link c.args.cluster.now c.args.r.0 c.args.d.0 c.in-Some.links.now c.in-Some-get_mut.cell.now c.in-Some.ensures.value c.in-Some-get_mut.ensures.value
    (λ (x : LinkCell). IfOk c.send.result (λ (seen : Seen). is_below_end x.link.lanes (batch_at 0 x.link) ≡ true))
    c.send.ensures.bounded

pub returns-clause-unchanged : goal.returns-clause-unchanged
returns-clause-unchanged c =
    on_err_weaker c.send.result
    (λ is. link_as_is c.args.cluster.now c.args.r.0 c.args.d.0 c.in-Some.links.now c.in-Some-get_mut.cell.now c.in-Some.ensures.value c.in-Some-get_mut.ensures.value
    c.send.new.cell is)
    c.send.ensures.unchanged
