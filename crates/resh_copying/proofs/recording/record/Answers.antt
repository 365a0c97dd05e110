use Rattle.std.proofs.Common.{◌≡◌, ap}
use Rattle.std.specs.Prelude.{IfOk}
use Rattle.std.proofs.lemmas.Result.{on_err_weaker, on_ok_weaker}
use Rattle.resh_fetcher.specs.Links.{LinkOf, batch_kept}
use Rattle.resh_setup.specs.declared.seen.Seen.{Seen}
use Rattle.resh_cells.specs.Cells.{with_link}
use Rattle.resh_cells.specs.declared.cluster.LinkCell.{LinkCell}
use Rattle.resh_events.specs.rows.Record.{kept_seen}
use Rattle.resh_copying.proofs.Rows.{link_as_is, link_set, links_as_is, of_link}
use Rattle.resh_copying.proofs.recording.record.Goals as goal

pub returns-in_default-get_mut-clause-unchanged : goal.returns-in_default-get_mut-clause-unchanged
returns-in_default-get_mut-clause-unchanged c =
    links_as_is c.args.cluster.now c.args.r.0 c.in-Some.links.now c.in-Some.ensures.value

pub returns-clause-ok : goal.returns-clause-ok
returns-clause-ok c =
    let cell : LinkCell = c.in-Some-get_mut.cell.now in
    on_ok_weaker c.keep.result
    (λ is. link_set c.args.cluster.now c.args.r.0 c.args.d.0 c.in-Some.links.now cell c.in-Some.ensures.value c.in-Some-get_mut.ensures.value
    (λ (x : LinkCell). with_link batch_kept x) (record { link = c.keep.new.link; sent = cell.sent })
    (ap (λ (l : LinkOf). record { link = l; sent = cell.sent }) is))
    c.keep.ensures.ok

pub returns-clause-seen : goal.returns-clause-seen
returns-clause-seen c =
    of_link c.args.cluster.now c.args.r.0 c.args.d.0 c.in-Some.links.now c.in-Some-get_mut.cell.now c.in-Some.ensures.value c.in-Some-get_mut.ensures.value
    (λ (x : LinkCell). IfOk c.keep.result (λ (seen : Seen). seen ≡ kept_seen (batch_kept x.link).kept.place (batch_kept x.link).kept.finished))
    c.keep.ensures.seen

pub returns-clause-unchanged : goal.returns-clause-unchanged
returns-clause-unchanged c =
    let cell : LinkCell = c.in-Some-get_mut.cell.now in
    on_err_weaker c.keep.result
    (λ is. link_as_is c.args.cluster.now c.args.r.0 c.args.d.0 c.in-Some.links.now cell c.in-Some.ensures.value c.in-Some-get_mut.ensures.value
    (record { link = c.keep.new.link; sent = cell.sent })
    (ap (λ (l : LinkOf). record { link = l; sent = cell.sent }) is))
    c.keep.ensures.unchanged
