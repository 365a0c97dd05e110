use Rattle.std.proofs.Common.{◌≡◌, ◌+◌, ◌&&◌, true, length, nat_lt, ap}
use Rattle.std.specs.Prelude.{IfOk}
use Rattle.std.proofs.lemmas.Result.{on_err_weaker, on_ok_weaker}
use Rattle.resh_value.specs.Limits.{end_of_places}
use Rattle.resh_fetcher.specs.Links.{LinkOf, with_cloned}
use Rattle.resh_setup.specs.declared.seen.Seen.{Seen}
use Rattle.resh_cells.specs.declared.cluster.LinkCell.{LinkCell}
use Rattle.resh_cells.specs.declared.cluster.ShardCell.{ShardCell}
use Rattle.resh_events.specs.Bounds.{has_places}
use Rattle.resh_events.specs.rows.Clone.{are_last, got_seen, next_clones}
use Rattle.resh_copying.proofs.Rows.{link_as_is, link_set_by, links_as_is, of_both}
use Rattle.resh_copying.proofs.cloning.clone.Goals as goal

pub returns-in_default-get_mut-2-clause-unchanged : goal.returns-in_default-get_mut-2-clause-unchanged
returns-in_default-get_mut-2-clause-unchanged c =
    links_as_is c.args.cluster.now c.args.r.0 c.in-Some-get_mut.links.now c.in-Some-get_mut.ensures.value

pub returns-clause-ok : goal.returns-clause-ok
returns-clause-ok c =
    let cell : LinkCell = c.in-Some-get_mut-2.cell.now in
    on_ok_weaker c.read.result
    (λ is. link_set_by c.args.cluster.now c.args.r.0 c.args.d.0 c.in-Some-get_mut.links.now cell c.in-Some-get_mut.ensures.value c.in-Some-get_mut-2.ensures.value
    c.in-Some.shard.now c.in-Some.ensures
    (λ (s : ShardCell) (x : LinkCell). record {
      link = with_cloned x.link (next_clones s.shard c.args.r.0 x.link) (are_last x.link (next_clones s.shard c.args.r.0 x.link));
      sent = x.sent;
    })
    (record { link = c.read.new.link; sent = cell.sent })
    (ap (λ (l : LinkOf). record { link = l; sent = cell.sent }) is))
    c.read.ensures.ok

pub returns-clause-seen : goal.returns-clause-seen
returns-clause-seen c =
    of_both c.args.cluster.now c.args.r.0 c.args.d.0 c.in-Some-get_mut.links.now c.in-Some-get_mut-2.cell.now c.in-Some-get_mut.ensures.value c.in-Some-get_mut-2.ensures.value
    c.in-Some.shard.now c.in-Some.ensures
    (λ (s : ShardCell) (x : LinkCell). IfOk c.read.result (λ (seen : Seen). seen ≡ got_seen (length (next_clones s.shard c.args.r.0 x.link)) (are_last x.link (next_clones s.shard c.args.r.0 x.link))))
    c.read.ensures.seen

pub returns-clause-bounded : goal.returns-clause-bounded
returns-clause-bounded c =
    of_both c.args.cluster.now c.args.r.0 c.args.d.0 c.in-Some-get_mut.links.now c.in-Some-get_mut-2.cell.now c.in-Some-get_mut.ensures.value c.in-Some-get_mut-2.ensures.value
    c.in-Some.shard.now c.in-Some.ensures
    (λ (s : ShardCell) (x : LinkCell). IfOk c.read.result (λ (seen : Seen). (has_places x.link (length (next_clones s.shard c.args.r.0 x.link)) && nat_lt (x.link.clones + length (next_clones s.shard c.args.r.0 x.link)) end_of_places) ≡ true))
    c.read.ensures.bounded

pub returns-clause-unchanged : goal.returns-clause-unchanged
returns-clause-unchanged c =
    let cell : LinkCell = c.in-Some-get_mut-2.cell.now in
    on_err_weaker c.read.result
    (λ is. link_as_is c.args.cluster.now c.args.r.0 c.args.d.0 c.in-Some-get_mut.links.now cell c.in-Some-get_mut.ensures.value c.in-Some-get_mut-2.ensures.value
    (record { link = c.read.new.link; sent = cell.sent })
    (ap (λ (l : LinkOf). record { link = l; sent = cell.sent }) is))
    c.read.ensures.unchanged
