use Rattle.std.proofs.Common.{List, refl, ap, ◌∙◌}
use Rattle.resh_lane.specs.Lanes.{LaneOf}
use Rattle.resh_fetcher.specs.Links.{gone_back}
use Rattle.resh_setup.specs.declared.seen.Seen.TheVariants.{Back}
use Rattle.resh_cells.specs.Cells.{with_link}
use Rattle.resh_cells.specs.declared.cluster.LinkCell.{LinkCell}
use Rattle.resh_events.specs.rows.Crash.{back}
use Rattle.resh_copying.proofs.Rows.{both_set, link_as_is, link_is, links_as_is}
use Rattle.resh_copying.proofs.crashing.crash.Goals as goal

pub returns-in_default-get_mut-clause-unchanged : goal.returns-in_default-get_mut-clause-unchanged
returns-in_default-get_mut-clause-unchanged c =
    links_as_is c.args.cluster.now c.args.r.0 c.in-Some.links.now c.in-Some.ensures.value

pub returns-in_default-get_mut-2-clause-unchanged : goal.returns-in_default-get_mut-2-clause-unchanged
returns-in_default-get_mut-2-clause-unchanged c =
    link_as_is c.args.cluster.now c.args.r.0 c.args.d.0 c.in-Some.links.now c.in-Some-get_mut.cell.now c.in-Some.ensures.value c.in-Some-get_mut.ensures.value
    c.in-Some-get_mut.cell.now refl

pub returns-clause-ok : goal.returns-clause-ok
returns-clause-ok c =
    both_set c.args.cluster.now c.args.r.0 c.args.d.0 c.in-Some.links.now c.in-Some-get_mut.cell.now c.go_back.new.cell c.in-Some-get_mut-2.lanes.now c.go_back.new.lanes
    (λ (x : LinkCell). with_link gone_back x) (λ (lanes : List LaneOf) (x : LinkCell). back c.args.d.0 lanes x.link.kept.lanes)
    c.in-Some.ensures.value c.in-Some-get_mut.ensures.value c.in-Some-get_mut-2.ensures.value
    c.go_back.ensures.link c.go_back.ensures.lanes

pub returns-clause-seen : goal.returns-clause-seen
returns-clause-seen c =
    c.go_back.ensures.seen
    ∙ ap (λ (x : LinkCell). Back x.link.kept.place)
    (link_is c.args.cluster.now c.args.r.0 c.args.d.0 c.in-Some.links.now c.in-Some-get_mut.cell.now c.in-Some.ensures.value c.in-Some-get_mut.ensures.value)
