use Rattle.std.proofs.Common.{ap, sym, ◌∙◌, arith}
use Rattle.std.specs.Option.{option_copied}
use Rattle.resh_feed.specs.Lanes.{counted, item_lane}
use Rattle.resh_split.proofs.Counting.{counts_more, counts_all}
use Rattle.resh_split.proofs.counts.count_first.Goals as goal

pub loop-n-preserved : goal.loop-n-preserved
loop-n-preserved c =
    let found = sym (ap option_copied c.in-Some.is) ∙ c.item.ensures in (
      c.in_ok-count_item.ensures.counted ∙ ap (λ counts. counted counts (item_lane c.args.lanes c.in-Some.what.now)) c.loop-n.invariant.0 ∙ counts_more c.args.lanes c.args.counts.items c.args.link.now.buffer c.loop-n.n c.in-Some.what.now found,
      c.in_ok-count_item.ensures.length ∙ c.loop-n.invariant.1,
    )

pub returns-in_default-clause-ends : goal.returns-in_default-clause-ends
returns-in_default-clause-ends c =
    let none = sym (ap option_copied c.in_default.is) ∙ c.item.ensures in
    c.from_vec.ensures ∙ c.loop-n.invariant.0 ∙ counts_all c.args.lanes c.args.counts.items c.args.link.now.buffer c.loop-n.n c.args.most none (let lt = c.loop-n-test.true in omega (arith, lt))
