use Rattle.std.proofs.Common.{◌∙◌, ap, sym}
use Rattle.resh_versions.specs.Standing.{filed}
use Rattle.resh_versions.proofs.Filing.{popped_shorter, popped_gone, popped_none}
use Rattle.resh_versions.proofs.versions.pop_version.Goals as goal

pub returns-then-not-has_versions-clause-popped : goal.returns-then-not-has_versions-clause-popped
returns-then-not-has_versions-clause-popped c =
    (popped_gone c.args.chains.now (c.get_mut.follows.lender c.pop.new.self) c.args.id.now c.in-Some.chain.now c.pop.new.self c.requires c.in-Some.ensures.value c.pop.ensures (c.get_mut.follows.holds c.pop.new.self) c.remove.new.self (sym c.has_versions.ensures ∙ c.if-not-has_versions.true) c.remove.ensures.ordered c.remove.ensures.updates.0).0

pub returns-then-not-has_versions-clause-kept : goal.returns-then-not-has_versions-clause-kept
returns-then-not-has_versions-clause-kept c =
    (popped_gone c.args.chains.now (c.get_mut.follows.lender c.pop.new.self) c.args.id.now c.in-Some.chain.now c.pop.new.self c.requires c.in-Some.ensures.value c.pop.ensures (c.get_mut.follows.holds c.pop.new.self) c.remove.new.self (sym c.has_versions.ensures ∙ c.if-not-has_versions.true) c.remove.ensures.ordered c.remove.ensures.updates.0).1

pub returns-else-not-has_versions-clause-popped : goal.returns-else-not-has_versions-clause-popped
returns-else-not-has_versions-clause-popped c =
    (popped_shorter c.args.chains.now (c.get_mut.follows.lender c.pop.new.self) c.args.id.now c.in-Some.chain.now c.pop.new.self c.requires c.in-Some.ensures.value c.pop.ensures (c.get_mut.follows.holds c.pop.new.self) (sym c.has_versions.ensures ∙ c.if-not-has_versions.false)).0

pub returns-else-not-has_versions-clause-kept : goal.returns-else-not-has_versions-clause-kept
returns-else-not-has_versions-clause-kept c =
    (popped_shorter c.args.chains.now (c.get_mut.follows.lender c.pop.new.self) c.args.id.now c.in-Some.chain.now c.pop.new.self c.requires c.in-Some.ensures.value c.pop.ensures (c.get_mut.follows.holds c.pop.new.self) (sym c.has_versions.ensures ∙ c.if-not-has_versions.false)).1

pub returns-in_default-clause-popped : goal.returns-in_default-clause-popped
returns-in_default-clause-popped c = ap filed c.get_mut.follows.holds-at-none ∙ popped_none c.args.chains.now c.args.id.now c.requires c.in_default.ensures.value
