use Rattle.std.proofs.Common.{◌∙◌, ◌≡◌, IfSome, None, ap, subst, sym, rules}
use Rattle.std.proofs.lemmas.Map.Steps.{set_value_same}
use Rattle.std.specs.BTreeMap.{is_at}
use Rattle.std.specs.Map.{set_value}
use Rattle.resh_value.specs.Order.{compare_of}
use Rattle.resh_versions.specs.Standing.{StandsUnder}
use Rattle.resh_versions.proofs.Filing.{none_stands, pushed_found, same_entries}
use Rattle.resh_versions.proofs.versions.push_removal.Goals as goal

pub returns-in_err-push-clause-unchanged : goal.returns-in_err-push-clause-unchanged
returns-in_err-push-clause-unchanged c =
    let m = c.args.chains.now in
    let test = is_at (compare_of c.args.id.now) in
    let same = (c.get_mut.follows.holds c.push.new.self).0 ∙ ap (set_value test m.entries) c.in_err-push.ensures.unchanged ∙ set_value_same test m.entries c.in-Some.chain.now (sym c.in-Some.ensures.value) in
    let stays = (same_entries m (c.get_mut.follows.lender c.push.new.self) c.requires.kept same).0 in
    search rules

pub returns-in_err-push-clause-kept : goal.returns-in_err-push-clause-kept
returns-in_err-push-clause-kept c =
    let m = c.args.chains.now in
    let test = is_at (compare_of c.args.id.now) in
    let same = (c.get_mut.follows.holds c.push.new.self).0 ∙ ap (set_value test m.entries) c.in_err-push.ensures.unchanged ∙ set_value_same test m.entries c.in-Some.chain.now (sym c.in-Some.ensures.value) in
    (same_entries m (c.get_mut.follows.lender c.push.new.self) c.requires.kept same).1

pub returns-in-Some-clause-ok : goal.returns-in-Some-clause-ok
returns-in-Some-clause-ok c =
    let stands : IfSome c.args.version.document (StandsUnder c.args.id.now) = subst (λ d. IfSome d (StandsUnder c.args.id.now)) (sym c.requires.nothing) tt in
    (pushed_found c.args.chains.now (c.get_mut.follows.lender c.push.new.self) c.args.id.now c.args.version c.requires.kept stands c.in-Some.chain.now c.push.new.self c.in-Some.ensures.value c.in_ok-push.ensures.ok (c.get_mut.follows.holds c.push.new.self)).0

pub returns-in-Some-clause-kept : goal.returns-in-Some-clause-kept
returns-in-Some-clause-kept c =
    let stands : IfSome c.args.version.document (StandsUnder c.args.id.now) = subst (λ d. IfSome d (StandsUnder c.args.id.now)) (sym c.requires.nothing) tt in
    (pushed_found c.args.chains.now (c.get_mut.follows.lender c.push.new.self) c.args.id.now c.args.version c.requires.kept stands c.in-Some.chain.now c.push.new.self c.in-Some.ensures.value c.in_ok-push.ensures.ok (c.get_mut.follows.holds c.push.new.self)).1

pub returns-clause-ok : goal.returns-clause-ok
returns-clause-ok c = absurd (none_stands c.args.chains.now c.args.id.now c.requires.kept c.in_default.ensures.value c.requires.stands)

pub returns-clause-kept : goal.returns-clause-kept
returns-clause-kept c = absurd (none_stands c.args.chains.now c.args.id.now c.requires.kept c.in_default.ensures.value c.requires.stands)
