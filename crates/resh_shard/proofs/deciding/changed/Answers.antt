use Rattle.std.proofs.Common.{◌≡◌, ap, ◌∙◌}
use Rattle.resh_value.specs.Change.{changed}
use Rattle.resh_value.specs.Whole.{is_whole}
use Rattle.resh_value.proofs.WholeLaws.{rising_decides, whole_changed, whole_decides}
use Rattle.resh_shard.proofs.deciding.changed.Goals as goal

pub returns-clause-whole : goal.returns-clause-whole
returns-clause-whole c =
    let change = c.in_ok-change.change in
    let made : c.apply_change.new.self ≡ changed change.assign change.unset c.args.document.now = c.in_ok-apply_change.ensures.ok ∙ ap (changed change.assign change.unset) c.in_ok-after.ensures in
    let whole = whole_changed c.args.document.now change.assign change.unset c.in_ok-change.ensures.rising c.in_ok-change.ensures.id ((whole_decides c.args.document.now).0 c.requires) in
    ((rising_decides change.assign).1 c.in_ok-change.ensures.rising, ap is_whole made ∙ (whole_decides (changed change.assign change.unset c.args.document.now)).1 whole)
