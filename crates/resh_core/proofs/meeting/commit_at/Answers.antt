use Rattle.std.proofs.Common.{[], refl, sym}
use Rattle.resh_luck.specs.Fates.{after_commit, no_calls}
use Rattle.resh_core.proofs.ListLaws.{told_set}
use Rattle.resh_core.proofs.meeting.commit_at.Goals as goal

pub returns-in-Some-clause-told : goal.returns-in-Some-clause-told
returns-in-Some-clause-told g c =
    told_set g.L.Luck.told after_commit c.args.lucks.now _ c.args.place c.in-Some.luck.now _ (no_calls [])
    (sym c.in-Some.ensures.value) refl c.commit.ensures.told
