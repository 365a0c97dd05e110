use Rattle.std.proofs.Common.{sym, ◌∙◌, subst}
use Rattle.resh_bag.specs.Bag.{HasDistinctPlaces}
use Rattle.resh_run.proofs.Pages.{says_page}
use Rattle.resh_run.proofs.PlacementPlaces.{distinct_rows}
use Rattle.resh_run.proofs.Runs.{placement}
use Rattle.resh_run.proofs.decision.placed_says.Goals as goal

pub run_of-requires : goal.run_of-requires
run_of-requires c = subst (HasDistinctPlaces c.args.setup.old_map) (sym c.replace-documents.ensures.value) (distinct_rows c.args.setup.old_map c.args.setup.documents c.requires.valid.documents.distinct)

pub returns-in-Ok-page : goal.returns-in-Ok-page
returns-in-Ok-page c =
    placement c.args.setup c.in-Ok.run'.order c.in-Ok.run'.end c.in-Ok-page.page.items c.requires.needs
    (says_page c.args.setup c.in-Ok.run'.order c.in-Ok.run'.end c.in-Ok.run'.holdings c.in-Ok-page.page.items c.requires.needs
    (rw c.replace-documents.ensures.value at c.in-Ok.ensures) (rw c.new-in-Ok.ensures at c.in-Ok-page.ensures))
