use Rattle.std.proofs.Common.{rules, tests, ◌≡◌, take, sym, subst, ◌∙◌}
use Rattle.std.proofs.lemmas.Iterator.{YieldsList-from_slice}
use Rattle.std.proofs.lemmas.Iterator.Search.{position_from_yields_List}
use Rattle.resh_oplog.specs.declared.entry.Entry.{Entry}
use Rattle.resh_feed.specs.Items.{is_final, up_to_final}
use Rattle.resh_fetcher.proofs.Cutting.{cutoff, cut_at}
use Rattle.resh_fetcher.proofs.items.count_to_final.Goals as goal

pub returns-in-Some : goal.returns-in-Some
returns-in-Some c =
    let found = position_from_yields_List (λ (entry : Entry). is_final entry.what) _ _ _ c.position.ensures.ran (YieldsList-from_slice c.args.entries.now cc) (λ x b q k. search (rules, tests)) in
    subst (λ place. take (cutoff c.args.entries.now place) c.args.entries.now ≡ up_to_final c.args.entries.now) (sym found ∙ c.in-Some.is) (cut_at c.args.entries.now)

pub returns-in-None : goal.returns-in-None
returns-in-None c =
    let found = position_from_yields_List (λ (entry : Entry). is_final entry.what) _ _ _ c.position.ensures.ran (YieldsList-from_slice c.args.entries.now cc) (λ x b q k. search (rules, tests)) in
    subst (λ place. take (cutoff c.args.entries.now place) c.args.entries.now ≡ up_to_final c.args.entries.now) (sym found ∙ c.in-None.is) (cut_at c.args.entries.now)
