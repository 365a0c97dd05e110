use Rattle.std.proofs.Common.{◌≡◌, true, sym, subst}
use Rattle.std.proofs.lemmas.List.Elements.{All-map, All-take}
use Rattle.std.specs.List.{All}
use Rattle.resh_oplog.specs.Logs.{is_whole}
use Rattle.resh_oplog.specs.declared.entry.What.{What}
use Rattle.resh_feed.specs.Items.{AreWhole}
use Rattle.resh_feed.specs.declared.item.Item.{Item}
use Rattle.resh_fetcher.proofs.link.Link.batch_of.Goals as goal

pub returns-clause-whole : goal.returns-clause-whole
returns-clause-whole c =
    let held : AreWhole c.as_slice.result.now = subst AreWhole (sym c.as_slice.ensures) c.self.invariant.whole in
    subst (All (λ (what : What). is_whole what ≡ true)) (sym c.in_ok-first_whats.ensures)
    (All-map (λ (what : What). is_whole what ≡ true) (λ (item : Item). item.what) _ (All-take (λ (item : Item). is_whole item.what ≡ true) c.args.most _ held))
