use Rattle.std.proofs.Common.{◌≡◌, true, sym, subst}
use Rattle.std.proofs.lemmas.List.Elements.{All-map}
use Rattle.resh_oplog.specs.Logs.{is_whole}
use Rattle.resh_feed.specs.Items.{AreWhole, fetched_item}
use Rattle.resh_feed.specs.declared.item.Item.{Item}
use Rattle.resh_fetcher.proofs.link.Link.take_fetched.Goals as goal

pub put-requires : goal.put-requires
put-requires c =
    subst AreWhole (sym c.in_ok-items.ensures) (All-map (λ (item : Item). is_whole item.what ≡ true) fetched_item c.args.entries c.requires.whole)
