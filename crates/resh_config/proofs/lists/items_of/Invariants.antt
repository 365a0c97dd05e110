use Rattle.std.proofs.Common.{◌≡◌, [], length}
use Rattle.serde_json.specs.View.{items_view}
use Rattle.resh_config.specs.Walk.{items_from}
use Rattle.resh_config.proofs.lists.items_of.Given as goal

abbrev pub invariant-loop-rest : goal.invariant-loop-rest
invariant-loop-rest g l = record {
  reader : g.R.ItemReader.reads l.reader ≡ g.R.ItemReader.reads l.fn.reader;
  same : items_from (g.R.ItemReader.reads l.fn.reader) [] (items_view l.fn.items.items) ≡ items_from (g.R.ItemReader.reads l.fn.reader) l.before.items (items_view l.rest);
}

abbrev pub decreases-loop-rest : goal.decreases-loop-rest
decreases-loop-rest g l = length l.rest
