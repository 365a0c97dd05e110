-- A link reads the next entries of its donor's log that are destined to its recipient, none past a final one.
use Rattle.std.specs.Prelude.{ℕ, Bool, true, false, ◌&&◌, List, [], ◌∷◌}
use Rattle.resh_oplog.specs.declared.entry.Entry.{Entry}
use Rattle.resh_fetcher.specs.Conditions.{may_fetch}
use Rattle.resh_fetcher.specs.Links.{next_entries, told_of, with_fetched}
use Rattle.resh_fetcher.specs.declared.fetched.Fetched.{Fetched}
use Rattle.resh_fetcher.specs.declared.fetched.Fetched.TheVariants as fetched
use Rattle.resh_cells.specs.Cells.{link_in, on_link, shard_in}
use Rattle.resh_cells.specs.declared.cluster.Cluster.{Cluster}
use Rattle.resh_cells.specs.declared.cell.Cell.{Cell}
use Rattle.resh_cells.specs.declared.cell.Cell.TheVariants as named
use Rattle.resh_setup.specs.declared.seen.Seen.{Seen}
use Rattle.resh_setup.specs.declared.seen.Seen.TheVariants.{Got, GotFinal, GotNothing}
use Rattle.resh_events.specs.rows.Clone.{has_room}

abbrev pub fetched_seen : Fetched → Seen
fetched_seen (fetched.Got count true) = GotFinal count
fetched_seen (fetched.Got count false) = Got count
fetched_seen fetched.Nothing = GotNothing

module _ (cluster : Cluster) (r d : ℕ) where
  abbrev pub may : Bool
  may = may_fetch (link_in cluster r d).link && has_room (link_in cluster r d).link

  abbrev pub got : List Entry
  got = next_entries (link_in cluster r d).link (shard_in cluster d).shard.log.entries

  abbrev pub change : Cluster
  change = on_link r d (λ l. with_fetched l got) cluster

  abbrev pub seen : Seen
  seen = fetched_seen (told_of got)

abbrev pub holds : ℕ → ℕ → List Cell
holds r d = named.Shard d ∷ named.Link r d ∷ []
