-- A link reads the next documents that its donor held at the fetch time and that come to its recipient.
use Rattle.std.specs.Prelude.{ℕ, Bool, true, false, ◌&&◌, List, [], ◌∷◌, length, nat_lt, take}
use Rattle.resh_donor.specs.declared.phase.DonorPhase.{DonorPhase}
use Rattle.resh_donor.specs.declared.phase.DonorPhase.TheVariants.{Unused, PreparingToDonate, Donating, BlockingWrites, Done}
use Rattle.resh_fetcher.specs.Conditions.{may_clone}
use Rattle.resh_fetcher.specs.Links.{LinkOf, last_id, with_cloned}
use Rattle.resh_bag.specs.Bag.{Document}
use Rattle.resh_shard.specs.Shards.{Shard}
use Rattle.resh_cloner.specs.Cloning.{left_after}
use Rattle.resh_cells.specs.Cells.{link_in, on_link, shard_in}
use Rattle.resh_cells.specs.declared.cluster.Cluster.{Cluster}
use Rattle.resh_cells.specs.declared.cell.Cell.{Cell}
use Rattle.resh_cells.specs.declared.cell.Cell.TheVariants as named
use Rattle.resh_setup.specs.declared.seen.Seen.{Seen}
use Rattle.resh_setup.specs.declared.seen.Seen.TheVariants.{GotEnd, GotMore}

abbrev pub donates : DonorPhase → Bool
donates Unused = false
donates PreparingToDonate = false
donates Donating = true
donates BlockingWrites = true
donates Done = false

-- the buffer is shorter than a batch
abbrev pub has_room : LinkOf → Bool
has_room l = nat_lt (length l.buffer) l.batch

-- the first documents above the last one read, at most a batch, and whether they are the last
abbrev pub next_clones : Shard → ℕ → LinkOf → List Document
next_clones shard r l = take l.batch (left_after shard.versions shard.new_map l.fetch_time r (last_id l))

abbrev pub are_last : LinkOf → List Document → Bool
are_last l documents = nat_lt (length documents) l.batch

abbrev pub got_seen : ℕ → Bool → Seen
got_seen count true = GotEnd count
got_seen count false = GotMore count

module _ (cluster : Cluster) (r d : ℕ) where
  abbrev pub may : Bool
  may = may_clone (link_in cluster r d).link
      && donates (shard_in cluster d).donor.phase && has_room (link_in cluster r d).link

  abbrev pub got : List Document
  got = next_clones (shard_in cluster d).shard r (link_in cluster r d).link

  abbrev pub change : Cluster
  change = on_link r d (λ l. with_cloned l got (are_last l got)) cluster

  abbrev pub seen : Seen
  seen = got_seen (length got) (are_last (link_in cluster r d).link got)

abbrev pub holds : ℕ → ℕ → List Cell
holds r d = named.Shard d ∷ named.Link r d ∷ []
