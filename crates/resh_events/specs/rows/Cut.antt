-- A link cuts a batch of the first items of its buffer, and sends each lane its pieces.
use Rattle.std.specs.Prelude.{ℕ, ◌+◌, Bool, ◌&&◌, List, [], ◌∷◌, length, min}
use Rattle.resh_stamp.specs.declared.stamp.Stamp.{Stamp}
use Rattle.resh_fetcher.specs.Conditions.{may_cut}
use Rattle.resh_fetcher.specs.Links.{LinkOf, cut, sent_out}
use Rattle.resh_fetcher.specs.declared.batch.Batch.{Batch}
use Rattle.resh_split.specs.Parts.{ends_behind, parts_of, pieces}
use Rattle.resh_cells.specs.Cells.{link_in, set_in}
use Rattle.resh_cells.specs.Cuts.{joined}
use Rattle.resh_cells.specs.declared.cluster.Cluster.{Cluster}
use Rattle.resh_cells.specs.declared.cluster.LinkCell.{LinkCell}
use Rattle.resh_cells.specs.declared.cell.Cell.{Cell}
use Rattle.resh_cells.specs.declared.cell.Cell.TheVariants as named
use Rattle.resh_setup.specs.declared.seen.Seen.{Seen}
use Rattle.resh_setup.specs.declared.seen.Seen.TheVariants.{Batch as BatchSeen}

-- the batch that is cut at a time
abbrev pub batch_at : ℕ → LinkOf → Batch
batch_at time l = cut l l.batch time

abbrev pub cut_at : ℕ → LinkCell → LinkCell
cut_at time cell = record {
  link = sent_out cell.link cell.link.batch (ends_behind cell.link cell.link.batch);
  sent = joined cell.sent (parts_of cell.link.lanes (pieces cell.link.lanes (batch_at time cell.link)));
}

module _ (cluster : Cluster) (r d : ℕ) where
  abbrev pub may : Bool
  may = (link_in cluster r d).link.is_open && may_cut (link_in cluster r d).link

  abbrev pub change : Stamp → Cluster
  change stamp = record cluster { links = set_in cluster.links r d (cut_at stamp.time (link_in cluster r d)) }

  -- the place of its first item, and the one behind its last
  abbrev pub seen : Seen
  seen =
      let l : LinkOf = (link_in cluster r d).link in
      BatchSeen l.kept.place (l.kept.place + min l.batch (length l.buffer))

abbrev pub holds : ℕ → ℕ → List Cell
holds r d = named.Link r d ∷ []
