-- The names and numbers of cells, and their clocks.
use Rattle.std.specs.Prelude.{ℕ, ◌+◌, ◌*◌, List, [], ◌∷◌, length, map, slice_index_or, slice_set}
use Rattle.std.specs.List.{fold, range_with_len}
use Rattle.resh_setup.specs.declared.setup.Setup.{Setup}
use Rattle.resh_cells.specs.Cells.{set_in}
use Rattle.resh_cells.specs.declared.cell.Cell.{Cell}
use Rattle.resh_cells.specs.declared.cell.Cell.TheVariants as named
use Rattle.resh_cells.specs.declared.cluster.Clocks.{Clocks}
use Rattle.resh_cells.specs.declared.cluster.Cluster.{Cluster}

abbrev pub clock_of : Clocks → Cell → ℕ
clock_of clocks named.Coordinator = clocks.control
clock_of clocks (named.Shard s) = slice_index_or clocks.shards s 0
clock_of clocks (named.Lane r l) = slice_index_or (slice_index_or clocks.lanes r []) l 0
clock_of clocks (named.Link r d) = slice_index_or (slice_index_or clocks.links r []) d 0
clock_of clocks (named.Client c) = slice_index_or clocks.clients c 0

abbrev pub with_clock : ℕ → Clocks → Cell → Clocks
with_clock time clocks named.Coordinator = record clocks { control = time }
with_clock time clocks (named.Shard s) = record clocks { shards = slice_set clocks.shards s time }
with_clock time clocks (named.Lane r l) = record clocks { lanes = set_in clocks.lanes r l time }
with_clock time clocks (named.Link r d) = record clocks { links = set_in clocks.links r d time }
with_clock time clocks (named.Client c) = record clocks { clients = slice_set clocks.clients c time }

-- the clocks of some cells
abbrev pub clocks_of : Cluster → List Cell → List ℕ
clocks_of cluster cells = map (clock_of cluster.clocks) cells

-- the clocks of some cells set to one time
abbrev pub with_clocks : ℕ → List Cell → Cluster → Cluster
with_clocks time cells cluster = record cluster { clocks = fold (with_clock time) cluster.clocks cells }

module _ (setup : Setup) where
  abbrev pub shards : ℕ
  shards = length setup.shards

  -- the coordinator is 0; then come the shards, the lanes, the links and the clients
  abbrev pub number_of : Cell → ℕ
  number_of named.Coordinator = 0
  number_of (named.Shard s) = 1 + s
  number_of (named.Lane r l) = 1 + shards + (r * setup.lanes + l)
  number_of (named.Link r d) = 1 + shards + shards * setup.lanes + (r * shards + d)
  number_of (named.Client c) = 1 + shards + shards * setup.lanes + shards * shards + c

  abbrev pub lane_cells : ℕ → List Cell
  lane_cells r = map (named.Lane r) (range_with_len 0 setup.lanes)

  abbrev pub link_cells : ℕ → List Cell
  link_cells r = map (named.Link r) (range_with_len 0 shards)

-- the number of the first of some cells, which is the least where their numbers rise
abbrev pub first_number : Setup → List Cell → ℕ
first_number setup [] = 0
first_number setup (cell ∷ cells) = number_of setup cell
