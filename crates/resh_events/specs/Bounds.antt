-- Places and numbers of items stay below the end of places. An event that would pass it wants memory instead.
use Rattle.std.specs.Prelude.{ℕ, ◌+◌, Bool, true, ◌&&◌, nat_lt, length}
use Rattle.resh_value.specs.Limits.{end_of_places}
use Rattle.resh_fetcher.specs.Links.{LinkOf, out_end}
use Rattle.resh_split.specs.Parts.{is_below_end}
use Rattle.resh_setup.specs.declared.event.Event.{Event}
use Rattle.resh_setup.specs.declared.event.Event.TheVariants.{Clone, Fetch, Cut}
use Rattle.resh_cells.specs.Cells.{link_in}
use Rattle.resh_cells.specs.declared.cluster.Cluster.{Cluster}
use Rattle.resh_events.specs.rows.Clone as clone
use Rattle.resh_events.specs.rows.Cut as cut
use Rattle.resh_events.specs.rows.Fetch as fetch

-- so many more items still have places in the buffer
abbrev pub has_places : LinkOf → ℕ → Bool
has_places l more = nat_lt (out_end l.kept l.out + length l.buffer + more) end_of_places

abbrev pub is_bounded : Cluster → Event → Bool
is_bounded cluster (Clone r d) =
    has_places (link_in cluster r.0 d.0).link (length (clone.got cluster r.0 d.0))
    && nat_lt ((link_in cluster r.0 d.0).link.clones + length (clone.got cluster r.0 d.0)) end_of_places
is_bounded cluster (Fetch r d) = has_places (link_in cluster r.0 d.0).link (length (fetch.got cluster r.0 d.0))
is_bounded cluster (Cut r d) =
    is_below_end (link_in cluster r.0 d.0).link.lanes (cut.batch_at 0 (link_in cluster r.0 d.0).link)
is_bounded cluster other = true
