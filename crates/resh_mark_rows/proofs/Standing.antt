-- What a consistent recipient holds stands for its parts of the collection.
use Rattle.std.proofs.Common.{◌≡◌, ◌<◌, ℕ, true, length, slice_index_or, None, subst}
use Rattle.resh_cells.specs.Cells.{lanes_of, links_of, shard_in}
use Rattle.resh_cells.specs.declared.cluster.Cluster.{Cluster}
use Rattle.resh_coord.specs.Control.{is_true_at}
use Rattle.resh_coord.specs.declared.phase.Phase.TheVariants as phase
use Rattle.resh_model.specs.Orders.{State}
use Rattle.resh_place.specs.Lanes.{held_in}
use Rattle.resh_place.specs.Parts.{HoldsPart}
use Rattle.resh_place.proofs.Clashes.{parts_stand}
use Rattle.resh_place.proofs.Taken.{take_their_parts}
use Rattle.resh_setup.specs.Validity.{IsValid}
use Rattle.resh_setup.specs.declared.setup.Setup.{Setup}
use Rattle.resh_invariant.specs.Keeping.{Keeps}
use Rattle.resh_invariant.specs.Recipients.{IsReported}
use Rattle.resh_invariant.specs.Sources.{Clones, feed_by, sources_of}
use Rattle.resh_mark_rows.specs.Laws.{ConsistentStand}
use Rattle.resh_mark_rows.proofs.Consistent.{old_placed, taken, tells}

module _ (setup : Setup) (state : State) (clones : Clones) (cluster : Cluster) (r : ℕ) (valid : IsValid setup) (keeps : Keeps setup state clones cluster)
    (blocking : cluster.control.phase ≡ phase.BlockingWrites) (r_in : r < length setup.shards) (on : is_true_at cluster.control.reported r ≡ true) where
  part : HoldsPart setup.old_map setup.new_map state.bag r (held_in setup.lanes (lanes_of cluster r))
  part =
      take_their_parts.part setup.old_map setup.new_map state.bag r setup.lanes (length setup.shards) (λ d. feed_by (sources_of clones cluster r d)) (lanes_of cluster r)
      (old_placed setup valid state clones cluster keeps blocking) (tells setup valid state clones cluster keeps blocking r r_in)
      (taken setup valid state clones cluster keeps blocking r r_in
      (subst (λ p. IsReported setup p (is_true_at cluster.control.reported r) (slice_index_or cluster.control.clashes r None) (shard_in cluster r).donor (sources_of clones cluster r) (links_of cluster r) (lanes_of cluster r)) blocking
      (keeps.recipients r r_in).reports on).0)

pub consistent_stand : ConsistentStand
consistent_stand = record {
  parts = λ setup state clones cluster r id valid keeps blocking r_in on.
      parts_stand.stands setup.old_map setup.new_map state.bag r (held_in setup.lanes (lanes_of cluster r)) (part setup state clones cluster r valid keeps blocking r_in on) id;
  clashes = λ setup state clones cluster r id valid keeps blocking r_in on.
      parts_stand.clashes setup.old_map setup.new_map state.bag r (held_in setup.lanes (lanes_of cluster r)) (part setup state clones cluster r valid keeps blocking r_in on) id;
}
