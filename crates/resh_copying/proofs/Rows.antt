-- A cluster with one cell of a row changed.
use Rattle.std.proofs.Common.{◌≡◌, ℕ, Bool, true, false, cond, List, [], Some, slice_get, slice_set, sym, ap, subst, ◌∙◌}
use Rattle.resh_lane.specs.Lanes.{LaneOf}
use Rattle.resh_cells.specs.Cells.{lane_in, lanes_of, link_in, no_lane, no_link, no_shard, set_in, shard_in}
use Rattle.resh_cells.specs.declared.cluster.Cluster.{Cluster}
use Rattle.resh_cells.specs.declared.cluster.LinkCell.{LinkCell}
use Rattle.resh_cells.specs.declared.cluster.ShardCell.{ShardCell}
use Rattle.resh_copying.proofs.Places.{cell_as_is, cell_there, item_as_is, or_item, set_there}

abbrev pub with_links : Cluster → List (List LinkCell) → Cluster
with_links cluster rows = record cluster { links = rows }

abbrev pub with_lanes : Cluster → List (List LaneOf) → Cluster
with_lanes cluster rows = record cluster { lanes = rows }

pub shard_is : (cluster : Cluster) (d : ℕ) (shard : ShardCell) → Some shard ≡ slice_get cluster.shards d → shard ≡ shard_in cluster d
shard_is cluster d shard there = sym (or_item cluster.shards d no_shard shard there)

pub links_as_is : (cluster : Cluster) (r : ℕ) (links : List LinkCell) → Some links ≡ slice_get cluster.links r
    → with_links cluster (slice_set cluster.links r links) ≡ cluster
links_as_is cluster r links there = ap (with_links cluster) (item_as_is cluster.links r links there)

pub lanes_as_is : (cluster : Cluster) (r : ℕ) (lanes : List LaneOf) → Some lanes ≡ slice_get cluster.lanes r
    → with_lanes cluster (slice_set cluster.lanes r lanes) ≡ cluster
lanes_as_is cluster r lanes there = ap (with_lanes cluster) (item_as_is cluster.lanes r lanes there)

module _ (cluster : Cluster) (r d : ℕ) (links : List LinkCell) (cell : LinkCell)
    (there : Some links ≡ slice_get cluster.links r) (here : Some cell ≡ slice_get links d) where
  pub link_is : cell ≡ link_in cluster r d
  link_is = sym (cell_there cluster.links r d links cell no_link there here)

  -- what is known of the cell
  pub of_link : (P : LinkCell → Type 0) → P cell → P (link_in cluster r d)
  of_link P known = subst P link_is known

  -- the cell becomes what a function makes of it
  pub link_set : (f : LinkCell → LinkCell) (new : LinkCell) → new ≡ f cell
      → with_links cluster (slice_set cluster.links r (slice_set links d new))
      ≡ with_links cluster (set_in cluster.links r d (f (link_in cluster r d)))
  link_set f new is =
      ap (with_links cluster) (set_there cluster.links r d links new there ∙ ap (set_in cluster.links r d) (is ∙ ap f link_is))

  -- or stays as it was
  pub link_as_is : (new : LinkCell) → new ≡ cell
      → with_links cluster (slice_set cluster.links r (slice_set links d new)) ≡ cluster
  link_as_is new is =
      ap (λ (n : LinkCell). with_links cluster (slice_set cluster.links r (slice_set links d n))) is
      ∙ ap (with_links cluster) (cell_as_is cluster.links r d links cell there here)

  module _ (shard : ShardCell) (holds : Some shard ≡ slice_get cluster.shards d) where
    -- what is known of the donor's cell and of this one
    pub of_both : (P : ShardCell → LinkCell → Type 0) → P shard cell → P (shard_in cluster d) (link_in cluster r d)
    of_both P known =
        subst (λ (s : ShardCell). P s (link_in cluster r d)) (shard_is cluster d shard holds)
        (subst (λ (x : LinkCell). P shard x) link_is known)

    -- the cell becomes what a function of the donor's cell makes of it
    pub link_set_by : (f : ShardCell → LinkCell → LinkCell) (new : LinkCell) → new ≡ f shard cell
        → with_links cluster (slice_set cluster.links r (slice_set links d new))
        ≡ with_links cluster (set_in cluster.links r d (f (shard_in cluster d) (link_in cluster r d)))
    link_set_by f new is =
        link_set (f shard) new is
        ∙ ap (λ (s : ShardCell). with_links cluster (set_in cluster.links r d (f s (link_in cluster r d))))
        (shard_is cluster d shard holds)

module _ (cluster : Cluster) (r l : ℕ) (lanes : List LaneOf) (lane : LaneOf)
    (there : Some lanes ≡ slice_get cluster.lanes r) (here : Some lane ≡ slice_get lanes l) where
  pub lane_is : lane ≡ lane_in cluster r l
  lane_is = sym (cell_there cluster.lanes r l lanes lane no_lane there here)

  pub of_lane : (P : LaneOf → Type 0) → P lane → P (lane_in cluster r l)
  of_lane P known = subst P lane_is known

  pub lane_set : (f : LaneOf → LaneOf) (new : LaneOf) → new ≡ f lane
      → with_lanes cluster (slice_set cluster.lanes r (slice_set lanes l new))
      ≡ with_lanes cluster (set_in cluster.lanes r l (f (lane_in cluster r l)))
  lane_set f new is =
      ap (with_lanes cluster) (set_there cluster.lanes r l lanes new there ∙ ap (set_in cluster.lanes r l) (is ∙ ap f lane_is))

  pub lane_as_is : (new : LaneOf) → new ≡ lane
      → with_lanes cluster (slice_set cluster.lanes r (slice_set lanes l new)) ≡ cluster
  lane_as_is new is =
      ap (λ (n : LaneOf). with_lanes cluster (slice_set cluster.lanes r (slice_set lanes l n))) is
      ∙ ap (with_lanes cluster) (cell_as_is cluster.lanes r l lanes lane there here)

  -- by a test it becomes what is made, or stays as it was
  lane_tested : (test : Bool) (made new : LaneOf) → new ≡ cond test made lane
      → with_lanes cluster (slice_set cluster.lanes r (slice_set lanes l new))
      ≡ cond test (with_lanes cluster (set_in cluster.lanes r l made)) cluster
  lane_tested true made new is = lane_set (λ (x : LaneOf). made) new is
  lane_tested false made new is = lane_as_is new is

  pub lane_chosen : (test : LaneOf → Bool) (f : LaneOf → LaneOf) (new : LaneOf) → new ≡ cond (test lane) (f lane) lane
      → with_lanes cluster (slice_set cluster.lanes r (slice_set lanes l new))
      ≡ cond (test (lane_in cluster r l)) (with_lanes cluster (set_in cluster.lanes r l (f (lane_in cluster r l)))) cluster
  lane_chosen test f new is =
      lane_tested (test lane) (f lane) new is
      ∙ ap (λ (x : LaneOf). cond (test x) (with_lanes cluster (set_in cluster.lanes r l (f x))) cluster) lane_is

-- the link's cell and all lanes become what functions make of them
pub both_set :
    (cluster : Cluster) (r d : ℕ) (links : List LinkCell) (cell new : LinkCell) (lanes changed : List LaneOf)
    (f : LinkCell → LinkCell) (g : List LaneOf → LinkCell → List LaneOf)
    → Some links ≡ slice_get cluster.links r → Some cell ≡ slice_get links d → Some lanes ≡ slice_get cluster.lanes r
    → new ≡ f cell → changed ≡ g lanes cell
    → with_lanes (with_links cluster (slice_set cluster.links r (slice_set links d new))) (slice_set cluster.lanes r changed)
    ≡ with_links (with_lanes cluster (slice_set cluster.lanes r (g (lanes_of cluster r) (link_in cluster r d))))
    (set_in cluster.links r d (f (link_in cluster r d)))
both_set cluster r d links cell new lanes changed f g there here row is changed_is =
    ap (λ (c : Cluster). with_lanes c (slice_set cluster.lanes r changed)) (link_set cluster r d links cell there here f new is)
    ∙ ap (λ (ls : List LaneOf). with_lanes (with_links cluster (set_in cluster.links r d (f (link_in cluster r d)))) (slice_set cluster.lanes r ls))
    (changed_is ∙ (ap (λ (ls : List LaneOf). g ls cell) (sym (or_item cluster.lanes r [] lanes row))
    ∙ ap (g (lanes_of cluster r)) (link_is cluster r d links cell there here)))
