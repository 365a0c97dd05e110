-- The lucks of all activities: what is told of each, and what a call leaves.
use Rattle.std.specs.Prelude.{ℕ, ◌+◌, ◌*◌, List, [], ◌∷◌, length, map, filter, slice_index_or, slice_set}
use Rattle.std.specs.List.{flat_map, range_with_len}
use Rattle.resh_value.specs.declared.value.ShardId.{ShardId}
use Rattle.resh_luck.specs.Fates.{Told, after_commit, after_tries, no_calls}
use Rattle.resh_luck.specs.declared.row.PlanRow.{PlanRow}
use Rattle.resh_shard.specs.Writes.{shard_id}
use Rattle.resh_setup.specs.declared.plan.Who.{Who}
use Rattle.resh_setup.specs.declared.plan.Who.TheVariants.{Coordinator, Link, Lane}
use Rattle.resh_setup.specs.declared.setup.Setup.{Setup}
use Rattle.resh_model.specs.Licence.{same_who}
use Rattle.resh_events.specs.Follows.{limit}
use Rattle.resh_events.specs.Luck.{Asks, quiet, commits, delivers}

-- the links' by recipient and donor, the lanes' by recipient, donor and lane
pub record Lucks : Type 0 where
  pub coordinator : Told
  pub links : List Told
  pub lanes : List Told

module _ (setup : Setup) where
  abbrev pub shards : ℕ
  shards = length setup.shards

  abbrev pub link_place : ShardId → ShardId → ℕ
  link_place r d = r.0 * shards + d.0

  abbrev pub lane_place : ShardId → ShardId → ℕ → ℕ
  lane_place r d l = link_place r d * setup.lanes + l

  abbrev pub told_of : Lucks → Who → Told
  told_of lucks Coordinator = lucks.coordinator
  told_of lucks (Link r d) = slice_index_or lucks.links (link_place r d) (no_calls [])
  told_of lucks (Lane r d l) = slice_index_or lucks.lanes (lane_place r d l) (no_calls [])

  abbrev pub with_told : Lucks → Who → Told → Lucks
  with_told lucks Coordinator told = record lucks { coordinator = told }
  with_told lucks (Link r d) told = record lucks { links = slice_set lucks.links (link_place r d) told }
  with_told lucks (Lane r d l) told = record lucks { lanes = slice_set lucks.lanes (lane_place r d l) told }

  -- one commit, or the deliveries of one call up to the first that isn't lost
  abbrev pub called : Asks → Lucks → Lucks
  called quiet lucks = lucks
  called (commits who) lucks = with_told lucks who (after_commit (told_of lucks who))
  called (delivers who) lucks = with_told lucks who (after_tries limit (told_of lucks who))

  -- the rows of the plan that name an activity, in its order
  abbrev pub rows_of : Who → List PlanRow
  rows_of who = map (λ p. p.row) (filter (λ p. same_who p.who who) setup.plan)

  abbrev pub each_link : {X : Type 0} → (ShardId → ShardId → List X) → List X
  each_link one =
      flat_map (λ r. flat_map (λ d. one (shard_id r) (shard_id d)) (range_with_len 0 shards)) (range_with_len 0 shards)

  -- before any call
  abbrev pub planned : Lucks
  planned = record {
    coordinator = no_calls (rows_of Coordinator);
    links = each_link (λ r d. no_calls (rows_of (Link r d)) ∷ []);
    lanes = each_link (λ r d. map (λ l. no_calls (rows_of (Lane r d l))) (range_with_len 0 setup.lanes));
  }
