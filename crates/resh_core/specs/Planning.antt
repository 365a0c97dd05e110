-- The lucks that a plan says, list by list.
use Rattle.std.specs.Prelude.{ℕ, List, [], ◌∷◌, map}
use Rattle.std.specs.List.{flat_map, range_with_len}
use Rattle.resh_value.specs.declared.value.ShardId.{ShardId}
use Rattle.resh_luck.specs.Fates.{Told, no_calls}
use Rattle.resh_luck.specs.Spans.{LuckOf}
use Rattle.resh_shard.specs.Writes.{shard_id}
use Rattle.resh_setup.specs.declared.plan.Who.{Who}
use Rattle.resh_setup.specs.declared.plan.Who.TheVariants.{Link, Lane}
use Rattle.resh_setup.specs.declared.setup.Setup.{Setup}
use Rattle.resh_events.specs.Lucks.{rows_of}

abbrev pub tolds_in : List LuckOf → List Told
tolds_in lucks = map (λ (luck : LuckOf). luck.told) lucks

module _ (setup : Setup) where
  abbrev pub uncalled : Who → Told
  uncalled who = no_calls (rows_of setup who)

  -- of the links of a recipient with the first donors
  abbrev pub link_row : ℕ → ℕ → List Told
  link_row r donors = flat_map (λ d. uncalled (Link (shard_id r) (shard_id d)) ∷ []) (range_with_len 0 donors)

  -- of the first recipients
  abbrev pub link_rows : ℕ → ℕ → List Told
  link_rows shards recipients = flat_map (λ r. link_row r shards) (range_with_len 0 recipients)

  -- of the first lanes of a link
  abbrev pub lane_list : ShardId → ShardId → ℕ → List Told
  lane_list r d lanes = map (λ l. uncalled (Lane r d l)) (range_with_len 0 lanes)

  abbrev pub lane_row : ℕ → ℕ → List Told
  lane_row r donors = flat_map (λ d. lane_list (shard_id r) (shard_id d) setup.lanes) (range_with_len 0 donors)

  abbrev pub lane_rows : ℕ → ℕ → List Told
  lane_rows shards recipients = flat_map (λ r. lane_row r shards) (range_with_len 0 recipients)
