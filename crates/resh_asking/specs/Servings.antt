-- Whether targets serve a client.
use Rattle.std.specs.Prelude.{ℕ, Bool, not, cond, List}
use Rattle.resh_shard.specs.declared.act.Which.{Which}
use Rattle.resh_cells.specs.declared.cluster.Cluster.{Cluster}
use Rattle.resh_events.specs.Targets.{all_at, has_map, is_free}
use Rattle.resh_asking.specs.declared.asked.Serving.{Serving}
use Rattle.resh_asking.specs.declared.asked.Serving.TheVariants.{Waits, Refreshes, Serves}

abbrev pub serving_by : Bool → Bool → Serving
serving_by free under = cond (not free) Waits (cond (not under) Refreshes Serves)

abbrev pub serving_at : Cluster → Which → List ℕ → Serving
serving_at cluster which shards = serving_by (all_at cluster is_free shards) (all_at cluster (has_map which) shards)
