-- Chunk maps: bounds, rows, and the map that they make.
use Rattle.std.specs.Prelude.{ℕ, cond, List, [], ◌∷◌, length, codes, Option, Some, None, Ok}
use Rattle.serde_json.specs.Data.{Data, null, boolean, number, string, array, object, Members}
use Rattle.resh_value.specs.Names.{same_name}
use Rattle.resh_value.specs.Outcome.{in_err}
use Rattle.resh_value.specs.FromJson.{walked_value}
use Rattle.resh_value.specs.declared.value.Value.{Value}
use Rattle.resh_value.specs.declared.value.ShardId.{ShardId}
use Rattle.resh_chunks.specs.Chunks.{Chunks, chunk_fault}
use Rattle.resh_chunks.specs.declared.bound.Bound.{Bound}
use Rattle.resh_chunks.specs.declared.bound.Bound.TheVariants.{Min, At, Max}
use Rattle.resh_chunks.specs.declared.bound.ChunkRow.{ChunkRow}
use Rattle.resh_chunks.specs.declared.faults.ChunkFault.{ChunkFault}
use Rattle.resh_value.specs.Walk.{ends, as_kind}
use Rattle.resh_config.specs.Faults.{Read}
use Rattle.resh_config.specs.declared.faults.FaultKind.TheVariants.{WrongKind, Value as InValue, Chunks as InChunks}
use Rattle.resh_config.specs.Walk.{◌>>=◌, row_with, field, text_in, items_from, list_in}
use Rattle.resh_config.specs.Names.{shard_named}

-- a chunk's bound: `"MinKey"`, `"MaxKey"` or the values that a key begins with
abbrev pub bound_value_in : List Value → Data → Read Value
bound_value_in before d = in_err (as_kind InValue) (walked_value d)

abbrev pub end_named : List ℕ → Read Bound
end_named text =
    cond (same_name text (codes "MinKey")) (Ok Min)
    (cond (same_name text (codes "MaxKey")) (Ok Max) (ends WrongKind))

abbrev pub bound_in : Data → Read Bound
bound_in (string text) = end_named text
bound_in (array ds) = items_from bound_value_in [] ds >>= λ key. Ok (At key)
bound_in null = ends WrongKind
bound_in (boolean b) = ends WrongKind
bound_in (number n) = ends WrongKind
bound_in (object ds) = ends WrongKind

abbrev pub shard_in : List (List ℕ) → Data → Read ShardId
shard_in shards d = text_in d >>= shard_named shards

-- the fields of a chunk's row
abbrev pub row_of : List (List ℕ) → Members → Read ChunkRow
row_of shards ds =
    field ds (codes "min") bound_in >>= λ min.
    field ds (codes "max") bound_in >>= λ max.
    field ds (codes "shard") (shard_in shards) >>= λ shard.
    Ok (record { min = min; max = max; shard = shard })

abbrev pub chunk_row_in : List (List ℕ) → List ChunkRow → Data → Read ChunkRow
chunk_row_in shards before d = row_with (codes "min" ∷ codes "max" ∷ codes "shard" ∷ []) d >>= row_of shards

abbrev pub tested_chunks : Chunks → Option ChunkFault → Read Chunks
tested_chunks chunks None = Ok chunks
tested_chunks chunks (Some fault) = ends (InChunks fault)

-- the map of some rows over a key
abbrev pub chunks_of : List (List ℕ) → List (List ℕ) → List ChunkRow → Chunks
chunks_of shards key rows = record { pattern = key; rows = rows; shards = length shards }

-- a chunk map is tested after its rows
abbrev pub chunks_in : List (List ℕ) → List (List ℕ) → Data → Read Chunks
chunks_in shards key d =
    list_in 64 (chunk_row_in shards) d >>= λ rows.
    tested_chunks (chunks_of shards key rows) (chunk_fault (chunks_of shards key rows))
