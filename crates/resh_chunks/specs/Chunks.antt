-- Chunk maps: their faults, and the owner of a key.
use Rattle.std.specs.Prelude.{◌≡◌, ◌<◌, ℕ, ◌+◌, Bool, cond, not, ◌||◌, nat_le, List, [], ◌∷◌, length, filter, find, Option, Some, None, refl}
use Rattle.std.specs.Ordering.{is_lt, is_eq}
use Rattle.std.specs.List.{list_all}
use Rattle.std.specs.Option.{option_or, option_map_or}
use Rattle.std.specs.Coded.{Coded, code_by, coded×, coded_list, coded_ℕ}
use Rattle.std.specs.declared.cmp.Ordering.{Ordering}
use Rattle.std.specs.declared.cmp.Ordering.TheVariants.{Less, Equal, Greater}
use Rattle.resh_value.specs.Order.{compare_of}
use Rattle.resh_value.specs.declared.value.Value.{Value}
use Rattle.resh_chunks.specs.Bounds.{bound_cmp, has_key, has_wrong_length}
use Rattle.resh_chunks.specs.Pattern.{key_of}
use Rattle.resh_value.specs.Lookup.{value_under}
use Rattle.resh_chunks.specs.declared.bound.Bound.{Bound}
use Rattle.resh_chunks.specs.declared.bound.Bound.TheVariants.{Min, At, Max}
use Rattle.resh_chunks.specs.declared.bound.ChunkRow.{ChunkRow}
use Rattle.resh_chunks.specs.contracts.bound.ChunkRow as row
use Rattle.resh_chunks.specs.declared.faults.ChunkFault.{ChunkFault}
use Rattle.resh_chunks.specs.declared.faults.ChunkFault.TheVariants.{FirstNotMin, LastNotMax, EmptyRange, Gap, Overlap, UnknownShard, WrongLength}

abbrev pub fault_where : Bool → ChunkFault → Option ChunkFault
fault_where test fault = cond test (Some fault) None

-- how a row begins against the end of the one before
abbrev pub gap_or_overlap : ℕ → Ordering → Option ChunkFault
gap_or_overlap i Less = Some (Overlap i)
gap_or_overlap i Equal = None
gap_or_overlap i Greater = Some (Gap i)

-- the first row begins below every key, and each later one where the one before ends
abbrev pub joint_fault : Option Bound → ℕ → Bound → Option ChunkFault
joint_fault None i Min = None
joint_fault None i (At key) = Some FirstNotMin
joint_fault None i Max = Some FirstNotMin
joint_fault (Some before) i min = gap_or_overlap i (bound_cmp min before)

-- the first fault of the i-th row: its bounds' lengths, its shard, its joint, its range
abbrev pub row_fault : ℕ → ℕ → Option Bound → ℕ → ChunkRow → Option ChunkFault
row_fault names shards before i row =
    option_or (fault_where (has_wrong_length names row.min || has_wrong_length names row.max) (WrongLength i))
    (option_or (fault_where (nat_le shards row.shard.0) (UnknownShard i))
    (option_or (joint_fault before i row.min)
    (fault_where (not (is_lt (bound_cmp row.min row.max))) (EmptyRange i))))

-- the last row ends above every key, and there is one
abbrev pub end_fault : Option Bound → Option ChunkFault
end_fault None = Some FirstNotMin
end_fault (Some Min) = Some LastNotMax
end_fault (Some (At key)) = Some LastNotMax
end_fault (Some Max) = None

-- the first fault of the rows from the i-th on, where the one before ends at `before`
abbrev pub rows_fault : ℕ → ℕ → Option Bound → ℕ → List ChunkRow → Option ChunkFault
rows_fault names shards before i [] = end_fault before
rows_fault names shards before i (row ∷ rows) =
    option_or (row_fault names shards before i row) (rows_fault names shards (Some row.max) (i + 1) rows)

-- a chunk map: the pattern's names, the rows, and the number of shards
pub record Chunks : Type 0 where
  pub pattern : List (List ℕ)
  pub rows : List ChunkRow
  pub shards : ℕ

-- a chunk map is stored as the tuple of its parts
abbrev pub chunks_code : Coded Chunks
chunks_code =
    code_by (List (List ℕ) × (List ChunkRow × ℕ))
    (coded× (coded_list (coded_list coded_ℕ)) (coded× (coded_list row.the_row.coded) coded_ℕ))
    (λ c. (c.pattern, (c.rows, c.shards))) (λ p. record { pattern = p.0; rows = p.1.0; shards = p.1.1 }) (λ _. refl)

abbrev pub chunk_fault : Chunks → Option ChunkFault
chunk_fault chunks = rows_fault (length chunks.pattern) chunks.shards None 0 chunks.rows

-- the shard of the row that has the key
abbrev pub owner : Chunks → List Value → ℕ
owner chunks key = option_map_or (λ row. row.shard.0) (find (has_key key) chunks.rows) 0

abbrev pub owner_of : Chunks → List (List ℕ × Value) → ℕ
owner_of chunks document = owner chunks (key_of chunks.pattern document)

-- the rows that have the key are one, and it is on that shard
pub record IsOwner (chunks : Chunks) (key : List Value) (shard : ℕ) : Type 0 where
  pub row : ChunkRow
  pub only : filter (has_key key) chunks.rows ≡ row ∷ []
  pub here : row.shard.0 ≡ shard

-- what is said of the shard that is found for a key
pub record Owns (chunks : Chunks) (key : List Value) (shard : ℕ) : Type 0 where
  pub found : shard ≡ owner chunks key
  pub only : IsOwner chunks key shard
  pub there : shard < chunks.shards

-- in a chunk map without fault each key has one owner, and it is among the shards
abbrev pub EachKeyHasOneOwner : Type 0
EachKeyHasOneOwner = (chunks : Chunks) (key : List Value) → chunk_fault chunks ≡ None
    → (shard : ℕ) × (shard < chunks.shards) × IsOwner chunks key shard

-- every field of the pattern is equal in both documents
abbrev pub same_key : List (List ℕ) → List (List ℕ × Value) → List (List ℕ × Value) → Bool
same_key pattern a b = list_all (λ name. is_eq (compare_of (value_under a name) (value_under b name))) pattern
