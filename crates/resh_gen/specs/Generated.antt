-- The setup of a number: 50,000 documents on four shards, resharded onto the next shard, and 20,000 commands.
use Rattle.std.specs.Prelude.{ℕ, pos, List, [], ◌∷◌, slice_index, codes}
use Rattle.resh_value.specs.declared.value.Value.TheVariants.{Int}
use Rattle.resh_chunks.specs.Chunks.{Chunks}
use Rattle.resh_chunks.specs.declared.bound.Bound.{Bound}
use Rattle.resh_chunks.specs.declared.bound.Bound.TheVariants.{Min, At, Max}
use Rattle.resh_chunks.specs.declared.bound.ChunkRow.{ChunkRow}
use Rattle.resh_setup.specs.declared.client.Client.{Client}
use Rattle.resh_setup.specs.declared.setup.Setup.{Setup}
use Rattle.resh_gen.specs.Documents.{first_documents}
use Rattle.resh_gen.specs.Commands.{first_commands}

abbrev pub shard_names : List (List ℕ)
shard_names = codes "s0" ∷ codes "s1" ∷ codes "s2" ∷ codes "s3" ∷ []

abbrev pub bound_at : ℕ → Bound
bound_at n = At (Int (pos n) ∷ [])

abbrev pub chunk : Bound → Bound → ℕ → ChunkRow
chunk min max shard = record { min = min; max = max; shard = record { 0 = shard } }

-- four chunks that lie on these shards
abbrev pub rows_on : List ℕ → List ChunkRow
rows_on shards =
    chunk Min (bound_at 250) (slice_index shards 0) ∷ chunk (bound_at 250) (bound_at 500) (slice_index shards 1)
    ∷ chunk (bound_at 500) (bound_at 750) (slice_index shards 2) ∷ chunk (bound_at 750) Max (slice_index shards 3) ∷ []

-- a map over one field, whose chunks lie on these shards
abbrev pub map_over : List ℕ → List ℕ → Chunks
map_over name shards = record { pattern = name ∷ []; rows = rows_on shards; shards = 4 }

abbrev pub client : ℕ → List ℕ → ℕ → Client
client number name place = record { name = name; commands = first_commands number place 5000 }

abbrev pub clients : ℕ → List Client
clients number =
    client number (codes "c0") 0 ∷ client number (codes "c1") 1
    ∷ client number (codes "c2") 2 ∷ client number (codes "c3") 3 ∷ []

abbrev pub generated : ℕ → Setup
generated number = record {
  shards = shard_names;
  old_map = map_over (codes "x") (0 ∷ 1 ∷ 2 ∷ 3 ∷ []);
  new_map = map_over (codes "y") (1 ∷ 2 ∷ 3 ∷ 0 ∷ []);
  documents = first_documents number 50000;
  clients = clients number;
  lanes = 4;
  batch = 50;
  steps = [];
  plan = [];
}
