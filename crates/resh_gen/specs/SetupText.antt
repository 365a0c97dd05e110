-- The text of a setup: a cluster file without steps and plan, as one line of compact JSON with names in byte order.
use Rattle.std.specs.Prelude.{ℕ, List, [], ◌∷◌, ◌++◌, map, codes, decimal, slice_index_or}
use Rattle.json.specs.Token.{Token, string, number}
use Rattle.json.specs.Print.{print}
use Rattle.resh_value.specs.Text.{tokens_of, document_tokens, object_tokens, array_tokens}
use Rattle.resh_chunks.specs.Chunks.{Chunks}
use Rattle.resh_chunks.specs.declared.bound.Bound.{Bound}
use Rattle.resh_chunks.specs.declared.bound.Bound.TheVariants.{Min, At, Max}
use Rattle.resh_chunks.specs.declared.bound.ChunkRow.{ChunkRow}
use Rattle.resh_setup.specs.declared.client.Client.{Client}
use Rattle.resh_setup.specs.declared.setup.Setup.{Setup}
use Rattle.resh_gen.specs.CommandTokens.{command_tokens}

abbrev pub number_tokens : ℕ → List Token
number_tokens n = number (decimal n) ∷ []

abbrev pub name_tokens : List ℕ → List Token
name_tokens name = string name ∷ []

abbrev pub client_tokens : Client → List Token
client_tokens client =
    object_tokens ((codes "commands", array_tokens (map command_tokens client.commands))
    ∷ (codes "name", name_tokens client.name) ∷ [])

abbrev pub bound_tokens : Bound → List Token
bound_tokens Min = string (codes "MinKey") ∷ []
bound_tokens (At values) = array_tokens (map tokens_of values)
bound_tokens Max = string (codes "MaxKey") ∷ []

-- a chunk, with the name of its shard
abbrev pub chunk_tokens : List (List ℕ) → ChunkRow → List Token
chunk_tokens shards row =
    object_tokens ((codes "max", bound_tokens row.max) ∷ (codes "min", bound_tokens row.min)
    ∷ (codes "shard", name_tokens (slice_index_or shards row.shard.0 [])) ∷ [])

abbrev pub chunks_tokens : List (List ℕ) → Chunks → List Token
chunks_tokens shards chunks = array_tokens (map (chunk_tokens shards) chunks.rows)

abbrev pub names_tokens : List (List ℕ) → List Token
names_tokens names = array_tokens (map name_tokens names)

abbrev pub setup_tokens : Setup → List Token
setup_tokens setup =
    object_tokens ((codes "batch", number_tokens setup.batch)
    ∷ (codes "clients", array_tokens (map client_tokens setup.clients))
    ∷ (codes "documents", array_tokens (map document_tokens setup.documents))
    ∷ (codes "lanes", number_tokens setup.lanes)
    ∷ (codes "newChunks", chunks_tokens setup.shards setup.new_map)
    ∷ (codes "newKey", names_tokens setup.new_map.pattern)
    ∷ (codes "oldChunks", chunks_tokens setup.shards setup.old_map)
    ∷ (codes "oldKey", names_tokens setup.old_map.pattern)
    ∷ (codes "shards", names_tokens setup.shards)
    ∷ (codes "version", number_tokens 1) ∷ [])

-- the line, and its line feed
abbrev pub setup_text : Setup → List ℕ
setup_text setup = print (setup_tokens setup) ++ 10 ∷ []
