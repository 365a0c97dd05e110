-- The cluster file: which setup a JSON value is, or its first fault.
use Rattle.std.specs.Prelude.{◌≡◌, ℕ, List, [], ◌∷◌, codes, Option, Some, None, Result, Ok, Err}
use Rattle.std.specs.Str.{IsUtf8}
use Rattle.serde_json.specs.Data.{Data, Members}
use Rattle.serde_json.specs.Read.{read as read_text}
use Rattle.resh_chunks.specs.Chunks.{Chunks}
use Rattle.resh_setup.specs.Documents.{Document, first_same}
use Rattle.resh_setup.specs.declared.setup.Setup.{Setup}
use Rattle.resh_setup.specs.declared.fault.SetupFault.{SetupFault}
use Rattle.resh_setup.specs.declared.fault.SetupFault.TheVariants.{NotJson}
use Rattle.resh_config.specs.declared.maps.Maps.{Maps}
use Rattle.resh_value.specs.Outcome.{in_err}
use Rattle.resh_value.specs.Walk.{ends}
use Rattle.resh_config.specs.Faults.{Read, fault_of}
use Rattle.resh_config.specs.declared.faults.FaultKind.TheVariants.{SameId}
use Rattle.resh_config.specs.Walk.{◌>>=◌, row_with, field, field_or, number_in, list_in}
use Rattle.resh_config.specs.Names.{shards_in, key_in}
use Rattle.resh_config.specs.Chunks.{chunks_in}
use Rattle.resh_config.specs.Documents.{document_in}
use Rattle.resh_config.specs.Clients.{clients_in}
use Rattle.resh_config.specs.Steps.{steps_in}
use Rattle.resh_config.specs.Plan.{plan_in}

abbrev pub distinct_only : Option ℕ → List Document → Read (List Document)
distinct_only None documents = Ok documents
distinct_only (Some row) documents = ends (SameId row)

-- documents, no two of them at one place
abbrev pub documents_in : Chunks → Data → Read (List Document)
documents_in chunks d =
    list_in 100000 document_in d >>= λ documents.
    distinct_only (first_same chunks [] documents) documents

abbrev pub root_names : List (List ℕ)
root_names =
    codes "version" ∷ codes "shards" ∷ codes "oldKey" ∷ codes "newKey" ∷ codes "oldChunks" ∷ codes "newChunks"
    ∷ codes "documents" ∷ codes "clients" ∷ codes "lanes" ∷ codes "batch"
    ∷ codes "steps" ∷ codes "plan" ∷ []

-- the fields before the documents
abbrev pub maps_in : Members → Read Maps
maps_in ds =
    field ds (codes "version") (number_in 1 1) >>= λ version.
    field ds (codes "shards") shards_in >>= λ shards.
    field ds (codes "oldKey") key_in >>= λ old_key.
    field ds (codes "newKey") key_in >>= λ new_key.
    field ds (codes "oldChunks") (chunks_in shards old_key) >>= λ old_map.
    field ds (codes "newChunks") (chunks_in shards new_key) >>= λ new_map.
    Ok (record { shards = shards; old_map = old_map; new_map = new_map })

-- the documents and the fields after them
abbrev pub rest_in : Maps → Members → Read Setup
rest_in maps ds =
    field ds (codes "documents") (documents_in maps.old_map) >>= λ documents.
    field_or [] ds (codes "clients") clients_in >>= λ clients.
    field_or 4 ds (codes "lanes") (number_in 1 16) >>= λ lanes.
    field_or 500 ds (codes "batch") (number_in 1 500) >>= λ batch.
    field_or [] ds (codes "steps") (steps_in maps.shards clients lanes) >>= λ steps.
    field_or [] ds (codes "plan") (plan_in maps.shards lanes) >>= λ plan.
    Ok (record {
      shards = maps.shards;
      old_map = maps.old_map;
      new_map = maps.new_map;
      documents = documents;
      clients = clients;
      lanes = lanes;
      batch = batch;
      steps = steps;
      plan = plan;
    })

abbrev pub setup_of : Members → Read Setup
setup_of ds = maps_in ds >>= λ maps. rest_in maps ds

abbrev pub setup_in : Data → Read Setup
setup_in d = row_with root_names d >>= setup_of

-- the bytes are UTF-8 and JSON
abbrev pub IsReading : List ℕ → Data → Type 0
IsReading bytes d = IsUtf8 bytes × (read_text bytes ≡ Some d)

-- what the bytes are: what their reading is, or no JSON
pub data IsOutcome (bytes : List ℕ) (outcome : Result Setup SetupFault) : Type 0 where
  read : (d : Data) → IsReading bytes d → in_err fault_of (setup_in d) ≡ outcome → IsOutcome bytes outcome
  no_reading : (IsUtf8 bytes → read_text bytes ≡ None) → outcome ≡ Err NotJson → IsOutcome bytes outcome

abbrev pub IsSetup : List ℕ → Setup → Type 0
IsSetup bytes setup = IsOutcome bytes (Ok setup)

abbrev pub IsRefused : List ℕ → SetupFault → Type 0
IsRefused bytes fault = IsOutcome bytes (Err fault)
