-- What is known of a valid setup: it keeps every rule and every limit of a cluster file.
use Rattle.std.specs.Prelude.{◌≡◌, ◌≤◌, ℕ, ◌+◌, Bool, true, not, ◌&&◌, List, [], ◌∷◌, length, None}
use Rattle.std.specs.List.{AllByRecursion, list_all, list_any}
use Rattle.resh_value.specs.Names.{same_name}
use Rattle.resh_chunks.specs.Chunks.{Chunks, chunk_fault}
use Rattle.resh_setup.specs.declared.client.Client.{Client}
use Rattle.resh_setup.specs.declared.event.Event.{Event}
use Rattle.resh_setup.specs.declared.plan.Planned.{Planned}
use Rattle.resh_setup.specs.declared.setup.Setup.{Setup}
use Rattle.resh_setup.specs.Names.{is_node_name, are_shard_names, are_key_names, each_after}
use Rattle.resh_setup.specs.Documents.{Document, IsStored, IsCommand, first_same}
use Rattle.resh_setup.specs.Steps.{is_step, is_planned}

-- a chunk map over a key has at most 64 rows, no fault, and was made with the number of shards
pub record IsMap (shards : ℕ) (chunks : Chunks) : Type 0 where
  pub key : are_key_names chunks.pattern ≡ true
  pub few : length chunks.rows ≤ 64
  pub whole : chunk_fault chunks ≡ None
  pub count : chunks.shards ≡ shards

-- at most 100,000 documents, no two of them at one place under a map
pub record AreDocuments (chunks : Chunks) (documents : List Document) : Type 0 where
  pub few : length documents ≤ 100000
  pub stored : AllByRecursion IsStored documents
  pub distinct : first_same chunks [] documents ≡ None

-- a client's name, beside the clients before it
abbrev pub is_called : List ℕ → Client → Bool
is_called name client = same_name name client.name

abbrev pub is_new_name : List Client → List ℕ → Bool
is_new_name before name = is_node_name name && not (list_any (is_called name) before)

abbrev pub is_named_apart : List Client → Client → Bool
is_named_apart before client = is_new_name before client.name

-- how many commands some clients have together
abbrev pub command_count : List Client → ℕ
command_count [] = 0
command_count (client ∷ clients) = length client.commands + command_count clients

-- at most 16 clients of distinct names, with at most 20,000 commands in all
pub record AreClients (clients : List Client) : Type 0 where
  pub few : length clients ≤ 16
  pub names : each_after is_named_apart [] clients ≡ true
  pub few_commands : command_count clients ≤ 20000
  pub commands : AllByRecursion (λ client. AllByRecursion IsCommand client.commands) clients

-- 1 to 16 lanes, and batches of 1 to 500 entries
pub record AreSizes (lanes batch : ℕ) : Type 0 where
  pub some_lanes : 1 ≤ lanes
  pub few_lanes : lanes ≤ 16
  pub some_entries : 1 ≤ batch
  pub few_entries : batch ≤ 500

-- at most 100,000 steps, each over what is there
pub record AreSteps (shards lanes clients : ℕ) (steps : List Event) : Type 0 where
  pub few : length steps ≤ 100000
  pub named : list_all (is_step shards lanes clients) steps ≡ true

-- at most 1,000 rows of a plan, each over what is there
pub record ArePlanned (shards lanes : ℕ) (plan : List Planned) : Type 0 where
  pub few : length plan ≤ 1000
  pub named : list_all (is_planned shards lanes) plan ≡ true

pub record IsValid (setup : Setup) : Type 0 where
  pub shards : are_shard_names setup.shards ≡ true
  pub old : IsMap (length setup.shards) setup.old_map
  pub new : IsMap (length setup.shards) setup.new_map
  pub documents : AreDocuments setup.old_map setup.documents
  pub clients : AreClients setup.clients
  pub sizes : AreSizes setup.lanes setup.batch
  pub steps : AreSteps (length setup.shards) setup.lanes (length setup.clients) setup.steps
  pub plan : ArePlanned (length setup.shards) setup.lanes setup.plan
