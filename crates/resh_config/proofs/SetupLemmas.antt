-- A setup that was read is valid.
use Rattle.std.proofs.Common.{◌≡◌, ℕ, ◌≤◌, true, List, [], length, Option, Some, None, Ok, refl, subst, arith}
use Rattle.std.specs.Prelude.{◌&&◌, nat_lt, nat_le, codes}
use Rattle.std.proofs.lemmas.Bool.Decides.{nat_tests}
use Rattle.serde_json.specs.Data.{Data, Members}
use Rattle.serde_json.specs.Find.{get_member}
use Rattle.resh_value.specs.Outcome.{and_then}
use Rattle.resh_chunks.specs.Chunks.{Chunks, chunk_fault}
use Rattle.resh_chunks.specs.declared.bound.ChunkRow.{ChunkRow}
use Rattle.resh_chunks.specs.declared.faults.ChunkFault.{ChunkFault}
use Rattle.resh_setup.specs.Documents.{Document}
use Rattle.resh_setup.specs.Names.{are_shard_names, are_key_names}
use Rattle.resh_setup.specs.Validity.{IsMap, AreClients, AreSteps, ArePlanned, IsValid}
use Rattle.resh_setup.specs.declared.client.Client.{Client}
use Rattle.resh_setup.specs.declared.event.Event.{Event}
use Rattle.resh_setup.specs.declared.plan.Planned.{Planned}
use Rattle.resh_setup.specs.declared.setup.Setup.{Setup}
use Rattle.resh_config.specs.declared.maps.Maps.{Maps}
use Rattle.resh_config.specs.Faults.{Read}
use Rattle.resh_config.specs.Walk.{field, field_or, row_with, number_in, list_in}
use Rattle.resh_config.specs.Names.{shards_in, key_in}
use Rattle.resh_config.specs.Chunks.{chunk_row_in, tested_chunks, chunks_of, chunks_in}
use Rattle.resh_config.specs.Clients.{clients_in}
use Rattle.resh_config.specs.Steps.{steps_in}
use Rattle.resh_config.specs.Plan.{plan_in}
use Rattle.resh_config.specs.ClusterFile.{documents_in, root_names, maps_in, rest_in, setup_of, setup_in}
use Rattle.resh_config.proofs.Outcomes.{Ok-and_then, Ok-required, Ok-field, Ok-row_with, optional_keeps, field_or_keeps, number_between, same_in_Ok}
use Rattle.resh_config.proofs.SortedMembers.{IsTidy, HasTidy}
use Rattle.resh_config.proofs.ListLemmas.{within_limit}
use Rattle.resh_config.proofs.KeyLemmas.{both, shards_read, key_read}
use Rattle.resh_config.proofs.DocumentLemmas.{documents_kept}
use Rattle.resh_config.proofs.ClientLemmas.{clients_kept, none_kept}
use Rattle.resh_config.proofs.StepLemmas.{steps_kept}
use Rattle.resh_config.proofs.PlanLemmas.{plan_kept}

Ok-tested : (chunks : Chunks) (fault : Option ChunkFault) (m : Chunks) → tested_chunks chunks fault ≡ Ok m → (fault ≡ None) × (chunks ≡ m)
Ok-tested chunks None m is = let same : chunks ≡ m = cc in (refl, same)
Ok-tested chunks (Some fault) m is = cc

-- a chunk map that was read over a key
map_kept : (shards key : List (List ℕ)) (d : Data) (m : Chunks) → are_key_names key ≡ true → chunks_in shards key d ≡ Ok m → IsMap (length shards) m
map_kept shards key d m named is =
    let s = Ok-and_then (λ (rows : List ChunkRow). tested_chunks (chunks_of shards key rows) (chunk_fault (chunks_of shards key rows))) (list_in 64 (chunk_row_in shards) d) m is in
    let t = Ok-tested (chunks_of shards key s.0) (chunk_fault (chunks_of shards key s.0)) m s.2 in
    let kept : IsMap (length shards) (chunks_of shards key s.0) =
    record { key = named; few = within_limit (chunk_row_in shards) 64 d s.0 s.1; whole = t.0; count = refl } in
    subst (IsMap (length shards)) t.1 kept

few_by : (n : ℕ) → (nat_lt 0 n && nat_le n 8) ≡ true → n ≤ 8
few_by n h = let s = both (nat_lt 0 n) (nat_le n 8) h in most n s.1
  where
    most : (m : ℕ) → nat_le m 8 ≡ true → m ≤ 8
    most m e = grind (arith, nat_tests)

-- shards and maps that were read
record AreMaps (maps : Maps) : Type 0 where
  shards : are_shard_names maps.shards ≡ true
  old : IsMap (length maps.shards) maps.old_map
  new : IsMap (length maps.shards) maps.new_map

-- what is read of the maps after each field
module _ (ds : Members) where
  abbrev after_new_map : List (List ℕ) → Chunks → Chunks → Read Maps
  after_new_map shards old_map new_map = Ok (record { shards = shards; old_map = old_map; new_map = new_map })

  abbrev after_old_map : List (List ℕ) → List (List ℕ) → Chunks → Read Maps
  after_old_map shards new_key old_map = and_then (after_new_map shards old_map) (field ds (codes "newChunks") (chunks_in shards new_key))

  abbrev after_new_key : List (List ℕ) → List (List ℕ) → List (List ℕ) → Read Maps
  after_new_key shards old_key new_key = and_then (after_old_map shards new_key) (field ds (codes "oldChunks") (chunks_in shards old_key))

  abbrev after_old_key : List (List ℕ) → List (List ℕ) → Read Maps
  after_old_key shards old_key = and_then (after_new_key shards old_key) (field ds (codes "newKey") key_in)

  abbrev after_shards : List (List ℕ) → Read Maps
  after_shards shards = and_then (after_old_key shards) (field ds (codes "oldKey") key_in)

  abbrev after_version : ℕ → Read Maps
  after_version version = and_then after_shards (field ds (codes "shards") shards_in)

  maps_kept : (maps : Maps) → maps_in ds ≡ Ok maps → AreMaps maps
  maps_kept maps is =
      let version = Ok-and_then after_version (field ds (codes "version") (number_in 1 1)) maps is in
      let shards = Ok-and_then after_shards (field ds (codes "shards") shards_in) maps version.2 in
      let old_key = Ok-and_then (after_old_key shards.0) (field ds (codes "oldKey") key_in) maps shards.2 in
      let new_key = Ok-and_then (after_new_key shards.0 old_key.0) (field ds (codes "newKey") key_in) maps old_key.2 in
      let old_map = Ok-and_then (after_old_map shards.0 new_key.0) (field ds (codes "oldChunks") (chunks_in shards.0 old_key.0)) maps new_key.2 in
      let new_map = Ok-and_then (after_new_map shards.0 old_map.0) (field ds (codes "newChunks") (chunks_in shards.0 new_key.0)) maps old_map.2 in
      let shards_at = Ok-required (codes "shards") shards_in (get_member (codes "shards") ds) shards.0 shards.1 in
      let old_key_at = Ok-required (codes "oldKey") key_in (get_member (codes "oldKey") ds) old_key.0 old_key.1 in
      let new_key_at = Ok-required (codes "newKey") key_in (get_member (codes "newKey") ds) new_key.0 new_key.1 in
      let old_at = Ok-required (codes "oldChunks") (chunks_in shards.0 old_key.0) (get_member (codes "oldChunks") ds) old_map.0 old_map.1 in
      let new_at = Ok-required (codes "newChunks") (chunks_in shards.0 new_key.0) (get_member (codes "newChunks") ds) new_map.0 new_map.1 in
      let found : Maps = record { shards = shards.0; old_map = old_map.0; new_map = new_map.0 } in
      let kept : AreMaps found = record {
        shards = shards_read shards_at.0 shards.0 shards_at.1;
        old = map_kept shards.0 old_key.0 old_at.0 old_map.0 (key_read old_key_at.0 old_key.0 old_key_at.1) old_at.1;
        new = map_kept shards.0 new_key.0 new_at.0 new_map.0 (key_read new_key_at.0 new_key.0 new_key_at.1) new_at.1;
      } in
      subst AreMaps (same_in_Ok found maps new_map.2) kept

  -- at most eight shards are read
  pub few_in_maps : (maps : Maps) → maps_in ds ≡ Ok maps → length maps.shards ≤ 8
  few_in_maps maps is = few_by (length maps.shards) (both (nat_lt 0 (length maps.shards) && nat_le (length maps.shards) 8) _ (maps_kept maps is).shards).0

  -- what is read of the rest after each field
  module _ (maps : Maps) where
    abbrev after_plan : List Document → List Client → ℕ → ℕ → List Event → List Planned → Read Setup
    after_plan documents clients lanes batch steps plan =
        Ok (record {
          shards = maps.shards;
          old_map = maps.old_map;
          new_map = maps.new_map;
          documents = documents;
          clients = clients;
          lanes = lanes;
          batch = batch;
          steps = steps;
          plan = plan;
        })

    abbrev after_steps : List Document → List Client → ℕ → ℕ → List Event → Read Setup
    after_steps documents clients lanes batch steps = and_then (after_plan documents clients lanes batch steps) (field_or [] ds (codes "plan") (plan_in maps.shards lanes))

    abbrev after_batch : List Document → List Client → ℕ → ℕ → Read Setup
    after_batch documents clients lanes batch = and_then (after_steps documents clients lanes batch) (field_or [] ds (codes "steps") (steps_in maps.shards clients lanes))

    abbrev after_lanes : List Document → List Client → ℕ → Read Setup
    after_lanes documents clients lanes = and_then (after_batch documents clients lanes) (field_or 500 ds (codes "batch") (number_in 1 500))

    abbrev after_clients : List Document → List Client → Read Setup
    after_clients documents clients = and_then (after_lanes documents clients) (field_or 4 ds (codes "lanes") (number_in 1 16))

    abbrev after_documents : List Document → Read Setup
    after_documents documents = and_then (after_clients documents) (field_or [] ds (codes "clients") clients_in)

    -- a number of the file, or its default
    number_kept : (name : List ℕ) (default low high n : ℕ) → low ≤ default → default ≤ high → field_or default ds name (number_in low high) ≡ Ok n → (low ≤ n) × (n ≤ high)
    number_kept name default low high n p q is =
        optional_keeps (λ (m : ℕ). (low ≤ m) × (m ≤ high)) default name (number_in low high) (p, q) (λ d m e. number_between low high d m e) (get_member name ds) n is

    rest_valid : (setup : Setup) → HasTidy ds → AreMaps maps → rest_in maps ds ≡ Ok setup → IsValid setup
    rest_valid setup tidy kept is =
        let documents = Ok-and_then after_documents (field ds (codes "documents") (documents_in maps.old_map)) setup is in
        let clients = Ok-and_then (after_clients documents.0) (field_or [] ds (codes "clients") clients_in) setup documents.2 in
        let lanes = Ok-and_then (after_lanes documents.0 clients.0) (field_or 4 ds (codes "lanes") (number_in 1 16)) setup clients.2 in
        let batch = Ok-and_then (after_batch documents.0 clients.0 lanes.0) (field_or 500 ds (codes "batch") (number_in 1 500)) setup lanes.2 in
        let steps = Ok-and_then (after_steps documents.0 clients.0 lanes.0 batch.0) (field_or [] ds (codes "steps") (steps_in maps.shards clients.0 lanes.0)) setup batch.2 in
        let plan = Ok-and_then (after_plan documents.0 clients.0 lanes.0 batch.0 steps.0) (field_or [] ds (codes "plan") (plan_in maps.shards lanes.0)) setup steps.2 in
        let documents_at = Ok-field ds (codes "documents") (documents_in maps.old_map) documents.0 tidy documents.1 in
        let lanes_kept = number_kept (codes "lanes") 4 1 16 lanes.0 (omega arith) (omega arith) lanes.1 in
        let batch_kept = number_kept (codes "batch") 500 1 500 batch.0 (omega arith) (omega arith) batch.1 in
        let found : Setup = record {
          shards = maps.shards;
          old_map = maps.old_map;
          new_map = maps.new_map;
          documents = documents.0;
          clients = clients.0;
          lanes = lanes.0;
          batch = batch.0;
          steps = steps.0;
          plan = plan.0;
        } in
        let valid : IsValid found = record {
          shards = kept.shards;
          old = kept.old;
          new = kept.new;
          documents = documents_kept maps.old_map documents_at.0 documents.0 documents_at.1 documents_at.2;
          clients = field_or_keeps AreClients [] ds (codes "clients") clients_in none_kept clients_kept clients.0 tidy clients.1;
          sizes = record { some_lanes = lanes_kept.0; few_lanes = lanes_kept.1; some_entries = batch_kept.0; few_entries = batch_kept.1 };
          steps = optional_keeps (AreSteps (length maps.shards) lanes.0 (length clients.0)) [] (codes "steps") (steps_in maps.shards clients.0 lanes.0)
              (record { few = omega arith; named = refl }) (steps_kept maps.shards lanes.0 clients.0) (get_member (codes "steps") ds) steps.0 steps.1;
          plan = optional_keeps (ArePlanned (length maps.shards) lanes.0) [] (codes "plan") (plan_in maps.shards lanes.0)
              (record { few = omega arith; named = refl }) (plan_kept maps.shards lanes.0) (get_member (codes "plan") ds) plan.0 plan.1;
        } in
        subst IsValid (same_in_Ok found setup plan.2) valid

-- a setup that was read is valid
pub setup_valid : (d : Data) (setup : Setup) → IsTidy d → setup_in d ≡ Ok setup → IsValid setup
setup_valid d setup tidy is =
    let root = Ok-and_then setup_of (row_with root_names d) setup is in
    let maps = Ok-and_then (λ (maps : Maps). rest_in maps root.0) (maps_in root.0) setup root.2 in
    rest_valid root.0 maps.0 setup (Ok-row_with root_names d root.0 tidy root.1) (maps_kept root.0 maps.0 maps.1) maps.2
