-- The rules that documents and filters that were read have kept.
use Rattle.std.proofs.Common.{◌≡◌, ℕ, Bool, true, false, cond, ltb, List, [], length, Option, Some, None, Ok, Err, refl, subst}
use Rattle.std.specs.Prelude.{codes, is_some}
use Rattle.std.proofs.lemmas.Bool.{ltb-false}
use Rattle.serde_json.specs.Data.{Data}
use Rattle.resh_value.specs.Limits.{text_limit}
use Rattle.resh_value.specs.Lookup.{field_of}
use Rattle.resh_value.specs.Outcome.{in_err}
use Rattle.resh_value.specs.FromJson.{walked_document}
use Rattle.resh_value.specs.Walk.{as_kind}
use Rattle.resh_value.specs.Text.{document_text}
use Rattle.resh_value.specs.declared.value.Value.{Value}
use Rattle.resh_filter.specs.Filters.{walked_filter}
use Rattle.resh_chunks.specs.Chunks.{Chunks}
use Rattle.resh_setup.specs.Documents.{Document, is_id, IsStored, IsFilter, first_same}
use Rattle.resh_setup.specs.Validity.{AreDocuments}
use Rattle.resh_value.specs.declared.walk_fault.WalkFault.{WalkFault}
use Rattle.resh_value.specs.declared.walk_fault.WalkFault.TheVariants.{At}
use Rattle.resh_config.specs.declared.faults.FaultKind.{FaultKind}
use Rattle.resh_config.specs.declared.faults.FaultKind.TheVariants.{NoId, OverLimit, Value as InValue, Filter as InFilter}
use Rattle.resh_config.specs.Walk.{list_in}
use Rattle.resh_config.specs.Documents.{with_rules, document_in}
use Rattle.resh_config.specs.Clients.{filter_in}
use Rattle.resh_config.specs.ClusterFile.{distinct_only, documents_in}
use Rattle.resh_config.proofs.Outcomes.{Ok-and_then, Ok-in_err}
use Rattle.resh_config.proofs.ListLemmas.{list_keeps, within_limit}
use Rattle.resh_config.proofs.SortedMembers.{IsTidy}
use Rattle.resh_config.proofs.DocumentShapes.{document_rises, document_shallow, filter_read, filter_undotted}

ruled_by : (document a : Document) (named long : Bool) (no_id over : WalkFault FaultKind) → cond named (cond long (Err over) (Ok document)) (Err no_id) ≡ Ok a
    → (named ≡ true) × (long ≡ false) × (document ≡ a)
ruled_by document a true true no_id over is = cc
ruled_by document a true false no_id over is = let same : document ≡ a = cc in (refl, refl, same)
ruled_by document a false long no_id over is = cc

id_there : (o : Option Value) → is_id o ≡ true → is_some o ≡ true
id_there None is = cc
id_there (Some v) is = refl

-- a document that was read is one that is stored
pub document_stored : (before : List Document) (d : Data) (a : Document) → IsTidy d → document_in before d ≡ Ok a → IsStored a
document_stored before d a tidy is =
    let s = Ok-and_then with_rules (in_err (as_kind InValue) (walked_document d)) a is in
    let read = Ok-in_err (as_kind InValue) (walked_document d) s.0 s.1 in
    let t = ruled_by s.0 a (is_id (field_of s.0 (codes "_id"))) (ltb text_limit (length (document_text s.0))) (At [] NoId) (At [] (OverLimit text_limit)) s.2 in
    let stored : IsStored s.0 = record {
      whole = record { rising = document_rises d s.0 tidy read; id = id_there (field_of s.0 (codes "_id")) t.0 };
      id = t.0;
      short = ltb-false text_limit (length (document_text s.0)) t.1;
      shallow = document_shallow d s.0 read;
    } in
    subst IsStored t.2 stored

pub filter_kept : (d : Data) (filter : Document) → IsTidy d → filter_in d ≡ Ok filter → IsFilter filter
filter_kept d filter tidy is =
    let read = Ok-in_err (as_kind InFilter) (walked_filter d) filter is in
    let document = filter_read d filter read in
    record {
      rising = document_rises d filter tidy document;
      undotted = filter_undotted d filter read;
      shallow = document_shallow d filter document;
    }

Ok-distinct_only : (row : Option ℕ) (documents all : List Document) → distinct_only row documents ≡ Ok all → (row ≡ None) × (documents ≡ all)
Ok-distinct_only None documents all is = let same : documents ≡ all = cc in (refl, same)
Ok-distinct_only (Some row) documents all is = cc

-- documents that were read
pub documents_kept : (chunks : Chunks) (d : Data) (all : List Document) → IsTidy d → documents_in chunks d ≡ Ok all → AreDocuments chunks all
documents_kept chunks d all tidy is =
    let s = Ok-and_then (λ (documents : List Document). distinct_only (first_same chunks [] documents) documents) (list_in 100000 document_in d) all is in
    let t = Ok-distinct_only (first_same chunks [] s.0) s.0 all s.2 in
    let read : AreDocuments chunks s.0 = record {
      few = within_limit document_in 100000 d s.0 s.1;
      stored = list_keeps document_in IsStored document_stored 100000 d s.0 tidy s.1;
      distinct = t.0;
    } in
    subst (AreDocuments chunks) t.1 read
