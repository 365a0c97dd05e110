-- Documents by `_id`.
use Rattle.std.specs.Prelude.{ℕ, List, Option, slice_get, refl}
use Rattle.std.specs.FinMap.{FinMap, code, from_entries, get, insert, keys}
use Rattle.std.specs.Coded.{Coded, code_by, coded×, coded_list, coded_ℕ}
use Rattle.std.specs.Option.{option_map_or}
use Rattle.resh_value.specs.Change.{changed}
use Rattle.resh_value.specs.Order.{compare_of}
use Rattle.resh_value.specs.declared.change.Change.{Change}
use Rattle.resh_value.specs.declared.value.Value.{Value}
use Rattle.resh_value.specs.contracts.value.Value as value

abbrev pub Document : Type 0
Document = List (List ℕ × Value)

abbrev pub Stored : Type 0
Stored = FinMap compare_of Document

-- a stash: its documents by `_id`, and how many new ones it has room for
pub record StashOf : Type 0 where
  pub documents : Stored
  pub spare : ℕ

-- a stash is stored as the pair of its parts
abbrev pub stash_code : Coded StashOf
stash_code =
    code_by (Stored × ℕ)
    (coded× (code value.the_row.coded (coded_list (coded× (coded_list coded_ℕ) value.the_row.coded))) coded_ℕ)
    (λ s. (s.documents, s.spare)) (λ p. record { documents = p.0; spare = p.1 }) (λ _. refl)

-- the documents that a table's entries are
unfoldable pub gathered : List (Value × Document) → Stored
gathered entries = from_entries entries

-- the least `_id`
unfoldable pub first_id : Stored → Option Value
first_id documents = slice_get (keys documents) 0

-- a document as a change makes it
abbrev pub changed_to : Change → Document → Document
changed_to change document = changed change.assign change.unset document

-- the documents with the one of an `_id`, if it is held, as a change makes it
abbrev pub applied : Stored → Value → Change → Stored
applied documents id change =
    option_map_or (λ document. insert documents id (changed_to change document)) (get documents id) documents
