-- The versions of one document, the newest last.
use Rattle.std.specs.Prelude.{◌≡◌, ℕ, ◌-◌, Bool, true, false, cond, not, ◌&&◌, nat_le, List, [], ◌∷◌, length, filter, take, Option, Some, None, is_some}
use Rattle.std.specs.Coded.{Coded, coded×, coded_list, coded_ℕ}
use Rattle.std.specs.List.{fold, list_any}
use Rattle.resh_value.specs.Whole.{is_whole}
use Rattle.resh_value.specs.contracts.value.Value as value
use Rattle.resh_value.specs.declared.value.Value.{Value}
use Rattle.resh_versions.specs.declared.version.Version.{Version}

abbrev pub Document : Type 0
Document = List (List ℕ × Value)

-- a document that can be stored
abbrev pub IsStored : Document → Type 0
IsStored document = is_whole document ≡ true

-- documents are coded as their fields
abbrev pub document_code : Coded Document
document_code = coded_list (coded× (coded_list coded_ℕ) value.the_row.coded)

-- a document's versions, oldest first
abbrev pub Chain : Type 0
Chain = List Version

-- a document, or nothing, from a time on
abbrev pub version : ℕ → Option Document → Version
version time document = record { time = time; document = document }

abbrev pub has_versions : Chain → Bool
has_versions [] = false
has_versions (v ∷ vs) = true

-- what the last version of a chain has
abbrev pub newest : Chain → Option Document
newest chain = fold (λ before v. v.document) None chain

abbrev pub is_by : ℕ → Version → Bool
is_by time v = nat_le v.time time

-- what a chain has at a time: its last version that isn't later
abbrev pub chain_at : ℕ → Chain → Option Document
chain_at time chain = newest (filter (is_by time) chain)

-- what a chain has at a time, or now where none is given
abbrev pub chain_read : Option ℕ → Chain → Option Document
chain_read None chain = newest chain
chain_read (Some time) chain = chain_at time chain

abbrev pub without_newest : Chain → Chain
without_newest chain = take (length chain - 1) chain

-- a chain without what no reading from a time on can give: the versions before the last one that isn't later, and that
-- one where it is nothing
abbrev pub pruned_chain : ℕ → Chain → Chain
pruned_chain time [] = []
pruned_chain time (v ∷ vs) =
    cond (list_any (is_by time) vs) (pruned_chain time vs) (cond (is_by time v && not (is_some v.document)) vs (v ∷ vs))
