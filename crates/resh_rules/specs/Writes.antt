-- What a write of one document leaves in a stash, or in one of several.
use Rattle.std.specs.Prelude.{◌≡◌, ◌≤◌, ◌<◌, ℕ, ◌+◌, cond, List, length, slice_index_or, slice_set, Option, None}
use Rattle.std.specs.FinMap.{get}
use Rattle.std.specs.Option.{option_map}
use Rattle.resh_value.specs.Order.{is_same}
use Rattle.resh_value.specs.declared.change.Change.{Change}
use Rattle.resh_value.specs.declared.value.Value.{Value}
use Rattle.resh_stash.specs.Stored.{Document, Stored, StashOf, changed_to}
use Rattle.resh_rules.specs.Pools.{documents_of, spare_of, stashed, waiting_of}

-- at an `_id` stands what was written, and elsewhere what stood there
abbrev pub IsWritten : Stored → Stored → Value → Option Document → Type 0
IsWritten before after id written =
    (other : Value) → get after other ≡ cond (is_same other id) written (get before other)

-- the same of one of several stashes
pub record IsWrittenAt (before after : List Stored) (place : ℕ) (id : Value) (written : Option Document) : Type 0 where
  pub here : (other : Value) → waiting_of after other
      ≡ cond (is_same other id) (slice_set (waiting_of before other) place written) (waiting_of before other)
  pub donors : length after ≡ length before

abbrev pub WritesAt : List StashOf → List StashOf → ℕ → Value → Option Document → Type 0
WritesAt before after place id written = IsWrittenAt (documents_of before) (documents_of after) place id written

-- what one of several stashes has of an `_id`
abbrev pub waits_in : List StashOf → ℕ → Value → Option Document
waits_in stashes place id = slice_index_or (waiting_of (documents_of stashes) id) place None

-- a change is made of what is held
abbrev pub IsAltered : Stored → Stored → Value → Change → Type 0
IsAltered before after id change = IsWritten before after id (option_map (changed_to change) (get before id))

abbrev pub AltersAt : List StashOf → List StashOf → ℕ → Value → Change → Type 0
AltersAt before after place id change =
    WritesAt before after place id (option_map (changed_to change) (waits_in before place id))

abbrev pub count_of : List StashOf → ℕ
count_of stashes = stashed (documents_of stashes)

abbrev pub HasRoomAt : List StashOf → ℕ → Type 0
HasRoomAt stashes place = (default : StashOf) → 0 < (slice_index_or stashes place default).spare

-- room for at most one document less, whatever room the output has
abbrev pub SparesOneLess : List StashOf → List StashOf → Type 0
SparesOneLess before after = (output : StashOf) → spare_of output before ≤ spare_of output after + 1

abbrev pub KeepsSpare : List StashOf → List StashOf → Type 0
KeepsSpare before after = (output : StashOf) → spare_of output before ≤ spare_of output after

-- neither room nor the number of documents changes
pub record KeepsRoom (before after : List StashOf) : Type 0 where
  pub spare : (output : StashOf) → spare_of output after ≡ spare_of output before
  pub count : count_of after ≡ count_of before
