-- What a lane holds of one `_id`.
use Rattle.std.specs.Prelude.{ℕ, Bool, false, ◌==◌, List, Option, Some, None, slice_index_or, slice_set}
use Rattle.resh_chunks.specs.Chunks.{Chunks, owner_of}
use Rattle.resh_stash.specs.Stored.{Document}

-- the output's document, and what waits in the stash of each donor
pub record Held : Type 0 where
  pub output : Option Document
  pub waiting : List (Option Document)

-- what waits in a donor's stash
abbrev pub waits : Held → ℕ → Option Document
waits held donor = slice_index_or held.waiting donor None

-- the document belongs to the donor that owns its old key
abbrev pub is_owned : Chunks → ℕ → Option Document → Bool
is_owned old donor None = false
is_owned old donor (Some document) = owner_of old document == donor

abbrev pub with_output : Held → Option Document → Held
with_output held document = record { output = document; waiting = held.waiting }

abbrev pub with_waiting : Held → ℕ → Option Document → Held
with_waiting held donor document = record { output = held.output; waiting = slice_set held.waiting donor document }
