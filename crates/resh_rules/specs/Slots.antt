-- The slots that a lane stands for: of each donor and `_id` at most one document.
use Rattle.std.specs.Prelude.{◌≡◌, ◌≢◌, ℕ, true, false, cond, List, Option, Some, None, is_some}
use Rattle.std.specs.Option.{option_or}
use Rattle.resh_value.specs.Lookup.{id_of}
use Rattle.resh_value.specs.Whole.{IsWhole}
use Rattle.resh_value.specs.declared.value.Value.{Value}
use Rattle.resh_chunks.specs.Chunks.{Chunks, owner_of}
use Rattle.resh_stash.specs.Stored.{Document}
use Rattle.resh_rules.specs.Held.{Held, waits, is_owned}

-- a donor's document, in its stash or in the output
abbrev pub slot : Chunks → Held → ℕ → Option Document
slot old held donor = option_or (waits held donor) (cond (is_owned old donor held.output) held.output None)

-- what is held of an `_id`: whole documents with that `_id`; one that waits is its donor's, and the output has another
-- donor's
pub record IsSound (old : Chunks) (id : Value) (held : Held) : Type 0 where
  pub output_whole : (document : Document) → held.output ≡ Some document → IsWhole document
  pub output_named : (document : Document) → held.output ≡ Some document → id_of document ≡ id
  pub whole : (donor : ℕ) (document : Document) → waits held donor ≡ Some document → IsWhole document
  pub named : (donor : ℕ) (document : Document) → waits held donor ≡ Some document → id_of document ≡ id
  pub owned : (donor : ℕ) (document : Document) → waits held donor ≡ Some document → owner_of old document ≡ donor
  pub behind : (donor : ℕ) (document : Document) → waits held donor ≡ Some document
      → (is_some held.output ≡ true) × (is_owned old donor held.output ≡ false)

-- what is held stands for slots: where none is filled nothing is held; else one filled slot's document is the output,
-- and every other's waits in the stash of its donor
pub record StandsFor (slots : ℕ → Option Document) (held : Held) : Type 0 where
  pub nothing : ((donor : ℕ) → slots donor ≡ None)
      → (held.output ≡ None) × ((donor : ℕ) → waits held donor ≡ None)
  pub filled : (donor : ℕ) (document : Document) → slots donor ≡ Some document
      → (first : ℕ) × (is_some held.output ≡ true) × (held.output ≡ slots first) × (waits held first ≡ None)
      × ((other : ℕ) → other ≢ first → waits held other ≡ slots other)

abbrev pub Effect : Type 0
Effect = Option Document → Option Document

-- a step acts on the slot of one donor as an effect says, and on no other slot
pub record HasEffect (old : Chunks) (donor : ℕ) (effect : Effect) (before after : Held) : Type 0 where
  pub here : slot old after donor ≡ effect (slot old before donor)
  pub others : (other : ℕ) → other ≢ donor → slot old after other ≡ slot old before other
