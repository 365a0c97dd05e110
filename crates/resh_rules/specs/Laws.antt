-- What the rules do, in words: what is held stands for slots, and an entry acts on the slot of its donor.
use Rattle.std.specs.Prelude.{◌≡◌, ℕ, ◌<◌, true, false, not, List, length, Option, None, slice_index_or, codes}
use Rattle.std.specs.List.{list_all}
use Rattle.resh_value.specs.Change.{is_named}
use Rattle.resh_value.specs.Lookup.{id_of}
use Rattle.resh_value.specs.Names.{HasRisingNames}
use Rattle.resh_value.specs.Whole.{IsWhole}
use Rattle.resh_value.specs.declared.change.Change.{Change}
use Rattle.resh_value.specs.declared.value.Value.{Value}
use Rattle.resh_chunks.specs.Chunks.{Chunks, owner_of}
use Rattle.resh_stash.specs.Stored.{Document}
use Rattle.resh_feed.specs.Effects.{set_to, changed_by, emptied}
use Rattle.resh_rules.specs.Held.{Held}
use Rattle.resh_rules.specs.Rules.{inserted, updated, deleted}
use Rattle.resh_rules.specs.Slots.{slot, IsSound, StandsFor, HasEffect}

-- a change names neither `_id` nor a field of the old key
pub record NamesOthers (old : Chunks) (assign : Document) (unset : List (List ℕ)) : Type 0 where
  pub id : is_named assign unset (codes "_id") ≡ false
  pub key : list_all (λ name. not (is_named assign unset name)) old.pattern ≡ true

-- nothing held is sound
abbrev pub EmptyIsSound : Type 0
EmptyIsSound = (old : Chunks) (id : Value) (waiting : List (Option Document))
    → ((donor : ℕ) → slice_index_or waiting donor None ≡ None)
    → IsSound old id (record { output = None; waiting = waiting })

-- what is held soundly stands for its slots
abbrev pub SoundHeldStands : Type 0
SoundHeldStands = (old : Chunks) (id : Value) (held : Held) → IsSound old id held → StandsFor (slot old held) held

-- an insert of a donor's own document keeps what is held sound, and sets the donor's slot to the document
pub record InsertSets : Type 0 where
  pub sound : (old : Chunks) (id : Value) (held : Held) (donor : ℕ) (document : Document) → IsSound old id held
      → IsWhole document → id_of document ≡ id → owner_of old document ≡ donor
      → IsSound old id (inserted old donor document held)
  pub effect : (old : Chunks) (id : Value) (held : Held) (donor : ℕ) (document : Document) → IsSound old id held
      → owner_of old document ≡ donor → donor < length held.waiting
      → HasEffect old donor (set_to document) held (inserted old donor document held)

-- an update that names neither `_id` nor the key keeps what is held sound, and changes the document of the donor's slot
pub record UpdateChanges : Type 0 where
  pub sound : (old : Chunks) (id : Value) (held : Held) (donor : ℕ) (change : Change) → IsSound old id held
      → HasRisingNames change.assign → NamesOthers old change.assign change.unset
      → IsSound old id (updated old donor change held)
  pub effect : (old : Chunks) (id : Value) (held : Held) (donor : ℕ) (change : Change) → IsSound old id held
      → NamesOthers old change.assign change.unset
      → HasEffect old donor (changed_by change.assign change.unset) held (updated old donor change held)

-- a delete keeps what is held sound, and empties the donor's slot
pub record DeleteEmpties : Type 0 where
  pub sound : (old : Chunks) (id : Value) (held : Held) (donor : ℕ) → IsSound old id held
      → IsSound old id (deleted old donor held)
  pub effect : (old : Chunks) (id : Value) (held : Held) (donor : ℕ) → IsSound old id held
      → HasEffect old donor emptied held (deleted old donor held)
