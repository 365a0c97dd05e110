-- The entries of several donors for one `_id`, in whatever order they come.
use Rattle.std.specs.Prelude.{◌≡◌, ◌<◌, ◌==◌, ℕ, ⊤, List, [], ◌∷◌, length, filter, All, Option}
use Rattle.resh_value.specs.Lookup.{id_of}
use Rattle.resh_value.specs.Names.{HasRisingNames}
use Rattle.resh_value.specs.Whole.{IsWhole}
use Rattle.resh_value.specs.declared.value.Value.{Value}
use Rattle.resh_chunks.specs.Chunks.{Chunks, owner_of}
use Rattle.resh_oplog.specs.declared.entry.What.{What}
use Rattle.resh_oplog.specs.declared.entry.What.TheVariants.{Insert, Update, Delete, Final}
use Rattle.resh_stash.specs.Stored.{Document}
use Rattle.resh_feed.specs.Effects.{effect_of}
use Rattle.resh_rules.specs.Held.{Held}
use Rattle.resh_rules.specs.Laws.{NamesOthers}
use Rattle.resh_rules.specs.Rules.{step_of}
use Rattle.resh_rules.specs.Slots.{slot, IsSound}

-- entries, each with its donor, one after another
abbrev pub after_all : Chunks → List (ℕ × What) → Held → Held
after_all old [] held = held
after_all old (entry ∷ entries) held = after_all old entries (step_of old entry.0 entry.1 held)

-- the entries of one donor
abbrev pub of_donor : ℕ → List (ℕ × What) → List (ℕ × What)
of_donor donor entries = filter (λ entry. entry.0 == donor) entries

abbrev pub in_turn : List (ℕ × What) → Option Document → Option Document
in_turn [] before = before
in_turn (entry ∷ entries) before = in_turn entries (effect_of entry.1 before)

-- what the entries of one donor alone make of its slot
abbrev pub effects : ℕ → List (ℕ × What) → Option Document → Option Document
effects donor entries before = in_turn (of_donor donor entries) before

-- an inserted document is whole, has the `_id` and is owned by its donor; an update names neither `_id` nor the old
-- key, and the names that it assigns rise
abbrev pub MayComeFrom : Chunks → Value → ℕ → What → Type 0
MayComeFrom old id donor (Insert document) =
    IsWhole document × (id_of document ≡ id) × (owner_of old document ≡ donor)
MayComeFrom old id donor (Update own change) =
    HasRisingNames change.assign × NamesOthers old change.assign change.unset
MayComeFrom old id donor (Delete own) = ⊤
MayComeFrom old id donor Final = ⊤

-- an entry that may come from one of so many donors
abbrev pub MayCome : Chunks → Value → ℕ → ℕ × What → Type 0
MayCome old id donors entry = (entry.0 < donors) × MayComeFrom old id entry.0 entry.1

-- the donors are those that have a place to wait
abbrev pub AllMayCome : Chunks → Value → Held → List (ℕ × What) → Type 0
AllMayCome old id held entries = All (MayCome old id (length held.waiting)) entries

-- what is held stays sound, and the slot of each donor is what its own entries make of it; so two orders that have
-- the same entries of each donor leave the same slots
pub record Interleaves : Type 0 where
  pub sound : (old : Chunks) (id : Value) (held : Held) (entries : List (ℕ × What))
      → IsSound old id held → AllMayCome old id held entries → IsSound old id (after_all old entries held)
  pub slots : (old : Chunks) (id : Value) (held : Held) (entries : List (ℕ × What))
      → IsSound old id held → AllMayCome old id held entries
      → (donor : ℕ) → slot old (after_all old entries held) donor ≡ effects donor entries (slot old held donor)
  pub alike : (old : Chunks) (id : Value) (held : Held) (one other : List (ℕ × What))
      → IsSound old id held → AllMayCome old id held one → AllMayCome old id held other
      → ((donor : ℕ) → of_donor donor one ≡ of_donor donor other)
      → (donor : ℕ) → slot old (after_all old one held) donor ≡ slot old (after_all old other held) donor
