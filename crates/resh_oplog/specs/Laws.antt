-- What holds of logs and of what entries write.
use Rattle.std.specs.Prelude.{◌≡◌, ◌↔◌, ◌⊎◌, ℕ, true, List, Some, is_some}
use Rattle.resh_stamp.specs.Times.{last_mark_of}
use Rattle.resh_value.specs.Names.{HasRisingNames}
use Rattle.resh_value.specs.Whole.{IsWhole}
use Rattle.resh_value.specs.declared.change.Change.{Change}
use Rattle.resh_value.specs.declared.value.Value.{Value}
use Rattle.resh_oplog.specs.Logs.{AreMarked, entries_after, fits, id_written, is_above, is_whole, last_mark, later_entries, mark_of}
use Rattle.resh_oplog.specs.declared.entry.Entry.{Entry}
use Rattle.resh_oplog.specs.declared.entry.What.{What}
use Rattle.resh_oplog.specs.declared.entry.What.TheVariants.{Insert, Update, Final}

-- what is whole, in the words of documents and changes
pub record SaysWhole : Type 0 where
  pub inserts : (document : List (List ℕ × Value)) → (is_whole (Insert document) ≡ true) ↔ IsWhole document
  pub updates : (id : Value) (change : Change) → (is_whole (Update id change) ≡ true) ↔ HasRisingNames change.assign
  -- a whole content writes an `_id`, but for the final one
  pub named : (what : What) → is_whole what ≡ true → (what ≡ Final) ⊎ (is_some (id_written what) ≡ true)

-- an entry fits exactly where its mark is above the last and what it writes is whole
abbrev pub SaysFit : Type 0
SaysFit = (entries : List Entry) (entry : Entry)
    → (fits entries entry ≡ true)
    ↔ ((is_above (last_mark entries) (mark_of entry) ≡ true) × (is_whole entry.what ≡ true))

-- what is read past the last mark of a time is of a later time
abbrev pub ReadsLater : Type 0
ReadsLater = (time recipient : ℕ) (entries : List Entry) → AreMarked entries
    → entries_after (Some (last_mark_of time)) recipient entries ≡ later_entries time recipient entries
