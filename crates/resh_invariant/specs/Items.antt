-- What a donor has and logs: items of its own, by the old map.
use Rattle.std.specs.Prelude.{◌≡◌, ⊤, ℕ, List}
use Rattle.std.specs.List.{AllByRecursion}
use Rattle.resh_value.specs.Names.{HasRisingNames}
use Rattle.resh_value.specs.Whole.{IsWhole}
use Rattle.resh_chunks.specs.Chunks.{Chunks, owner_of}
use Rattle.resh_oplog.specs.declared.entry.Entry.{Entry}
use Rattle.resh_oplog.specs.declared.entry.What.{What}
use Rattle.resh_oplog.specs.declared.entry.What.TheVariants.{Insert, Update, Delete, Final}
use Rattle.resh_rules.specs.Laws.{NamesOthers}
use Rattle.resh_versions.specs.Standing.{VersionsOf, standing}

-- an inserted document is whole and the donor's; the names that an update assigns rise, and it names neither `_id` nor a
-- field of the old key
abbrev pub IsItemOf : Chunks → ℕ → What → Type 0
IsItemOf old donor (Insert document) = IsWhole document × (owner_of old document ≡ donor)
IsItemOf old donor (Update id change) = HasRisingNames change.assign × NamesOthers old change.assign change.unset
IsItemOf old donor (Delete id) = ⊤
IsItemOf old donor Final = ⊤

abbrev pub AreItemsOf : Chunks → ℕ → List What → Type 0
AreItemsOf old donor whats = AllByRecursion (IsItemOf old donor) whats

-- all that a donor ever had, and all that it logged
pub record HasItems (old : Chunks) (donor : ℕ) (versions : VersionsOf) (log : List Entry) : Type 0 where
  pub documents : (time : ℕ) → AllByRecursion (λ document. IsItemOf old donor (Insert document)) (standing versions time)
  pub entries : AllByRecursion (λ entry. IsItemOf old donor entry.what) log
