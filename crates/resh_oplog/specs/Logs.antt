-- What a log holds, and what of it a recipient has yet to read.
use Rattle.std.specs.Prelude.{◌≡◌, ℕ, Bool, true, false, ◌&&◌, ◌==◌, nat_lt, List, map, filter, codes, Option, Some, None, refl}
use Rattle.std.specs.Option.{option_map}
use Rattle.std.specs.Coded.{Coded, code_by, coded×, coded_list}
use Rattle.std.specs.Ordering.{is_lt}
use Rattle.std.specs.List.{All, last_or}
use Rattle.std.specs.List.Sorted.{IsStrictlySortedBy}
use Rattle.resh_stamp.specs.Laws.{IsMark}
use Rattle.resh_stamp.specs.Times.{mark_cmp}
use Rattle.resh_stamp.specs.declared.stamp.Mark.{Mark}
use Rattle.resh_value.specs.Lookup.{field_of}
use Rattle.resh_value.specs.Whole.{has_rising_names, is_whole as is_whole_document}
use Rattle.resh_value.specs.declared.value.ShardId.{ShardId}
use Rattle.resh_value.specs.declared.value.Value.{Value}
use Rattle.resh_value.specs.contracts.value.ShardId as shard_id
use Rattle.resh_oplog.specs.contracts.entry.Entry as entry
use Rattle.resh_oplog.specs.declared.entry.Entry.{Entry}
use Rattle.resh_oplog.specs.declared.entry.What.{What}
use Rattle.resh_oplog.specs.declared.entry.What.TheVariants.{Insert, Update, Delete, Final}

-- the `_id` that is written; a final entry writes none
abbrev pub id_written : What → Option Value
id_written (Insert document) = field_of document (codes "_id")
id_written (Update id change) = Some id
id_written (Delete id) = Some id
id_written Final = None

-- an inserted document can be stored, and the names that an update assigns rise
abbrev pub is_whole : What → Bool
is_whole (Insert document) = is_whole_document document
is_whole (Update id change) = has_rising_names change.assign
is_whole (Delete id) = true
is_whole Final = true

abbrev pub mark_of : Entry → Mark
mark_of entry = record { stamp = entry.stamp; part = entry.part }

-- each entry's mark is above that of the one before
abbrev pub IsRising : List Entry → Type 0
IsRising entries = IsStrictlySortedBy mark_cmp (map mark_of entries)

-- what each entry writes is whole
abbrev pub AreWhole : List Entry → Type 0
AreWhole entries = All (λ entry. is_whole entry.what ≡ true) entries

-- the nodes and parts of entries are numbers of 32 bits
abbrev pub AreMarked : List Entry → Type 0
AreMarked entries = All (λ entry. IsMark (mark_of entry)) entries

-- what a log may hold
pub record IsLog (entries : List Entry) : Type 0 where
  pub rising : IsRising entries
  pub whole : AreWhole entries
  pub marked : AreMarked entries

-- a log: its donor, and its entries
pub record LogOf : Type 0 where
  pub donor : ShardId
  pub entries : List Entry

abbrev pub log_code : Coded LogOf
log_code =
    code_by (ShardId × List Entry) (coded× shard_id.the_row.coded (coded_list entry.the_row.coded))
    (λ l. (l.donor, l.entries)) (λ p. record { donor = p.0; entries = p.1 }) (λ _. refl)

abbrev pub last_mark : List Entry → Option Mark
last_mark entries = option_map mark_of (last_or None entries)

-- the entry stands above a mark, or no mark is given
abbrev pub is_above : Option Mark → Mark → Bool
is_above None mark = true
is_above (Some before) mark = is_lt (mark_cmp before mark)

-- an entry may come behind others: its mark is above the last, and what it writes is whole
abbrev pub fits : List Entry → Entry → Bool
fits entries entry = is_above (last_mark entries) (mark_of entry) && is_whole entry.what

abbrev pub is_for : ℕ → Option ShardId → Bool
is_for recipient None = false
is_for recipient (Some to) = to.0 == recipient

-- the entries above a mark that are destined to a recipient
abbrev pub entries_after : Option Mark → ℕ → List Entry → List Entry
entries_after mark recipient entries =
    filter (λ entry. is_above mark (mark_of entry) && is_for recipient entry.to) entries

-- the entries of a later time that are destined to a recipient
abbrev pub later_entries : ℕ → ℕ → List Entry → List Entry
later_entries time recipient entries =
    filter (λ entry. nat_lt time entry.stamp.time && is_for recipient entry.to) entries
