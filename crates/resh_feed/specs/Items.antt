-- The items of a feed, and how far a feed is read behind them.
use Rattle.std.specs.Prelude.{◌≡◌, ℕ, Bool, true, false, cond, List, [], ◌∷◌, Option, Some, None}
use Rattle.std.specs.List.{All, fold, list_any}
use Rattle.resh_stamp.specs.declared.stamp.Mark.{Mark}
use Rattle.resh_value.specs.Lookup.{id_of}
use Rattle.resh_value.specs.declared.value.Value.{Value}
use Rattle.resh_oplog.specs.Logs.{is_whole, mark_of}
use Rattle.resh_oplog.specs.declared.entry.Entry.{Entry}
use Rattle.resh_oplog.specs.declared.entry.What.{What}
use Rattle.resh_oplog.specs.declared.entry.What.TheVariants.{Insert, Update, Delete, Final}
use Rattle.resh_feed.specs.declared.item.After.{After}
use Rattle.resh_feed.specs.declared.item.After.TheVariants.{ById, ByMark}
use Rattle.resh_feed.specs.declared.item.Item.{Item}
use Rattle.resh_feed.specs.declared.item.Reading.{Reading}

abbrev pub Document : Type 0
Document = List (List ℕ × Value)

abbrev pub is_final : What → Bool
is_final (Insert document) = false
is_final (Update id change) = false
is_final (Delete id) = false
is_final Final = true

-- a document that was there at the fetch time
abbrev pub cloned_item : Document → Item
cloned_item document = record { what = Insert document; after = ById (id_of document) }

-- an entry of the donor's log
abbrev pub fetched_item : Entry → Item
fetched_item entry = record { what = entry.what; after = ByMark (mark_of entry) }

-- each item has the `_id` that it writes
abbrev pub AreWhole : List Item → Type 0
AreWhole items = All (λ item. is_whole item.what ≡ true) items

abbrev pub id_after : Option Value → After → Option Value
id_after before (ById id) = Some id
id_after before (ByMark mark) = before

abbrev pub mark_after : Option Mark → After → Option Mark
mark_after before (ById id) = before
mark_after before (ByMark mark) = Some mark

-- how far the feed is read with one more item
abbrev pub past : Reading → Item → Reading
past reading item = record {
  last_id = id_after reading.last_id item.after;
  mark = mark_after reading.mark item.after;
  finished = is_final item.what;
}

-- how far the feed is read with more items
abbrev pub past_all : Reading → List Item → Reading
past_all reading items = fold past reading items

-- the `_id` of the last document
abbrev pub last_id_of : List Document → Option Value
last_id_of documents = fold (λ before document. Some (id_of document)) None documents

-- the mark of the last entry
abbrev pub last_mark_of : List Entry → Option Mark
last_mark_of entries = fold (λ before entry. Some (mark_of entry)) None entries

-- the entries up to the first final one
abbrev pub up_to_final : List Entry → List Entry
up_to_final [] = []
up_to_final (entry ∷ entries) = entry ∷ cond (is_final entry.what) [] (up_to_final entries)

abbrev pub has_final : List Entry → Bool
has_final entries = list_any (λ entry. is_final entry.what) entries
