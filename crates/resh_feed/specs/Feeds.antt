-- The feed of a donor for a recipient: what the donor held at the fetch time for it, then its later entries for it.
use Rattle.std.specs.Prelude.{ℕ, Bool, true, List, ◌++◌, map, filter, Option, Some, None, unwrap_or}
use Rattle.std.specs.Ordering.{is_lt}
use Rattle.resh_value.specs.Lookup.{id_of}
use Rattle.resh_value.specs.Order.{compare_of}
use Rattle.resh_value.specs.declared.value.Value.{Value}
use Rattle.resh_stamp.specs.Times as times
use Rattle.resh_oplog.specs.Logs.{entries_after, later_entries}
use Rattle.resh_oplog.specs.declared.entry.Entry.{Entry}
use Rattle.resh_oplog.specs.declared.entry.What.{What}
use Rattle.resh_feed.specs.Items.{Document, cloned_item, fetched_item, last_id_of, last_mark_of, up_to_final}
use Rattle.resh_feed.specs.declared.item.Item.{Item}

-- the items of documents and of entries
abbrev pub items_of : List Document → List Entry → List Item
items_of documents entries = map cloned_item documents ++ map fetched_item entries

-- the items of a feed: the documents, by `_id`, that were held at the fetch time and whose new owner is the recipient,
-- and the later entries for it, up to its final one
abbrev pub feed_items : ℕ → ℕ → List Document → List Entry → List Item
feed_items recipient fetch_time documents log =
    items_of documents (up_to_final (later_entries fetch_time recipient log))

abbrev pub whats : List Item → List What
whats items = map (λ item. item.what) items

abbrev pub feed : ℕ → ℕ → List Document → List Entry → List What
feed recipient fetch_time documents log = whats (feed_items recipient fetch_time documents log)

-- a document stands past an `_id`, or no `_id` is given
abbrev pub is_past : Option Value → Document → Bool
is_past None document = true
is_past (Some id) document = is_lt (compare_of id (id_of document))

-- the documents that a clone reads next, and the entries that a fetch does, where these were read before
abbrev pub next_documents : List Document → List Document → List Document
next_documents read documents = filter (is_past (last_id_of read)) documents

abbrev pub next_entries : ℕ → ℕ → List Entry → List Entry → List Entry
next_entries recipient fetch_time read log =
    entries_after (Some (unwrap_or (last_mark_of read) (times.last_mark_of fetch_time))) recipient log
