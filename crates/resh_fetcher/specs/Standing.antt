-- Where a link stands in its feed.
use Rattle.std.specs.Prelude.{◌≡◌, ◌≤◌, ℕ, min, Bool, true, false, List, [], ◌++◌, length, filter, replicate, Option, Some, None}
use Rattle.std.specs.List.{AllByRecursion}
use Rattle.std.specs.Option.{option_or}
use Rattle.resh_oplog.specs.declared.entry.Entry.{Entry}
use Rattle.resh_progress.specs.declared.kept.Kept.{Kept}
use Rattle.resh_feed.specs.Feeds.{is_past, items_of, whats}
use Rattle.resh_feed.specs.Items.{Document, past_all}
use Rattle.resh_feed.specs.Lanes.{counts_after}
use Rattle.resh_feed.specs.declared.item.After.{After}
use Rattle.resh_feed.specs.declared.item.After.TheVariants.{ById, ByMark}
use Rattle.resh_feed.specs.declared.item.Item.{Item}
use Rattle.resh_feed.specs.declared.item.Reading.{Reading}
use Rattle.resh_fetcher.specs.Links.{LinkOf, last_id, nothing_read}
use Rattle.resh_fetcher.specs.declared.state.Out.{Out}

-- how far a feed is read with a front of it
abbrev pub read_with : List Item → Reading
read_with front = past_all nothing_read front

-- a place of a feed, by the front before it: how many items, how many of each lane, and how far the feed is read there
pub record StandsAt (n : ℕ) (front : List Item) (k : ℕ) (counts : List ℕ) (r : Reading) : Type 0 where
  pub place : k ≡ length front
  pub lanes : counts ≡ counts_after n (replicate n 0) (whats front)
  pub reading : r ≡ read_with front

abbrev pub kept_reading : Kept → Reading
kept_reading kept = record { last_id = kept.last_id; mark = kept.mark; finished = kept.finished }

abbrev pub out_reading : Kept → Out → Reading
out_reading kept o =
    record { last_id = option_or o.reading.last_id kept.last_id; mark = o.reading.mark; finished = o.reading.finished }

abbrev pub link_reading : LinkOf → Reading
link_reading l = record { last_id = last_id l; mark = l.reading.mark; finished = l.reading.finished }

-- the batch that is out ends behind the front and what was sent
abbrev pub OutStands : ℕ → Kept → Option Out → List Item → List Item → Type 0
OutStands n kept None front sent = sent ≡ []
OutStands n kept (Some o) front sent = StandsAt n (front ++ sent) o.place o.lanes (out_reading kept o)

-- the clone part is read out at a place
abbrev pub IsReadOut : Bool → ℕ → ℕ → Type 0
IsReadOut true docs place = docs ≤ place
IsReadOut false docs place = place ≤ docs

abbrev pub IsEntry : After → Type 0
IsEntry (ById id) = ⊥
IsEntry (ByMark mark) = true ≡ true

-- a feed is what is kept, what is out, what is in the buffer, and the rest
pub record LinkFits (n : ℕ) (docs : List Document) (entries : List Entry) (l : LinkOf) : Type 0 where
  pub front : List Item
  pub out : List Item
  pub rest : List Item
  pub parts : items_of docs entries ≡ front ++ (out ++ (l.buffer ++ rest))
  pub kept : StandsAt n front l.kept.place l.kept.lanes (kept_reading l.kept)
  pub sent : OutStands n l.kept l.out front out
  pub reading : link_reading l ≡ read_with (front ++ (out ++ l.buffer))
  pub unread : l.reading.last_id ≡ None → AllByRecursion (λ item. IsEntry item.after) (out ++ l.buffer)
  pub clones : l.clones ≡ min (length docs) (length (front ++ (out ++ l.buffer)))
  pub read_out : IsReadOut l.read_out (length docs) (length (front ++ (out ++ l.buffer)))
  pub kept_out : IsReadOut l.kept.read_out (length docs) (length front)

-- the documents that a clone reads next
abbrev pub next_documents : LinkOf → List Document → List Document
next_documents l docs = filter (is_past (last_id l)) docs
