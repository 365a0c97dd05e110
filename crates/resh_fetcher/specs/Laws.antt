-- What holds of a link and its feed: each call leaves the link standing in it, and what it gets next stands next.
use Rattle.std.specs.Prelude.{◌≡◌, ℕ, true, false, List, ◌++◌, length, map, take, None, nat_lt}
use Rattle.std.specs.List.Sorted.{IsStrictlySortedBy}
use Rattle.resh_value.specs.Lookup.{id_of}
use Rattle.resh_value.specs.Order.{compare_of}
use Rattle.resh_value.specs.declared.value.ShardId.{ShardId}
use Rattle.resh_oplog.specs.Logs.{IsLog, later_entries}
use Rattle.resh_oplog.specs.declared.entry.Entry.{Entry}
use Rattle.resh_feed.specs.Feeds.{whats}
use Rattle.resh_feed.specs.Items.{Document, up_to_final}
use Rattle.resh_feed.specs.Lanes.{counts_after}
use Rattle.resh_fetcher.specs.Links.{LinkOf, batch_kept, fresh, gone_back, next_entries, sent_out, started, with_cloned, with_fetched}
use Rattle.resh_fetcher.specs.Standing.{LinkFits, next_documents}

-- documents rise by `_id`
abbrev pub AreListed : List Document → Type 0
AreListed docs = IsStrictlySortedBy compare_of (map id_of docs)

-- the documents that a clone brings, and whether they are the last
abbrev pub cloned_next : LinkOf → List Document → LinkOf
cloned_next l docs =
    with_cloned l (take l.batch (next_documents l docs)) (nat_lt (length (next_documents l docs)) l.batch)

-- the log's part of a link's feed
abbrev pub log_part : LinkOf → List Entry → List Entry
log_part l log = up_to_final (later_entries l.fetch_time l.recipient.0 log)

-- the positions behind a batch of the buffer's first items
abbrev pub counts_sent : ℕ → LinkOf → ℕ → List ℕ
counts_sent lanes l most = counts_after lanes l.kept.lanes (whats (take most l.buffer))

-- a link goes on standing in its feed
pub record StandsOn : Type 0 where
  -- at the beginning of any feed
  pub started :
      (lanes batch time : ℕ) (docs : List Document) (entries : List Entry) (recipient donor : ShardId)
      → LinkFits lanes docs entries (started (fresh recipient donor lanes batch) time)
  -- with the documents that come next
  pub cloned :
      (lanes : ℕ) (docs : List Document) (entries : List Entry) (l : LinkOf)
      → AreListed docs → l.read_out ≡ false → LinkFits lanes docs entries l
      → LinkFits lanes docs entries (cloned_next l docs)
  -- with the entries that come next
  pub fetched :
      (lanes : ℕ) (docs : List Document) (log : List Entry) (l : LinkOf)
      → IsLog log → l.read_out ≡ true → l.reading.finished ≡ false
      → LinkFits lanes docs (log_part l log) l
      → LinkFits lanes docs (log_part l log) (with_fetched l (next_entries l log))
  -- when a batch is cut, and when it is kept
  pub sent :
      (lanes most : ℕ) (docs : List Document) (entries : List Entry) (l : LinkOf)
      → l.out ≡ None → l.kept.finished ≡ false → LinkFits lanes docs entries l
      → LinkFits lanes docs entries (sent_out l most (counts_sent lanes l most))
  pub kept :
      (lanes : ℕ) (docs : List Document) (entries : List Entry) (l : LinkOf)
      → LinkFits lanes docs entries l → LinkFits lanes docs entries (batch_kept l)
  -- after it went back
  pub back :
      (lanes : ℕ) (docs : List Document) (entries : List Entry) (l : LinkOf)
      → LinkFits lanes docs entries l → LinkFits lanes docs entries (gone_back l)
  -- and once the feed is longer
  pub longer :
      (lanes : ℕ) (docs : List Document) (entries more : List Entry) (l : LinkOf)
      → LinkFits lanes docs entries l → LinkFits lanes docs (entries ++ more) l
