-- A recipient's link to a donor, and what each call makes of it.
use Rattle.std.specs.Prelude.{◌≡◌, ℕ, ◌+◌, ◌-◌, ◌<◌, ◌≤◌, ◌^◌, min, Bool, true, false, ◌&&◌, cond, List, [], ◌∷◌, ◌++◌, length, map, take, drop, Option, Some, None, unwrap_or, nat_le, nat_lt}
use Rattle.std.specs.Option.{option_map_or, option_or}
use Rattle.resh_stamp.specs.Times as times
use Rattle.resh_stamp.specs.declared.stamp.Mark.{Mark}
use Rattle.resh_value.specs.Limits.{end_of_places}
use Rattle.resh_value.specs.declared.value.ShardId.{ShardId}
use Rattle.resh_value.specs.declared.value.Value.{Value}
use Rattle.resh_oplog.specs.Logs.{entries_after}
use Rattle.resh_oplog.specs.declared.entry.Entry.{Entry}
use Rattle.resh_progress.specs.Start.{start}
use Rattle.resh_progress.specs.declared.kept.Kept.{Kept}
use Rattle.resh_feed.specs.Items.{Document, AreWhole, cloned_item, fetched_item, last_id_of, last_mark_of, past_all, up_to_final, has_final}
use Rattle.resh_feed.specs.declared.item.Item.{Item}
use Rattle.resh_feed.specs.declared.item.Reading.{Reading}
use Rattle.resh_fetcher.specs.declared.batch.Batch.{Batch}
use Rattle.resh_fetcher.specs.declared.fetched.Fetched.{Fetched}
use Rattle.resh_fetcher.specs.declared.fetched.Fetched.TheVariants.{Got, Nothing}
use Rattle.resh_fetcher.specs.declared.state.LinkState.{LinkState}
use Rattle.resh_fetcher.specs.declared.state.Out.{Out}

-- a link
abbrev pub LinkOf : Type 0
LinkOf = LinkState

-- the place behind the batch that is out, and the kept one where none is
abbrev pub out_end : Kept → Option Out → ℕ
out_end kept out = option_map_or (λ o. o.place) out kept.place

-- each lane's position at the end of the batch that is out, and the kept one where none is
abbrev pub ends_of : Kept → Option Out → List ℕ
ends_of kept out = option_map_or (λ o. o.lanes) out kept.lanes

-- what holds of a link's parts
pub record AreSound (lanes batch : ℕ) (kept : Kept) (out : Option Out) (buffer : List Item) (clones : ℕ) : Type 0 where
  pub some_lane : 0 < lanes
  pub some_item : 0 < batch
  pub whole : AreWhole buffer
  pub rises : kept.place ≤ out_end kept out
  pub within : out_end kept out + length buffer < end_of_places
  pub count : clones < end_of_places
  pub starts : length kept.lanes ≡ lanes
  pub stops : length (ends_of kept out) ≡ lanes

-- what every link meets
abbrev pub IsLink : LinkOf → Type 0
IsLink l = AreSound l.lanes l.batch l.kept l.out l.buffer l.clones

-- nothing is read
abbrev pub nothing_read : Reading
nothing_read = record { last_id = None; mark = None; finished = false }

-- a new link
abbrev pub fresh : ShardId → ShardId → ℕ → ℕ → LinkOf
fresh recipient donor lanes batch =
    record {
      recipient = recipient;
      donor = donor;
      lanes = lanes;
      batch = batch;
      started = false;
      fetch_time = 0;
      is_open = false;
      failed = false;
      kept = start lanes;
      out = None;
      buffer = [];
      clones = 0;
      reading = nothing_read;
      read_out = false;
      near = false;
      crashes = 0;
    }

abbrev pub started : LinkOf → ℕ → LinkOf
started l fetch_time = record l { started = true; fetch_time = fetch_time; is_open = true }

abbrev pub closed : LinkOf → LinkOf
closed l = record l { is_open = false }

abbrev pub failed : LinkOf → LinkOf
failed l = record l { is_open = false; failed = true }

-- more items are in the buffer
abbrev pub with_items : LinkOf → List Item → LinkOf
with_items l items = record l { buffer = l.buffer ++ items }

-- clone items were got
abbrev pub with_cloned : LinkOf → List Document → Bool → LinkOf
with_cloned l documents end =
    record l {
      buffer = l.buffer ++ map cloned_item documents;
      clones = l.clones + length documents;
      reading = record l.reading { last_id = option_or (last_id_of documents) l.reading.last_id };
      read_out = end;
    }

-- the mark past which the log is read: that of the last entry got, and above all of the fetch time where none was
abbrev pub mark_read : LinkOf → Mark
mark_read l = unwrap_or l.reading.mark (times.last_mark_of l.fetch_time)

-- the entries that come next
abbrev pub next_entries : LinkOf → List Entry → List Entry
next_entries l entries = up_to_final (take l.batch (entries_after (Some (mark_read l)) l.recipient.0 entries))

-- how far the feed is read with entries
abbrev pub reading_with : Reading → List Entry → Reading
reading_with reading entries =
    record {
      last_id = reading.last_id;
      mark = option_or (last_mark_of entries) reading.mark;
      finished = has_final entries;
    }

-- log entries were got
abbrev pub with_fetched : LinkOf → List Entry → LinkOf
with_fetched l entries =
    record l {
      buffer = l.buffer ++ map fetched_item entries;
      reading = reading_with l.reading entries;
      near = nat_lt (length entries) l.batch;
    }

abbrev pub told_of : List Entry → Fetched
told_of [] = Nothing
told_of (entry ∷ entries) = Got (length (entry ∷ entries)) (has_final (entry ∷ entries))

-- the batch of the first items
abbrev pub cut : LinkOf → ℕ → ℕ → Batch
cut l most time =
    record {
      donor = l.donor;
      place = l.kept.place;
      time = time;
      starts = l.kept.lanes;
      items = map (λ item. item.what) (take most l.buffer);
    }

-- where the batch of the first items ends
abbrev pub out_with : LinkOf → ℕ → List ℕ → Out
out_with l most ends =
    record {
      place = l.kept.place + min most (length l.buffer);
      lanes = ends;
      reading = past_all (record { last_id = None; mark = l.kept.mark; finished = false }) (take most l.buffer);
    }

-- the first items are the batch that is out
abbrev pub sent_out : LinkOf → ℕ → List ℕ → LinkOf
sent_out l most ends = record l { out = Some (out_with l most ends); buffer = drop most l.buffer }

-- the record of a batch's end
abbrev pub kept_at : LinkOf → Out → Kept
kept_at l out =
    record {
      place = out.place;
      lanes = out.lanes;
      last_id = option_or out.reading.last_id l.kept.last_id;
      mark = out.reading.mark;
      read_out = l.read_out && nat_le l.clones out.place;
      finished = out.reading.finished;
    }

-- the batch that was out is kept
abbrev pub batch_kept : LinkOf → LinkOf
batch_kept l = option_map_or (λ out. record l { kept = kept_at l out; out = None }) l.out l

-- the link goes on from the kept record
abbrev pub gone_back : LinkOf → LinkOf
gone_back l =
    record l {
      out = None;
      buffer = [];
      clones = cond l.kept.read_out l.clones l.kept.place;
      reading = record { last_id = None; mark = l.kept.mark; finished = l.kept.finished };
      read_out = l.kept.read_out;
      near = false;
      crashes = min (l.crashes + 1) (2 ^ 32 - 1);
    }

-- the `_id` of the last clone item that was got
abbrev pub last_id : LinkOf → Option Value
last_id l = option_or l.reading.last_id l.kept.last_id

-- no clone item is left: none comes, none is in the buffer or in a batch that is out
abbrev pub is_cloned : LinkOf → Bool
is_cloned l = l.read_out && nat_le l.clones l.kept.place

abbrev pub ends : LinkOf → List ℕ
ends l = ends_of l.kept l.out
