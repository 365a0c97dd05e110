-- Each call leaves a link standing in its feed.
use Rattle.std.proofs.Common.{◌≡◌, ℕ, true, false, nat_lt, List, [], length, filter, take, Option, Some, None, unwrap_or, refl, sym, ap, subst, ◌∙◌, arith}
use Rattle.std.specs.Option.{option_map_or}
use Rattle.resh_value.specs.declared.value.ShardId.{ShardId}
use Rattle.resh_stamp.specs.Times as times
use Rattle.resh_stamp.specs.declared.stamp.Mark.{Mark}
use Rattle.resh_oplog.specs.Logs.{IsLog, entries_after, later_entries}
use Rattle.resh_oplog.specs.declared.entry.Entry.{Entry}
use Rattle.resh_feed.specs.Feeds.{is_past, items_of}
use Rattle.resh_feed.specs.Items.{Document, has_final, last_id_of, up_to_final}
use Rattle.resh_feed.proofs.GoingOn.{documents_on, entries_on}
use Rattle.resh_fetcher.specs.Laws.{AreListed, cloned_next, log_part}
use Rattle.resh_fetcher.specs.Links.{LinkOf, batch_kept, fresh, kept_at, next_entries, started, with_cloned, with_fetched}
use Rattle.resh_fetcher.specs.Standing.{LinkFits, next_documents}
use Rattle.resh_fetcher.specs.declared.state.Out.{Out}
use Rattle.resh_fetcher.proofs.Cutting.{cut_again}
use Rattle.resh_fetcher.proofs.ItemLists.{no_final}
use Rattle.resh_fetcher.proofs.Standing.{at_clones, last_clone, clone_fits, at_entries, last_entry, ends_read, fetch_fits, keep_fits}

pub start_fits : (n batch time : ℕ) (docs : List Document) (entries : List Entry) (recipient donor : ShardId) → LinkFits n docs entries (started (fresh recipient donor n batch) time)
start_fits n batch time docs entries recipient donor = record {
  front = [];
  out = [];
  rest = items_of docs entries;
  parts = refl;
  kept = record { place = refl; lanes = refl; reading = refl };
  sent = refl;
  reading = refl;
  unread = λ h. tt;
  clones = omega arith;
  read_out = omega arith;
  kept_out = omega arith;
}

pub cloned_fits : (n : ℕ) (docs : List Document) (entries : List Entry) (l : LinkOf) → AreListed docs → l.read_out ≡ false → LinkFits n docs entries l → LinkFits n docs entries (cloned_next l docs)
cloned_fits n docs entries l listed off fits =
    let at = at_clones n docs entries l fits off in
    let next : next_documents l docs ≡ at.left =
    ap (λ o. filter (is_past o) docs) (last_clone n docs entries l fits at) ∙ ap (filter (is_past (last_id_of at.got))) at.whole ∙ documents_on at.got at.left (subst AreListed at.whole listed) in
    subst (λ ds. LinkFits n docs entries (with_cloned l (take l.batch ds) (nat_lt (length ds) l.batch))) (sym next) (clone_fits n docs entries l fits at l.batch)

pub fetched_fits : (n : ℕ) (docs : List Document) (log : List Entry) (l : LinkOf) → IsLog log → l.read_out ≡ true → l.reading.finished ≡ false
    → LinkFits n docs (log_part l log) l → LinkFits n docs (log_part l log) (with_fetched l (next_entries l log))
fetched_fits n docs log l logged on off fits =
    let es : List Entry = up_to_final (later_entries l.fetch_time l.recipient.0 log) in
    let at = at_entries n docs es l fits on in
    let none : has_final at.got ≡ false = no_final (later_entries l.fetch_time l.recipient.0 log) at.got at.left at.whole (sym (ends_read n docs es l fits at) ∙ off) in
    let above : Option Mark → List Entry = λ m. take l.batch (entries_after (Some (unwrap_or m (times.last_mark_of l.fetch_time))) l.recipient.0 log) in
    let is : next_entries l log ≡ take l.batch at.left =
    ap (λ m. up_to_final (above m)) (last_entry n docs es l fits at) ∙ entries_on l.recipient.0 l.fetch_time l.batch log at.got at.left logged.rising logged.marked at.whole none in
    let cut : up_to_final (take l.batch at.left) ≡ take l.batch at.left = ap up_to_final (sym is) ∙ cut_again (above l.reading.mark) ∙ is in
    subst (λ next. LinkFits n docs es (with_fetched l next)) (sym is) (fetch_fits n docs es l fits on off at l.batch cut)

pub kept_fits : (n : ℕ) (docs : List Document) (entries : List Entry) (l : LinkOf) → LinkFits n docs entries l → LinkFits n docs entries (batch_kept l)
kept_fits n docs entries l fits = by l.out refl
  where
    by : (o : Option Out) → l.out ≡ o → LinkFits n docs entries (option_map_or (λ (out : Out). record l { kept = kept_at l out; out = None }) o l)
    by None e = fits
    by (Some o) e = keep_fits n docs entries l fits o e
