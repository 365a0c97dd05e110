-- A link whose fetch gets nothing has the whole of its feed.
use Rattle.std.proofs.Common.{◌≡◌, ◌<◌, ℕ, Bool, true, false, cond, ◌||◌, List, [], ◌∷◌, ◌++◌, take, Option, Some, unwrap_or, refl, sym, ap, ◌∙◌}
use Rattle.std.specs.List.{fold}
use Rattle.resh_feed.specs.Items.{Document, has_final, is_final, up_to_final}
use Rattle.resh_feed.proofs.GoingOn.{entries_on}
use Rattle.resh_fetcher.specs.Laws.{log_part}
use Rattle.resh_fetcher.specs.Links.{LinkOf, next_entries}
use Rattle.resh_fetcher.specs.Standing.{LinkFits}
use Rattle.resh_fetcher.proofs.Standing.{at_entries, ends_read, last_entry}
use Rattle.resh_oplog.specs.Logs.{IsLog, entries_after, later_entries}
use Rattle.resh_oplog.specs.declared.entry.Entry.{Entry}
use Rattle.resh_stamp.specs.Times as times
use Rattle.resh_stamp.specs.declared.stamp.Mark.{Mark}
use Rattle.resh_ready.proofs.Lists.{none_taken, nothing_more}

-- whether the last of some entries is final
abbrev ends_from : Bool → List Entry → Bool
ends_from before entries = fold (λ b entry. is_final entry.what) before entries

-- a front of what is cut at its final entry has none where it doesn't end with it
no_final : (all front rest : List Entry) → up_to_final all ≡ front ++ rest → ends_from false front ≡ false → has_final front ≡ false
no_final all [] rest is off = refl
no_final [] (e ∷ front) rest is off = cc
no_final (x ∷ all) (e ∷ front) rest is off = by (is_final x.what) refl (no_final all front rest)
  where
    head : x ≡ e
    head = cc

    tail : cond (is_final x.what) [] (up_to_final all) ≡ front ++ rest
    tail = cc

    last : (more : List Entry) → [] ≡ more ++ rest → is_final x.what ≡ true → ends_from (is_final e.what) more ≡ false → ⊥
    last [] none final kept = let on : true ≡ false = sym final ∙ ap (λ (y : Entry). is_final y.what) head ∙ kept in cc
    last (y ∷ more) none final kept = cc

    by : (t : Bool) → is_final x.what ≡ t → (up_to_final all ≡ front ++ rest → ends_from false front ≡ false → has_final front ≡ false)
        → has_final (e ∷ front) ≡ false
    by true final behind = absurd (last front (sym (ap (λ t. cond t [] (up_to_final all)) final) ∙ tail) final off)
    by false final behind =
        let apart : is_final e.what ≡ false = ap (λ (y : Entry). is_final y.what) (sym head) ∙ final in
        ap (λ t. t || has_final front) apart
        ∙ behind (sym (ap (λ t. cond t [] (up_to_final all)) final) ∙ tail) (ap (λ t. ends_from t front) (sym apart) ∙ off)

pub no_more : (n : ℕ) (docs : List Document) (log : List Entry) (l : LinkOf) → IsLog log → 0 < l.batch → l.read_out ≡ true
    → l.reading.finished ≡ false → LinkFits n docs (log_part l log) l → next_entries l log ≡ [] → has_final (log_part l log) ≡ false
no_more n docs log l logged some on off fits nothing =
    let es : List Entry = up_to_final (later_entries l.fetch_time l.recipient.0 log) in
    let at = at_entries n docs es l fits on in
    let none : has_final at.got ≡ false = no_final (later_entries l.fetch_time l.recipient.0 log) at.got at.left at.whole (sym (ends_read n docs es l fits at) ∙ off) in
    let above : Option Mark → List Entry = λ m. take l.batch (entries_after (Some (unwrap_or m (times.last_mark_of l.fetch_time))) l.recipient.0 log) in
    let is : next_entries l log ≡ take l.batch at.left =
    ap (λ m. up_to_final (above m)) (last_entry n docs es l fits at) ∙ entries_on l.recipient.0 l.fetch_time l.batch log at.got at.left logged.rising logged.marked at.whole none in
    let left : at.left ≡ [] = none_taken l.batch at.left some (sym is ∙ nothing) in
    ap has_final (at.whole ∙ ap (λ x. at.got ++ x) left ∙ nothing_more at.got) ∙ none
