-- What each call makes of where a link stands in its feed.
use Rattle.std.proofs.Common.{◌≡◌, ◌≤◌, ◌<◌, ◌+◌, ℕ, min, Bool, true, false, cond, ◌&&◌, nat_lt, nat_le, List, [], ◌∷◌, ◌++◌, length, map, take, drop, replicate, Option, Some, None, refl, sym, ap, subst, ◌∙◌, arith, rules}
use Rattle.std.proofs.lemmas.List.{append_assoc, length-append, length-map, length-take, map-append, take-append-drop}
use Rattle.std.proofs.lemmas.List.Sums.{fold-append}
use Rattle.std.specs.List.{AllByRecursion}
use Rattle.std.specs.Option.{option_or}
use Rattle.resh_value.specs.Lookup.{id_of}
use Rattle.resh_value.specs.declared.value.Value.{Value}
use Rattle.resh_oplog.specs.declared.entry.Entry.{Entry}
use Rattle.resh_stamp.specs.declared.stamp.Mark.{Mark}
use Rattle.resh_feed.specs.Items.{cloned_item, fetched_item, past, past_all, up_to_final, is_final, id_after, mark_after, last_id_of, last_mark_of}
use Rattle.resh_fetcher.specs.Links.{LinkOf, last_id, with_cloned, with_fetched, sent_out, kept_at, gone_back}
use Rattle.resh_feed.specs.declared.item.After.{After}
use Rattle.resh_feed.specs.declared.item.After.TheVariants.{ById, ByMark}
use Rattle.resh_feed.specs.declared.item.Item.{Item}
use Rattle.resh_fetcher.specs.declared.state.Out.{Out}
use Rattle.resh_feed.specs.declared.item.Reading.{Reading}
use Rattle.resh_feed.specs.Lanes.{counted, counts_after, item_lane}
use Rattle.resh_feed.specs.Feeds.{items_of, whats}
use Rattle.resh_feed.specs.Items.{Document}
use Rattle.resh_fetcher.specs.Links.{nothing_read}
use Rattle.resh_fetcher.specs.Standing.{read_with, StandsAt, out_reading, link_reading, OutStands, IsReadOut, IsEntry, LinkFits}
use Rattle.resh_fetcher.proofs.ItemLists.{split_before, split_past, split_all, ends_from, ids_or, marks_or, past_clones, past_entries, past_on, read_clones, read_entries, ends_is}

-- lists
nothing_more : {X : Type 0} (a : List X) → a ++ [] ≡ a
nothing_more [] = refl
nothing_more (x ∷ xs) = ap (λ l. x ∷ l) (nothing_more xs)

-- four in a row
in_row : (a b c d : List Item) → a ++ (b ++ (c ++ d)) ≡ (a ++ (b ++ c)) ++ d
in_row a b c d = ap (λ x. a ++ x) (sym (append_assoc b c d)) ∙ sym (append_assoc a (b ++ c) d)

all_both : (P : Item → Type 0) (a b : List Item) → AllByRecursion P a → AllByRecursion P b → AllByRecursion P (a ++ b)
all_both P [] b i j = j
all_both P (x ∷ xs) b i j = (i.0, all_both P xs b i.1 j)

all_first : (P : Item → Type 0) (a b : List Item) → AllByRecursion P (a ++ b) → AllByRecursion P a
all_first P [] b i = tt
all_first P (x ∷ xs) b i = (i.0, all_first P xs b i.1)

all_second : (P : Item → Type 0) (a b : List Item) → AllByRecursion P (a ++ b) → AllByRecursion P b
all_second P [] b i = i
all_second P (x ∷ xs) b i = all_second P xs b i.1

abbrev AreEntries : List Item → Type 0
AreEntries items = AllByRecursion (λ item. IsEntry item.after) items

entries_are : (es : List Entry) → AreEntries (map fetched_item es)
entries_are [] = tt
entries_are (e ∷ es) = (refl, entries_are es)

-- options
or_assoc : {X : Type 0} (a b c : Option X) → option_or (option_or a b) c ≡ option_or a (option_or b c)
or_assoc None b c = refl
or_assoc (Some x) b c = refl

or_none : {X : Type 0} (a b : Option X) → option_or a b ≡ None → (a ≡ None) × (b ≡ None)
or_none None b h = (refl, h)
or_none (Some x) b h = cc

no_last : (ds : List Document) → last_id_of ds ≡ None → ds ≡ []
no_last [] h = refl
no_last (d ∷ ds) h = absurd (some_or (last_id_of ds) (sym (ids_or (Some (id_of d)) ds) ∙ h))
  where
    some_or : (o : Option Value) → option_or o (Some (id_of d)) ≡ None → ⊥
    some_or None e = cc
    some_or (Some x) e = cc

-- readings
id_or : (a last : Option Value) (after : After) → id_after (option_or a last) after ≡ option_or (id_after a after) last
id_or a last (ById id) = refl
id_or a last (ByMark m) = refl

past_or : (a last : Option Value) (m : Option Mark) (f : Bool) (xs : List Item)
    → past_all (record { last_id = option_or a last; mark = m; finished = f }) xs
    ≡ record { last_id = option_or (past_all (record { last_id = a; mark = m; finished = f }) xs).last_id last; mark = (past_all (record { last_id = a; mark = m; finished = f }) xs).mark; finished = (past_all (record { last_id = a; mark = m; finished = f }) xs).finished }
past_or a last m f [] = refl
past_or a last m f (x ∷ xs) =
    ap (λ o. past_all (record { last_id = o; mark = mark_after m x.after; finished = is_final x.what }) xs) (id_or a last x.after)
    ∙ past_or (id_after a x.after) last (mark_after m x.after) (is_final x.what) xs

same_id_after : (o : Option Value) (after : After) → IsEntry after → id_after o after ≡ o
same_id_after o (ById id) h = absurd h
same_id_after o (ByMark m) h = refl

last_stays : (r : Reading) (xs : List Item) → AreEntries xs → (past_all r xs).last_id ≡ r.last_id
last_stays r [] h = refl
last_stays r (x ∷ xs) h = last_stays (past r x) xs h.1 ∙ same_id_after r.last_id x.after h.0

module _ (n : ℕ) (docs : List Document) (entries : List Entry) (l : LinkOf) (fits : LinkFits n docs entries l) where
  abbrev got : List Item
  got = fits.front ++ (fits.out ++ l.buffer)

  split : items_of docs entries ≡ got ++ fits.rest
  split = fits.parts ∙ in_row fits.front fits.out l.buffer fits.rest

  -- while the clone part is read
  pub record AtClones : Type 0 where
    pub got : List Document
    pub left : List Document
    pub whole : docs ≡ got ++ left
    pub read : fits.front ++ (fits.out ++ l.buffer) ≡ map cloned_item got
    pub rest : fits.rest ≡ map cloned_item left ++ map fetched_item entries

  pub at_clones : l.read_out ≡ false → AtClones
  at_clones off =
      let le : length got ≤ length docs = subst (λ b. IsReadOut b (length docs) (length got)) off fits.read_out in
      let s = split_before cloned_item docs (map fetched_item entries) got fits.rest split le in
      record { got = s.0; left = s.1; whole = s.2; read = s.3; rest = s.4 }

  clone_read : (at : AtClones) → link_reading l ≡ record { last_id = last_id_of at.got; mark = None; finished = false }
  clone_read at = fits.reading ∙ ap read_with at.read ∙ read_clones at.got

  pub last_clone : (at : AtClones) → last_id l ≡ last_id_of at.got
  last_clone at = ap (λ (r : Reading). r.last_id) (clone_read at)

  pub clone_fits : (at : AtClones) (b : ℕ) → LinkFits n docs entries (with_cloned l (take b at.left) (nat_lt (length at.left) b))
  clone_fits at b =
      let new : List Item = map cloned_item (take b at.left) in
      let rest : List Item = map cloned_item (drop b at.left) ++ map fetched_item entries in
      let more : fits.front ++ (fits.out ++ (l.buffer ++ new)) ≡ got ++ new = in_row fits.front fits.out l.buffer new in
      let rest_is : fits.rest ≡ new ++ rest =
      at.rest ∙ ap (λ x. map cloned_item x ++ map fetched_item entries) (sym (take-append-drop b at.left)) ∙ ap (λ x. x ++ map fetched_item entries) (map-append cloned_item (take b at.left) (drop b at.left))
      ∙ append_assoc new (map cloned_item (drop b at.left)) (map fetched_item entries) in
      let long : length (got ++ new) ≡ length got + length (take b at.left) = length-append got new ∙ ap (λ k. length got + k) (length-map (take b at.left) cloned_item) in
      let got_long : length got ≡ length at.got = ap length at.read ∙ length-map at.got cloned_item in
      let docs_long : length docs ≡ length at.got + length at.left = ap length at.whole ∙ length-append at.got at.left in
      let new_long : length (take b at.left) ≡ min b (length at.left) = length-take b at.left in
      record {
        front = fits.front;
        out = fits.out;
        rest = rest;
        parts = fits.parts ∙ ap (λ x. fits.front ++ (fits.out ++ (l.buffer ++ x))) rest_is ∙ ap (λ x. fits.front ++ (fits.out ++ x)) (sym (append_assoc l.buffer new rest));
        kept = fits.kept;
        sent = fits.sent;
        reading =
            (λ i. record { last_id = or_assoc (last_id_of (take b at.left)) l.reading.last_id l.kept.last_id i; mark = l.reading.mark; finished = l.reading.finished })
            ∙ (λ i. record { last_id = sym (ids_or (last_id l) (take b at.left)) i; mark = l.reading.mark; finished = ap (λ (r : Reading). r.finished) (clone_read at) i })
            ∙ sym (past_clones (last_id l) l.reading.mark (take b at.left))
            ∙ (λ i. past_all (record { last_id = last_id l; mark = l.reading.mark; finished = sym (ap (λ (r : Reading). r.finished) (clone_read at)) i }) new)
            ∙ ap (λ r. past_all r new) fits.reading ∙ sym (past_on nothing_read got new) ∙ ap read_with (sym more);
        unread = λ h. let o = or_none (last_id_of (take b at.left)) l.reading.last_id h in
            subst (λ x. AreEntries (fits.out ++ (l.buffer ++ map cloned_item x))) (sym (no_last (take b at.left) o.0)) (subst (λ x. AreEntries (fits.out ++ x)) (sym (nothing_more l.buffer)) (fits.unread o.1));
        clones = let was = fits.clones in let more_long = ap length more in omega (arith, was, long, got_long, docs_long, new_long, more_long);
        read_out = let more_long : length (fits.front ++ (fits.out ++ (l.buffer ++ new))) ≡ length (got ++ new) = ap length more in
            ends (nat_lt (length at.left) b) refl (length (fits.front ++ (fits.out ++ (l.buffer ++ new)))) (omega (arith, more_long, long, got_long, new_long)) docs_long;
        kept_out = fits.kept_out;
      }
    where
      ends : (c : Bool) → nat_lt (length at.left) b ≡ c → (k : ℕ) → k ≡ length at.got + min b (length at.left) → length docs ≡ length at.got + length at.left → IsReadOut c (length docs) k
      ends true lt k is long = let less : length at.left < b = search (arith, rules) in omega (arith, less, is, long)
      ends false lt k is long = omega (arith, is, long)

  -- once it is read out
  pub record AtEntries : Type 0 where
    pub got : List Entry
    pub left : List Entry
    pub whole : entries ≡ got ++ left
    pub read : fits.front ++ (fits.out ++ l.buffer) ≡ map cloned_item docs ++ map fetched_item got
    pub rest : fits.rest ≡ map fetched_item left

  pub at_entries : l.read_out ≡ true → AtEntries
  at_entries on =
      let le : length docs ≤ length got = subst (λ b. IsReadOut b (length docs) (length got)) on fits.read_out in
      let s = split_past cloned_item docs (map fetched_item entries) got fits.rest split le in
      let t = split_all fetched_item entries s.0 fits.rest s.2 in
      record { got = t.0; left = t.1; whole = t.2; read = s.1 ∙ ap (λ x. map cloned_item docs ++ x) t.3; rest = t.4 }

  entries_read : (at : AtEntries) → link_reading l ≡ record { last_id = last_id_of docs; mark = last_mark_of at.got; finished = ends_from false at.got }
  entries_read at = fits.reading ∙ ap read_with at.read ∙ read_entries docs at.got

  pub last_entry : (at : AtEntries) → l.reading.mark ≡ last_mark_of at.got
  last_entry at = ap (λ (r : Reading). r.mark) (entries_read at)

  pub ends_read : (at : AtEntries) → l.reading.finished ≡ ends_from false at.got
  ends_read at = ap (λ (r : Reading). r.finished) (entries_read at)

  pub fetch_fits : l.read_out ≡ true → l.reading.finished ≡ false → (at : AtEntries) (b : ℕ) → up_to_final (take b at.left) ≡ take b at.left → LinkFits n docs entries (with_fetched l (take b at.left))
  fetch_fits on off at b cut =
      let new : List Item = map fetched_item (take b at.left) in
      let rest : List Item = map fetched_item (drop b at.left) in
      let more : fits.front ++ (fits.out ++ (l.buffer ++ new)) ≡ got ++ new = in_row fits.front fits.out l.buffer new in
      let rest_is : fits.rest ≡ new ++ rest = at.rest ∙ ap (map fetched_item) (sym (take-append-drop b at.left)) ∙ map-append fetched_item (take b at.left) (drop b at.left) in
      let le : length docs ≤ length got = subst (λ c. IsReadOut c (length docs) (length got)) on fits.read_out in
      let more_long : length (fits.front ++ (fits.out ++ (l.buffer ++ new))) ≡ length got + length new = ap length more ∙ length-append got new in
      record {
        front = fits.front;
        out = fits.out;
        rest = rest;
        parts = fits.parts ∙ ap (λ x. fits.front ++ (fits.out ++ (l.buffer ++ x))) rest_is ∙ ap (λ x. fits.front ++ (fits.out ++ x)) (sym (append_assoc l.buffer new rest));
        kept = fits.kept;
        sent = fits.sent;
        reading =
            (λ i. record { last_id = last_id l; mark = sym (marks_or l.reading.mark (take b at.left)) i; finished = sym (ends_is (take b at.left) cut) i })
            ∙ sym (past_entries (last_id l) l.reading.mark false (take b at.left))
            ∙ (λ i. past_all (record { last_id = last_id l; mark = l.reading.mark; finished = sym off i }) new)
            ∙ ap (λ r. past_all r new) fits.reading ∙ sym (past_on nothing_read got new) ∙ ap read_with (sym more);
        unread = λ h. subst AreEntries (append_assoc fits.out l.buffer new) (all_both (λ x. IsEntry x.after) (fits.out ++ l.buffer) new (fits.unread h) (entries_are (take b at.left)));
        clones = let was = fits.clones in omega (arith, was, le, more_long);
        read_out = subst (λ c. IsReadOut c (length docs) (length (fits.front ++ (fits.out ++ (l.buffer ++ new))))) (sym on) (omega (arith, le, more_long));
        kept_out = fits.kept_out;
      }

  -- a batch is cut
  pub cut_parts : l.out ≡ None → (b : ℕ) → items_of docs entries ≡ fits.front ++ (take b l.buffer ++ (drop b l.buffer ++ fits.rest))
  cut_parts none b =
      let none_out : fits.out ≡ [] = subst (λ o. OutStands n l.kept o fits.front fits.out) none fits.sent in
      fits.parts ∙ ap (λ x. fits.front ++ (x ++ (l.buffer ++ fits.rest))) none_out ∙ ap (λ x. fits.front ++ (x ++ fits.rest)) (sym (take-append-drop b l.buffer))
      ∙ ap (λ x. fits.front ++ x) (append_assoc (take b l.buffer) (drop b l.buffer) fits.rest)

  pub cut_fits : l.out ≡ None → l.kept.finished ≡ false → (b : ℕ) → LinkFits n docs entries (sent_out l b (counts_after n l.kept.lanes (whats (take b l.buffer))))
  cut_fits none off b =
      let none_out : fits.out ≡ [] = subst (λ o. OutStands n l.kept o fits.front fits.out) none fits.sent in
      let batch : List Item = take b l.buffer in
      let same : fits.out ++ l.buffer ≡ batch ++ drop b l.buffer = ap (λ x. x ++ l.buffer) none_out ∙ sym (take-append-drop b l.buffer) in
      let same_long : length (fits.front ++ (fits.out ++ l.buffer)) ≡ length (fits.front ++ (batch ++ drop b l.buffer)) = ap (λ x. length (fits.front ++ x)) same in
      record {
        front = fits.front;
        out = batch;
        rest = fits.rest;
        parts = fits.parts ∙ ap (λ x. fits.front ++ x) (sym (append_assoc fits.out l.buffer fits.rest) ∙ ap (λ x. x ++ fits.rest) same ∙ append_assoc batch (drop b l.buffer) fits.rest);
        kept = fits.kept;
        sent = record {
          place = let p = fits.kept.place in let a = length-append fits.front batch in let t = length-take b l.buffer in omega (arith, p, a, t);
          lanes = ap (λ c. counts_after n c (whats batch)) fits.kept.lanes ∙ sym (fold-append (λ before w. counted before (item_lane n w)) (replicate n 0) (whats fits.front) (whats batch))
              ∙ ap (counts_after n (replicate n 0)) (sym (map-append (λ (x : Item). x.what) fits.front batch));
          reading =
              sym (past_or None l.kept.last_id l.kept.mark false batch)
              ∙ (λ i. past_all (record { last_id = l.kept.last_id; mark = l.kept.mark; finished = sym off i }) batch)
              ∙ ap (λ r. past_all r batch) fits.kept.reading ∙ sym (past_on nothing_read fits.front batch);
        };
        reading = fits.reading ∙ ap (λ x. read_with (fits.front ++ x)) same;
        unread = λ h. subst AreEntries same (fits.unread h);
        clones = fits.clones ∙ ap (min (length docs)) same_long;
        read_out = subst (IsReadOut l.read_out (length docs)) same_long fits.read_out;
        kept_out = fits.kept_out;
      }

  -- the batch that is out is kept
  pub keep_fits : (o : Out) → l.out ≡ Some o → LinkFits n docs entries (record l { kept = kept_at l o; out = None })
  keep_fits o is =
      let at : StandsAt n (fits.front ++ fits.out) o.place o.lanes (out_reading l.kept o) = subst (λ x. OutStands n l.kept x fits.front fits.out) is fits.sent in
      let same : fits.front ++ (fits.out ++ l.buffer) ≡ (fits.front ++ fits.out) ++ l.buffer = sym (append_assoc fits.front fits.out l.buffer) in
      let same_long : length (fits.front ++ (fits.out ++ l.buffer)) ≡ length ((fits.front ++ fits.out) ++ l.buffer) = ap length same in
      record {
        front = fits.front ++ fits.out;
        out = [];
        rest = fits.rest;
        parts = fits.parts ∙ sym (append_assoc fits.front fits.out (l.buffer ++ fits.rest));
        kept = at;
        sent = refl;
        reading = (λ i. record { last_id = last l.reading.last_id refl at i; mark = l.reading.mark; finished = l.reading.finished }) ∙ fits.reading ∙ ap read_with same;
        unread = λ h. all_second (λ x. IsEntry x.after) fits.out l.buffer (fits.unread h);
        clones = fits.clones ∙ ap (min (length docs)) same_long;
        read_out = subst (IsReadOut l.read_out (length docs)) same_long fits.read_out;
        kept_out = let le : length (fits.front ++ fits.out) ≤ length got = let a = length-append (fits.front ++ fits.out) l.buffer in omega (arith, a, same_long) in
            ends l.read_out (nat_le l.clones o.place) refl fits.read_out (length (fits.front ++ fits.out)) at.place le fits.clones;
      }
    where
      last : (x : Option Value) → l.reading.last_id ≡ x → StandsAt n (fits.front ++ fits.out) o.place o.lanes (out_reading l.kept o) → option_or l.reading.last_id (option_or o.reading.last_id l.kept.last_id) ≡ option_or l.reading.last_id l.kept.last_id
      last (Some x) e at = ap (λ y. option_or y (option_or o.reading.last_id l.kept.last_id)) e ∙ sym (ap (λ y. option_or y l.kept.last_id) e)
      last None e at =
          ap (λ y. option_or y (option_or o.reading.last_id l.kept.last_id)) e
          ∙ ap (λ (r : Reading). r.last_id) (at.reading ∙ past_on nothing_read fits.front fits.out)
          ∙ last_stays (read_with fits.front) fits.out (all_first (λ x. IsEntry x.after) fits.out l.buffer (fits.unread e))
          ∙ sym (ap (λ (r : Reading). r.last_id) fits.kept.reading)
          ∙ sym (ap (λ y. option_or y l.kept.last_id) e)

      ends : (a b : Bool) → nat_le l.clones o.place ≡ b → IsReadOut a (length docs) (length got) → (k : ℕ) → o.place ≡ k → k ≤ length got → l.clones ≡ min (length docs) (length got) → IsReadOut (a && b) (length docs) k
      ends true true h r k at le clones = let low : l.clones ≤ o.place = search (arith, rules) in omega (arith, low, r, at, le, clones)
      ends true false h r k at le clones = let high : o.place < l.clones = search (arith, rules) in omega (arith, high, r, at, le, clones)
      ends false b h r k at le clones = omega (arith, r, le)

  -- back to what is kept
  pub crash_fits : LinkFits n docs entries (gone_back l)
  crash_fits = record {
    front = fits.front;
    out = [];
    rest = fits.out ++ (l.buffer ++ fits.rest);
    parts = fits.parts;
    kept = fits.kept;
    sent = refl;
    reading = fits.kept.reading ∙ ap read_with (sym (nothing_more fits.front));
    unread = λ h. tt;
    clones = count l.kept.read_out fits.kept_out (length (fits.front ++ [])) (ap length (nothing_more fits.front)) fits.clones fits.kept.place;
    read_out = subst (λ x. IsReadOut l.kept.read_out (length docs) (length x)) (sym (nothing_more fits.front)) fits.kept_out;
    kept_out = fits.kept_out;
  }
    where
      count : (c : Bool) → IsReadOut c (length docs) (length fits.front) → (k : ℕ) → k ≡ length fits.front → l.clones ≡ min (length docs) (length got) → l.kept.place ≡ length fits.front → cond c l.clones l.kept.place ≡ min (length docs) k
      count true h k is clones place =
          let a : length got ≡ length fits.front + length (fits.out ++ l.buffer) = length-append fits.front (fits.out ++ l.buffer) in
          omega (arith, h, is, clones, a)
      count false h k is clones place = omega (arith, h, is, place)

  -- a feed that grows at its end
  pub grown_fits : (more : List Entry) → LinkFits n docs (entries ++ more) l
  grown_fits more = record {
    front = fits.front;
    out = fits.out;
    rest = fits.rest ++ map fetched_item more;
    parts =
        ap (λ x. map cloned_item docs ++ x) (map-append fetched_item entries more) ∙ sym (append_assoc (map cloned_item docs) (map fetched_item entries) (map fetched_item more))
        ∙ ap (λ x. x ++ map fetched_item more) split ∙ append_assoc got fits.rest (map fetched_item more) ∙ sym (in_row fits.front fits.out l.buffer (fits.rest ++ map fetched_item more));
    kept = fits.kept;
    sent = fits.sent;
    reading = fits.reading;
    unread = fits.unread;
    clones = fits.clones;
    read_out = fits.read_out;
    kept_out = fits.kept_out;
  }
