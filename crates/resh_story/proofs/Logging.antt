-- A log goes on holding what a log may.
use Rattle.std.proofs.Common.{◌≡◌, ◌≤◌, ◌<◌, ◌+◌, ◌^◌, inl, inr, ℕ, zero, suc, Bool, true, List, [], ◌∷◌, ◌++◌, length, map, refl, sym, ap, subst, ◌∙◌, arith, Less, Equal}
use Rattle.std.proofs.lemmas.List.{map-append}
use Rattle.std.proofs.lemmas.List.Elements.{All-from_recursion, recursion_from_All}
use Rattle.std.specs.Cmp.{nat_cmp_is}
use Rattle.std.specs.List.{AllByRecursion, range_with_len}
use Rattle.std.specs.List.Sorted.{IsStrictlySortedBy}
use Rattle.std.specs.Ordering.{nat_cmp, ordering_then}
use Rattle.resh_value.specs.declared.value.ShardId.{ShardId}
use Rattle.resh_stamp.specs.Laws.{IsMark}
use Rattle.resh_stamp.specs.Times.{mark_cmp}
use Rattle.resh_stamp.specs.declared.stamp.Mark.{Mark}
use Rattle.resh_stamp.specs.declared.stamp.Stamp.{Stamp}
use Rattle.resh_oplog.specs.Logs.{IsLog, is_whole, mark_of}
use Rattle.resh_oplog.specs.declared.entry.Entry.{Entry}
use Rattle.resh_shard.specs.Shards.{Shard}
use Rattle.resh_shard.specs.Writes.{contents, entries_of}
use Rattle.resh_shard.specs.declared.act.Write.{Write}
use Rattle.resh_shard.specs.declared.act.Write.TheVariants.{Puts, Takes, Turns, Rekeys}
use Rattle.resh_shard.proofs.Logged.{log_grows}
use Rattle.resh_story.specs.Laws.{KeepsLog}
use Rattle.resh_story.specs.Stories.{HasStory}
use Rattle.resh_story.specs.Writing.{IsWriteAt, MayWrite}
use Rattle.resh_story.proofs.Entries.{AreBy, all_both, finals}

abbrev at : Stamp → ℕ → Mark
at stamp part = record { stamp = stamp; part = part }

-- the marks of a stamp, by part
abbrev marks : Stamp → ℕ → ℕ → List Mark
marks stamp from n = map (at stamp) (range_with_len from n)

abbrev Below : Mark → List Mark → Type 0
Below mark ms = AllByRecursion (λ m. mark_cmp mark m ≡ Less) ms

module _ (stamp : Stamp) where
  next_part : (a b : ℕ) → a < b → mark_cmp (at stamp a) (at stamp b) ≡ Less
  next_part a b lt =
      λ i. ordering_then (ordering_then (sym (nat_cmp_is stamp.time stamp.time Equal refl) i) (sym (nat_cmp_is stamp.node stamp.node Equal refl) i)) (sym (nat_cmp_is a b Less lt) i)

  parts_above : (a from n : ℕ) → a < from → Below (at stamp a) (marks stamp from n)
  parts_above a from zero lt = tt
  parts_above a from (suc n) lt = (next_part a from lt, parts_above a (from + 1) n (omega (arith, lt)))

  parts_rise : (from n : ℕ) → IsStrictlySortedBy mark_cmp (marks stamp from n)
  unfolding IsStrictlySortedBy
  parts_rise from zero = tt
  parts_rise from (suc n) = (parts_above from (from + 1) n (omega arith), parts_rise (from + 1) n)

  later_above : (mark : Mark) → mark.stamp.time < stamp.time → (from n : ℕ) → Below mark (marks stamp from n)
  later_above mark lt from zero = tt
  later_above mark lt from (suc n) = (
    ap (λ o. ordering_then (ordering_then o (nat_cmp mark.stamp.node stamp.node)) (nat_cmp mark.part from)) (sym (nat_cmp_is mark.stamp.time stamp.time Less lt)),
    later_above mark lt (from + 1) n,
  )

  parts_marked : (from n : ℕ) → stamp.node < 2 ^ 32 → from + n ≤ 2 ^ 32 → AllByRecursion IsMark (marks stamp from n)
  parts_marked from zero node few = tt
  parts_marked from (suc n) node few = (record { node = node; part = omega (arith, few) }, parts_marked (from + 1) n node (omega (arith, few)))

  -- marks of an earlier time, and then those
  on_top : (es : List Entry) (clock from n : ℕ) → AreBy clock es → clock < stamp.time → IsStrictlySortedBy mark_cmp (map mark_of es)
      → IsStrictlySortedBy mark_cmp (map mark_of es ++ marks stamp from n)
  unfolding IsStrictlySortedBy
  on_top [] clock from n by lt s = parts_rise from n
  on_top (e ∷ es) clock from n by lt s = (
    all_both (λ m. mark_cmp (mark_of e) m ≡ Less) (map mark_of es) (marks stamp from n) s.0
        (later_above (mark_of e) (let le = by.0 in omega (arith, le, lt)) from n),
    on_top es clock from n by.1 lt s.1,
  )

-- entries of such marks, put behind a log of an earlier time
module _ (stamp : Stamp) (clock from n : ℕ) (log more : List Entry) (is : IsLog log) (by : AreBy clock log) (lt : clock < stamp.time)
    (node : stamp.node < 2 ^ 32) (few : from + n ≤ 2 ^ 32) (marked : map mark_of more ≡ marks stamp from n)
    (whole : AllByRecursion (λ entry. is_whole entry.what ≡ true) more) where
  marks_are : (es : List Entry) → AllByRecursion IsMark (map mark_of es) → AllByRecursion (λ entry. IsMark (mark_of entry)) es
  marks_are [] all = tt
  marks_are (e ∷ es) all = (all.0, marks_are es all.1)

  pub log_more : IsLog (log ++ more)
  log_more = record {
    rising = subst (IsStrictlySortedBy mark_cmp) (ap (λ ms. map mark_of log ++ ms) (sym marked) ∙ sym (map-append mark_of log more)) (on_top stamp log clock from n by lt is.rising);
    whole = All-from_recursion (λ (e : Entry). is_whole e.what ≡ true) (log ++ more)
        (all_both (λ (e : Entry). is_whole e.what ≡ true) log more (recursion_from_All (λ (e : Entry). is_whole e.what ≡ true) log is.whole) whole);
    marked = All-from_recursion (λ (e : Entry). IsMark (mark_of e)) (log ++ more)
        (all_both (λ (e : Entry). IsMark (mark_of e)) log more (recursion_from_All (λ (e : Entry). IsMark (mark_of e)) log is.marked)
        (marks_are more (subst (AllByRecursion IsMark) (sym marked) (parts_marked stamp from n node few))));
  }

-- what is logged of a write is whole
module _ (shard : Shard) (donor : ShardId) (stamp : Stamp) (names : Bool) (part : ℕ) where
  write_whole : (w : Write) → IsWriteAt shard w → AllByRecursion (λ entry. is_whole entry.what ≡ true) (entries_of names donor stamp part (contents shard.new_map w))
  write_whole (Puts d) is = (is.0, tt)
  write_whole (Takes d) is = (refl, tt)
  write_whole (Turns d change e) is = (is.3, tt)
  write_whole (Rekeys d e) is = (refl, (is.1, tt))

finals_marks : (donor : ShardId) (stamp : Stamp) (from n : ℕ) → map mark_of (finals donor stamp from n) ≡ marks stamp from n
finals_marks donor stamp from zero = refl
finals_marks donor stamp from (suc n) = ap (λ l. at stamp from ∷ l) (finals_marks donor stamp (from + 1) n)

finals_whole : (donor : ShardId) (stamp : Stamp) (from n : ℕ) → AllByRecursion (λ entry. is_whole entry.what ≡ true) (finals donor stamp from n)
finals_whole donor stamp from zero = tt
finals_whole donor stamp from (suc n) = (refl, finals_whole donor stamp (from + 1) n)

two_contents : (shard : Shard) (w : Write) → length (contents shard.new_map w) ≤ 2
two_contents shard (Puts d) = omega arith
two_contents shard (Takes d) = omega arith
two_contents shard (Turns d change e) = omega arith
two_contents shard (Rekeys d e) = omega arith

writes_log : (clock : ℕ) (stamp : Stamp) (one other : Shard) → IsLog one.log.entries → HasStory clock one → clock < stamp.time → stamp.node < 2 ^ 32
    → MayWrite stamp one other → IsLog other.log.entries
writes_log clock stamp one other is has lt node (inl same) = subst (λ (s : Shard). IsLog s.log.entries) (sym same) is
writes_log clock stamp one other is has lt node (inr (part, w, few, at_it, same)) =
    let two = two_contents one w in
    subst (λ (s : Shard). IsLog s.log.entries) (sym same)
    (log_more stamp clock part (length (contents one.new_map w)) one.log.entries (entries_of one.names one.log.donor stamp part (contents one.new_map w)) is has.dated.logged lt node
    (omega (arith, few, two)) (log_grows.marks one.names one.log.donor stamp part (contents one.new_map w))
    (write_whole one one.log.donor stamp one.names part w at_it))

pub keeps_log : KeepsLog
keeps_log = record {
  writes = writes_log;
  blocks = λ clock stamp shard is has lt node few.
      log_more stamp clock 0 shard.new_map.shards shard.log.entries (finals shard.log.donor stamp 0 shard.new_map.shards) is has.dated.logged lt node
      (omega (arith, few)) (finals_marks shard.log.donor stamp 0 shard.new_map.shards) (finals_whole shard.log.donor stamp 0 shard.new_map.shards);
}
