-- Marks rise along a log: at its end, and in what is left of it.
use Rattle.std.proofs.Common.{rules, ◌≡◌, ℕ, Bool, true, false, ◌&&◌, List, [], ◌∷◌, ◌++◌, Option, Some, None, map, take, length, slice_get, ◌-◌, arith, zero, suc, Less, Equal, Greater, refl, sym, ap, ◌∙◌, subst}
use Rattle.std.proofs.lemmas.List.{map-append, take-map}
use Rattle.std.proofs.lemmas.List.Elements.{All-push, All-take}
use Rattle.std.specs.List.{AllByRecursion, last_or}
use Rattle.std.specs.List.Sorted.{IsStrictlySortedBy}
use Rattle.std.specs.Option.{option_map}
use Rattle.std.specs.Ordering.{is_lt}
use Rattle.std.specs.declared.cmp.Ordering.{Ordering}
use Rattle.resh_stamp.specs.Laws.{IsMark}
use Rattle.resh_stamp.specs.Times.{mark_cmp}
use Rattle.resh_stamp.specs.declared.stamp.Mark.{Mark}
use Rattle.resh_stamp.proofs.Orders.{mark_total}
use Rattle.resh_oplog.specs.Laws.{SaysFit}
use Rattle.resh_oplog.specs.Logs.{IsLog, fits, is_above, is_whole, last_mark, mark_of}
use Rattle.resh_oplog.specs.declared.entry.Entry.{Entry}

pub is_less : (r : Ordering) → is_lt r ≡ true → r ≡ Less
is_less Less e = refl
is_less Equal e = cc
is_less Greater e = cc

abbrev Below : Mark → List Mark → Type 0
Below k ms = AllByRecursion (λ y. mark_cmp k y ≡ Less) ms

-- what stands above the last of some marks stands above what is below them all
over_all : (k : Mark) (last : Mark) (ms : List Mark) (m : Mark) → mark_cmp k last ≡ Less → Below k ms → is_above (last_or (Some last) ms) m ≡ true → mark_cmp k m ≡ Less
over_all k last [] m h b above = mark_total.trans k last m h (is_less (mark_cmp last m) above)
over_all k last (x ∷ ms) m h b above = over_all k x ms m b.0 b.1 above

below_more : (k : Mark) (ms : List Mark) (m : Mark) → Below k ms → mark_cmp k m ≡ Less → Below k (ms ++ m ∷ [])
below_more k [] m b h = (h, tt)
below_more k (x ∷ ms) m b h = (b.0, below_more k ms m b.1 h)

rising_from : (k : Mark) (ms : List Mark) (m : Mark) → IsStrictlySortedBy mark_cmp (k ∷ ms) → is_above (last_or (Some k) ms) m ≡ true → IsStrictlySortedBy mark_cmp ((k ∷ ms) ++ m ∷ [])
unfolding IsStrictlySortedBy
rising_from k [] m s above = ((is_less (mark_cmp k m) above, tt), (tt, tt))
rising_from k (x ∷ ms) m s above = (below_more k (x ∷ ms) m s.0 (over_all k x ms m s.0.0 s.0.1 above), rising_from x ms m s.1 above)

rising_more : (ms : List Mark) (m : Mark) → IsStrictlySortedBy mark_cmp ms → is_above (last_or None ms) m ≡ true → IsStrictlySortedBy mark_cmp (ms ++ m ∷ [])
unfolding IsStrictlySortedBy
rising_more [] m s above = (tt, tt)
rising_more (k ∷ ms) m s above = rising_from k ms m s above

below_fewer : (k : Mark) (ms : List Mark) (n : ℕ) → Below k ms → Below k (take n ms)
below_fewer k [] zero b = tt
below_fewer k [] (suc n) b = tt
below_fewer k (x ∷ ms) zero b = tt
below_fewer k (x ∷ ms) (suc n) b = (b.0, below_fewer k ms n b.1)

rising_fewer : (ms : List Mark) (n : ℕ) → IsStrictlySortedBy mark_cmp ms → IsStrictlySortedBy mark_cmp (take n ms)
unfolding IsStrictlySortedBy
rising_fewer [] zero s = tt
rising_fewer [] (suc n) s = tt
rising_fewer (k ∷ ms) zero s = tt
rising_fewer (k ∷ ms) (suc n) s = (below_fewer k ms n s.0, rising_fewer ms n s.1)

last_of : (o : Option Entry) (es : List Entry) → option_map mark_of (last_or o es) ≡ last_or (option_map mark_of o) (map mark_of es)
last_of o [] = refl
last_of o (e ∷ es) = last_of (Some e) es

last_got : (e : Entry) (es : List Entry) → slice_get (e ∷ es) (length es) ≡ last_or (Some e) es
last_got e [] = refl
last_got e (x ∷ es) = last_got x es

-- the last entry is the one at the last place
pub last_at : (es : List Entry) → option_map mark_of (slice_get es (length es - 1)) ≡ last_mark es
last_at [] = refl
last_at (e ∷ es) = let n : length (e ∷ es) - 1 ≡ length es = omega arith in ap (λ k. option_map mark_of (slice_get (e ∷ es) k)) n ∙ ap (option_map mark_of) (last_got e es)

pub no_entries : IsLog []
unfolding IsStrictlySortedBy
no_entries = record { rising = tt; whole = λ k d h. search rules; marked = λ k d h. search rules }

both : (a b : Bool) → (a && b) ≡ true → (a ≡ true) × (b ≡ true)
both true b e = (refl, e)
both false b e = cc

neither : (a b : Bool) → (a ≡ true) × (b ≡ true) → (a && b) ≡ true
neither true b e = e.1
neither false b e = e.0

pub says_fit : SaysFit
says_fit entries entry =
    let above = is_above (last_mark entries) (mark_of entry) in
    (λ e. both above (is_whole entry.what) e, λ e. neither above (is_whole entry.what) e)

pub one_more : (es : List Entry) (e : Entry) → IsLog es → fits es e ≡ true → IsMark (mark_of e) → IsLog (es ++ e ∷ [])
one_more es e log fit mark = record {
  rising =
      let above = ((says_fit es e).0 fit).0 in
      subst (IsStrictlySortedBy mark_cmp) (sym (map-append mark_of es (e ∷ [])))
      (rising_more (map mark_of es) (mark_of e) log.rising (ap (λ o. is_above o (mark_of e)) (sym (last_of None es)) ∙ above));
  whole = All-push (λ entry. is_whole entry.what ≡ true) es e log.whole ((says_fit es e).0 fit).1;
  marked = All-push (λ entry. IsMark (mark_of entry)) es e log.marked mark;
}

pub fewer : (es : List Entry) (n : ℕ) → IsLog es → IsLog (take n es)
fewer es n log = record {
  rising = subst (IsStrictlySortedBy mark_cmp) (take-map mark_of n es) (rising_fewer (map mark_of es) n log.rising);
  whole = All-take (λ entry. is_whole entry.what ≡ true) n es log.whole;
  marked = All-take (λ entry. IsMark (mark_of entry)) n es log.marked;
}
