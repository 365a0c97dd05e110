-- What a recipient reads past a mark: the entries above it are those from one place on.
use Rattle.std.proofs.Common.{inl, inr, ◌≡◌, ℕ, ◌≤◌, ◌<◌, Bool, true, false, not, ◌&&◌, List, [], ◌∷◌, Option, Some, None, length, filter, drop, map, zero, suc, get_or, Less, refl, sym, ap, ◌∙◌, subst, arith}
use Rattle.std.proofs.Math.ListN.{get_or-map}
use Rattle.std.proofs.Math.Nat.{eq-or-lt_of_le}
use Rattle.std.proofs.lemmas.Map.Keys.{Less-from_sorted}
use Rattle.std.proofs.lemmas.List.{length-map}
use Rattle.std.specs.List.{AllWithin}
use Rattle.std.specs.List.Sorted.{IsPartitionedBy, IsPartitionPoint}
use Rattle.std.specs.Ordering.{is_lt}
use Rattle.resh_stamp.specs.Times.{mark_cmp}
use Rattle.resh_stamp.specs.declared.stamp.Mark.{Mark}
use Rattle.resh_oplog.specs.Logs.{IsRising, is_above, is_for, mark_of, entries_after}
use Rattle.resh_oplog.specs.declared.entry.Entry.{Entry}
use Rattle.resh_stamp.proofs.Orders.{mark_total}
use Rattle.resh_oplog.proofs.Rising.{is_less}

abbrev pub is_read : Option Mark → Entry → Bool
is_read mark e = not (is_above mark (mark_of e))

-- what stands above a mark has the later marks above it too
above_later : (mark : Option Mark) (a b : Mark) → mark_cmp a b ≡ Less → is_above mark a ≡ true → is_above mark b ≡ true
above_later None a b h above = refl
above_later (Some m) a b h above = ap is_lt (mark_total.trans m a b (is_less (mark_cmp m a) above) h)

read_earlier : (mark : Option Mark) (a b : Mark) → mark_cmp a b ≡ Less → (r : Bool) → is_above mark a ≡ r → not (is_above mark b) ≡ true → not r ≡ true
read_earlier mark a b h false is read = refl
read_earlier mark a b h true is read = ap not (sym (above_later mark a b h is)) ∙ read

-- an earlier entry of a log has the lower mark
less_at : (es : List Entry) (i j : ℕ) (d : Entry) → IsRising es → i < j → j < length es → mark_cmp (mark_of (get_or es i d)) (mark_of (get_or es j d)) ≡ Less
less_at es i j d rising lt within =
    subst (λ m. mark_cmp m (mark_of (get_or es j d)) ≡ Less) (get_or-map mark_of es i d)
    (subst (λ m. mark_cmp (get_or (map mark_of es) i (mark_of d)) m ≡ Less) (get_or-map mark_of es j d)
    (Less-from_sorted mark_cmp (map mark_of es) i j (mark_of d) rising lt (subst (λ n. j < n) (sym (length-map es mark_of)) within)))

pub parted : (mark : Option Mark) (es : List Entry) → IsRising es → IsPartitionedBy (is_read mark) es
parted mark es rising i j d le within read =
    elim (eq-or-lt_of_le le) as (λ _. is_read mark (get_or es i d) ≡ true) [
      | inl same ↦ subst (λ k. is_read mark (get_or es k d) ≡ true) (sym same) read
      | inr less ↦ read_earlier mark (mark_of (get_or es i d)) (mark_of (get_or es j d)) (less_at es i j d rising less within) _ refl read
    ]

module _ (mark : Option Mark) (to : ℕ) where
  abbrev wanted : Entry → Bool
  wanted e = is_above mark (mark_of e) && is_for to e.to

  all_above : (es : List Entry) → AllWithin (λ e. is_read mark e ≡ false) es 0 (length es) → filter wanted es ≡ filter (λ e. is_for to e.to) es
  all_above [] h = refl
  all_above (e ∷ es) h =
      let head : not (is_above mark (mark_of e)) ≡ false = h 0 e (omega arith) (omega arith) in
      let rest = all_above es (λ k d low high. h (suc k) d (omega arith) (omega arith)) in
      grind (arith, head, rest)

  pub after_point : (es : List Entry) (i : ℕ) → i ≤ length es → IsPartitionPoint (λ e. is_read mark e ≡ true) (λ e. is_read mark e ≡ false) es i
      → filter (λ e. is_for to e.to) (drop i es) ≡ entries_after mark to es
  after_point es zero within h = sym (all_above es h.1)
  after_point [] (suc i) within h = refl
  after_point (e ∷ es) (suc i) within h =
      let head : not (is_above mark (mark_of e)) ≡ true = h.0 0 e (omega arith) (omega arith) in
      let rest = after_point es i (omega (arith, within)) (λ k d low high. h.0 (suc k) d (omega arith) (omega arith), λ k d low high. h.1 (suc k) d (omega arith) (omega arith)) in
      grind (arith, head, rest)
