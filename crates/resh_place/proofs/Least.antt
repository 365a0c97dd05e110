-- The least `_id` that waits.
use Rattle.std.proofs.Common.{◌≡◌, ◌≢◌, ◌⊎◌, inl, inr, ℕ, zero, suc, cond, List, [], ◌∷◌, map, slice_index_or, Option, Some, None, refl, sym, ap, subst, ◌∙◌, ⊎_elim, Less, Equal, Greater}
use Rattle.std.specs.FinMap.{empty, entries, entries_sorted, get, get-empty}
use Rattle.std.specs.List.{Contains, slice_get}
use Rattle.std.specs.List.Sorted.{IsStrictlySortedBy}
use Rattle.std.specs.Map.{keys_of}
use Rattle.std.specs.Ordering.{is_gt, ordering_reverse}
use Rattle.std.specs.declared.cmp.Ordering.{Ordering}
use Rattle.resh_value.specs.Order.{compare_of}
use Rattle.resh_value.specs.OrderLaws.{compare_total, compare_same, compare_itself}
use Rattle.resh_value.specs.declared.value.Value.{Value}
use Rattle.resh_bag.proofs.Lists.{first_or_later, first_there}
use Rattle.resh_bag.proofs.bags.Entries.{found_entry, entry_found, keys_rise}
use Rattle.resh_cells.specs.Cells.{no_lane}
use Rattle.resh_events.specs.rows.Report.{first_waiting}
use Rattle.resh_lane.specs.Lanes.{LaneOf}
use Rattle.resh_place.specs.Notes.{IsLeast}
use Rattle.resh_place.proofs.Lists.{no_member}
use Rattle.resh_place.proofs.Outputs.{entry_below}
use Rattle.resh_place.proofs.Slots.{never_some, some_same}
use Rattle.resh_rules.specs.Pools.{first_stashed, lesser}
use Rattle.resh_stash.specs.Stored.{Document, Stored, first_id}

at_most : (a b c : Value) → compare_of a b ≢ Greater → compare_of b c ≢ Greater → compare_of a c ≢ Greater
at_most a b c f g = by (compare_of a b) refl (compare_of b c) refl
  where
    by : (r : Ordering) → compare_of a b ≡ r → (s : Ordering) → compare_of b c ≡ s → compare_of a c ≢ Greater
    by Less e Less h k = let l : compare_of a c ≡ Less = compare_total.trans a b c e h in let off : Less ≡ Greater = sym l ∙ k in cc
    by Less e Equal h k = let l : compare_of a c ≡ Less = subst (λ x. compare_of a x ≡ Less) (compare_same b c h) e in let off : Less ≡ Greater = sym l ∙ k in cc
    by Less e Greater h k = g h
    by Equal e s h k = g (subst (λ x. compare_of x c ≡ Greater) (compare_same a b e) k)
    by Greater e s h k = f e

-- the first `_id` of a store
abbrev Has : Stored → Value → Type 0
Has s id = (d : Document) × (get s id ≡ Some d)

first_least : (s : Stored) → IsLeast (Has s) (first_id s)
unfolding first_id IsStrictlySortedBy
first_least s = by (entries s) (keys_rise compare_of (entries s) (entries_sorted s)) (λ id d e. found_entry compare_total compare_same s id d e) (λ id d there. entry_found compare_total compare_same s id d there)
  where
    by : (es : List (Value × Document)) → IsStrictlySortedBy compare_of (keys_of es) → ((id : Value) (d : Document) → get s id ≡ Some d → Contains es (id, d)) → ((id : Value) (d : Document) → Contains es (id, d) → get s id ≡ Some d)
        → IsLeast (Has s) (slice_get (map (λ (e : Value × Document). e.0) es) 0)
    by [] rise found back = record {
      none = λ e id h. no_member (id, h.0) (found id h.0 h.1);
      one = λ k e. let off : None ≡ Some k = e in cc;
      first = λ k e id h. let off : None ≡ Some k = e in cc;
    }
    by (e ∷ es) rise found back = record {
      none = λ n id h. let off : Some e.0 ≡ None = n in cc;
      one = λ k is. let same : e.0 ≡ k = some_same e.0 k is in (e.1, subst (λ x. get s x ≡ Some e.1) same (back e.0 e.1 (first_there e es)));
      first = λ k is id h. let same : e.0 ≡ k = some_same e.0 k is in subst (λ x. compare_of x id ≢ Greater) same (above id h.0 (first_or_later e es (id, h.0) (found id h.0 h.1)));
    }
      where
        above : (id : Value) (d : Document) → (e ≡ (id, d)) ⊎ Contains es (id, d) → compare_of e.0 id ≢ Greater
        above id d (inl is) k = let tie : compare_of e.0 id ≡ Equal = subst (λ (x : Value × Document). compare_of e.0 x.0 ≡ Equal) is (compare_itself e.0) in let off : Equal ≡ Greater = sym tie ∙ k in cc
        above id d (inr there) k = let below : compare_of e.0 id ≡ Less = entry_below es e.0 rise.0 id d there in let off : Less ≡ Greater = sym below ∙ k in cc

-- of two kinds
lesser_least : (P Q : Value → Type 0) (a b : Option Value) → IsLeast P a → IsLeast Q b → IsLeast (λ id. P id ⊎ Q id) (lesser a b)
lesser_least P Q None b p q = record {
  none = λ e id h. ⊎_elim (λ (x : P id). p.none refl id x) (λ (x : Q id). q.none e id x) h;
  one = λ k e. inr (q.one k e);
  first = λ k e id h. ⊎_elim (λ (x : P id). absurd (p.none refl id x)) (λ (x : Q id). q.first k e id x) h;
}
lesser_least P Q (Some a) None p q = record {
  none = λ e id h. let off : Some a ≡ None = e in cc;
  one = λ k e. inl (p.one k e);
  first = λ k e id h. ⊎_elim (λ (x : P id). p.first k e id x) (λ (x : Q id). absurd (q.none refl id x)) h;
}
lesser_least P Q (Some a) (Some b) p q = by (compare_of a b) refl
  where
    ahead : compare_of a b ≢ Greater → IsLeast (λ id. P id ⊎ Q id) (Some a)
    ahead le = record {
      none = λ e id h. let off : Some a ≡ None = e in cc;
      one = λ k e. inl (p.one k e);
      first = λ k e id h. let same : a ≡ k = some_same a k e in subst (λ x. compare_of x id ≢ Greater) same (⊎_elim (λ (x : P id). p.first a refl id x) (λ (x : Q id). at_most a b id le (q.first b refl id x)) h);
    }

    behind : compare_of b a ≢ Greater → IsLeast (λ id. P id ⊎ Q id) (Some b)
    behind le = record {
      none = λ e id h. let off : Some b ≡ None = e in cc;
      one = λ k e. inr (q.one k e);
      first = λ k e id h. let same : b ≡ k = some_same b k e in subst (λ x. compare_of x id ≢ Greater) same (⊎_elim (λ (x : P id). at_most b a id le (p.first a refl id x)) (λ (x : Q id). q.first b refl id x) h);
    }

    by : (r : Ordering) → compare_of a b ≡ r → IsLeast (λ id. P id ⊎ Q id) (cond (is_gt (compare_of a b)) (Some b) (Some a))
    by Less e = subst (λ r. IsLeast (λ id. P id ⊎ Q id) (cond (is_gt r) (Some b) (Some a))) (sym e) (ahead (λ k. let off : Less ≡ Greater = sym e ∙ k in cc))
    by Equal e = subst (λ r. IsLeast (λ id. P id ⊎ Q id) (cond (is_gt r) (Some b) (Some a))) (sym e) (ahead (λ k. let off : Equal ≡ Greater = sym e ∙ k in cc))
    by Greater e = subst (λ r. IsLeast (λ id. P id ⊎ Q id) (cond (is_gt r) (Some b) (Some a))) (sym e) (behind (λ k. let off : Greater ≡ Less = sym e ∙ compare_total.antisymm a b ∙ ap ordering_reverse k in cc))

-- what is the least of one kind is of another that says the same
pub least_by : (P Q : Value → Type 0) (o : Option Value) → ((id : Value) → P id → Q id) → ((id : Value) → Q id → P id) → IsLeast P o → IsLeast Q o
least_by P Q o f g l = record { none = λ e id h. l.none e id (g id h); one = λ k e. f k (l.one k e); first = λ k e id h. l.first k e id (g id h) }

-- of the stashes of a lane
abbrev pub WaitsAt : List Stored → Value → Type 0
WaitsAt stashes id = (donor : ℕ) × (d : Document) × (get (slice_index_or stashes donor empty) id ≡ Some d)

nothing_at : (id : Value) → WaitsAt [] id → ⊥
nothing_at id w = never_some w.1 (sym (get-empty compare_of id) ∙ w.2)

stashed_least : (stashes : List Stored) → IsLeast (WaitsAt stashes) (first_stashed stashes)
stashed_least [] = record {
  none = λ e id h. nothing_at id h;
  one = λ k e. let off : None ≡ Some k = e in cc;
  first = λ k e id h. let off : None ≡ Some k = e in cc;
}
stashed_least (s ∷ ss) =
    least_by (λ id. Has s id ⊎ WaitsAt ss id) (WaitsAt (s ∷ ss)) (lesser (first_id s) (first_stashed ss))
    (λ id h. ⊎_elim (λ (x : Has s id). (zero, x.0, x.1)) (λ (x : WaitsAt ss id). (suc x.0, x.1, x.2)) h)
    (λ id h. split id h)
    (lesser_least (Has s) (WaitsAt ss) (first_id s) (first_stashed ss) (first_least s) (stashed_least ss))
  where
    split : (id : Value) → WaitsAt (s ∷ ss) id → Has s id ⊎ WaitsAt ss id
    split id (zero, d, is) = inl (d, is)
    split id (suc n, d, is) = inr (n, d, is)

-- of the lanes of a recipient
abbrev pub WaitsIn : List LaneOf → Value → Type 0
WaitsIn all id = (l : ℕ) × WaitsAt (slice_index_or all l no_lane).pool.stashes id

pub lanes_least : (all : List LaneOf) → IsLeast (WaitsIn all) (first_waiting all)
lanes_least [] = record {
  none = λ e id h. nothing_at id h.1;
  one = λ k e. let off : None ≡ Some k = e in cc;
  first = λ k e id h. let off : None ≡ Some k = e in cc;
}
lanes_least (l ∷ ls) =
    least_by (λ id. WaitsAt l.pool.stashes id ⊎ WaitsIn ls id) (WaitsIn (l ∷ ls)) (lesser (first_stashed l.pool.stashes) (first_waiting ls))
    (λ id h. ⊎_elim (λ (x : WaitsAt l.pool.stashes id). (zero, x)) (λ (x : WaitsIn ls id). (suc x.0, x.1)) h)
    (λ id h. split id h)
    (lesser_least (WaitsAt l.pool.stashes) (WaitsIn ls) (first_stashed l.pool.stashes) (first_waiting ls) (stashed_least l.pool.stashes) (lanes_least ls))
  where
    split : (id : Value) → WaitsIn (l ∷ ls) id → WaitsAt l.pool.stashes id ⊎ WaitsIn ls id
    split id (zero, w) = inl w
    split id (suc n, w) = inr (n, w)
