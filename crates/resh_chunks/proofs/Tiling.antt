-- In a chunk map without fault the rows tile the keys.
use Rattle.std.proofs.Common.{◌≡◌, ℕ, zero, suc, subst, ◌+◌, ◌<◌, Bool, true, false, not, ◌&&◌, ◌||◌, cond, List, [], ◌∷◌, length, filter, Option, Some, None, refl, sym, ap, ◌∙◌, arith, leb, get_or}
use Rattle.std.proofs.lemmas.Bool.Decides.{nat_tests}
use Rattle.std.proofs.lemmas.Option.{same_Some, slice_get_within, get_or_from_slice_get}
use Rattle.std.specs.Cmp.{IsTotalOrder, alike_right}
use Rattle.std.specs.List.{find, slice_get}
use Rattle.std.specs.Option.{option_or, option_map_or}
use Rattle.std.specs.Ordering.{is_lt, is_gt, ordering_reverse}
use Rattle.std.specs.declared.cmp.Ordering.{Ordering}
use Rattle.std.specs.declared.cmp.Ordering.TheVariants.{Less, Equal, Greater}
use Rattle.resh_value.specs.Order.{compare_of}
use Rattle.resh_value.specs.declared.value.Value.{Value}
use Rattle.resh_chunks.specs.Bounds.{bound_cmp, ends_above, has_key, has_wrong_length, IsFirstAbove}
use Rattle.resh_chunks.specs.Chunks.{fault_where, gap_or_overlap, joint_fault, row_fault, rows_fault, end_fault, Chunks, chunk_fault, owner, EachKeyHasOneOwner, Owns}
use Rattle.resh_chunks.specs.declared.bound.Bound.{Bound}
use Rattle.resh_chunks.specs.declared.bound.Bound.TheVariants.{Min, At, Max}
use Rattle.resh_chunks.specs.declared.bound.ChunkRow.{ChunkRow}
use Rattle.resh_chunks.specs.declared.faults.ChunkFault.{ChunkFault}
use Rattle.resh_chunks.proofs.BoundOrder.{bound_total}

-- where a row begins: below every key at first, and else at the end of the one before
abbrev pub Begins : Option Bound → Bound → Type 0
Begins None min = min ≡ Min
Begins (Some before) min = bound_cmp min before ≡ Equal

-- what a row without fault is
pub record IsSound (shards : ℕ) (before : Option Bound) (row : ChunkRow) : Type 0 where
  pub known : row.shard.0 < shards
  pub joined : Begins before row.min
  pub rising : bound_cmp row.min row.max ≡ Less

no_fault : (wrong unknown rising : Bool) (joint : Option ChunkFault) (f g h : ChunkFault) → option_or (fault_where wrong f) (option_or (fault_where unknown g) (option_or joint (fault_where (not rising) h))) ≡ None → (unknown ≡ false) × (joint ≡ None) × (rising ≡ true)
no_fault false false true None f g h e = (refl, refl, refl)
no_fault true unknown rising joint f g h e = cc
no_fault false true rising joint f g h e = cc
no_fault false false rising (Some j) f g h e = cc
no_fault false false false None f g h e = cc

less : (r : Ordering) → is_lt r ≡ true → r ≡ Less
less Less e = refl
less Equal e = cc
less Greater e = cc

meets : (i : ℕ) (r : Ordering) → gap_or_overlap i r ≡ None → r ≡ Equal
meets i Less e = cc
meets i Equal e = refl
meets i Greater e = cc

begins : (before : Option Bound) (i : ℕ) (min : Bound) → joint_fault before i min ≡ None → Begins before min
begins None i Min e = refl
begins None i (At key) e = cc
begins None i Max e = cc
begins (Some before) i min e = meets i (bound_cmp min before) e

sound : (names shards : ℕ) (before : Option Bound) (i : ℕ) (row : ChunkRow) → row_fault names shards before i row ≡ None → IsSound shards before row
sound names shards before i row e =
    let none = no_fault (has_wrong_length names row.min || has_wrong_length names row.max) (leb shards row.shard.0) (is_lt (bound_cmp row.min row.max)) (joint_fault before i row.min) _ _ _ e in
    record { known = grind (arith, nat_tests); joined = begins before i row.min none.1; rising = less _ none.2 }

first_none : (p q : Option ChunkFault) → option_or p q ≡ None → (p ≡ None) × (q ≡ None)
first_none None q e = (refl, e)
first_none (Some f) q e = cc

-- the key doesn't stand below where the row before ends
abbrev pub IsReached : List Value → Option Bound → Type 0
IsReached key None = Unit {0}
IsReached key (Some before) = is_lt (bound_cmp (At key) before) ≡ false

not_above : (r : Ordering) → is_lt r ≡ false → is_gt (ordering_reverse r) ≡ false
not_above Less e = cc
not_above Equal e = refl
not_above Greater e = refl

end_max : (before : Option Bound) → end_fault before ≡ None → before ≡ Some Max
end_max None e = cc
end_max (Some Min) e = cc
end_max (Some (At key)) e = cc
end_max (Some Max) e = refl

past_max : (key : List Value) (before : Option Bound) → before ≡ Some Max → IsReached key before → ⊥
past_max key None e r = cc
past_max key (Some Min) e r = cc
past_max key (Some (At k)) e r = cc
past_max key (Some Max) e r = cc

-- one row has the key, and its shard is there
pub record HasOneRow (shards : ℕ) (key : List Value) (rows : List ChunkRow) : Type 0 where
  pub row : ChunkRow
  pub only : filter (has_key key) rows ≡ row ∷ []
  pub known : row.shard.0 < shards

-- the front row has the key and no later one, or a later row has it
row_or_later : (shards : ℕ) (key : List Value) (row : ChunkRow) (rows : List ChunkRow) → row.shard.0 < shards → has_key key row ≡ ends_above key row
    → (ends_above key row ≡ true → filter (has_key key) rows ≡ []) → (ends_above key row ≡ false → HasOneRow shards key rows) → HasOneRow shards key (row ∷ rows)
row_or_later shards key row rows known here none later = by (ends_above key row) refl
  where
    all : (b : Bool) → ends_above key row ≡ b → filter (has_key key) (row ∷ rows) ≡ cond b (row ∷ filter (has_key key) rows) (filter (has_key key) rows)
    all b a = ap (λ t. cond t (row ∷ filter (has_key key) rows) (filter (has_key key) rows)) (here ∙ a)

    by : (b : Bool) → ends_above key row ≡ b → HasOneRow shards key (row ∷ rows)
    by true a = record { row = row; only = all true a ∙ ap (λ l. row ∷ l) (none a); known = known }
    by false a = record { row = (later a).row; only = all false a ∙ (later a).only; known = (later a).known }

module _ (o : IsTotalOrder bound_cmp) (names shards : ℕ) (key : List Value) where
  from_min : (before : Option Bound) (min : Bound) → Begins before min → IsReached key before → is_gt (bound_cmp min (At key)) ≡ false
  from_min None min b r = ap (λ (m : Bound). is_gt (bound_cmp m (At key))) b
  from_min (Some before) min b r = ap is_gt (o.congr min before (At key) b ∙ o.antisymm before (At key)) ∙ not_above _ r

  has : (before : Option Bound) (row : ChunkRow) → IsSound shards before row → IsReached key before → has_key key row ≡ ends_above key row
  has before row s r = ap (λ b. not b && ends_above key row) (from_min before row.min s.joined r)

  -- above the end of the row before, no later row has the key
  none_below : (before : Bound) (i : ℕ) (rows : List ChunkRow) → rows_fault names shards (Some before) i rows ≡ None → bound_cmp (At key) before ≡ Less → filter (has_key key) rows ≡ []
  none_below before i [] e b = refl
  none_below before i (row ∷ rows) e b =
      let parts = first_none (row_fault names shards (Some before) i row) _ e in
      let s = sound names shards (Some before) i row parts.0 in
      let below = alike_right o row.min before (At key) s.joined ∙ b in
      let above : is_gt (bound_cmp row.min (At key)) ≡ true = ap is_gt (o.antisymm row.min (At key) ∙ ap ordering_reverse below) in
      let rest = none_below row.max (i + 1) rows parts.1 (o.trans (At key) row.min row.max below s.rising) in
      ap (λ b. cond (not b && ends_above key row) (row ∷ filter (has_key key) rows) (filter (has_key key) rows)) above ∙ rest

  -- from where the row before ends, one row has the key
  one_row : (before : Option Bound) (i : ℕ) (rows : List ChunkRow) → rows_fault names shards before i rows ≡ None → IsReached key before → HasOneRow shards key rows
  one_row before i [] e r = absurd (past_max key before (end_max before e) r)
  one_row before i (row ∷ rows) e r =
      let parts = first_none (row_fault names shards before i row) _ e in
      let s = sound names shards before i row parts.0 in
      row_or_later shards key row rows s.known (has before row s r) (λ a. none_below row.max (i + 1) rows parts.1 (less _ a)) (λ a. one_row (Some row.max) (i + 1) rows parts.1 a)

  -- the first row that ends above the key has it
  first_has : (before : Option Bound) (i : ℕ) (rows : List ChunkRow) (place : ℕ) → rows_fault names shards before i rows ≡ None → (place ≡ 0 → IsReached key before) → IsFirstAbove key rows place → (row : ChunkRow) × (slice_get rows place ≡ Some row) × (has_key key row ≡ true)
  first_has before i [] place e r f = absurd (past_max key before (end_max before e) (r (omega (arith, f.within))))
  first_has before i (row ∷ rows) zero e r f =
      let s = sound names shards before i row (first_none (row_fault names shards before i row) _ e).0 in
      (row, refl, has before row s (r refl) ∙ f.above row refl)
  first_has before i (row ∷ rows) (suc k) e r f =
      first_has (Some row.max) (i + 1) rows k (first_none (row_fault names shards before i row) _ e).1
      (λ z. f.before 0 row (omega arith) refl)
      (record { within = omega (arith, f.within); before = λ j next p g. f.before (suc j) next (omega arith) g; above = f.above })

-- the first that passes is the first of those that pass
find_filter : {X : Type 0} (p : X → Bool) (xs : List X) → find p xs ≡ slice_get (filter p xs) 0
find_filter p [] = refl
find_filter {X} p (x ∷ xs) = by (p x) (find_filter p xs)
  where
    by : (b : Bool) → find p xs ≡ slice_get (filter p xs) 0 → cond b (Some x) (find p xs) ≡ slice_get (cond b (x ∷ filter p xs) (filter p xs)) 0
    by true e = refl
    by false e = e

-- what passes is among those that pass
kept : {X : Type 0} (p : X → Bool) (xs : List X) (k : ℕ) (x : X) → slice_get xs k ≡ Some x → p x ≡ true → (j : ℕ) × (slice_get (filter p xs) j ≡ Some x)
kept p [] k x g t = cc
kept p (y ∷ ys) zero x g t = (0, ap (λ b. slice_get (cond b (y ∷ filter p ys) (filter p ys)) 0) (ap p (same_Some y x g) ∙ t) ∙ g)
kept {X} p (y ∷ ys) (suc k) x g t = by (p y) (kept p ys k x g t)
  where
    by : (b : Bool) → (j : ℕ) × (slice_get (filter p ys) j ≡ Some x) → (j : ℕ) × (slice_get (cond b (y ∷ filter p ys) (filter p ys)) j ≡ Some x)
    by true w = (suc w.0, w.1)
    by false w = w

-- what is among one
among_one : {X : Type 0} (y x : X) (j : ℕ) → slice_get (y ∷ []) j ≡ Some x → y ≡ x
among_one y x zero e = same_Some y x e
among_one y x (suc j) e = cc

same_only : {X : Type 0} (p : X → Bool) (xs : List X) (y x : X) (k : ℕ) → filter p xs ≡ y ∷ [] → slice_get xs k ≡ Some x → p x ≡ true → y ≡ x
same_only p xs y x k e g t =
    let w = kept p xs k x g t in
    among_one y x w.0 (ap (λ l. slice_get l w.0) (sym e) ∙ w.1)

pub one_owner : IsTotalOrder compare_of → EachKeyHasOneOwner
one_owner o chunks key e =
    let one = one_row (bound_total o) (length chunks.pattern) chunks.shards key None 0 chunks.rows e tt in
    (one.row.shard.0, one.known, record { row = one.row; only = one.only; here = refl })

-- the first row that ends above a key is there, and its shard is the owner
pub first_owns : IsTotalOrder compare_of → (chunks : Chunks) (rows : List ChunkRow) (key : List Value) (place : ℕ) → chunk_fault chunks ≡ None → rows ≡ chunks.rows → IsFirstAbove key rows place
    → (place < length rows) × ((row : ChunkRow) → row ≡ get_or rows place row → Owns chunks key row.shard.0)
first_owns o chunks rows key place e same f = (within, owns)
  where
    fault : rows_fault (length chunks.pattern) chunks.shards None 0 rows ≡ None
    fault = ap (rows_fault (length chunks.pattern) chunks.shards None 0) same ∙ e

    one : HasOneRow chunks.shards key rows
    one = one_row (bound_total o) (length chunks.pattern) chunks.shards key None 0 rows fault tt

    first : (row : ChunkRow) × (slice_get rows place ≡ Some row) × (has_key key row ≡ true)
    first = first_has (bound_total o) (length chunks.pattern) chunks.shards key None 0 rows place fault (λ _. tt) f

    within : place < length rows
    within = slice_get_within rows place first.0 first.1

    only : filter (has_key key) chunks.rows ≡ one.row ∷ []
    only = ap (filter (has_key key)) (sym same) ∙ one.only

    found : owner chunks key ≡ one.row.shard.0
    found = ap (λ r. option_map_or (λ (row : ChunkRow). row.shard.0) r 0) (find_filter (has_key key) chunks.rows ∙ ap (λ l. slice_get l 0) only)

    owns : (row : ChunkRow) → row ≡ get_or rows place row → Owns chunks key row.shard.0
    owns row r =
        let there = get_or_from_slice_get rows place first.0 row first.1 in
        let is = same_only (has_key key) rows one.row first.0 place one.only first.1 first.2 ∙ sym there ∙ sym r in
        subst (λ (row : ChunkRow). Owns chunks key row.shard.0) is (record { found = sym found; only = record { row = one.row; only = only; here = refl }; there = one.known })
