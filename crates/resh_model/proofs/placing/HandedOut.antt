-- Documents are handed to shards seat by seat.
use Rattle.std.proofs.Common.{◌≡◌, ◌≢◌, ℕ, ◌+◌, ◌<◌, Bool, true, false, cond, List, [], ◌∷◌, ◌++◌, length, filter, map, get_or, set, eqb, refl, sym, ap, subst, ◌∙◌, arith}
use Rattle.std.proofs.lemmas.Bool.{eqb-true, eqb-false, eq-eqb}
use Rattle.std.proofs.lemmas.List.{length-set, get_or-set_same, get_or-set_other, append-nil, map-append}
use Rattle.std.proofs.lemmas.List.Elements.{All-head, All-push, All-rest, All-same, filter-append}
use Rattle.std.proofs.lemmas.List.FromFn.{fill_by_all, length-map-range_with_len, get_or-map-range_with_len, map-range_with_len_more}
use Rattle.std.specs.List.{All, range_with_len}
use Rattle.resh_chunks.specs.Chunks.{Chunks}
use Rattle.resh_bag.specs.Bag.{Document}
use Rattle.resh_model.specs.Seats.{handed_out, IsSeated}
use Rattle.resh_model.specs.declared.seat.Seat.{Seat}

module _ {X : Type 0} (f g : ℕ → X) (n i : ℕ) (x : X) (within : i < n) (here : x ≡ g i) (others : (k : ℕ) → k ≢ i → f k ≡ g k) where
  -- a list of what f gives, with one item set, is a list of what g gives
  set_one : set (map f (range_with_len 0 n)) i x ≡ map g (range_with_len 0 n)
  set_one = fill_by_all g (set parts i x) n x (length-set parts i x ∙ length-map-range_with_len f 0 n) (λ k h. by k h (eqb k i) refl)
    where
      parts : List X
      parts = map f (range_with_len 0 n)

      by : (k : ℕ) → k < n → (b : Bool) → eqb k i ≡ b → get_or (set parts i x) k x ≡ g k
      by k h true e =
          let is = eqb-true k i e in
          ap (λ j. get_or (set parts i x) j x) is ∙ get_or-set_same parts i x x (subst (λ m. i < m) (sym (length-map-range_with_len f 0 n)) within) ∙ here ∙ ap g (sym is)
      by k h false e =
          let other = eqb-false k i e in
          get_or-set_other parts i k x x other ∙ get_or-map-range_with_len f 0 n k k x h (omega arith) ∙ others k other

-- what a shard takes of some seats
abbrev taken : List Seat → ℕ → List Document
taken seats shard = map (λ s. s.document) (filter (λ s. eqb s.shard.0 shard) seats)

taken_more : (seats : List Seat) (seat : Seat) (shard : ℕ) → taken (seats ++ seat ∷ []) shard ≡ taken seats shard ++ cond (eqb seat.shard.0 shard) (seat.document ∷ []) []
taken_more seats seat shard =
    ap (map (λ s. s.document)) (filter-append (λ s. eqb s.shard.0 shard) seats (seat ∷ []))
    ∙ map-append (λ s. s.document) (filter (λ s. eqb s.shard.0 shard) seats) (cond (eqb seat.shard.0 shard) (seat ∷ []) [])
    ∙ ap (λ l. taken seats shard ++ l) (by (eqb seat.shard.0 shard))
  where
    by : (b : Bool) → map (λ s. s.document) (cond b (seat ∷ []) []) ≡ cond b (seat.document ∷ []) []
    by true = refl
    by false = refl

not_equal : (a b : ℕ) → (a ≡ b → ⊥) → eqb a b ≡ false
not_equal a b n = by (eqb a b) refl
  where
    by : (r : Bool) → eqb a b ≡ r → r ≡ false
    by true e = absurd (n (eqb-true a b e))
    by false e = refl

pub handed_more : (shards : ℕ) (seats : List Seat) (seat : Seat) (part new : List Document) (parts : List (List Document)) → seat.shard.0 < shards
    → parts ≡ handed_out shards seats → part ≡ get_or parts seat.shard.0 part → new ≡ part ++ seat.document ∷ [] → set parts seat.shard.0 new ≡ handed_out shards (seats ++ seat ∷ [])
handed_more shards seats seat part new parts within is old made =
    ap (λ ps. set ps seat.shard.0 new) is
    ∙ set_one (taken seats) (taken (seats ++ seat ∷ [])) shards seat.shard.0 new within here (λ k other. sym (append-nil (taken seats k)) ∙ ap (λ b. taken seats k ++ cond b (seat.document ∷ []) []) (sym (not_equal seat.shard.0 k (λ e. other (sym e)))) ∙ sym (taken_more seats seat k))
  where
    was : part ≡ taken seats seat.shard.0
    was = old ∙ ap (λ ps. get_or ps seat.shard.0 part) is ∙ get_or-map-range_with_len (taken seats) 0 shards seat.shard.0 seat.shard.0 part within (omega arith)

    here : new ≡ taken (seats ++ seat ∷ []) seat.shard.0
    here = made ∙ ap (λ l. l ++ seat.document ∷ []) was ∙ ap (λ b. taken seats seat.shard.0 ++ cond b (seat.document ∷ []) []) (sym (eq-eqb seat.shard.0 seat.shard.0 refl)) ∙ sym (taken_more seats seat seat.shard.0)

pub handed_none : (shards : ℕ) → handed_out (shards + 1) [] ≡ handed_out shards [] ++ [] ∷ []
handed_none shards = map-range_with_len_more (taken []) 0 shards shards (omega arith)

pub handed_length : (shards : ℕ) (seats : List Seat) → length (handed_out shards seats) ≡ shards
handed_length shards seats = length-map-range_with_len (taken seats) 0 shards

-- what holds of the seats that are left holds of the next one and of those behind it
pub next_known : (P : Seat → Type 0) (seat : Seat) (left later : List Seat) → left ≡ seat ∷ later → All P left → P seat × All P later
next_known P seat left later is all = (All-head P seat later (All-same P (seat ∷ later) left (sym is) all), All-rest P seat later left is all)

pub seated_more : (from_map to_map : Chunks) (seats new : List Seat) (seat : Seat) (ds : List Document) → new ≡ seats ++ seat ∷ [] → map (λ s. s.document) seats ≡ ds → All (IsSeated from_map to_map) seats → IsSeated from_map to_map seat
    → (map (λ s. s.document) new ≡ ds ++ seat.document ∷ []) × All (IsSeated from_map to_map) new
seated_more from_map to_map seats new seat ds is same all one = (
  ap (map (λ s. s.document)) is ∙ map-append (λ s. s.document) seats (seat ∷ []) ∙ ap (λ l. l ++ seat.document ∷ []) same,
  All-same (IsSeated from_map to_map) new (seats ++ seat ∷ []) is (All-push (IsSeated from_map to_map) seats seat all one),
)
