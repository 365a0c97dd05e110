-- Lanes that go back one after another.
use Rattle.std.proofs.Common.{◌≡◌, ◌<◌, ℕ, zero, suc, List, [], ◌∷◌, Some, None, take, length, slice_get, slice_index_or, slice_set, refl, ap, arith}
use Rattle.resh_lane.specs.Lanes.{LaneOf, gone_back}
use Rattle.resh_events.specs.rows.Crash.{back}

-- where no number is, nothing goes back
pub back_none : (d : ℕ) (lanes : List LaneOf) → back d lanes [] ≡ lanes
back_none d [] = refl
back_none d (l ∷ ls) = ap (λ (rest : List LaneOf). l ∷ rest) (back_none d ls)

-- one more lane goes back
pub back_more : (d : ℕ) (lanes : List LaneOf) (numbers : List ℕ) (i : ℕ) (lane : LaneOf)
    → i < length numbers → Some lane ≡ slice_get (back d lanes (take i numbers)) i
    → slice_set (back d lanes (take i numbers)) i (gone_back d (slice_index_or numbers i 0) lane)
    ≡ back d lanes (take (suc i) numbers)
back_more d [] numbers i lane below there = cc
back_more d (l ∷ ls) [] i lane below there = absurd (omega arith)
back_more d (l ∷ ls) (n ∷ ns) zero lane below there =
    let here : lane ≡ l = cc in
    ap (λ (x : LaneOf). gone_back d n x ∷ back d ls []) here
back_more d (l ∷ ls) (n ∷ ns) (suc i) lane below there =
    ap (λ (rest : List LaneOf). gone_back d n l ∷ rest) (back_more d ls ns i lane (omega arith) there)

-- no lane is left
pub back_past : (d : ℕ) (lanes : List LaneOf) (numbers : List ℕ) (i : ℕ)
    → None ≡ slice_get (back d lanes (take i numbers)) i
    → back d lanes (take i numbers) ≡ back d lanes numbers
back_past d [] numbers i none = refl
back_past d (l ∷ ls) [] zero none = refl
back_past d (l ∷ ls) [] (suc i) none = refl
back_past d (l ∷ ls) (n ∷ ns) zero none = cc
back_past d (l ∷ ls) (n ∷ ns) (suc i) none = ap (λ (rest : List LaneOf). gone_back d n l ∷ rest) (back_past d ls ns i none)
