-- Marks of shards.
use Rattle.std.proofs.Common.{◌≡◌, ◌<◌, ℕ, zero, suc, Bool, true, false, List, [], ◌∷◌, length, replicate, slice_index_or, refl, arith}
use Rattle.std.specs.List.{list_all}
use Rattle.resh_coord.specs.Control.{is_true_at}
use Rattle.resh_invariant.proofs.Ones.{both}

pub none_marked : (n s : ℕ) → is_true_at (replicate n false) s ≡ false
none_marked zero s = refl
none_marked (suc n) zero = refl
none_marked (suc n) (suc s) = none_marked n s

pub each_of : {X : Type 0} (p : X → Bool) (xs : List X) (other : X) → list_all p xs ≡ true → (i : ℕ) → i < length xs → p (slice_index_or xs i other) ≡ true
each_of p [] other h i lt = absurd (omega arith)
each_of p (x ∷ xs) other h zero lt = (both (p x) (list_all p xs) h).0
each_of p (x ∷ xs) other h (suc i) lt = each_of p xs other (both (p x) (list_all p xs) h).1 i (omega arith)
