-- The first place that passes a test, and the length where none does.
use Rattle.std.proofs.Common.{◌≡◌, ◌≤◌, ℕ, Bool, true, false, cond, List, length, Option, Some, None, is_some, not, refl, arith}
use Rattle.std.proofs.Math.Dec.{ltb}
use Rattle.std.proofs.lemmas.Bool.{ltb-false}
use Rattle.std.proofs.lemmas.List.Sums.{prefix_len-le-length}
use Rattle.std.specs.List.{position_or_len}

at_some : (p place : ℕ) (found : Bool) → cond found (Some p) None ≡ Some place → place ≡ p
at_some p place true e = cc
at_some p place false e = cc

pub found_at : (p n place : ℕ) → cond (ltb p n) (Some p) None ≡ Some place → place ≡ p
found_at p n place e = at_some p place (ltb p n) e

at_none : (p n : ℕ) (found : Bool) → ltb p n ≡ found → cond found (Some p) None ≡ None → p ≤ n → n ≡ p
at_none p n true l e le = cc
at_none p n false l e le = let past = ltb-false p n l in omega (arith, past, le)

pub not_found : (p n : ℕ) → cond (ltb p n) (Some p) None ≡ None → p ≤ n → n ≡ p
not_found p n e le = at_none p n (ltb p n) refl e le

pub within : {X : Type 0} (p : X → Bool) (xs : List X) → position_or_len p xs ≤ length xs
within p xs = prefix_len-le-length (λ x. not (p x)) xs
