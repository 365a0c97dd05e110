-- What a round makes of its jobs.
use Rattle.std.specs.Prelude.{ℕ, ◌+◌, List, [], ◌∷◌}

module _ {J : Type 0} (turned : J → ℕ → J → Type 0) where
  -- Each job has made one turn and stands in its place. They are numbered from the first on.
  abbrev pub AreTurned : ℕ → List J → List J → Type 0
  AreTurned first [] [] = Unit {0}
  AreTurned first [] (after ∷ afters) = ⊥
  AreTurned first (job ∷ jobs) [] = ⊥
  AreTurned first (job ∷ jobs) (after ∷ afters) = turned job first after × AreTurned (first + 1) jobs afters
