-- How the jobs of a round are cut into groups.
use Rattle.std.specs.Prelude.{◌≡◌, ℕ, ◌+◌, List, [], ◌∷◌, ◌++◌, length}
use Rattle.resh_pool.specs.declared.group.Group.{Group}

module _ {J : Type 0} where
  -- the groups are the jobs, in order, and each has the number of its first job
  abbrev pub IsCut : ℕ → List (Group J) → List J → Type 0
  IsCut first [] jobs = jobs ≡ []
  IsCut first (group ∷ groups) jobs =
      (rest : List J) × (group.first ≡ first) × (jobs ≡ group.jobs.items ++ rest)
      × IsCut (first + length group.jobs.items) groups rest
