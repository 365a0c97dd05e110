-- A shard that may be told: it is one of the setup's, and wasn't told in this phase.
use Rattle.std.proofs.Common.{◌≡◌, ◌≢◌, ◌<◌, ◌⊎◌, inl, inr, ⊎_elim, ℕ, zero, suc, Bool, true, false, not, ◌&&◌, nat_lt, List, [], ◌∷◌, ◌++◌, length, map, slice_index_or, slice_set, refl, sym, ap, subst, ◌∙◌, arith, rules}
use Rattle.std.specs.Prelude.{is_some}
use Rattle.resh_cells.specs.declared.cluster.Cluster.{Cluster}
use Rattle.resh_coord.specs.Control.{is_true_at, may_tell, message_of}
use Rattle.resh_events.specs.rows.Tell as tell
use Rattle.resh_model.specs.Orders.{State}
use Rattle.resh_setup.specs.declared.setup.Setup.{Setup}
use Rattle.resh_invariant.specs.Keeping.{Keeps}
use Rattle.resh_invariant.specs.Sources.{Clones}
use Rattle.resh_invariant.proofs.Framing.{there_set}
use Rattle.resh_invariant.proofs.Ones.{at_set, both, off_of}

pub nothing_more : {X : Type 0} (a : List X) → a ++ [] ≡ a
nothing_more [] = refl
nothing_more (x ∷ a) = ap (λ l. x ∷ l) (nothing_more a)

-- a place of a list each of which is turned
pub map_in : {X : Type 0} (f : X → X) (xs : List X) (i : ℕ) (other : X) → i < length xs → slice_index_or (map f xs) i other ≡ f (slice_index_or xs i other)
map_in f [] i other lt = absurd (omega arith)
map_in f (x ∷ xs) zero other lt = refl
map_in f (x ∷ xs) (suc i) other lt = map_in f xs i other (omega arith)

module _ (setup : Setup) (state : State) (clones : Clones) (cluster : Cluster) (keeps : Keeps setup state clones cluster)
    (s : ℕ) (is : tell.may cluster s ≡ true) where
  pub tests : (s < length setup.shards) × (is_true_at cluster.control.told s ≡ false)
  tests =
      let all = both (may_tell cluster.control s) (not (is_true_at cluster.control.told s)) is in
      let first = both (is_some (message_of cluster.control)) (nat_lt s (length cluster.control.told)) all.0 in
      (subst (λ n. s < n) keeps.noted.told (less s (length cluster.control.told) first.1), off_of (is_true_at cluster.control.told s) all.1)
    where
      less : (a b : ℕ) → nat_lt a b ≡ true → a < b
      less a b h = search (arith, rules)

  pub marked : is_true_at (slice_set cluster.control.told s true) s ≡ true
  marked = there_set cluster.control.told s true false (subst (λ n. s < n) (sym keeps.noted.told) tests.0)

-- the others' marks are as they were
pub others_marks : (told : List Bool) (s d : ℕ) → d ≢ s → is_true_at (slice_set told s true) d ≡ is_true_at told d
others_marks told s d ne = by (at_set told s d true false)
  where
    by : (is_true_at (slice_set told s true) d ≡ is_true_at told d) ⊎ ((d ≡ s) × (is_true_at (slice_set told s true) d ≡ true))
        → is_true_at (slice_set told s true) d ≡ is_true_at told d
    by (inl same) = same
    by (inr there) = absurd (ne there.0)
