-- Tests of numbers and of activities.
use Rattle.std.proofs.Common.{◌≡◌, ℕ, ◌+◌, ◌==◌, Bool, true, false, ◌&&◌, cond, List, ◌∷◌, length, filter, refl, ap, arith}
use Rattle.std.proofs.lemmas.Bool.Decides.{nat_tests}
use Rattle.resh_value.specs.declared.value.ShardId.{ShardId}
use Rattle.resh_shard.specs.Writes.{shard_id}
use Rattle.resh_setup.specs.declared.plan.Who.{Who}
use Rattle.resh_setup.specs.declared.plan.Who.TheVariants.{Coordinator, Link, Lane}
use Rattle.resh_model.specs.Licence.{is_of, same_who}
use Rattle.resh_events.specs.Follows.{node_of}

pub both : (a b : Bool) → (a && b) ≡ true → (a ≡ true) × (b ≡ true)
both true b e = (refl, e)
both false b e = cc

pub same_number : (a b : ℕ) → (a == b) ≡ true → a ≡ b
same_number a b e = grind (arith, nat_tests)

pub itself : (a : ℕ) → (a == a) ≡ true
itself a = grind (arith, nat_tests)

pub other_way : (a b : ℕ) → (a == b) ≡ true → (b == a) ≡ true
other_way a b e = grind (arith, nat_tests)

abbrev pub one : Bool → ℕ
one true = 1
one false = 0

pub both_itself : (a b : ℕ) → ((a == a) && (b == b)) ≡ true
both_itself a b = by (a == a) (b == b) (itself a) (itself b)
  where
    by : (p q : Bool) → p ≡ true → q ≡ true → (p && q) ≡ true
    by true q e h = h
    by false q e h = e

pub same_shard : (r s : ShardId) → (r.0 == s.0) ≡ true → r ≡ s
same_shard r s e = ap shard_id (same_number r.0 s.0 e)

pub node_has : (who : Who) → is_of (node_of who) who ≡ true
node_has Coordinator = refl
node_has (Link r d) = itself r.0
node_has (Lane r d l) = itself r.0

pub node_same : (who other : Who) → same_who other who ≡ true → is_of (node_of who) other ≡ true
node_same Coordinator Coordinator e = refl
node_same Coordinator (Link r d) e = cc
node_same Coordinator (Lane r d l) e = cc
node_same (Link r d) Coordinator e = cc
node_same (Link r d) (Link s f) e = other_way s.0 r.0 (both (s.0 == r.0) (f.0 == d.0) e).0
node_same (Link r d) (Lane s f m) e = cc
node_same (Lane r d l) Coordinator e = cc
node_same (Lane r d l) (Link s f) e = cc
node_same (Lane r d l) (Lane s f m) e =
    other_way s.0 r.0 (both (s.0 == r.0) (f.0 == d.0) (both ((s.0 == r.0) && (f.0 == d.0)) (m == l) e).0).0

-- of how many elements a test holds, with one more in front
pub count_more : {X : Type 0} (test : X → Bool) (x : X) (xs : List X)
    → length (filter test (x ∷ xs)) ≡ one (test x) + length (filter test xs)
count_more test x xs = by (test x)
  where
    by : (b : Bool) → length (cond b (x ∷ filter test xs) (filter test xs)) ≡ one b + length (filter test xs)
    by true = omega arith
    by false = omega arith
