-- What is held after a put and after a removal.
use Rattle.std.proofs.Common.{◌≡◌, ◌≢◌, ℕ, Bool, true, false, cond, Some, None, refl, ap, ◌∙◌, ◌⊎◌, inl, inr}
use Rattle.std.proofs.lemmas.Map.Views.{tells_apart}
use Rattle.std.specs.Cmp.{eq_by_cmp_equiv}
use Rattle.std.specs.FinMap.{get, get-insert, get-remove, same_map}
use Rattle.std.specs.Ordering.{eq_by_cmp}
use Rattle.resh_value.specs.declared.value.Value.{Value}
use Rattle.resh_value.specs.Lookup.{id_of}
use Rattle.resh_bag.specs.Bag.{place_cmp, held, put, without}
use Rattle.resh_bag.specs.Laws.{PutsOne, RemovesOne, SameByPlace}
use Rattle.resh_bag.specs.PlaceOrder.{place_total, place_same}

-- the test of places tells the same place
pub itself : (p : Value × ℕ) → eq_by_cmp place_cmp p p ≡ true
itself p = (eq_by_cmp_equiv place_total).refl p

apart : (p q : Value × ℕ) → (p.1 ≢ q.1) ⊎ (p.0 ≢ q.0) → eq_by_cmp place_cmp p q ≡ false
apart p q differ = by (eq_by_cmp place_cmp p q) refl differ
  where
    by : (b : Bool) → eq_by_cmp place_cmp p q ≡ b → (p.1 ≢ q.1) ⊎ (p.0 ≢ q.0) → b ≡ false
    by true e (inl shards) = absurd (shards (ap (λ r. r.1) (tells_apart place_same p q e)))
    by true e (inr ids) = absurd (ids (ap (λ r. r.0) (tells_apart place_same p q e)))
    by false e d = refl

pub puts_one : PutsOne
unfolding held put
puts_one = record {
  there = λ bag shard d. get-insert place_total bag (id_of d, shard) d (id_of d, shard) ∙ ap (λ b. cond b (Some d) (get bag (id_of d, shard))) (itself (id_of d, shard));
  elsewhere = λ bag shard other d id differ. get-insert place_total bag (id_of d, shard) d (id, other) ∙ ap (λ b. cond b (Some d) (get bag (id, other))) (apart (id, other) (id_of d, shard) differ);
}

pub removes_one : RemovesOne
unfolding held without
removes_one = record {
  there = λ bag shard id. get-remove place_total bag (id, shard) (id, shard) ∙ ap (λ b. cond b None (get bag (id, shard))) (itself (id, shard));
  elsewhere = λ bag shard other id other_id differ. get-remove place_total bag (id, shard) (other_id, other) ∙ ap (λ b. cond b None (get bag (other_id, other))) (apart (other_id, other) (id, shard) differ);
}

pub same_by_place : SameByPlace
unfolding held
same_by_place a b is = same_map place_total place_same a b (λ q. is q.1 q.0)
