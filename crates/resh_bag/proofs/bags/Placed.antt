-- What a command does leaves each document where the map places it.
use Rattle.std.proofs.Common.{◌≡◌, ℕ, Bool, true, false, cond, Some, None, refl, sym, ap, ◌∙◌}
use Rattle.std.proofs.lemmas.Map.Views.{tells_apart}
use Rattle.std.proofs.lemmas.Option.{same_Some}
use Rattle.std.specs.FinMap.{get, get-insert, get-remove}
use Rattle.std.specs.Ordering.{eq_by_cmp}
use Rattle.resh_value.specs.Lookup.{id_of}
use Rattle.resh_value.specs.declared.value.Value.{Value}
use Rattle.resh_chunks.specs.Chunks.{Chunks, owner_of}
use Rattle.resh_command.specs.declared.command.Command.{Command}
use Rattle.resh_bag.specs.Answer.{doing, bag_after}
use Rattle.resh_bag.specs.Bag.{Bag, Document, place_cmp, place_of, held, put, without, IsPlaced}
use Rattle.resh_bag.specs.PlaceOrder.{place_total, place_same}
use Rattle.resh_bag.proofs.answers.Doings.{each_doing}

module _ (chunks : Chunks) where
  -- what is found stands at its place
  abbrev StandsAt : Value × ℕ → Document → Type 0
  StandsAt q d = place_of chunks d ≡ q

  found_placed : (bag : Bag) → IsPlaced chunks bag → (q : Value × ℕ) (d : Document) → get bag q ≡ Some d → StandsAt q d
  unfolding held
  found_placed bag placed q d is = λ i. (placed.by_id q.1 q.0 d is i, placed.by_owner q.1 q.0 d is i)

  placed_from : (bag : Bag) → ((q : Value × ℕ) (d : Document) → get bag q ≡ Some d → StandsAt q d) → IsPlaced chunks bag
  unfolding held
  placed_from bag each = record {
    by_id = λ shard id d is. ap (λ p. p.0) (each (id, shard) d is);
    by_owner = λ shard id d is. ap (λ p. p.1) (each (id, shard) d is);
  }

  pub put_placed : (bag : Bag) → IsPlaced chunks bag → (d : Document) → IsPlaced chunks (put bag (owner_of chunks d) d)
  unfolding put
  put_placed bag placed d =
      placed_from (put bag (owner_of chunks d) d)
      (λ q e is. by q e (eq_by_cmp place_cmp q (place_of chunks d)) refl (sym (get-insert place_total bag (place_of chunks d) d q) ∙ is))
    where
      by : (q : Value × ℕ) (e : Document) (b : Bool) → eq_by_cmp place_cmp q (place_of chunks d) ≡ b → cond b (Some d) (get bag q) ≡ Some e → StandsAt q e
      by q e true t s = ap (place_of chunks) (sym (same_Some d e s)) ∙ sym (tells_apart place_same q (place_of chunks d) t)
      by q e false t s = found_placed bag placed q e s

  pub without_placed : (bag : Bag) → IsPlaced chunks bag → (shard : ℕ) (id : Value) → IsPlaced chunks (without bag shard id)
  unfolding without
  without_placed bag placed shard id =
      placed_from (without bag shard id)
      (λ q e is. by q e (eq_by_cmp place_cmp q (id, shard)) (sym (get-remove place_total bag (id, shard) q) ∙ is))
    where
      by : (q : Value × ℕ) (e : Document) (b : Bool) → cond b None (get bag q) ≡ Some e → StandsAt q e
      by q e true s = absurd (cc)
      by q e false s = found_placed bag placed q e s

  pub after_placed : (bag : Bag) → IsPlaced chunks bag → (command : Command) → IsPlaced chunks (bag_after bag (doing chunks bag command))
  after_placed bag placed =
      each_doing chunks bag (λ d. IsPlaced chunks (bag_after bag d)) (λ d. put_placed bag placed d)
      (λ shard d e. put_placed (without bag shard (id_of d)) (without_placed bag placed shard (id_of d)) e) (λ shard d. without_placed bag placed shard (id_of d))
      (λ reply other. placed)
