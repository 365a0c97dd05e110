-- A chunk map without fault gives each document to one of its shards.
use Rattle.std.proofs.Common.{◌≡◌, ◌<◌, Bool, true, false, cond, List, [], ◌∷◌, filter, None, Some, refl, sym, ap, subst, ◌∙◌}
use Rattle.std.specs.List.{find, slice_get}
use Rattle.std.specs.Option.{option_map_or}
use Rattle.resh_value.specs.OrderLaws.{compare_total}
use Rattle.resh_chunks.specs.Bounds.{has_key}
use Rattle.resh_chunks.specs.Chunks.{Chunks, chunk_fault, owner_of}
use Rattle.resh_chunks.specs.Pattern.{key_of}
use Rattle.resh_chunks.specs.declared.bound.ChunkRow.{ChunkRow}
use Rattle.resh_chunks.proofs.Tiling.{one_owner}
use Rattle.resh_bag.specs.Bag.{Document}

-- the first that passes is the first of those that pass
first_passes : {X : Type 0} (p : X → Bool) (xs : List X) → find p xs ≡ slice_get (filter p xs) 0
first_passes p [] = refl
first_passes {X} p (x ∷ xs) = by (p x) (first_passes p xs)
  where
    by : (b : Bool) → find p xs ≡ slice_get (filter p xs) 0 → cond b (Some x) (find p xs) ≡ slice_get (cond b (x ∷ filter p xs) (filter p xs)) 0
    by true e = refl
    by false e = e

pub owner_there : (chunks : Chunks) → chunk_fault chunks ≡ None → (document : Document) → owner_of chunks document < chunks.shards
owner_there chunks none document =
    let key = key_of chunks.pattern document in
    let one = one_owner compare_total chunks key none in
    let is : owner_of chunks document ≡ one.0 = ap (λ r. option_map_or (λ (row : ChunkRow). row.shard.0) r 0) (first_passes (has_key key) chunks.rows ∙ ap (λ l. slice_get l 0) one.2.only) ∙ one.2.here in
    subst (λ s. s < chunks.shards) (sym is) one.1
