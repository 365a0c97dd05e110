-- The bag of one shard is its part, and a filter with the whole pattern matches there alone.
use Rattle.std.proofs.Common.{◌≡◌, ◌==◌, ◌||◌, ◌+◌, ◌<◌, ⊎_elim, ℕ, Bool, true, false, cond, List, [], ◌∷◌, length, filter, Some, None, refl, sym, ap, ◌∙◌, subst, arith}
use Rattle.std.proofs.lemmas.Bool.Decides.{eqb_tells}
use Rattle.std.proofs.lemmas.List.FromFn.{length-range_with_len}
use Rattle.std.specs.List.{Contains, IsDistinct, sum_by}
use Rattle.resh_value.specs.Lookup.{id_of}
use Rattle.resh_chunks.specs.Chunks.{Chunks, chunk_fault, owner_of}
use Rattle.resh_filter.specs.Filters.{matches}
use Rattle.resh_bag.specs.Bag.{Bag, Document, documents, held, IsPlaced}
use Rattle.resh_bag.specs.Parts.{all_shards, bag_on, has_pattern, is_among}
use Rattle.resh_bag.specs.Placement.{part}
use Rattle.resh_bag.proofs.Lists.{first_there}
use Rattle.resh_bag.proofs.shards.ByShard.{held_among, held_on, on_placed, same_number, same_part}
use Rattle.resh_bag.proofs.shards.Locality.{matched_owner}
use Rattle.resh_bag.proofs.shards.Merged.{parts_merge}
use Rattle.resh_bag.proofs.shards.Owners.{owner_there}
use Rattle.resh_bag.proofs.shards.Parting.{document_held}
use Rattle.resh_router.proofs.Lists.{all_kept, in_range, only_those, range_distinct, sum_total}

alone : (s : ℕ) → IsDistinct (λ a b. a == b) (s ∷ [])
unfolding IsDistinct
alone s = (tt, tt)

module _ (chunks : Chunks) (bag : Bag) (placed : IsPlaced chunks bag) where
  pub own_documents : (s : ℕ) → documents (bag_on chunks bag (s ∷ [])) ≡ part chunks bag s
  own_documents s =
      sym (all_kept (λ d. owner_of chunks d == s) (documents (bag_on chunks bag (s ∷ []))) owned)
      ∙ same_part chunks (bag_on chunks bag (s ∷ [])) bag (on_placed chunks bag placed (s ∷ [])) placed s (λ q. held_among chunks bag placed (s ∷ []) s here q)
    where
      here : is_among (s ∷ []) s ≡ true
      here = ap (λ b. b || false) (same_number s)

      owned : (d : Document) → Contains (documents (bag_on chunks bag (s ∷ []))) d → (owner_of chunks d == s) ≡ true
      owned d there = ⊎_elim (λ same. subst (λ n. (n == s) ≡ true) same.1 (same_number s)) (λ other. absurd (nothing other.0)) (eqb_tells s (owner_of chunks d))
        where
          is_held : held (bag_on chunks bag (s ∷ [])) (owner_of chunks d) (id_of d) ≡ Some d
          is_held = document_held chunks (bag_on chunks bag (s ∷ [])) (on_placed chunks bag placed (s ∷ [])) d there

          nothing : (s == owner_of chunks d) ≡ false → ⊥
          nothing e =
              let none : None ≡ Some d =
              sym (held_on chunks bag placed (s ∷ []) (owner_of chunks d) (id_of d)
              ∙ ap (λ b. cond (b || false) (held bag (owner_of chunks d) (id_of d)) None) e)
              ∙ is_held in cc

module _ (chunks : Chunks) (bag : Bag) (whole : chunk_fault chunks ≡ None) (f : Document) where
  abbrev pub mine : ℕ → List Document
  mine s = filter (matches f) (part chunks bag s)

  -- the shards that a find or a count of this filter is for
  abbrev pub asked : List ℕ
  asked = cond (has_pattern chunks f) (owner_of chunks f ∷ []) (all_shards chunks)

  pub covers : (d : Document) → matches f d ≡ true → Contains (cond (has_pattern chunks f) (owner_of chunks f ∷ []) (all_shards chunks)) (owner_of chunks d)
  covers d m = by (has_pattern chunks f) refl
    where
      by : (b : Bool) → has_pattern chunks f ≡ b → Contains (cond b (owner_of chunks f ∷ []) (all_shards chunks)) (owner_of chunks d)
      by true e = subst (Contains (owner_of chunks f ∷ [])) (sym (matched_owner chunks f d m e)) (first_there (owner_of chunks f) [])
      by false e = in_range 0 chunks.shards (owner_of chunks d) (omega arith) (let lt = owner_there chunks whole d in omega (arith, lt))

  pub asked_distinct : IsDistinct (λ a b. a == b) (cond (has_pattern chunks f) (owner_of chunks f ∷ []) (all_shards chunks))
  asked_distinct = by (has_pattern chunks f)
    where
      by : (b : Bool) → IsDistinct (λ a b. a == b) (cond b (owner_of chunks f ∷ []) (all_shards chunks))
      by true = alone (owner_of chunks f)
      by false = range_distinct 0 chunks.shards

  pub asked_some : 0 < length (cond (has_pattern chunks f) (owner_of chunks f ∷ []) (all_shards chunks))
  asked_some = by (has_pattern chunks f)
    where
      by : (b : Bool) → 0 < length (cond b (owner_of chunks f ∷ []) (all_shards chunks))
      by true = omega arith
      by false = let lt = owner_there chunks whole f in let long = length-range_with_len 0 chunks.shards in omega (arith, lt, long)

  pub asked_count : sum_by (λ s. length (filter (matches f) (part chunks bag s))) (cond (has_pattern chunks f) (owner_of chunks f ∷ []) (all_shards chunks)) ≡ length (filter (matches f) (documents bag))
  asked_count = by (has_pattern chunks f) refl
    where
      by : (b : Bool) → has_pattern chunks f ≡ b → sum_by (λ s. length (mine s)) (cond b (owner_of chunks f ∷ []) (all_shards chunks)) ≡ length (filter (matches f) (documents bag))
      by true e =
          let one : 0 + length (mine (owner_of chunks f)) ≡ length (mine (owner_of chunks f)) = omega arith in
          one
          ∙ ap length
          (only_those (matches f) (λ d. owner_of chunks d == owner_of chunks f)
          (λ d m. subst (λ n. (n == owner_of chunks f) ≡ true) (sym (matched_owner chunks f d m e)) (same_number (owner_of chunks f))) (documents bag))
      by false e = sum_total (λ s. length (mine s)) chunks.shards ∙ sym (parts_merge.counts chunks bag (matches f) whole)
