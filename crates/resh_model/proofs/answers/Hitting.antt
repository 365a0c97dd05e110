-- What a command by key does where its document is found, and where it isn't.
use Rattle.std.proofs.Common.{◌≡◌, ℕ, true, false, cond, Option, Some, None, sym, ap, ◌∙◌}
use Rattle.resh_chunks.specs.Chunks.{Chunks, owner_of}
use Rattle.resh_filter.specs.Filters.{matches}
use Rattle.resh_command.specs.declared.reply.Reply.TheVariants.{NoKey}
use Rattle.resh_value.specs.Lookup.{id_of}
use Rattle.resh_bag.specs.Bag.{Bag, Document, held}
use Rattle.resh_bag.specs.Answer.{Doing, says, has_key, hit, matching, on_hit, with_key}

module _ (chunks : Chunks) (bag : Bag) (filter : Document) where
  -- the document under the filter's `_id` doesn't match
  pub not_hit : (fields : Document) (shard : ℕ) (d : Document) → fields ≡ filter → shard ≡ owner_of chunks fields → Some d ≡ held bag shard (id_of fields) → matches filter d ≡ false → None ≡ hit chunks bag filter
  not_hit fields shard d same owner found fails =
      sym (ap (matching filter) (sym (found ∙ (λ i. held bag (owner i) (id_of fields)) ∙ (λ i. held bag (owner_of chunks (same i)) (id_of (same i))))) ∙ ap (λ b. cond b (Some d) None) fails)

  pub hit_doing : (f : Document → Doing) (d : Document) → has_key chunks filter ≡ true → Some d ≡ hit chunks bag filter → f d ≡ with_key chunks filter (on_hit f (hit chunks bag filter))
  hit_doing f d key found = ap (on_hit f) found ∙ ap (λ b. cond b (on_hit f (hit chunks bag filter)) (says NoKey)) (sym key)
