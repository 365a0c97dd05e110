-- What a command comes to on a shard.
use Rattle.std.proofs.Common.{◌≡◌, ◌==◌, ◌&&◌, ℕ, Bool, true, false, not, cond, length, filter, take, Some, is_some, Result, Ok, refl, sym, ap, ◌∙◌}
use Rattle.std.specs.Ordering.{is_eq}
use Rattle.resh_value.specs.Lookup.{id_of}
use Rattle.resh_value.specs.Order.{compare_documents}
use Rattle.resh_value.specs.declared.value.ShardId.{ShardId}
use Rattle.resh_chunks.specs.Chunks.{Chunks, owner_of}
use Rattle.resh_filter.specs.Filters.{matches}
use Rattle.resh_ops.specs.declared.faults.ChangeFault.{ChangeFault}
use Rattle.resh_command.specs.declared.reply.Reply.TheVariants.{Counted, Duplicate, Found, Matched, NoKey}
use Rattle.resh_versions.specs.Standing.{IsFiled}
use Rattle.resh_bag.specs.Answer.{Doing, adds, replaces, removes, says, has_key, hit, on_hit, result_doing, with_key}
use Rattle.resh_bag.specs.Bag.{Bag, Document, documents, held}
use Rattle.resh_shard.specs.Decisions.{act_by, answered, decided, decided_turn, turned}
use Rattle.resh_shard.specs.Shards.{Shard, bag_of, documents_of, map_of, number_of}
use Rattle.resh_shard.specs.Writes.{shard_id}
use Rattle.resh_shard.specs.declared.act.Act.TheVariants as act
use Rattle.resh_shard.specs.declared.act.Decision.TheVariants.{Writes, Leaves, Says}
use Rattle.resh_bag.proofs.shards.ByShard.{same_number}
use Rattle.resh_shard.proofs.Held.{documents_own, held_elsewhere}

-- a document that the filter hits is what the command is done to
pub hit_doing : (map : Chunks) (bag : Bag) (f : Document) (does : Document → Doing) (d : Document) → has_key map f ≡ true → Some d ≡ hit map bag f → does d ≡ with_key map f (on_hit does (hit map bag f))
hit_doing map bag f does d key found = ap (on_hit does) found ∙ ap (λ b. cond b (on_hit does (hit map bag f)) (says NoKey)) (sym key)

module _ (s : Shard) where
  -- a result of another owner leaves, since nothing is held there
  pub leaves : (d e : Document) (made : Result Document ChangeFault) (to : ShardId) → made ≡ Ok e → (owner_of (map_of s) e == number_of s) ≡ false → to.0 ≡ owner_of (map_of s) e
      → Leaves to e ≡ decided s (result_doing (map_of s) (bag_of s) (number_of s) d made)
  leaves d e made to is other owner =
      (λ i. Leaves (shard_id (owner i)) e)
      ∙ sym (ap (λ m. decided s (result_doing (map_of s) (bag_of s) n d m)) is
      ∙ ap (λ b. decided s (cond (not b && is_some (held (bag_of s) t (id_of e))) (says Duplicate) (replaces n d t e))) other
      ∙ ap (λ o. decided s (cond (true && is_some o) (says Duplicate) (replaces n d t e))) (held_elsewhere (documents_of s) n t (λ same. let off : true ≡ false = sym (ap (λ k. k == n) same ∙ same_number n) ∙ other in cc) (id_of e))
      ∙ ap (λ b. cond b (decided_turn s d e) (Leaves (shard_id t) e)) other)
    where
      n : ℕ
      n = number_of s

      t : ℕ
      t = owner_of (map_of s) e

  -- what is found and counted is what the bag of this shard has
  module _ (are : IsFiled s.versions.chains) (f : Document) where
    pub finds : Says (Found (length (filter (matches f) (documents_of s))) (take 10 (filter (matches f) (documents_of s))))
        ≡ Says (Found (length (filter (matches f) (documents (bag_of s)))) (take 10 (filter (matches f) (documents (bag_of s)))))
    finds = sym (ap (λ ds. Says (Found (length (filter (matches f) ds)) (take 10 (filter (matches f) ds)))) (documents_own s.versions are (number_of s)))

    pub counts : Says (Counted (length (filter (matches f) (documents_of s)))) ≡ Says (Counted (length (filter (matches f) (documents (bag_of s)))))
    counts = sym (ap (λ ds. Says (Counted (length (filter (matches f) ds)))) (documents_own s.versions are (number_of s)))

  -- what is decided is answered as the doing
  pub acts : (doing : Doing) → act_by (decided s doing) ≡ answered doing
  acts (adds n d) = refl
  acts (removes n d) = refl
  acts (says reply) = refl
  acts (replaces n d t e) = by (t == n) (is_eq (compare_documents d e))
    where
      by : (b same : Bool) → act_by (cond b (cond same (Says (Matched false)) (Writes (turned s d e) (Matched true))) (Leaves (shard_id t) e))
          ≡ cond b (act.Done (Matched (not same))) (act.Leaves (shard_id t) e)
      by true true = refl
      by true false = refl
      by false same = refl
