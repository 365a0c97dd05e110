-- The opening state leads on.
use Rattle.std.proofs.Common.{◌≡◌, ◌≤◌, ◌==◌, ℕ, zero, suc, ◌+◌, ◌*◌, true, false, cond, List, [], length, map, replicate, refl, sym, ap, ◌∙◌, slice_get, slice_index_or, arith}
use Rattle.std.specs.FinMap.{len-empty, len-entries}
use Rattle.std.specs.List.{range_with_len}
use Rattle.resh_value.specs.Order.{compare_of}
use Rattle.resh_bag.specs.Answer.{text_limit}
use Rattle.resh_bag.specs.Bag.{Document}
use Rattle.resh_cells.specs.Cells.{link_in, no_client, no_link, no_shard, shard_in}
use Rattle.resh_cells.specs.declared.cluster.ClientCell.{ClientCell}
use Rattle.resh_cells.specs.declared.cluster.LinkCell.{LinkCell}
use Rattle.resh_cells.specs.declared.cluster.ShardCell.{ShardCell}
use Rattle.resh_chunks.specs.Chunks.{owner_of}
use Rattle.resh_events.specs.Opening.{documents_at, opening, opening_link, opening_shard}
use Rattle.resh_model.specs.Orders.{commands_of}
use Rattle.resh_oplog.specs.declared.entry.Entry.{Entry}
use Rattle.resh_progress.specs.Kinds.{ToBlock, ToDonate}
use Rattle.resh_progress.specs.Tellings.{has}
use Rattle.resh_setup.specs.declared.setup.Setup.{Setup}
use Rattle.resh_shard.specs.Shards.{Shard, opened}
use Rattle.resh_shard.specs.Writes.{shard_id}
use Rattle.resh_versions.specs.Chains.{Chain}
use Rattle.resh_leading.specs.Laws.{OpensLeading}
use Rattle.resh_leading.specs.Leading.{AreAllCut, answered_in}
use Rattle.resh_leading.proofs.Places.{filter_most}
use Rattle.resh_leading.proofs.Storing.{chains_in, loaded_most}

never : {A : Type 0} → true ≡ false → A
never e = cc

-- what holds of all that is made, and of what stands where nothing is
each_has : {X : Type 0} (P : X → Type 0) (f : ℕ → X) (d : X) → P d → ((k : ℕ) → P (f k)) → (from many k : ℕ)
    → P (slice_index_or (map f (range_with_len from many)) k d)
each_has P f d none all from zero k = none
each_has P f d none all from (suc many) zero = all from
each_has P f d none all from (suc many) (suc k) = each_has P f d none all (from + 1) many k

replicate_has : {X : Type 0} (P : X → Type 0) (x d : X) → P d → P x → (many k : ℕ) → P (slice_index_or (replicate many x) k d)
replicate_has P x d none is zero k = none
replicate_has P x d none is (suc many) zero = is
replicate_has P x d none is (suc many) (suc k) = replicate_has P x d none is many k

module _ (setup : Setup) where
  shard_has : (P : ShardCell → Type 0) → P no_shard → ((s : ℕ) → P (opening_shard setup s)) → (s : ℕ) → P (shard_in (opening setup) s)
  shard_has P none all = each_has P (opening_shard setup) no_shard none all 0 (length setup.shards)

  link_has : (P : LinkCell → Type 0) → P no_link → ((r d : ℕ) → P (opening_link setup r d)) → (r d : ℕ) → P (link_in (opening setup) r d)
  link_has P none all =
      each_has (λ (row : List LinkCell). (d : ℕ) → P (slice_index_or row d no_link))
      (λ r. map (opening_link setup r) (range_with_len 0 (length setup.shards))) [] (λ d. none)
      (λ r. each_has P (opening_link setup r) no_link none (all r) 0 (length setup.shards)) 0 (length setup.shards)

  abbrev empty_shard : ℕ → Shard
  empty_shard s = opened (shard_id s) setup.old_map setup.new_map text_limit

  no_chains : (s : ℕ) → chains_in (empty_shard s).versions ≡ 0
  no_chains s = sym (len-entries (empty_shard s).versions.chains) ∙ len-empty compare_of Chain

  few_chains : (s : ℕ) → chains_in (opening_shard setup s).shard.versions ≤ length setup.documents
  few_chains s =
      few (chains_in (opening_shard setup s).shard.versions) (chains_in (empty_shard s).versions) (length (documents_at setup s)) (length setup.documents)
      (loaded_most (documents_at setup s) (empty_shard s)).0 (no_chains s)
      (filter_most (λ (d : Document). owner_of setup.old_map d == s) setup.documents)
    where
      few : (a b c d : ℕ) → a ≤ b + c → b ≡ 0 → c ≤ d → a ≤ d
      few a b c d h e k = omega (arith, h, e, k)

  no_entries : (s : ℕ) → (opening_shard setup s).shard.log.entries ≡ []
  no_entries s = (loaded_most (documents_at setup s) (empty_shard s)).1

pub opens_leading : OpensLeading
opens_leading setup valid = record {
  counted = record {
    answers = λ c lt. replicate_has (λ (cell : ClientCell). length cell.replies ≤ length (commands_of (slice_get setup.clients c))) no_client no_client
        (least (length (commands_of (slice_get setup.clients c)))) (least (length (commands_of (slice_get setup.clients c)))) (length setup.clients) c;
    logs = λ s lt. small (length (shard_in (opening setup) s).shard.log.entries)
        (2 * answered_in setup (opening setup) + cond (has (shard_in (opening setup) s).donor.told ToBlock) (length setup.shards) 0)
        (shard_has setup (λ (cell : ShardCell). length cell.shard.log.entries ≡ 0) refl
        (λ k. ap (λ (es : List Entry). length es) (no_entries setup k)) s);
    stores = λ s lt off. wide (chains_in (shard_in (opening setup) s).shard.versions) (length setup.documents) (answered_in setup (opening setup))
        (shard_has setup (λ (cell : ShardCell). chains_in cell.shard.versions ≤ length setup.documents)
        (small (chains_in no_shard.shard.versions) (length setup.documents) (sym (len-entries no_shard.shard.versions.chains) ∙ len-empty compare_of Chain))
        (few_chains setup) s);
  };
  opened = λ r d r_in d_in none told. never
      (sym told ∙ shard_has setup (λ (cell : ShardCell). has cell.donor.told ToDonate ≡ false) refl (λ k. refl) r);
  alive = λ r d none. link_has setup (λ (cell : LinkCell). cell.link.failed ≡ false) refl (λ r d. refl) r d;
  cut = λ r d r_in d_in. link_has setup (λ (cell : LinkCell). AreAllCut setup.lanes cell cell.link.out) tt (λ r d. tt) r d;
}
  where
    least : (n : ℕ) → 0 ≤ n
    least n = omega arith

    wide : (a b c : ℕ) → a ≤ b → a ≤ b + c
    wide a b c h = omega (arith, h)

    small : (a b : ℕ) → a ≡ 0 → a ≤ b
    small a b e = omega (arith, e)
