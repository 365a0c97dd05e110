-- How many chains of versions a shard has, and how many entries it logs.
use Rattle.std.proofs.Common.{◌≡◌, ◌≤◌, ℕ, zero, suc, ◌+◌, Bool, true, false, cond, max, List, [], ◌∷◌, ◌++◌, length, map, filter, Option, Some, None, is_some, refl, ap, ◌∙◌, arith}
use Rattle.std.proofs.lemmas.List.{length-append, length-map}
use Rattle.std.specs.FinMap.{entries, entries_sorted, entries-from_sorted, entries-insert, find, insert}
use Rattle.std.specs.FinMap.Entries.{length-put}
use Rattle.std.specs.List.{cons_option, filter_map, fold, range_with_len}
use Rattle.resh_value.specs.Lookup.{id_of}
use Rattle.resh_value.specs.Order.{compare_of}
use Rattle.resh_value.specs.derived.OrderTies.{compare_total}
use Rattle.resh_value.specs.declared.value.ShardId.{ShardId}
use Rattle.resh_value.specs.declared.value.Value.{Value}
use Rattle.resh_bag.specs.Answer.{Doing}
use Rattle.resh_bag.specs.Bag.{Document}
use Rattle.resh_chunks.specs.Chunks.{Chunks}
use Rattle.resh_oplog.specs.declared.entry.What.{What}
use Rattle.resh_stamp.specs.declared.stamp.Stamp.{Stamp}
use Rattle.resh_shard.specs.Decisions.{decided, done, done_by}
use Rattle.resh_shard.specs.Shards.{Shard, final_entries, final_entry, taken_in, taken_out, taken_out_at, with_loaded, wrote}
use Rattle.resh_shard.specs.Writes.{contents, entries_of, written}
use Rattle.resh_shard.specs.declared.act.Decision.{Decision}
use Rattle.resh_shard.specs.declared.act.Decision.TheVariants.{Writes, Leaves, Says}
use Rattle.resh_shard.specs.declared.act.Write.{Write}
use Rattle.resh_shard.specs.declared.act.Write.TheVariants.{Puts, Takes, Turns, Rekeys}
use Rattle.resh_versions.specs.Chains.{Chain, chain_read, has_versions, pruned_chain, version}
use Rattle.resh_versions.specs.Standing.{Chains, VersionsOf, chain_in, is_above, now, pruned, pruned_chains, pruned_entries, pushed, standing}
use Rattle.resh_versions.proofs.Pruning.{pruned_in_order}
use Rattle.resh_leading.proofs.Places.{filter_most}

abbrev pub chains_in : VersionsOf → ℕ
chains_in versions = length (entries versions.chains)

same : (n : ℕ) → n ≤ suc n
same n = omega arith

inserted : (chains : Chains) (id : Value) (chain : Chain) → length (entries (insert chains id chain)) ≤ suc (length (entries chains))
inserted chains id chain =
    by (is_some (find compare_of id (entries chains)))
    (ap (λ (es : List (Value × Chain)). length es) (entries-insert compare_total chains id chain)
    ∙ length-put compare_of compare_total id chain (entries chains) (entries_sorted chains))
  where
    by : (t : Bool) → length (entries (insert chains id chain)) ≡ cond t (length (entries chains)) (length (entries chains) + 1)
        → length (entries (insert chains id chain)) ≤ suc (length (entries chains))
    by true e = omega (arith, e)
    by false e = omega (arith, e)

-- a write adds one chain at most
written_chains : (versions : VersionsOf) (time : ℕ) (w : Write) → chains_in (written versions time w) ≤ suc (chains_in versions)
written_chains versions time (Puts d) =
    inserted versions.chains (id_of d) (chain_in versions.chains (id_of d) ++ version time (Some d) ∷ [])
written_chains versions time (Takes d) = by (is_some (now versions (id_of d)))
  where
    by : (t : Bool) → length (entries (cond t (pushed versions.chains (id_of d) (version time None)) versions.chains)) ≤ suc (chains_in versions)
    by true = inserted versions.chains (id_of d) (chain_in versions.chains (id_of d) ++ version time None ∷ [])
    by false = same (chains_in versions)
written_chains versions time (Turns d change e) =
    inserted versions.chains (id_of e) (chain_in versions.chains (id_of e) ++ version time (Some e) ∷ [])
written_chains versions time (Rekeys d e) =
    inserted versions.chains (id_of e) (chain_in versions.chains (id_of e) ++ version time (Some e) ∷ [])

-- and two entries
entries_many : (names : Bool) (donor : ShardId) (stamp : Stamp) (part : ℕ) (list : List (ℕ × What))
    → length (entries_of names donor stamp part list) ≡ length list
entries_many names donor stamp part [] = refl
entries_many names donor stamp part (content ∷ rest) = ap suc (entries_many names donor stamp (part + 1) rest)

contents_few : (new_map : Chunks) (w : Write) → length (contents new_map w) ≤ 2
contents_few new_map (Puts d) = omega arith
contents_few new_map (Takes d) = omega arith
contents_few new_map (Turns d change e) = omega arith
contents_few new_map (Rekeys d e) = omega arith

-- what a shard has after no more than one write
pub record IsFew (one other : Shard) : Type 0 where
  pub chains : chains_in other.versions ≤ suc (chains_in one.versions)
  pub log : length other.log.entries ≤ length one.log.entries + 2

few_same : (shard : Shard) → IsFew shard shard
few_same shard = record { chains = same (chains_in shard.versions); log = more (length shard.log.entries) }
  where
    more : (n : ℕ) → n ≤ n + 2
    more n = omega arith

wrote_few : (stamp : Stamp) (part : ℕ) (w : Write) (shard : Shard) → IsFew shard (wrote stamp part w shard)
wrote_few stamp part w shard = record {
  chains = written_chains shard.versions stamp.time w;
  log = two (length shard.log.entries) (length (contents shard.new_map w)) _
      (length-append shard.log.entries (entries_of shard.names shard.log.donor stamp part (contents shard.new_map w)))
      (entries_many shard.names shard.log.donor stamp part (contents shard.new_map w)) (contents_few shard.new_map w);
}
  where
    two : (a b c : ℕ) {x : ℕ} → x ≡ a + c → c ≡ b → b ≤ 2 → x ≤ a + 2
    two a b c e k le = omega (arith, e, k, le)

pub done_few : (stamp : Stamp) (doing : Doing) (shard : Shard) → IsFew shard (done stamp doing shard)
done_few stamp doing shard = by (decided shard doing)
  where
    by : (x : Decision) → IsFew shard (done_by stamp x shard)
    by (Writes w reply) = wrote_few stamp 0 w shard
    by (Leaves to d) = few_same shard
    by (Says reply) = few_same shard

pub in_few : (stamp : Stamp) (d : Document) (shard : Shard) → IsFew shard (taken_in stamp d shard)
in_few stamp d shard = by (is_some (now shard.versions (id_of d)))
  where
    by : (t : Bool) → IsFew shard (cond t shard (wrote stamp 1 (Puts d) shard))
    by true = few_same shard
    by false = wrote_few stamp 1 (Puts d) shard

pub out_few : (stamp : Stamp) (id : Value) (shard : Shard) → IsFew shard (taken_out stamp id shard)
out_few stamp id shard = by (now shard.versions id)
  where
    by : (found : Option Document) → IsFew shard (taken_out_at stamp found shard)
    by None = few_same shard
    by (Some d) = wrote_few stamp 0 (Takes d) shard

-- pruning adds none
pub pruned_most : (time : ℕ) (versions : VersionsOf) → chains_in (pruned time versions) ≤ chains_in versions
pruned_most time versions =
    let floor : ℕ = max versions.floor time in
    let es : List (Value × Chain) = entries versions.chains in
    let cut : List (Value × Chain) = map (λ (e : Value × Chain). (e.0, pruned_chain floor e.1)) es in
    least (length (entries (pruned_chains floor versions.chains))) (length (pruned_entries floor es)) (length cut) (length es)
    (ap (λ (l : List (Value × Chain)). length l) (entries-from_sorted compare_of (pruned_entries floor es) (pruned_in_order floor es (entries_sorted versions.chains))))
    (filter_most (λ (e : Value × Chain). has_versions e.1) cut) (length-map es (λ (e : Value × Chain). (e.0, pruned_chain floor e.1)))
  where
    least : (a b c d : ℕ) → a ≡ b → b ≤ c → c ≡ d → a ≤ d
    least a b c d e le k = omega (arith, e, le, k)

-- a reading gives one document a chain at most
read_most : {X Y : Type 0} (f : X → Option Y) (xs : List X) → length (filter_map f xs) ≤ length xs
read_most f [] = omega arith
read_most {X} {Y} f (x ∷ xs) = by (f x) (read_most f xs)
  where
    by : (o : Option Y) → length (filter_map f xs) ≤ length xs → length (cons_option o (filter_map f xs)) ≤ suc (length xs)
    by None le = omega (arith, le)
    by (Some y) le = omega (arith, le)

pub standing_most : (versions : VersionsOf) (time : ℕ) → length (standing versions time) ≤ chains_in versions
standing_most versions time =
    let es : List (Value × Chain) = entries versions.chains in
    let above : List (Value × Chain) = filter (λ (e : Value × Chain). is_above None e.0) es in
    least (length (standing versions time)) (length above) (length es) (read_most (λ (e : Value × Chain). chain_read (Some time) e.1) above)
    (filter_most (λ (e : Value × Chain). is_above None e.0) es)
  where
    least : (a b c : ℕ) → a ≤ b → b ≤ c → a ≤ c
    least a b c h k = omega (arith, h, k)

-- final entries, one for each shard of the new map
pub finals_many : (shard : Shard) (stamp : Stamp) → length (final_entries shard stamp) ≡ shard.new_map.shards
finals_many shard stamp = length-map-range (final_entry shard.log.donor stamp) 0 shard.new_map.shards
  where
    length-map-range : {X : Type 0} (f : ℕ → X) (from many : ℕ) → length (map f (range_with_len from many)) ≡ many
    length-map-range f from zero = refl
    length-map-range f from (suc many) = ap suc (length-map-range f (from + 1) many)

-- documents that are loaded, each once
pub loaded_most : (ds : List Document) (shard : Shard)
    → (chains_in (fold with_loaded shard ds).versions ≤ chains_in shard.versions + length ds)
    × ((fold with_loaded shard ds).log.entries ≡ shard.log.entries)
loaded_most [] shard = (none (chains_in shard.versions), refl)
  where
    none : (a : ℕ) → a ≤ a + 0
    none a = omega arith
loaded_most (d ∷ ds) shard =
    let rest = loaded_most ds (with_loaded shard d) in (
      more (chains_in (fold with_loaded (with_loaded shard d) ds).versions) (chains_in (with_loaded shard d).versions) (chains_in shard.versions)
          (length ds) rest.0
          (inserted shard.versions.chains (id_of d) (chain_in shard.versions.chains (id_of d) ++ version 0 (Some d) ∷ [])),
      rest.1,
    )
  where
    more : (a b c n : ℕ) → a ≤ b + n → b ≤ suc c → a ≤ c + suc n
    more a b c n h k = omega (arith, h, k)
