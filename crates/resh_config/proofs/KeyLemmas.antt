-- The names of shards and keys that were read.
use Rattle.std.proofs.Common.{◌≡◌, ◌∙◌, ℕ, ◌≤◌, Bool, true, false, not, cond, List, [], ◌∷◌, ◌++◌, length, Some, None, Ok, refl, ap, subst, arith}
use Rattle.std.specs.Prelude.{◌&&◌, ◌||◌, nat_lt, nat_le, option_map}
use Rattle.std.specs.List.{list_any}
use Rattle.std.proofs.lemmas.Bool.{le-ltb}
use Rattle.std.proofs.lemmas.Bool.Decides.{nat_tests}
use Rattle.serde_json.specs.Data.{Data}
use Rattle.resh_value.specs.Names.{same_name}
use Rattle.resh_chunks.specs.Pattern.{first_repeat, pattern_fault}
use Rattle.resh_chunks.specs.declared.faults.PatternFault.TheVariants.{Count, Repeated}
use Rattle.resh_setup.specs.Names.{is_field_name, is_new, is_shard_name, is_key_name, each_after, are_shard_names, are_key_names}
use Rattle.resh_config.specs.Walk.{list_in, some_of, text_in, accept}
use Rattle.resh_config.specs.Names.{key_name_in, key_in, shard_name_in, shards_in}
use Rattle.resh_config.proofs.Outcomes.{Ok-and_then, Ok-accept}
use Rattle.resh_config.proofs.ListLemmas.{Ok-some_of, list_apart, within_limit}

-- both of two tests
pub both : (p q : Bool) → (p && q) ≡ true → (p ≡ true) × (q ≡ true)
both true q e = (refl, e)
both false q e = cc

not_true : (q : Bool) → not q ≡ true → q ≡ false
not_true true e = cc
not_true false e = refl

between : (n most : ℕ) → 1 ≤ n → n ≤ most → (nat_lt 0 n && nat_le n most) ≡ true
between n most l h = let p : nat_lt 0 n ≡ true = grind (arith, nat_tests) in let q : nat_le n most ≡ true = grind (arith, nat_tests) in λ i. p i && q i

shard_name_read : (before : List (List ℕ)) (d : Data) (name : List ℕ) → shard_name_in before d ≡ Ok name → is_shard_name before name ≡ true
shard_name_read before d name is =
    let s = Ok-and_then (λ (n : List ℕ). accept (is_shard_name before n) n) (text_in d) name is in
    let t = Ok-accept (is_shard_name before s.0) s.0 name s.2 in
    subst (λ (n : List ℕ). is_shard_name before n ≡ true) t.1 t.0

key_name_read : (before : List (List ℕ)) (d : Data) (name : List ℕ) → key_name_in before d ≡ Ok name → is_key_name before name ≡ true
key_name_read before d name is =
    let s = Ok-and_then (λ (n : List ℕ). accept (is_key_name before n) n) (text_in d) name is in
    let t = Ok-accept (is_key_name before s.0) s.0 name s.2 in
    subst (λ (n : List ℕ). is_key_name before n ≡ true) t.1 t.0

-- the names of shards that were read
pub shards_read : (d : Data) (shards : List (List ℕ)) → shards_in d ≡ Ok shards → are_shard_names shards ≡ true
shards_read d shards is =
    let s = Ok-and_then (some_of {A = List ℕ}) (list_in 8 shard_name_in d) shards is in
    let t = Ok-some_of s.0 shards s.2 in
    let few = subst (λ (ns : List (List ℕ)). length ns ≤ 8) t.0 (within_limit shard_name_in 8 d s.0 s.1) in
    let sizes = between (length shards) 8 t.1 few in
    let apart = subst (λ (ns : List (List ℕ)). each_after is_shard_name [] ns ≡ true) t.0 (list_apart shard_name_in is_shard_name shard_name_read 8 d s.0 s.1) in
    λ i. sizes i && apart i

-- at most eight shards are read
pub few_shards : (d : Data) (shards : List (List ℕ)) → shards_in d ≡ Ok shards → length shards ≤ 8
few_shards d shards is =
    let s = Ok-and_then (some_of {A = List ℕ}) (list_in 8 shard_name_in d) shards is in
    subst (λ (ns : List (List ℕ)). length ns ≤ 8) (Ok-some_of s.0 shards s.2).0 (within_limit shard_name_in 8 d s.0 s.1)

record IsKey (names : List (List ℕ)) : Type 0 where
  some : 1 ≤ length names
  few : length names ≤ 3
  apart : each_after is_key_name [] names ≡ true

key_parts : (d : Data) (names : List (List ℕ)) → key_in d ≡ Ok names → IsKey names
key_parts d names is =
    let s = Ok-and_then (some_of {A = List ℕ}) (list_in 3 key_name_in d) names is in
    let t = Ok-some_of s.0 names s.2 in
    record {
      some = t.1;
      few = subst (λ (ns : List (List ℕ)). length ns ≤ 3) t.0 (within_limit key_name_in 3 d s.0 s.1);
      apart = subst (λ (ns : List (List ℕ)). each_after is_key_name [] ns ≡ true) t.0 (list_apart key_name_in is_key_name key_name_read 3 d s.0 s.1);
    }

-- the names of a key that was read
pub key_read : (d : Data) (names : List (List ℕ)) → key_in d ≡ Ok names → are_key_names names ≡ true
key_read d names is =
    let k = key_parts d names is in
    let sizes = between (length names) 3 k.some k.few in
    let apart = k.apart in
    λ i. sizes i && apart i

no_repeat : (before names : List (List ℕ)) → each_after is_key_name before names ≡ true → first_repeat before names ≡ None
no_repeat before [] h = refl
no_repeat before (name ∷ names) h =
    let now = both (is_key_name before name) (each_after is_key_name (before ++ name ∷ []) names) h in
    let new = not_true (list_any (same_name name) before) (both (is_field_name name) (is_new before name) now.0).1 in
    ap (λ b. cond b (Some (length before)) (first_repeat (before ++ name ∷ []) names)) new ∙ no_repeat (before ++ name ∷ []) names now.1

-- the names of a key that was read are a pattern
pub key_is_pattern : (d : Data) (names : List (List ℕ)) → key_in d ≡ Ok names → pattern_fault names ≡ None
key_is_pattern d names is =
    let k = key_parts d names is in
    ap (λ b. cond (b || nat_lt 3 (length names)) (Some (Count (length names))) (option_map Repeated (first_repeat [] names))) (le-ltb (length names) 1 k.some)
    ∙ ap (λ b. cond b (Some (Count (length names))) (option_map Repeated (first_repeat [] names))) (le-ltb 3 (length names) k.few)
    ∙ ap (option_map Repeated) (no_repeat [] names k.apart)
