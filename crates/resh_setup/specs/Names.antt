-- The names of shards and clients, and of a key's fields.
use Rattle.std.specs.Prelude.{ℕ, Bool, true, not, ◌&&◌, ◌||◌, ◌==◌, nat_lt, nat_le, List, [], ◌∷◌, ◌++◌, length, slice_index, codes}
use Rattle.std.specs.List.{list_all, list_any}
use Rattle.std.specs.Char.{is_ascii_digit}
use Rattle.std.specs.Int.{is_in_range}
use Rattle.resh_value.specs.Limits.{dot, dollar}
use Rattle.resh_value.specs.Names.{same_name}

-- names of shards and clients have 1 to 16 of `a` to `z`, `0` to `9` and `_`
abbrev pub is_node_byte : ℕ → Bool
is_node_byte b = is_in_range 97 122 b || is_ascii_digit b || (b == 95)

abbrev pub is_node_name : List ℕ → Bool
is_node_name name = nat_lt 0 (length name) && nat_le (length name) 16 && list_all is_node_byte name

-- a top-level name: not empty, without a dot, not beginning with `$`
abbrev pub is_field_name : List ℕ → Bool
is_field_name name =
    nat_lt 0 (length name) && not (slice_index name 0 == dollar) && list_all (λ b. not (b == dot)) name

-- no name before has the same bytes
abbrev pub is_new : List (List ℕ) → List ℕ → Bool
is_new before name = not (list_any (same_name name) before)

-- a shard's name, beside those before it: none is `coordinator`, and none comes twice
abbrev pub is_shard_name : List (List ℕ) → List ℕ → Bool
is_shard_name before name = is_node_name name && not (same_name name (codes "coordinator")) && is_new before name

-- the name of a key's field, beside those before it: none comes twice
abbrev pub is_key_name : List (List ℕ) → List ℕ → Bool
is_key_name before name = is_field_name name && is_new before name

-- each item is as it has to be beside those before it, where `before` stand before the items
abbrev pub each_after : {A : Type 0} → (List A → A → Bool) → List A → List A → Bool
each_after test before [] = true
each_after test before (item ∷ items) = test before item && each_after test (before ++ item ∷ []) items

-- 1 to 8 shards
abbrev pub are_shard_names : List (List ℕ) → Bool
are_shard_names names = nat_lt 0 (length names) && nat_le (length names) 8 && each_after is_shard_name [] names

-- a key of 1 to 3 fields
abbrev pub are_key_names : List (List ℕ) → Bool
are_key_names names = nat_lt 0 (length names) && nat_le (length names) 3 && each_after is_key_name [] names
