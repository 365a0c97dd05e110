-- Names in a cluster file: of shards and of a key's fields, and shards by their names.
use Rattle.std.specs.Prelude.{ℕ, List, position, Option, Some, None, Ok, cond}
use Rattle.serde_json.specs.Data.{Data}
use Rattle.resh_value.specs.Names.{same_name}
use Rattle.resh_value.specs.declared.value.ShardId.{ShardId}
use Rattle.resh_setup.specs.Names.{is_node_name, is_shard_name, is_key_name}
use Rattle.resh_value.specs.Walk.{ends}
use Rattle.resh_config.specs.Faults.{Read}
use Rattle.resh_config.specs.declared.faults.FaultKind.TheVariants.{UnknownName, WrongKind}
use Rattle.resh_config.specs.Walk.{◌>>=◌, text_in, list_in, some_of, accept}

abbrev pub shard_name_in : List (List ℕ) → Data → Read (List ℕ)
shard_name_in before d = text_in d >>= λ name. accept (is_shard_name before name) name

abbrev pub shards_in : Data → Read (List (List ℕ))
shards_in d = list_in 8 shard_name_in d >>= some_of

abbrev pub key_name_in : List (List ℕ) → Data → Read (List ℕ)
key_name_in before d = text_in d >>= λ name. accept (is_key_name before name) name

abbrev pub key_in : Data → Read (List (List ℕ))
key_in d = list_in 3 key_name_in d >>= some_of

-- the number of a shard that is there
abbrev pub found_shard : Option ℕ → Read ShardId
found_shard None = ends UnknownName
found_shard (Some s) = Ok (record { 0 = s })

-- a name of another form is of the wrong kind
abbrev pub shard_named : List (List ℕ) → List ℕ → Read ShardId
shard_named shards name = cond (is_node_name name) (found_shard (position (same_name name) shards)) (ends WrongKind)
