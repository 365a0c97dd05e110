-- What is held of each `_id`, and the part of a bag that it stands for.
use Rattle.std.specs.Prelude.{◌≡◌, ℕ, ◌==◌, Option, Some, None}
use Rattle.resh_value.specs.declared.value.Value.{Value}
use Rattle.resh_chunks.specs.Chunks.{Chunks}
use Rattle.resh_bag.specs.Bag.{Bag, held}
use Rattle.resh_rules.specs.Held.{Held, waits}
use Rattle.resh_rules.specs.Slots.{IsSound, slot}
use Rattle.resh_shard.specs.Laws.{comes}
use Rattle.resh_stash.specs.Stored.{Document}

-- what the bag has of a donor under an `_id` and comes to a shard by the new map
abbrev pub comes_from : Chunks → Bag → ℕ → ℕ → Value → Option Document
comes_from new_map bag shard donor id = comes (λ number. number == shard) new_map (held bag donor id)

-- what is held of each `_id` is sound, and the slot of each donor is what comes from it to the shard
pub record HoldsPart (old_map new_map : Chunks) (bag : Bag) (shard : ℕ) (at : Value → Held) : Type 0 where
  pub sound : (id : Value) → IsSound old_map id (at id)
  pub slots : (id : Value) (donor : ℕ) → slot old_map (at id) donor ≡ comes_from new_map bag shard donor id

-- a document waits in a stash
abbrev pub Waits : Held → Type 0
Waits h = (donor : ℕ) × (document : Document) × (waits h donor ≡ Some document)

-- nothing is held
pub record IsNothing (h : Held) : Type 0 where
  pub output : h.output ≡ None
  pub waiting : (donor : ℕ) → waits h donor ≡ None
