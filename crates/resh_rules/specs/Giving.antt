-- What a pool is after it was given an entry that fits.
use Rattle.std.specs.Prelude.{◌≡◌, ℕ, true, ◌↔◌}
use Rattle.resh_value.specs.declared.value.Value.{Value}
use Rattle.resh_oplog.specs.declared.entry.What.{What}
use Rattle.resh_feed.specs.Effects.{effect_of}
use Rattle.resh_rules.specs.Fits.{Fits, fits}
use Rattle.resh_rules.specs.Pools.{ActsOn, IsPool, PoolOf, given, held_of, put_held}
use Rattle.resh_rules.specs.Rules.{step_of}
use Rattle.resh_rules.specs.Slots.{HasEffect}

-- the tests say what the relations say
abbrev pub FitsByTest : Type 0
FitsByTest = (pool : PoolOf) (donor : ℕ) (id : Value) (what : What)
    → (fits pool donor id what ≡ true) ↔ Fits pool donor id what

-- the step of the entry acts on its `_id`, the pool stays one, and the entry has its effect on the slot of its donor
pub record GivesByRule : Type 0 where
  pub acts : (pool : PoolOf) (donor : ℕ) (id : Value) (what : What)
      → ActsOn id (step_of pool.chunks donor what) pool (given donor id what pool)
  pub pool : (pool : PoolOf) (donor : ℕ) (id : Value) (what : What)
      → IsPool pool → Fits pool donor id what → IsPool (given donor id what pool)
  pub slots : (pool : PoolOf) (donor : ℕ) (id : Value) (what : What) → IsPool pool → Fits pool donor id what
      → HasEffect pool.chunks donor (effect_of what) (held_of pool id) (held_of (given donor id what pool) id)
  -- whatever acts alike leaves this pool
  pub only : (pool after : PoolOf) (donor : ℕ) (id : Value) (what : What)
      → ActsOn id (step_of pool.chunks donor what) pool after → after ≡ given donor id what pool
