-- A lane's pool: what it holds of each `_id`, and what an entry makes of it.
use Rattle.std.specs.Prelude.{◌≡◌, ℕ, ◌+◌, ◌-◌, ◌^◌, ◌<◌, ◌≤◌, min, false, cond, List, [], ◌∷◌, length, map, replicate, true, Option, Some, None, refl}
use Rattle.std.specs.Coded.{Coded, code_by, coded×, coded_list, coded_ℕ}
use Rattle.std.specs.FinMap.{code, empty, get, insert, len, remove}
use Rattle.std.specs.List.{All}
use Rattle.std.specs.Ordering.{is_gt}
use Rattle.resh_value.specs.Limits.{end_of_places}
use Rattle.resh_value.specs.Order.{compare_of, is_same}
use Rattle.resh_value.specs.Whole.{is_whole}
use Rattle.resh_value.specs.declared.value.Value.{Value}
use Rattle.resh_value.specs.contracts.value.Value as value
use Rattle.resh_chunks.specs.Chunks.{Chunks, chunks_code}
use Rattle.resh_oplog.specs.declared.entry.What.{What}
use Rattle.resh_stash.specs.Stored.{Document, Stored, StashOf, first_id}
use Rattle.resh_rules.specs.Held.{Held}
use Rattle.resh_rules.specs.Rules.{rule_of, step_of}
use Rattle.resh_rules.specs.Slots.{IsSound, slot}
use Rattle.resh_rules.specs.declared.rule.Rule.{Rule}

-- the state of a pool: the old chunk map, the output, and a stash for each donor
pub record PoolOf : Type 0 where
  pub chunks : Chunks
  pub output : Stored
  pub stashes : List Stored

-- a state, and beside it how many inserts there is room for
pub record Roomy (State : Type 0) : Type 0 where
  pub state : State
  pub spare : ℕ

abbrev pub stored_code : Coded Stored
stored_code = code value.the_row.coded (coded_list (coded× (coded_list coded_ℕ) value.the_row.coded))

-- a state is stored as the tuple of its parts
abbrev pub pool_code : Coded PoolOf
pool_code =
    code_by (Chunks × (Stored × List Stored)) (coded× chunks_code (coded× stored_code (coded_list stored_code)))
    (λ p. (p.chunks, (p.output, p.stashes))) (λ t. record { chunks = t.0; output = t.1.0; stashes = t.1.1 }) (λ _. refl)

abbrev pub roomy_code : {State : Type 0} → Coded State → Coded (Roomy State)
roomy_code {State} coded =
    code_by (State × ℕ) (coded× coded coded_ℕ)
    (λ r. (r.state, r.spare)) (λ t. record { state = t.0; spare = t.1 }) (λ _. refl)

abbrev pub documents_of : List StashOf → List Stored
documents_of stashes = map (λ stash. stash.documents) stashes

abbrev pub pool_of : Chunks → StashOf → List StashOf → PoolOf
pool_of old output stashes = record { chunks = old; output = output.documents; stashes = documents_of stashes }

-- the number of documents that wait
abbrev pub stashed : List Stored → ℕ
stashed [] = 0
stashed (stash ∷ stashes) = len stash + stashed stashes

-- the room that the output and every stash has
abbrev pub spare_of : StashOf → List StashOf → ℕ
spare_of output [] = output.spare
spare_of output (stash ∷ stashes) = min stash.spare (spare_of output stashes)

-- and that is left of the greatest number of documents that may wait
abbrev pub room_of : StashOf → List StashOf → ℕ
room_of output stashes = min (spare_of output stashes) (end_of_places - stashed (documents_of stashes))

abbrev pub roomy_of : Chunks → StashOf → List StashOf → Roomy PoolOf
roomy_of old output stashes = record { state = pool_of old output stashes; spare = room_of output stashes }

-- what each stash has of an `_id`
abbrev pub waiting_of : List Stored → Value → List (Option Document)
waiting_of stashes id = map (λ stash. get stash id) stashes

abbrev pub held_of : PoolOf → Value → Held
held_of pool id = record { output = get pool.output id; waiting = waiting_of pool.stashes id }

-- what a pool keeps: soundness at each `_id`, and no more donors than shards have numbers
pub record IsPool (pool : PoolOf) : Type 0 where
  pub sound : (id : Value) → IsSound pool.chunks id (held_of pool id)
  pub few : length pool.stashes < 2 ^ 32

-- and no more documents wait than there are places
pub record IsKept (state : PoolOf) : Type 0 where
  pub pool : IsPool state
  pub count : stashed state.stashes ≤ end_of_places

-- the documents with this under an `_id`
abbrev pub put_at : Stored → Value → Option Document → Stored
put_at stored id None = remove stored id
put_at stored id (Some document) = insert stored id document

abbrev pub put_each : List Stored → Value → List (Option Document) → List Stored
put_each [] id held = []
put_each (stash ∷ stashes) id [] = put_at stash id None ∷ put_each stashes id []
put_each (stash ∷ stashes) id (document ∷ held) = put_at stash id document ∷ put_each stashes id held

-- a pool that holds this of an `_id`, and what it held of any other
abbrev pub put_held : PoolOf → Value → Held → PoolOf
put_held pool id held = record {
  chunks = pool.chunks;
  output = put_at pool.output id held.output;
  stashes = put_each pool.stashes id held.waiting;
}

-- the pool that was given a donor's entry
abbrev pub given : ℕ → Value → What → PoolOf → PoolOf
given donor id what pool = put_held pool id (step_of pool.chunks donor what (held_of pool id))

-- the rule that the entry meets
abbrev pub rule_in : ℕ → Value → What → PoolOf → Rule
rule_in donor id what pool = rule_of pool.chunks donor what (held_of pool id)

-- the document that a donor has under an `_id`
abbrev pub slot_of : ℕ → Value → PoolOf → Option Document
slot_of donor id pool = slot pool.chunks (held_of pool id) donor

-- what is held of an `_id` is sound after a step
abbrev pub SoundAfter : Value → (Held → Held) → PoolOf → Type 0
SoundAfter id step pool = IsSound pool.chunks id (step (held_of pool id))

-- a pool that holds nothing, of so many donors
abbrev pub empty_pool : Chunks → ℕ → PoolOf
empty_pool old donors = record { chunks = old; output = empty; stashes = replicate donors empty }

abbrev pub cleared : PoolOf → PoolOf
cleared pool = empty_pool pool.chunks (length pool.stashes)

-- what is held of one `_id` becomes what a step makes of it, and nothing of any other
pub record ActsOn (id : Value) (step : Held → Held) (before after : PoolOf) : Type 0 where
  pub here : held_of after id ≡ step (held_of before id)
  pub elsewhere : (other : Value) → is_same other id ≡ false → held_of after other ≡ held_of before other
  pub chunks : after.chunks ≡ before.chunks
  pub donors : length after.stashes ≡ length before.stashes

-- documents that can be stored
abbrev pub AreWhole : List Document → Type 0
AreWhole documents = All (λ document. is_whole document ≡ true) documents

-- the lesser of two `_id`s, where there are any
abbrev pub lesser : Option Value → Option Value → Option Value
lesser None b = b
lesser (Some a) None = Some a
lesser (Some a) (Some b) = cond (is_gt (compare_of a b)) (Some b) (Some a)

-- the least `_id` of which a document waits
abbrev pub first_stashed : List Stored → Option Value
first_stashed [] = None
first_stashed (stash ∷ stashes) = lesser (first_id stash) (first_stashed stashes)
