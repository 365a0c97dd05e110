-- How writes act on a pool.
use Rattle.std.proofs.Common.{Bor, ◌≡◌, ◌<◌, ◌≤◌, ◌+◌, ◌-◌, ℕ, min, arith, true, false, cond, List, length, slice_index_or, slice_set, is_some, Option, Some, None, refl, sym, ap, ◌∙◌, subst}
use Rattle.std.proofs.lemmas.List.{length-map}
use Rattle.std.specs.Option.{option_copied, option_map}
use Rattle.std.specs.FinMap.{get}
use Rattle.resh_value.specs.Order.{is_same}
use Rattle.resh_value.specs.OrderLaws.{same_from_test, same_itself}
use Rattle.resh_value.specs.declared.change.Change.{Change}
use Rattle.resh_value.specs.declared.value.Value.{Value}
use Rattle.resh_chunks.specs.Chunks.{Chunks}
use Rattle.resh_stash.specs.Stored.{Document, StashOf, changed_to}
use Rattle.resh_rules.specs.Held.{Held, with_output, with_waiting}
use Rattle.resh_rules.specs.Pools.{PoolOf, Roomy, ActsOn, SoundAfter, held_of, pool_of, room_of, roomy_of, documents_of, waiting_of}
use Rattle.resh_rules.specs.Rules.{first_waiting, output_changed, refilled, waiting_changed}
use Rattle.resh_rules.specs.Writes.{AltersAt, IsAltered, IsWritten, IsWrittenAt, waits_in}

module _ (old : Chunks) (id : Value) (written : Option Document) where
  pub output_acts : (output output' : StashOf) (stashes : List StashOf) → IsWritten output.documents output'.documents id written
      → ActsOn id (λ held. with_output held written) (pool_of old output stashes) (pool_of old output' stashes)
  output_acts output output' stashes w = record {
    here = let is = w id ∙ ap (λ b. cond b written (get output.documents id)) (same_itself id) in λ i. record { output = is i; waiting = waiting_of (documents_of stashes) id };
    elsewhere = λ other apart. let is = w other ∙ ap (λ b. cond b written (get output.documents other)) apart in λ i. record { output = is i; waiting = waiting_of (documents_of stashes) other };
    chunks = refl;
    donors = refl;
  }

  pub waiting_acts : (output : StashOf) (stashes stashes' : List StashOf) (place : ℕ) → IsWrittenAt (documents_of stashes) (documents_of stashes') place id written
      → ActsOn id (λ held. with_waiting held place written) (pool_of old output stashes) (pool_of old output stashes')
  waiting_acts output stashes stashes' place w = record {
    here = let is = w.here id ∙ ap (λ b. cond b (slice_set (waiting_of (documents_of stashes) id) place written) (waiting_of (documents_of stashes) id)) (same_itself id) in λ i. record { output = get output.documents id; waiting = is i };
    elsewhere = λ other apart. let is = w.here other ∙ ap (λ b. cond b (slice_set (waiting_of (documents_of stashes) other) place written) (waiting_of (documents_of stashes) other)) apart in λ i. record { output = get output.documents other; waiting = is i };
    chunks = refl;
    donors = w.donors;
  }

module _ (id : Value) where
  pub acts_by : (f g : Held → Held) (before after : PoolOf) → ActsOn id f before after → f (held_of before id) ≡ g (held_of before id) → ActsOn id g before after
  acts_by f g before after a is = record { here = a.here ∙ is; elsewhere = a.elsewhere; chunks = a.chunks; donors = a.donors }

  pub acts_twice : (f g : Held → Held) (before between after : PoolOf) → ActsOn id f before between → ActsOn id g between after → ActsOn id (λ held. g (f held)) before after
  acts_twice f g before between after a b = record {
    here = b.here ∙ ap g a.here;
    elsewhere = λ other apart. b.elsewhere other apart ∙ a.elsewhere other apart;
    chunks = b.chunks ∙ a.chunks;
    donors = b.donors ∙ a.donors;
  }

  pub acts_not : (f : Held → Held) (pool : PoolOf) → held_of pool id ≡ f (held_of pool id) → ActsOn id f pool pool
  acts_not f pool is = record { here = is; elsewhere = λ other apart. refl; chunks = refl; donors = refl }

module _ (chunks : Chunks) (id : Value) (output output' : StashOf) (stashes : List StashOf) where
  -- where none waits, a refill empties the output
  pub refills_none : first_waiting (held_of (pool_of chunks output stashes) id) ≡ None → IsWritten output.documents output'.documents id None
      → ActsOn id (λ held. refilled held (first_waiting held)) (pool_of chunks output stashes) (pool_of chunks output' stashes)
  refills_none none w =
      acts_by id (λ held. with_output held None) (λ held. refilled held (first_waiting held)) _ _ (output_acts chunks id None output output' stashes w) (ap (refilled (held_of (pool_of chunks output stashes) id)) (sym none))

  -- where one waits, it comes from the first stash that has it
  pub refills_some : (stashes' : List StashOf) (place : ℕ) (document : Document) → first_waiting (held_of (pool_of chunks output stashes) id) ≡ Some place
      → slice_index_or (waiting_of (documents_of stashes) id) place None ≡ Some document → IsWrittenAt (documents_of stashes) (documents_of stashes') place id None → IsWritten output.documents output'.documents id (Some document)
      → ActsOn id (λ held. refilled held (first_waiting held)) (pool_of chunks output stashes) (pool_of chunks output' stashes')
  refills_some stashes' place document first waits taken put =
      let both = acts_twice id (λ held. with_waiting held place None) (λ held. with_output held (Some document)) _ (pool_of chunks output stashes') _ (waiting_acts chunks id None output stashes stashes' place taken) (output_acts chunks id (Some document) output output' stashes' put) in
      let before = held_of (pool_of chunks output stashes) id in
      acts_by id (λ held. with_output (with_waiting held place None) (Some document)) (λ held. refilled held (first_waiting held)) _ _ both
      ((λ i. with_output (with_waiting before place None) (sym waits i)) ∙ ap (refilled before) (sym first))

-- what is held is changed
module _ (old : Chunks) (id : Value) (change : Change) where
  pub output_alters : (output output' : StashOf) (stashes : List StashOf) → IsAltered output.documents output'.documents id change
      → ActsOn id (output_changed change) (pool_of old output stashes) (pool_of old output' stashes)
  output_alters output output' stashes w =
      let now : Option Document = option_map (changed_to change) (get output.documents id) in
      acts_by id (λ held. with_output held now) (output_changed change) (pool_of old output stashes) (pool_of old output' stashes) (output_acts old id now output output' stashes w) refl

  pub waiting_alters : (output : StashOf) (stashes stashes' : List StashOf) (place : ℕ) → AltersAt stashes stashes' place id change
      → ActsOn id (waiting_changed place change) (pool_of old output stashes) (pool_of old output stashes')
  waiting_alters output stashes stashes' place w =
      let now : Option Document = option_map (changed_to change) (waits_in stashes place id) in
      acts_by id (λ held. with_waiting held place now) (waiting_changed place change) (pool_of old output stashes) (pool_of old output stashes') (waiting_acts old id now output stashes stashes' place w) refl

-- a pool's state and room, as contracts see them
module _ (old : Chunks) (output : StashOf) (stashes : List StashOf) (pool : Roomy PoolOf) (view : roomy_of old output stashes ≡ pool) where
  pub state_is : pool_of old output stashes ≡ pool.state
  state_is = ap (λ (p : Roomy PoolOf). p.state) view

  pub room_is : room_of output stashes ≡ pool.spare
  room_is = ap (λ (p : Roomy PoolOf). p.spare) view

  pub acted : (id : Value) (step : Held → Held) (after : PoolOf) → ActsOn id step (pool_of old output stashes) after → ActsOn id step pool.state after
  acted id step after a = subst (λ p. ActsOn id step p after) state_is a

  pub sound_inside : (id : Value) (step : Held → Held) → SoundAfter id step pool.state → SoundAfter id step (pool_of old output stashes)
  sound_inside id step s = subst (SoundAfter id step) (sym state_is) s

  pub donor_inside : (donor : ℕ) → donor < length pool.state.stashes → donor < length stashes
  donor_inside donor lt = subst (λ n. donor < n) (length-map stashes (λ (s : StashOf). s.documents)) (subst (λ (p : PoolOf). donor < length p.stashes) (sym state_is) lt)

-- the room that is left
pub room_less : (end spare spare' count count' n : ℕ) → spare ≤ spare' + n → count' ≤ count + n → min spare (end - count) ≤ min spare' (end - count') + n
room_less end spare spare' count count' n less more = omega (arith, less, more)

pub copied_some : {X : Type 0} (o : Option (Bor X)) → is_some o ≡ is_some (option_copied o)
copied_some (Some x) = refl
copied_some None = refl

pub within_stashes : (stashes : List StashOf) (place : ℕ) → place < length (documents_of stashes) → place < length stashes
within_stashes stashes place within = subst (λ n. place < n) (length-map stashes (λ (s : StashOf). s.documents)) within
