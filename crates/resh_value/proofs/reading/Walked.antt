-- What the walk has read, and what is left of it.
use Rattle.std.proofs.Common.{◌≡◌, ◌≢◌, ℕ, ◌+◌, List, [], ◌∷◌, ◌++◌, Ok, Err, refl, sym, ap, ◌∙◌, append_assoc, append-nil}
use Rattle.serde_json.specs.Data.{Data, Items, item, Members, member}
use Rattle.resh_value.specs.Outcome.{and_then}
use Rattle.resh_value.specs.Paths.{to_name, to_place}
use Rattle.resh_value.specs.FromJson.{Read, value_at, items_at, members_at, fault_at, fault_of, under as under_fault}
use Rattle.resh_value.specs.Walk.{Walked, under, at_step}
use Rattle.resh_value.specs.declared.value.Value.{Value}
use Rattle.resh_value.specs.declared.fault.ValueFaultKind.{ValueFaultKind}
use Rattle.resh_value.specs.declared.fault.ValueFaultKind.TheVariants as kind
use Rattle.resh_value.specs.declared.walk_fault.WalkFault.{WalkFault}
use Rattle.resh_value.specs.declared.walk_fault.WalkFault.TheVariants.{At, NoMemory}

abbrev Fault : Type 0
Fault = WalkFault ValueFaultKind

-- these, and then what the rest gives
abbrev pub after : {X : Type 0} → List X → Read (List X) → Read (List X)
after done rest = and_then (λ xs. Ok (done ++ xs)) rest

pub after_all : {X : Type 0} (done : List X) → after done (Ok []) ≡ Ok done
after_all done = ap Ok (append-nil done)

after_more : {X : Type 0} (done : List X) (x : X) (rest : Read (List X)) → after done (and_then (λ xs. Ok (x ∷ xs)) rest) ≡ after (done ++ x ∷ []) rest
after_more done x (Ok xs) = ap Ok (sym (append_assoc done (x ∷ []) xs))
after_more done x (Err e) = refl

-- a fault inside, unless memory was wanting, is the walk's fault
walked_fault : {A : Type 0} (step : List ℕ) (found : Read A) (inner outer : Fault) → (inner ≢ NoMemory → found ≡ Err inner) → (outer ≢ NoMemory → outer ≡ under step inner)
    → outer ≢ NoMemory → at_step step found ≡ Err outer
walked_fault step found inner outer here there real =
    ap (at_step step) (here (λ none. real (there real ∙ ap (under step) none))) ∙ ap Err (sym (there real))

pub item_read : (level place : ℕ) (done : List Value) (d : Data) (ds : Items) (v : Value) → value_at level d ≡ Ok v
    → after done (items_at level place (item d ds)) ≡ after (done ++ v ∷ []) (items_at level (place + 1) ds)
item_read level place done d ds v is = rw is (after_more done v (items_at level (place + 1) ds))

pub item_fault : (level place : ℕ) (done : List Value) (d : Data) (ds : Items) (inner outer : Fault) → (inner ≢ NoMemory → value_at level d ≡ Err inner)
    → (outer ≢ NoMemory → outer ≡ under (to_place place) inner) → outer ≢ NoMemory → after done (items_at level place (item d ds)) ≡ Err outer
item_fault level place done d ds inner outer here there real =
    rw (walked_fault (to_place place) (value_at level d) inner outer here there real)

pub member_read : (level : ℕ) (done : List (List ℕ × Value)) (name : List ℕ) (d : Data) (ds : Members) (v : Value) → value_at level d ≡ Ok v
    → after done (members_at level (member name d ds)) ≡ after (done ++ (name, v) ∷ []) (members_at level ds)
member_read level done name d ds v is = rw is (after_more done (name, v) (members_at level ds))

pub member_fault : (level : ℕ) (done : List (List ℕ × Value)) (name : List ℕ) (d : Data) (ds : Members) (inner outer : Fault) → (inner ≢ NoMemory → value_at level d ≡ Err inner)
    → (outer ≢ NoMemory → outer ≡ under (to_name name) inner) → outer ≢ NoMemory → after done (members_at level (member name d ds)) ≡ Err outer
member_fault level done name d ds inner outer here there real =
    rw (walked_fault (to_name name) (value_at level d) inner outer here there real)

-- the fault that is answered is seen from further out as the walk's is
pub answered_under : (step : List ℕ) (f : Fault) → under_fault step (fault_of f) ≡ fault_of (under step f)
answered_under step (At path kind.NotWhole) = refl
answered_under step (At path kind.BadTag) = refl
answered_under step (At path kind.TooDeep) = refl
answered_under step (At path kind.DollarName) = refl
answered_under step (At path kind.NotDocument) = refl
answered_under step NoMemory = refl
