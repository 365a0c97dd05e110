-- A pool that was given an entry: what it holds, that no other pool holds it, and the tests of what fits.
use Rattle.std.proofs.Common.{◌≡◌, ◌<◌, ◌↔◌, ◌==◌, ◌&&◌, ◌^◌, ℕ, Bool, true, false, cond, not, nat_lt, List, [], ◌∷◌, length, Option, Some, None, is_none, is_some, codes, refl, sym, ap, subst, ◌∙◌, ⊎_elim, arith, rules}
use Rattle.std.proofs.lemmas.Bool.Decides.{eqb_tells}
use Rattle.std.proofs.lemmas.List.{length-map}
use Rattle.std.specs.FinMap.{get, get-insert, get-remove, same_map}
use Rattle.std.specs.List.{list_all}
use Rattle.std.specs.Option.{option_or}
use Rattle.resh_value.specs.Change.{is_named}
use Rattle.resh_value.specs.Lookup.{id_of}
use Rattle.resh_value.specs.Names.{HasRisingNames}
use Rattle.resh_value.specs.Order.{compare_of, is_same}
use Rattle.resh_value.specs.OrderLaws.{compare_total, compare_same, same_from_test, same_itself}
use Rattle.resh_value.specs.Whole.{has_rising_names, is_whole}
use Rattle.resh_value.specs.declared.change.Change.{Change}
use Rattle.resh_value.specs.declared.value.Value.{Value}
use Rattle.resh_value.proofs.WholeLaws.{rising_decides, whole_decides}
use Rattle.resh_chunks.specs.Chunks.{Chunks, owner_of}
use Rattle.resh_oplog.specs.declared.entry.What.{What}
use Rattle.resh_oplog.specs.declared.entry.What.TheVariants.{Insert, Update, Delete, Final}
use Rattle.resh_stash.specs.Stored.{Document, Stored}
use Rattle.resh_feed.specs.Effects.{effect_of}
use Rattle.resh_rules.specs.Finding.{found, pick}
use Rattle.resh_rules.specs.Fits.{Fits, FitsAt, fits, fits_at, may_insert, names_others}
use Rattle.resh_rules.specs.Giving.{FitsByTest, GivesByRule}
use Rattle.resh_rules.specs.Held.{Held, is_owned, waits, with_output, with_waiting}
use Rattle.resh_rules.specs.Interleaving.{MayComeFrom}
use Rattle.resh_rules.specs.Laws.{NamesOthers}
use Rattle.resh_rules.specs.Pools.{ActsOn, IsPool, PoolOf, given, held_of, put_at, put_each, put_held, waiting_of}
use Rattle.resh_rules.specs.Rules.{first_waiting, output_changed, refilled, step_of, waiting_changed}
use Rattle.resh_rules.specs.Slots.{HasEffect, IsSound, slot}
use Rattle.resh_rules.specs.declared.rule.Found.{Found}
use Rattle.resh_rules.specs.declared.rule.Found.TheVariants.{Waiting, Nothing, Own, Others}
use Rattle.resh_rules.proofs.Interleaved.{step_effect, step_places, step_sound}

-- one stash
put_reads : (s : Stored) (id : Value) (o : Option Document) (q : Value) → get (put_at s id o) q ≡ cond (is_same q id) o (get s q)
put_reads s id None q = get-remove compare_total s id q
put_reads s id (Some d) q = get-insert compare_total s id d q

-- several
each_here : (ss : List Stored) (id : Value) (os : List (Option Document)) → length os ≡ length ss → waiting_of (put_each ss id os) id ≡ os
each_here [] id [] l = refl
each_here [] id (o ∷ os) l = absurd (omega (arith, l))
each_here (s ∷ ss) id [] l = absurd (omega (arith, l))
each_here (s ∷ ss) id (o ∷ os) l =
    let first : get (put_at s id o) id ≡ o = put_reads s id o id ∙ ap (λ b. cond b o (get s id)) (same_itself id) in
    let rest = each_here ss id os (omega (arith, l)) in
    λ i. first i ∷ rest i

each_elsewhere : (ss : List Stored) (id q : Value) → is_same q id ≡ false → (os : List (Option Document)) → waiting_of (put_each ss id os) q ≡ waiting_of ss q
each_elsewhere [] id q other os = refl
each_elsewhere (s ∷ ss) id q other [] =
    let first : get (put_at s id None) q ≡ get s q = put_reads s id None q ∙ ap (λ b. cond b None (get s q)) other in
    let rest = each_elsewhere ss id q other [] in
    λ i. first i ∷ rest i
each_elsewhere (s ∷ ss) id q other (o ∷ os) =
    let first : get (put_at s id o) q ≡ get s q = put_reads s id o q ∙ ap (λ b. cond b o (get s q)) other in
    let rest = each_elsewhere ss id q other os in
    λ i. first i ∷ rest i

pub each_long : (ss : List Stored) (id : Value) (os : List (Option Document)) → length (put_each ss id os) ≡ length ss
each_long [] id os = refl
each_long (s ∷ ss) id [] = let rest = each_long ss id [] in omega (arith, rest)
each_long (s ∷ ss) id (o ∷ os) = let rest = each_long ss id os in omega (arith, rest)

module _ (pool : PoolOf) (donor : ℕ) (id : Value) (what : What) where
  pub given_acts : ActsOn id (step_of pool.chunks donor what) pool (given donor id what pool)
  given_acts =
      let h : Held = step_of pool.chunks donor what (held_of pool id) in
      let long : length h.waiting ≡ length pool.stashes = step_places (held_of pool id) pool.chunks donor what ∙ length-map pool.stashes (λ (s : Stored). get s id) in
      let output : get (put_at pool.output id h.output) id ≡ h.output = put_reads pool.output id h.output id ∙ ap (λ b. cond b h.output (get pool.output id)) (same_itself id) in
      let waiting : waiting_of (put_each pool.stashes id h.waiting) id ≡ h.waiting = each_here pool.stashes id h.waiting long in
      record {
        here = λ i. record { output = output i; waiting = waiting i };
        elsewhere = λ q other.
            let o : get (put_at pool.output id h.output) q ≡ get pool.output q = put_reads pool.output id h.output q ∙ ap (λ b. cond b h.output (get pool.output q)) other in
            let w : waiting_of (put_each pool.stashes id h.waiting) q ≡ waiting_of pool.stashes q = each_elsewhere pool.stashes id q other h.waiting in
            λ i. record { output = o i; waiting = w i };
        chunks = refl;
        donors = each_long pool.stashes id h.waiting;
      }

  pub may_come : Fits pool donor id what → MayComeFrom pool.chunks id donor what
  may_come fits = by what fits.1
    where
      by : (w : What) → FitsAt pool donor id w → MayComeFrom pool.chunks id donor w
      by (Insert d) f = f
      by (Update own c) f = (f.1, f.2)
      by (Delete own) f = tt
      by Final f = absurd f

  within : Fits pool donor id what → donor < length (held_of pool id).waiting
  within fits = subst (λ n. donor < n) (sym (length-map pool.stashes (λ (s : Stored). get s id))) fits.0

  pub given_slots : IsPool pool → Fits pool donor id what → HasEffect pool.chunks donor (effect_of what) (held_of pool id) (held_of (given donor id what pool) id)
  given_slots is fits =
      subst (HasEffect pool.chunks donor (effect_of what) (held_of pool id)) (sym given_acts.here)
      (step_effect pool.chunks id (held_of pool id) (is.sound id) donor what (within fits) (may_come fits))

-- a pool on which a step acts soundly stays one
pub stays_pool : (id : Value) (f : Held → Held) (before after : PoolOf) → IsPool before → ActsOn id f before after → IsSound before.chunks id (f (held_of before id)) → IsPool after
stays_pool id f before after pool a sound = record {
  sound = λ other.
      elim (is_same other id) as (λ b. is_same other id ≡ b → IsSound after.chunks other (held_of after other)) [
        | true ↦ λ same. subst (λ q. IsSound after.chunks q (held_of after q)) (sym (same_from_test other id same))
            (subst (λ h. IsSound after.chunks id h) (sym a.here) (subst (λ o. IsSound o id (f (held_of before id))) (sym a.chunks) sound))
        | false ↦ λ apart. subst (λ h. IsSound after.chunks other h) (sym (a.elsewhere other apart)) (subst (λ o. IsSound o other (held_of before other)) (sym a.chunks) (pool.sound other))
      ] refl;
  few = subst (λ n. n < 2 ^ 32) (sym a.donors) pool.few;
}

pub given_pool : (pool : PoolOf) (donor : ℕ) (id : Value) (what : What) → IsPool pool → Fits pool donor id what → IsPool (given donor id what pool)
given_pool pool donor id what is fits =
    stays_pool id (step_of pool.chunks donor what) pool (given donor id what pool) is (given_acts pool donor id what)
    (step_sound pool.chunks id (held_of pool id) (is.sound id) donor what (may_come pool donor id what fits))

-- pools that hold the same of each `_id` are the same
same_stashes : (ss ts : List Stored) → length ss ≡ length ts → ((q : Value) → waiting_of ss q ≡ waiting_of ts q) → ss ≡ ts
same_stashes [] [] l same = refl
same_stashes [] (t ∷ ts) l same = absurd (omega (arith, l))
same_stashes (s ∷ ss) [] l same = absurd (omega (arith, l))
same_stashes (s ∷ ss) (t ∷ ts) l same =
    let first : s ≡ t = same_map compare_total compare_same s t (λ q. head (get s q) (get t q) (waiting_of ss q) (waiting_of ts q) (same q)) in
    let rest = same_stashes ss ts (omega (arith, l)) (λ q. tail (get s q) (get t q) (waiting_of ss q) (waiting_of ts q) (same q)) in
    λ i. first i ∷ rest i
  where
    head : {X : Type 0} (x y : X) (xs ys : List X) → x ∷ xs ≡ y ∷ ys → x ≡ y
    head x y xs ys e = cc

    tail : {X : Type 0} (x y : X) (xs ys : List X) → x ∷ xs ≡ y ∷ ys → xs ≡ ys
    tail x y xs ys e = cc

same_pool : (p q : PoolOf) → p.chunks ≡ q.chunks → length p.stashes ≡ length q.stashes → ((id : Value) → held_of p id ≡ held_of q id) → p ≡ q
same_pool p q chunks donors held =
    let output : p.output ≡ q.output = same_map compare_total compare_same p.output q.output (λ id. ap (λ (h : Held). h.output) (held id)) in
    let stashes : p.stashes ≡ q.stashes = same_stashes p.stashes q.stashes donors (λ id. ap (λ (h : Held). h.waiting) (held id)) in
    λ i. record { chunks = chunks i; output = output i; stashes = stashes i }

pub acts_alike : (id : Value) (f : Held → Held) (pool p q : PoolOf) → ActsOn id f pool p → ActsOn id f pool q → p ≡ q
acts_alike id f pool p q a b =
    same_pool p q (a.chunks ∙ sym b.chunks) (a.donors ∙ sym b.donors) (λ other.
    elim (is_same other id) as (λ b. is_same other id ≡ b → held_of p other ≡ held_of q other) [
      | true ↦ λ same. subst (λ k. held_of p k ≡ held_of q k) (sym (same_from_test other id same)) (a.here ∙ sym b.here)
      | false ↦ λ apart. a.elsewhere other apart ∙ sym (b.elsewhere other apart)
    ] refl)

pub only_given : (pool after : PoolOf) (donor : ℕ) (id : Value) (what : What) → ActsOn id (step_of pool.chunks donor what) pool after → after ≡ given donor id what pool
only_given pool after donor id what a = acts_alike id (step_of pool.chunks donor what) pool after (given donor id what pool) a (given_acts pool donor id what)

pub gives_by_rule : GivesByRule
gives_by_rule = record { acts = given_acts; pool = given_pool; slots = given_slots; only = only_given }

-- by where the donor finds the `_id`
abbrev pub step_at : Found → ℕ → What → Held → Held
step_at at donor (Insert document) held = pick (with_waiting held donor (Some document)) (with_output held (Some document)) (with_output held (Some document)) (with_waiting held donor (Some document)) at
step_at at donor (Update id change) held = pick (waiting_changed donor change held) held (output_changed change held) held at
step_at at donor (Delete id) held = pick (with_waiting held donor None) held (refilled held (first_waiting held)) held at
step_at at donor Final held = held

step_is : (old : Chunks) (donor : ℕ) (what : What) (held : Held) → step_of old donor what held ≡ step_at (found old donor held) donor what held
step_is old donor (Insert d) held = refl
step_is old donor (Update id c) held = refl
step_is old donor (Delete id) held = refl
step_is old donor Final held = refl

module _ (pool : PoolOf) (donor : ℕ) (id : Value) (what : What) (at : Found) (is : found pool.chunks donor (held_of pool id) ≡ at) where
  step_there : step_of pool.chunks donor what (held_of pool id) ≡ step_at at donor what (held_of pool id)
  step_there = step_is pool.chunks donor what (held_of pool id) ∙ ap (λ a. step_at a donor what (held_of pool id)) is

  pub sound_at : IsSound pool.chunks id (held_of pool id) → MayComeFrom pool.chunks id donor what → IsSound pool.chunks id (step_at at donor what (held_of pool id))
  sound_at s may = subst (IsSound pool.chunks id) step_there (step_sound pool.chunks id (held_of pool id) s donor what may)

  pub given_at : (f : Held → Held) (after : PoolOf) → ActsOn id f pool after → f (held_of pool id) ≡ step_at at donor what (held_of pool id) → after ≡ given donor id what pool
  given_at f after a there =
      only_given pool after donor id what
      (record { here = a.here ∙ there ∙ sym step_there; elsewhere = a.elsewhere; chunks = a.chunks; donors = a.donors })

  pub given_not : held_of pool id ≡ step_at at donor what (held_of pool id) → pool ≡ given donor id what pool
  given_not there = only_given pool pool donor id what (record { here = there ∙ sym step_there; elsewhere = λ q apart. refl; chunks = refl; donors = refl })

-- a donor's document waits, or is in the output
abbrev is_filled : Found → Bool
is_filled Waiting = true
is_filled Nothing = false
is_filled Own = true
is_filled Others = false

filled_is : (w o : Option Document) (own : Bool) → is_filled (cond (is_some w) Waiting (cond (is_none o) Nothing (cond own Own Others))) ≡ is_some (option_or w (cond own o None))
filled_is (Some x) o own = refl
filled_is None None true = refl
filled_is None None false = refl
filled_is None (Some y) true = refl
filled_is None (Some y) false = refl

pub filled_by : (old : Chunks) (donor : ℕ) (held : Held) (at : Found) → found old donor held ≡ at → is_filled at ≡ true → is_some (slot old held donor) ≡ true
filled_by old donor held at is filled = sym (filled_is (waits held donor) held.output (is_owned old donor held.output)) ∙ ap is_filled is ∙ filled

-- the tests
pub both : (a b : Bool) → (a && b) ≡ true → (a ≡ true) × (b ≡ true)
both true b e = (refl, e)
both false b e = cc

pub joined : (a b : Bool) → a ≡ true → b ≡ true → (a && b) ≡ true
joined true b d e = e
joined false b d e = cc

not_true : (b : Bool) → not b ≡ true → b ≡ false
not_true true e = cc
not_true false e = refl

not_false : (b : Bool) → b ≡ false → not b ≡ true
not_false true e = cc
not_false false e = refl

same_by_test : (a b : Value) → (is_same a b ≡ true) ↔ (a ≡ b)
same_by_test a b = (same_from_test a b, λ e. subst (λ v. is_same a v ≡ true) e (same_itself a))

equal_by_test : (a b : ℕ) → ((a == b) ≡ true) ↔ (a ≡ b)
equal_by_test a b = ⊎_elim (λ h. (λ e. h.1, λ e. h.0)) (λ h. (λ e. let never : true ≡ false = sym e ∙ h.0 in cc, λ e. absurd (h.1 e))) (eqb_tells a b)

pub less_by_test : (a b : ℕ) → (nat_lt a b ≡ true) ↔ (a < b)
less_by_test a b = (λ h. lt_of a b h, λ h. of_lt a b h)
  where
    lt_of : (a b : ℕ) → nat_lt a b ≡ true → a < b
    lt_of a b h = search (arith, rules)

    of_lt : (a b : ℕ) → a < b → nat_lt a b ≡ true
    of_lt a b h = search (arith, rules)

pub others_by_test : (old : Chunks) (change : Change) → (names_others old change ≡ true) ↔ NamesOthers old change.assign change.unset
others_by_test old change = (
  λ e. let t = both _ _ e in record { id = not_true _ t.0; key = t.1 },
  λ n. joined _ _ (not_false _ n.id) n.key,
)

three : (a b c : Bool) → (a && b && c) ≡ true → (a ≡ true) × (b ≡ true) × (c ≡ true)
three true true c e = (refl, refl, e)
three true false c e = cc
three false b c e = cc

joined_three : (a b c : Bool) → a ≡ true → b ≡ true → c ≡ true → (a && b && c) ≡ true
joined_three true true c a b e = e
joined_three true false c a b e = cc
joined_three false b c a d e = cc

pub at_by_test : (pool : PoolOf) (donor : ℕ) (id : Value) (what : What) → (fits_at pool.chunks donor id what ≡ true) ↔ FitsAt pool donor id what
at_by_test pool donor id (Insert d) = (
  λ e. let t = three (is_whole d) (is_same (id_of d) id) (owner_of pool.chunks d == donor) e in ((whole_decides d).0 t.0, (same_by_test (id_of d) id).0 t.1, (equal_by_test (owner_of pool.chunks d) donor).0 t.2),
  λ f. joined_three (is_whole d) (is_same (id_of d) id) (owner_of pool.chunks d == donor) ((whole_decides d).1 f.0) ((same_by_test (id_of d) id).1 f.1) ((equal_by_test (owner_of pool.chunks d) donor).1 f.2),
)
at_by_test pool donor id (Update own c) = (
  λ e. let t = three (is_same own id) (has_rising_names c.assign) (names_others pool.chunks c) e in ((same_by_test own id).0 t.0, (rising_decides c.assign).0 t.1, (others_by_test pool.chunks c).0 t.2),
  λ f. joined_three (is_same own id) (has_rising_names c.assign) (names_others pool.chunks c) ((same_by_test own id).1 f.0) ((rising_decides c.assign).1 f.1) ((others_by_test pool.chunks c).1 f.2),
)
at_by_test pool donor id (Delete own) = same_by_test own id
at_by_test pool donor id Final = (λ e. let never : false ≡ true = e in cc, λ f. absurd f)

pub fits_by_test : FitsByTest
fits_by_test pool donor id what = (
  λ e. let t = both _ _ e in ((less_by_test donor (length pool.stashes)).0 t.0, (at_by_test pool donor id what).0 t.1),
  λ f. joined _ _ ((less_by_test donor (length pool.stashes)).1 f.0) ((at_by_test pool donor id what).1 f.1),
)

-- the test of a change whose names rise
pub rising_change : (old : Chunks) (change : Change) → HasRisingNames change.assign → (has_rising_names change.assign && names_others old change) ≡ names_others old change
rising_change old change rising = ap (λ b. b && names_others old change) ((rising_decides change.assign).1 rising)
