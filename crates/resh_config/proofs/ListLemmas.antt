-- Lists of a cluster file: how many items they have, and what is left of them.
use Rattle.std.proofs.Common.{◌≡◌, ◌≢◌, ◌∙◌, ℕ, ◌+◌, ◌≤◌, ltb, Bool, true, subst, List, [], ◌∷◌, ◌++◌, length, length-append, append_assoc, append-nil, Ok, Err, refl, sym, ap, arith}
use Rattle.std.specs.Prelude.{◌&&◌}
use Rattle.std.specs.List.{AllByRecursion, list_all}
use Rattle.std.proofs.lemmas.Bool.{ltb-false}
use Rattle.serde_json.specs.Data.{Data, null, boolean, number, string, array, object, Items, no_items, item}
use Rattle.serde_json.specs.View.{items_view}
use Rattle.serde_json.specs.declared.value.Value.{Value as Json}
use Rattle.resh_value.specs.Paths.{to_place}
use Rattle.resh_value.specs.Outcome.{and_then}
use Rattle.resh_value.specs.declared.walk_fault.WalkFault.{WalkFault}
use Rattle.resh_value.specs.declared.walk_fault.WalkFault.TheVariants.{At}
use Rattle.resh_config.specs.declared.faults.FaultKind.{FaultKind}
use Rattle.resh_config.specs.declared.faults.FaultKind.TheVariants.{OverLimit}
use Rattle.resh_value.specs.declared.walk_fault.WalkFault.TheVariants.{NoMemory}
use Rattle.resh_setup.specs.Names.{each_after}
use Rattle.resh_value.specs.Walk.{under, at_step}
use Rattle.resh_config.specs.Faults.{Read}
use Rattle.resh_config.specs.Walk.{count, items_from, list_in, some_of}
use Rattle.resh_config.proofs.Outcomes.{Ok-and_then, Ok-in_err, Ok-cond}
use Rattle.resh_config.proofs.SortedMembers.{IsTidy, AreTidy}

pub count-items_view : (vs : List Json) → count (items_view vs) ≡ length vs
count-items_view [] = refl
count-items_view (v ∷ vs) = let e = count-items_view vs in omega arith

all_and_last : {A : Type 0} (P : A → Type 0) (xs : List A) (x : A) → AllByRecursion P xs → P x → AllByRecursion P (xs ++ x ∷ [])
all_and_last P [] x h last = (last, tt)
all_and_last P (y ∷ ys) x h last = (h.0, all_and_last P ys x h.1 last)

-- a test that doesn't look at the items before
each_alone : {A : Type 0} (test : A → Bool) (before xs : List A) → each_after (λ before x. test x) before xs ≡ list_all test xs
each_alone test before [] = refl
each_alone test before (x ∷ xs) = ap (λ b. test x && b) (each_alone test (before ++ x ∷ []) xs)

module _ {A : Type 0} (read : List A → Data → Read A) where
  -- an item was read
  pub item_read : (before : List A) (d : Data) (ds : Items) (a : A) → read before d ≡ Ok a → items_from read before (item d ds) ≡ items_from read (before ++ a ∷ []) ds
  item_read before d ds a is = ap (λ r. and_then (λ x. items_from read (before ++ x ∷ []) ds) (at_step (to_place (length before)) r)) is

  -- an item has a fault
  pub item_fault : (before : List A) (d : Data) (ds : Items) (inner outer : WalkFault FaultKind) → (inner ≢ NoMemory → read before d ≡ Err inner)
      → (outer ≢ NoMemory → outer ≡ under (to_place (length before)) inner) → outer ≢ NoMemory → items_from read before (item d ds) ≡ Err outer
  item_fault before d ds inner outer here there real =
      ap (λ r. and_then (λ x. items_from read (before ++ x ∷ []) ds) (at_step (to_place (length before)) r)) (here (λ none. real (there real ∙ ap (under (to_place (length before))) none)))
      ∙ ap Err (sym (there real))

  pub Ok-items_from : (before : List A) (d : Data) (ds : Items) (all : List A) → items_from read before (item d ds) ≡ Ok all → (a : A) × (read before d ≡ Ok a) × (items_from read (before ++ a ∷ []) ds ≡ Ok all)
  Ok-items_from before d ds all is =
      let s = Ok-and_then (λ (a : A). items_from read (before ++ a ∷ []) ds) (at_step (to_place (length before)) (read before d)) all is in
      (s.0, Ok-in_err (under (to_place (length before))) (read before d) s.0 s.1, s.2)

  pub length-items_from : (before : List A) (ds : Items) (all : List A) → items_from read before ds ≡ Ok all → length all ≡ length before + count ds
  length-items_from before no_items all is = let same : before ≡ all = cc in let e = ap length same in omega arith
  length-items_from before (item d ds) all is =
      let s = Ok-items_from before d ds all is in
      let e = length-items_from (before ++ s.0 ∷ []) ds all s.2 in
      omega (arith, length-append before (s.0 ∷ []))

  -- what each item has that is read, all have
  pub items_keep : (P : A → Type 0) → ((before : List A) (d : Data) (a : A) → IsTidy d → read before d ≡ Ok a → P a)
      → (before : List A) (ds : Items) (all : List A) → AreTidy ds → AllByRecursion P before → items_from read before ds ≡ Ok all → AllByRecursion P all
  items_keep P each before no_items all tidy h is = let same : before ≡ all = cc in subst (AllByRecursion P) same h
  items_keep P each before (item d ds) all tidy h is =
      let s = Ok-items_from before d ds all is in
      items_keep P each (before ++ s.0 ∷ []) ds all tidy.1 (all_and_last P before s.0 h (each before d s.0 tidy.0 s.1)) s.2

  -- what each item has that is read beside those before it, each has in the list
  pub items_apart : (test : List A → A → Bool) → ((before : List A) (d : Data) (a : A) → read before d ≡ Ok a → test before a ≡ true)
      → (before : List A) (ds : Items) (all : List A) → items_from read before ds ≡ Ok all → (rest : List A) × (before ++ rest ≡ all) × (each_after test before rest ≡ true)
  items_apart test each before no_items all is = let same : before ≡ all = cc in ([], append-nil before ∙ same, refl)
  items_apart test each before (item d ds) all is =
      let s = Ok-items_from before d ds all is in
      let here = each before d s.0 s.1 in
      let t = items_apart test each (before ++ s.0 ∷ []) ds all s.2 in
      (s.0 ∷ t.0, sym (append_assoc before (s.0 ∷ []) t.0) ∙ t.1, λ i. here i && t.2 i)

  -- a list that was read keeps its limit
  pub within_limit : (limit : ℕ) (d : Data) (all : List A) → list_in limit read d ≡ Ok all → length all ≤ limit
  within_limit limit (array ds) all is =
      let s = Ok-cond (ltb limit (count ds)) (At [] (OverLimit limit)) (items_from read [] ds) all is in
      let e = length-items_from [] ds all s.1 in
      omega (arith, ltb-false limit (count ds) s.0)
  within_limit limit null all is = cc
  within_limit limit (boolean b) all is = cc
  within_limit limit (number n) all is = cc
  within_limit limit (string text) all is = cc
  within_limit limit (object ds) all is = cc

  -- the items of a list that was read
  pub Ok-list_in : (limit : ℕ) (d : Data) (all : List A) → list_in limit read d ≡ Ok all → (ds : Items) × (d ≡ array ds) × (items_from read [] ds ≡ Ok all)
  Ok-list_in limit (array ds) all is = (ds, refl, (Ok-cond (ltb limit (count ds)) (At [] (OverLimit limit)) (items_from read [] ds) all is).1)
  Ok-list_in limit null all is = cc
  Ok-list_in limit (boolean b) all is = cc
  Ok-list_in limit (number n) all is = cc
  Ok-list_in limit (string text) all is = cc
  Ok-list_in limit (object ds) all is = cc

  pub list_keeps : (P : A → Type 0) → ((before : List A) (d : Data) (a : A) → IsTidy d → read before d ≡ Ok a → P a)
      → (limit : ℕ) (d : Data) (all : List A) → IsTidy d → list_in limit read d ≡ Ok all → AllByRecursion P all
  list_keeps P each limit d all tidy is =
      let items = Ok-list_in limit d all is in
      items_keep P each [] items.0 all (subst IsTidy items.1 tidy) tt items.2

  pub list_apart : (test : List A → A → Bool) → ((before : List A) (d : Data) (a : A) → read before d ≡ Ok a → test before a ≡ true)
      → (limit : ℕ) (d : Data) (all : List A) → list_in limit read d ≡ Ok all → each_after test [] all ≡ true
  list_apart test each limit d all is =
      let items = Ok-list_in limit d all is in
      let apart = items_apart test each [] items.0 all items.2 in
      subst (λ (xs : List A). each_after test [] xs ≡ true) apart.1 apart.2

  pub list_tests : (test : A → Bool) → ((before : List A) (d : Data) (a : A) → read before d ≡ Ok a → test a ≡ true)
      → (limit : ℕ) (d : Data) (all : List A) → list_in limit read d ≡ Ok all → list_all test all ≡ true
  list_tests test each limit d all is = sym (each_alone test [] all) ∙ list_apart (λ before. test) each limit d all is

pub Ok-some_of : {A : Type 0} (xs ys : List A) → some_of xs ≡ Ok ys → (xs ≡ ys) × (1 ≤ length ys)
Ok-some_of [] ys is = cc
Ok-some_of (x ∷ xs) ys is = let same : x ∷ xs ≡ ys = cc in let e = ap length same in (same, omega arith)
