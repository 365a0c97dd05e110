-- What actions leave and what they make.
use Rattle.std.proofs.Common.{◌≡◌, ℕ, ℤ, pos, Bool, true, false, cond, ◌||◌, List, [], ◌∷◌, ◌++◌, length, nat_lt, codes, Ok, Err, refl, ap, sym, ◌∙◌}
use Rattle.std.specs.Prelude.{◌+ℤ◌, ◌*ℤ◌}
use Rattle.std.specs.Ordering.{is_eq, is_lt, is_gt}
use Rattle.std.specs.List.{AllByRecursion, list_any}
use Rattle.std.specs.Cmp.Lexicographic.{bytes_decides}
use Rattle.std.proofs.lemmas.List.Elements.{recursion_from_All}
use Rattle.resh_value.specs.Names.{name_cmp, same_name}
use Rattle.resh_value.specs.Lookup.{field_of}
use Rattle.resh_value.specs.Order.{compare_of, is_same}
use Rattle.resh_value.specs.Outcome.{and_then}
use Rattle.resh_value.specs.Text.{document_text}
use Rattle.resh_value.specs.Depth.{document_levels}
use Rattle.resh_value.specs.declared.value.Value.{Value, out-Value}
use Rattle.resh_value.specs.declared.value.Value.TheVariants.{Int, List as Array}
use Rattle.resh_value.specs.declared.value.Value.TheOpen.{Value-F}
use Rattle.resh_value.proofs.Names.{apart_from_unlike}
use Rattle.resh_ops.specs.Paths.{Document, Path, Reached, here, missing, scalar, is_scalar, reach, write, erase, dotted, is_related}
use Rattle.resh_ops.specs.Operators.{does, where_it_leads, unsets, on_array, on_number, is_i64, writes_number}
use Rattle.resh_ops.specs.Updates.{Made, done_at, acted, acted_all, within_limits, updated, other_path, paths_of, IsPath, path as named, HasPaths}
use Rattle.resh_ops.specs.Laws.{SetReadsBack, KeepsUnrelated, KeepsId, ActionsKeepId}
use Rattle.resh_ops.specs.declared.faults.ChangeFault.{ChangeFault}
use Rattle.resh_ops.specs.declared.faults.ChangeFault.TheVariants.{ThroughScalar, TooLarge, TooDeep}
use Rattle.resh_ops.specs.declared.doing.Doing.{Doing}
use Rattle.resh_ops.specs.declared.doing.Doing.TheVariants.{Keeps, Writes, Erases, Moves, Fails}
use Rattle.resh_ops.specs.declared.doing.Refusal.TheVariants.{OutOfRange}
use Rattle.resh_ops.specs.declared.operator.Action.{Action}
use Rattle.resh_ops.specs.declared.operator.Operator.{Operator}
use Rattle.resh_ops.specs.declared.operator.Operator.TheVariants.{AddToSet, Inc, Max, Min, Mul, Pop, Push, Rename, Set, Unset}
use Rattle.resh_ops.proofs.PathLaws.{write-other, erase-other, along-clear, along-erased, reach-write_along, reach-write_apart, reach-erase_apart, reach-write_itself}

-- a value that moves goes to such a path
abbrev Goes : (Path → Type 0) → Doing → Type 0
Goes P Keeps = Unit {0}
Goes P (Writes value) = Unit {0}
Goes P Erases = Unit {0}
Goes P (Moves target value) = P target
Goes P (Fails refusal) = Unit {0}

module _ (P : Path → Type 0) where
  goes-cond : (b : Bool) (x y : Doing) → Goes P x → Goes P y → Goes P (cond b x y)
  goes-cond true x y g h = g
  goes-cond false x y g h = h

  goes-array : (f : List Value → Doing) → ((items : List Value) → Goes P (f items)) → (x : Value-F Value) → Goes P (on_array f x)
  goes-array f h (Value-F.List items) = h items
  goes-array f h x = tt

  goes-number : (f : ℤ → ℤ) (x : Value-F Value) → Goes P (on_number (λ m. writes_number (f m)) x)
  goes-number f (Value-F.Int m) = goes-cond (is_i64 (f m)) (Writes (Int (f m))) (Fails OutOfRange) tt tt
  goes-number f x = tt

  goes-leads : (m : Doing) (f : Value → Doing) → Goes P m → ((v : Value) → Goes P (f v)) → (r : Reached) → Goes P (where_it_leads m f r)
  goes-leads m f g h (here v) = h v
  goes-leads m f g h missing = g
  goes-leads m f g h scalar = tt

  goes-unsets : (r : Reached) → Goes P (unsets r)
  goes-unsets (here v) = tt
  goes-unsets missing = tt
  goes-unsets scalar = tt

  goes-added : (value : Value) (items : List Value) → Goes P (cond (list_any (λ item. is_same item value) items) Keeps (Writes (Array (items ++ value ∷ []))))
  goes-added value items = goes-cond (list_any (λ item. is_same item value) items) Keeps (Writes (Array (items ++ value ∷ []))) tt tt

  -- an operator moves nothing but to its other path
  goes : (operator : Operator) (r : Reached) → AllByRecursion P (other_path operator) → Goes P (does operator r)
  goes (AddToSet value) r h = goes-leads (Writes (Array (value ∷ []))) _ tt (λ old. goes-array _ (λ items. goes-added value items) (out-Value old)) r
  goes (Inc n) r h = goes-leads (Writes (Int n)) _ tt (λ old. goes-number (λ m. m +ℤ n) (out-Value old)) r
  goes (Max value) r h = goes-leads (Writes value) _ tt (λ old. goes-cond (is_lt (compare_of old value)) (Writes value) Keeps tt tt) r
  goes (Min value) r h = goes-leads (Writes value) _ tt (λ old. goes-cond (is_gt (compare_of old value)) (Writes value) Keeps tt tt) r
  goes (Mul n) r h = goes-leads (Writes (Int (pos 0))) _ tt (λ old. goes-number (λ m. m *ℤ n) (out-Value old)) r
  goes (Pop side) r h = goes-leads _ _ tt (λ old. goes-array _ (λ items. tt) (out-Value old)) r
  goes (Push value) r h = goes-leads _ _ tt (λ old. goes-array _ (λ items. tt) (out-Value old)) r
  goes (Rename target) r h = goes-leads _ _ tt (λ old. h.0) r
  goes (Set value) r h = goes-leads _ _ tt (λ old. tt) r
  goes Unset r h = goes-unsets r

-- at a path through a scalar an operator does nothing or is refused
stays-scalar : (operator : Operator) (path : Path) (d after : Document) → done_at path d (does operator scalar) ≡ Ok after → after ≡ d
stays-scalar (AddToSet value) path d after e = cc
stays-scalar (Inc n) path d after e = cc
stays-scalar (Max value) path d after e = cc
stays-scalar (Min value) path d after e = cc
stays-scalar (Mul n) path d after e = cc
stays-scalar (Pop side) path d after e = cc
stays-scalar (Push value) path d after e = cc
stays-scalar (Rename target) path d after e = cc
stays-scalar (Set value) path d after e = cc
stays-scalar Unset path d after e = cc

either : (a b : Bool) → (a || b) ≡ false → (a ≡ false) × (b ≡ false)
either true b h = cc
either false b h = (refl, h)

-- a document that is made is what was made
made : (d after : Document) → ◌≡◌ {A = Made} (Ok d) (Ok after) → d ≡ after
made d after e = cc

module _ (other path : Path) (d after : Document) (r : is_related other path ≡ false) (s : is_scalar (reach path d) ≡ false) where
  moved-apart : (target : Path) (v : Value) (f : ChangeFault) (b : Bool) → is_related other target ≡ false → is_scalar (reach target d) ≡ b
      → cond b (Err f) (Ok (write target v (erase path d))) ≡ Ok after → reach other after ≡ reach other d
  moved-apart target v f true o h e = cc
  moved-apart target v f false o h e =
      ap (reach other) (sym (made (write target v (erase path d)) after e))
      ∙ reach-write_along other target v (erase path d) o (along-erased other target path d r (along-clear other target d h))
      ∙ reach-erase_apart other path d r s

  done-apart : (doing : Doing) → Goes (λ target. is_related other target ≡ false) doing → done_at path d doing ≡ Ok after → reach other after ≡ reach other d
  done-apart Keeps g e = ap (reach other) (sym (made d after e))
  done-apart (Writes v) g e = ap (reach other) (sym (made (write path v d) after e)) ∙ reach-write_apart other path v d r s
  done-apart Erases g e = ap (reach other) (sym (made (erase path d) after e)) ∙ reach-erase_apart other path d r s
  done-apart (Moves target v) g e = moved-apart target v (ThroughScalar (dotted target)) (is_scalar (reach target d)) g refl e
  done-apart (Fails refusal) g e = cc

-- each of some paths, from the test of them all
each_apart : (other : Path) (paths : List Path) → list_any (is_related other) paths ≡ false → AllByRecursion (λ target. is_related other target ≡ false) paths
each_apart other [] a = tt
each_apart other (p ∷ ps) a = let x = either (is_related other p) (list_any (is_related other) ps) a in (x.0, each_apart other ps x.1)

by_reached : (action : Action) (other : Path) (d after : Document) (r : Reached) → reach action.path d ≡ r → done_at action.path d (does action.operator r) ≡ Ok after
    → list_any (is_related other) (paths_of action) ≡ false → reach other after ≡ reach other d
by_reached action other d after scalar h e u = ap (reach other) (stays-scalar action.operator action.path d after e)
by_reached action other d after r h e u =
    let x = either (is_related other action.path) (list_any (is_related other) (other_path action.operator)) u in
    done-apart other action.path d after x.0 (ap is_scalar h) (does action.operator r) (goes _ action.operator r (each_apart other (other_path action.operator) x.1)) e

pub keeps_unrelated : KeepsUnrelated
keeps_unrelated action d after other e u = by_reached action other d after (reach action.path d) refl e u

-- ---- a value that is set
set-back : (n : List ℕ) (rest : Path) (v : Value) (d after : Document) (r : Reached) → done_at (n ∷ rest) d (does (Set v) r) ≡ Ok after → reach (n ∷ rest) after ≡ here v
set-back n rest v d after scalar e = cc
set-back n rest v d after r e = ap (reach (n ∷ rest)) (sym (made (write (n ∷ rest) v d) after e)) ∙ reach-write_itself n rest v d

pub set_reads_back : SetReadsBack
set_reads_back n rest v d after e = set-back n rest v d after (reach (n ∷ rest) d) e

-- ---- the `_id`
abbrev id : List ℕ
id = codes "_id"

not-id : (name : List ℕ) → same_name name id ≡ false → is_eq (name_cmp id name) ≡ false
not-id name h = apart_from_unlike id name (λ e. let t = (bytes_decides name id).1 (sym e) in cc)

id-write : {p : Path} → IsPath p → (v : Value) (d : Document) → field_of (write p v d) id ≡ field_of d id
id-write (named name rest h) v d = write-other id name rest v d (not-id name h)

id-erase : {p : Path} → IsPath p → (d : Document) → field_of (erase p d) id ≡ field_of d id
id-erase (named name rest h) d = erase-other id name rest d (not-id name h)

module _ (p : Path) (d after : Document) (i : IsPath p) where
  id-moved : (target : Path) (v : Value) (f : ChangeFault) (b : Bool) → IsPath target → cond b (Err f) (Ok (write target v (erase p d))) ≡ Ok after → field_of after id ≡ field_of d id
  id-moved target v f true t e = cc
  id-moved target v f false t e = ap (λ l. field_of l id) (sym (made (write target v (erase p d)) after e)) ∙ id-write t v (erase p d) ∙ id-erase i d

  id-done : (doing : Doing) → Goes IsPath doing → done_at p d doing ≡ Ok after → field_of after id ≡ field_of d id
  id-done Keeps g e = ap (λ l. field_of l id) (sym (made d after e))
  id-done (Writes v) g e = ap (λ l. field_of l id) (sym (made (write p v d) after e)) ∙ id-write i v d
  id-done Erases g e = ap (λ l. field_of l id) (sym (made (erase p d) after e)) ∙ id-erase i d
  id-done (Moves target v) g e = id-moved target v (ThroughScalar (dotted target)) (is_scalar (reach target d)) g e
  id-done (Fails refusal) g e = cc

id-acted : (action : Action) (d after : Document) → HasPaths action → acted action d ≡ Ok after → field_of after id ≡ field_of d id
id-acted action d after h e =
    let all = recursion_from_All IsPath (paths_of action) h in
    id-done action.path d after all.0 (does action.operator (reach action.path d)) (goes IsPath action.operator (reach action.path d) all.1) e

id-next : (actions : List Action) (action : Action) (d after : Document) (m : Made) → ((next : Document) → acted_all actions next ≡ Ok after → field_of after id ≡ field_of next id)
    → HasPaths action → acted action d ≡ m → and_then (acted_all actions) m ≡ Ok after → field_of after id ≡ field_of d id
id-next actions action d after (Ok next) later h m e = later next e ∙ id-acted action d next h m
id-next actions action d after (Err f) later h m e = cc

id-acted_all : (actions : List Action) (d after : Document) → AllByRecursion HasPaths actions → acted_all actions d ≡ Ok after → field_of after id ≡ field_of d id
id-acted_all [] d after h e = ap (λ l. field_of l id) (sym (made d after e))
id-acted_all (action ∷ actions) d after h e = id-next actions action d after (acted action d) (λ next. id-acted_all actions next after h.1) h.0 refl e

pub actions_keep_id : ActionsKeepId
actions_keep_id actions d after h e = id-acted_all actions d after (recursion_from_All HasPaths actions h) e

-- limits leave the document that is within them
limited : (a b : Bool) (d after : Document) (f g : ChangeFault) → cond a (Err f) (cond b (Err g) (Ok d)) ≡ Ok after → d ≡ after
limited true b d after f g e = cc
limited false true d after f g e = cc
limited false false d after f g e = cc

was_made : (limit : ℕ) (m : Made) (after : Document) → and_then (within_limits limit) m ≡ Ok after → m ≡ Ok after
was_made limit (Ok d) after e = ap (λ (x : Document). Ok x) (limited (nat_lt limit (length (document_text d))) (nat_lt 32 (document_levels d)) d after TooLarge TooDeep e)
was_made limit (Err f) after e = cc

-- an update's result is what its actions make
pub updated-acted : (limit : ℕ) (actions : List Action) (d after : Document) → updated limit actions d ≡ Ok after → acted_all actions d ≡ Ok after
updated-acted limit actions d after e = was_made limit (acted_all actions d) after e

pub keeps_id : KeepsId
keeps_id limit actions d after h e = actions_keep_id actions d after h (updated-acted limit actions d after e)
