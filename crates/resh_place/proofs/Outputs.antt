-- The lanes' outputs together: each document once, and what a shard has that installs them.
use Rattle.std.proofs.Common.{◌≡◌, ◌<◌, ◌+◌, ◌==◌, ◌⊎◌, inl, inr, ⊎_elim, ℕ, zero, suc, Bool, true, false, cond, List, [], ◌∷◌, length, slice_index_or, Option, Some, None, refl, sym, ap, subst, ◌∙◌, arith, Less, Equal}
use Rattle.std.proofs.lemmas.Bool.{eqb-true}
use Rattle.std.proofs.lemmas.List.Elements.{Contains-append_cases, Contains-append_left, Contains-append_right}
use Rattle.std.proofs.lemmas.Map.Made.{Contains-from_values_of, Contains-values_of}
use Rattle.std.specs.FinMap.{entries, entries_sorted, get, values}
use Rattle.std.specs.List.{AllByRecursion, Contains, fold}
use Rattle.std.specs.List.Sorted.{IsPermutation, IsStrictlySortedBy}
use Rattle.std.specs.Map.{keys_of, values_of}
use Rattle.std.specs.Ordering.{is_eq}
use Rattle.resh_value.specs.Lookup.{id_of}
use Rattle.resh_value.specs.Order.{compare_of, is_same}
use Rattle.resh_value.specs.OrderLaws.{compare_itself, compare_same, compare_total, same_from_test}
use Rattle.resh_value.specs.declared.value.Value.{Value}
use Rattle.resh_chunks.specs.Chunks.{Chunks, owner_of}
use Rattle.resh_bag.specs.Bag.{Bag, documents, held, opening_bag, IsPlaced}
use Rattle.resh_bag.specs.Placement.{HasNoClash, part}
use Rattle.resh_bag.proofs.Lists.{first_or_later, first_there, kept, later_there, rising_unmap, was_there}
use Rattle.resh_bag.proofs.bags.Entries.{entry_found, found_entry, keys_rise}
use Rattle.resh_bag.proofs.bags.Opening.{opens_placed, opens_whole}
use Rattle.resh_bag.proofs.shards.Parting.{parts_rise}
use Rattle.resh_cells.specs.Cells.{no_lane}
use Rattle.resh_events.specs.rows.Tell.{outputs, with_outputs}
use Rattle.resh_feed.specs.Lanes.{id_lane}
use Rattle.resh_feed.proofs.LaneFeeding.{same_number}
use Rattle.resh_lane.specs.Lanes.{LaneOf}
use Rattle.resh_model.proofs.orders.Switching.{distinct_places}
use Rattle.resh_oplog.specs.declared.entry.What.{What}
use Rattle.resh_place.specs.Lanes.{HaveTakenAll, TellPart, held_in}
use Rattle.resh_place.specs.Laws.{OutputsAreParts}
use Rattle.resh_place.proofs.Clashes.{output_is_part}
use Rattle.resh_place.proofs.Lists.{NoRepeat, no_member, no_repeat_append, same_members}
use Rattle.resh_place.proofs.Slots.{never_some, some_same}
use Rattle.resh_place.proofs.Taken.{lane_sound, nothing_else, own_lane, own_sound, whole_part}
use Rattle.resh_shard.specs.Shards.{Shard}
use Rattle.resh_stash.specs.Stored.{Document, Stored}
use Rattle.resh_versions.specs.Standing.{last_of, now, stored_from}
use Rattle.resh_versions.proofs.Pruning.{prunes_unseen}
use Rattle.resh_versions.proofs.Storing.{stores_last}

-- the last of an `_id` among documents, where only one document has it, and where none has
module _ (id : Value) where
  abbrev taken_last : Option Document → Document → Option Document
  taken_last before d = cond (is_same id (id_of d)) (Some d) before

  named_same : (d : Document) → id_of d ≡ id → is_same id (id_of d) ≡ true
  named_same d e = ap (is_same id) e ∙ ap is_eq (compare_itself id)

  last_some : (ds : List Document) (before : Option Document) (d : Document) → ((e : Document) → Contains ds e → id_of e ≡ id → e ≡ d)
      → (Contains ds d × (id_of d ≡ id)) ⊎ (before ≡ Some d) → fold taken_last before ds ≡ Some d
  last_some [] before d only (inl there) = absurd (no_member d there.0)
  last_some [] before d only (inr is) = is
  last_some (x ∷ ds) before d only was = by (λ o w. last_some ds o d later w) (is_same id (id_of x)) refl was
    where
      later : (e : Document) → Contains ds e → id_of e ≡ id → e ≡ d
      later e there named = only e (later_there x ds e there) named

      by : ((o : Option Document) → (Contains ds d × (id_of d ≡ id)) ⊎ (o ≡ Some d) → fold taken_last o ds ≡ Some d)
          → (b : Bool) → is_same id (id_of x) ≡ b → (Contains (x ∷ ds) d × (id_of d ≡ id)) ⊎ (before ≡ Some d) → fold taken_last (cond b (Some x) before) ds ≡ Some d
      by rest true e w = rest (Some x) (inr (ap Some (only x (first_there x ds) (sym (same_from_test id (id_of x) e)))))
      by rest false e (inr is) = rest before (inr is)
      by rest false e (inl w) =
          ⊎_elim
          (λ same. let off : true ≡ false = sym (named_same x (ap id_of same ∙ w.1)) ∙ e in cc)
          (λ there. rest before (inl (there, w.1)))
          (first_or_later x ds d w.0)

  last_none : (ds : List Document) (before : Option Document) → ((e : Document) → Contains ds e → id_of e ≡ id → ⊥) → fold taken_last before ds ≡ before
  last_none [] before none = refl
  last_none (x ∷ ds) before none = by (last_none ds before (λ y there named. none y (later_there x ds y there) named)) (is_same id (id_of x)) refl
    where
      by : fold taken_last before ds ≡ before → (b : Bool) → is_same id (id_of x) ≡ b → fold taken_last (cond b (Some x) before) ds ≡ before
      by rest true e = absurd (none x (first_there x ds) (sym (same_from_test id (id_of x) e)))
      by rest false e = rest

-- the documents of a store
abbrev AreNamed : Stored → Type 0
AreNamed s = (id : Value) (d : Document) → get s id ≡ Some d → id_of d ≡ id

value_got : (s : Stored) → AreNamed s → (d : Document) → Contains (values s) d → get s (id_of d) ≡ Some d
value_got s named d there =
    let w = Contains-from_values_of (entries s) d there in
    let is = entry_found compare_total compare_same s w.0 d w.1 in
    ap (get s) (named w.0 d is) ∙ is

got_value : (s : Stored) (id : Value) (d : Document) → get s id ≡ Some d → Contains (values s) d
got_value s id d is = Contains-values_of (entries s) id d (found_entry compare_total compare_same s id d is)

pub entry_below : (es : List (Value × Document)) (k : Value) → AllByRecursion (λ y. compare_of k y ≡ Less) (keys_of es) → (id : Value) (d : Document) → Contains es (id, d) → compare_of k id ≡ Less
entry_below [] k below id d there = absurd (no_member (id, d) there)
entry_below (e ∷ es) k below id d there =
    ⊎_elim (λ same. subst (λ (x : Value × Document). compare_of k x.0 ≡ Less) same below.0) (λ later. entry_below es k below.1 id d later) (first_or_later e es (id, d) there)

not_below : (a : Value) → compare_of a a ≡ Less → ⊥
not_below a below = let off : Less ≡ Equal = sym below ∙ compare_itself a in cc

each_value_once : (es : List (Value × Document)) → IsStrictlySortedBy compare_of (keys_of es) → ((id : Value) (d : Document) → Contains es (id, d) → id_of d ≡ id) → NoRepeat (values_of es)
unfolding IsStrictlySortedBy
each_value_once [] rise named = tt
each_value_once (e ∷ es) rise named = (
  λ there. let w = Contains-from_values_of es e.1 there in
      let same : w.0 ≡ e.0 = sym (named w.0 e.1 (later_there e es (w.0, e.1) w.1)) ∙ named e.0 e.1 (first_there e es) in
      not_below e.0 (subst (λ k. compare_of e.0 k ≡ Less) same (entry_below es e.0 rise.0 w.0 e.1 w.1)),
  each_value_once es rise.1 (λ id d there. named id d (later_there e es (id, d) there)),
)

values_once : (s : Stored) → AreNamed s → NoRepeat (values s)
values_once s named =
    each_value_once (entries s) (keys_rise compare_of (entries s) (entries_sorted s)) (λ id d there. named id d (entry_found compare_total compare_same s id d there))

each_of : {X : Type 0} (P : X → Type 0) (xs : List X) (x : X) → AllByRecursion P xs → Contains xs x → P x
each_of P [] x all there = absurd (no_member x there)
each_of P (y ∷ ys) x all there = ⊎_elim (λ same. subst P same all.0) (λ later. each_of P ys x all.1 later) (first_or_later y ys x there)

rising_once : (ds : List Document) → IsStrictlySortedBy (λ a b. compare_of (id_of a) (id_of b)) ds → NoRepeat ds
unfolding IsStrictlySortedBy
rising_once [] rise = tt
rising_once (d ∷ ds) rise = (λ there. not_below (id_of d) (each_of (λ x. compare_of (id_of d) (id_of x) ≡ Less) ds d rise.0 there), rising_once ds rise.1)

-- the documents of the outputs of some lanes
abbrev output_at : List LaneOf → ℕ → Stored
output_at all l = (slice_index_or all l no_lane).pool.output

record StandsIn (all : List LaneOf) (d : Document) : Type 0 where
  place : ℕ
  within : place < length all
  there : Contains (values (output_at all place)) d

outputs_from : (all : List LaneOf) (d : Document) → Contains (outputs all) d → StandsIn all d
outputs_from [] d there = absurd (no_member d there)
outputs_from (l ∷ ls) d there =
    ⊎_elim
    (λ here. record { place = zero; within = omega arith; there = here })
    (λ later. further (outputs_from ls d later))
    (Contains-append_cases (values l.pool.output) (outputs ls) d there)
  where
    further : StandsIn ls d → StandsIn (l ∷ ls) d
    further s = let lt = s.within in record { place = suc s.place; within = omega (arith, lt); there = s.there }

in_outputs : (all : List LaneOf) (l : ℕ) (d : Document) → l < length all → Contains (values (output_at all l)) d → Contains (outputs all) d
in_outputs [] l d lt there = absurd (omega arith)
in_outputs (x ∷ xs) zero d lt there = Contains-append_left (values x.pool.output) (outputs xs) d there
in_outputs (x ∷ xs) (suc l) d lt there = Contains-append_right (values x.pool.output) (outputs xs) d (in_outputs xs l d (omega (arith, lt)) there)

outputs_once : (lanes from : ℕ) (all : List LaneOf) → ((l : ℕ) → l < length all → NoRepeat (values (output_at all l)))
    → ((l : ℕ) (d : Document) → l < length all → Contains (values (output_at all l)) d → id_lane (id_of d) lanes ≡ from + l) → NoRepeat (outputs all)
outputs_once lanes from [] once own = tt
outputs_once lanes from (x ∷ xs) once own =
    no_repeat_append (values x.pool.output) (outputs xs) (once zero (omega arith))
    (outputs_once lanes (from + 1) xs (λ l lt. once (suc l) (omega (arith, lt))) (λ l d lt there. let e = own (suc l) d (omega (arith, lt)) there in omega (arith, e)))
    (λ d here there. apart d here (outputs_from xs d there))
  where
    apart : (d : Document) → Contains (values x.pool.output) d → StandsIn xs d → ⊥
    apart d here s =
        let one = own zero d (omega arith) here in
        let lt = s.within in
        let other = own (suc s.place) d (omega (arith, lt)) s.there in
        omega (arith, one, other)

module _ (old_map : Chunks) (lanes donors : ℕ) (feeds : ℕ → List What) (all : List LaneOf) (taken : HaveTakenAll old_map lanes donors feeds all) where
  abbrev got : Value → Option Document
  got id = (held_in lanes all id).output

  named : (l : ℕ) → l < lanes → AreNamed (output_at all l)
  named l lt id d is = (lane_sound old_map lanes donors feeds all taken l id lt).output_named d is

  inside : (l : ℕ) → l < length all → l < lanes
  inside l lt = subst (λ n. l < n) taken.many lt

  -- an output has its own lane's `_id`s alone
  own_value : (l : ℕ) (d : Document) → l < lanes → Contains (values (output_at all l)) d → id_lane (id_of d) lanes ≡ l
  own_value l d lt there = by (id_lane (id_of d) lanes == l) refl
    where
      by : (b : Bool) → (id_lane (id_of d) lanes == l) ≡ b → id_lane (id_of d) lanes ≡ l
      by true e = eqb-true (id_lane (id_of d) lanes) l e
      by false e =
          absurd (never_some d (sym (nothing_else old_map lanes donors feeds all taken l (id_of d) lt e).output ∙ value_got (output_at all l) (named l lt) d there))

  output_got : (d : Document) → Contains (outputs all) d → got (id_of d) ≡ Some d
  output_got d there =
      let s : StandsIn all d = outputs_from all d there in
      let lt : s.place < lanes = inside s.place s.within in
      subst (λ l. get (output_at all l) (id_of d) ≡ Some d) (sym (own_value s.place d lt s.there)) (value_got (output_at all s.place) (named s.place lt) d s.there)

  got_output : (id : Value) (d : Document) → got id ≡ Some d → Contains (outputs all) d
  got_output id d is =
      let lt = own_lane old_map lanes donors feeds all taken id in
      in_outputs all (id_lane id lanes) d (subst (λ n. id_lane id lanes < n) (sym taken.many) lt) (got_value (output_at all (id_lane id lanes)) id d is)

  got_named : (id : Value) (d : Document) → got id ≡ Some d → id_of d ≡ id
  got_named id d is = (own_sound old_map lanes donors feeds all taken id).output_named d is

  last_output : (id : Value) → last_of (outputs all) id ≡ got id
  last_output id = by (got id) refl
    where
      at_id : (e : Document) → Contains (outputs all) e → id_of e ≡ id → got id ≡ Some e
      at_id e there is = ap got (sym is) ∙ output_got e there

      by : (o : Option Document) → got id ≡ o → last_of (outputs all) id ≡ got id
      by None e = last_none id (outputs all) None (λ x there is. never_some x (sym e ∙ at_id x there is)) ∙ sym e
      by (Some d) e =
          last_some id (outputs all) None d (λ x there is. some_same x d (sym (at_id x there is) ∙ e)) (inl (got_output id d e, got_named id d e)) ∙ sym e

  pub installs_own : (time : ℕ) (shard : Shard) (id : Value) → now (with_outputs time (outputs all) shard).versions id ≡ got id
  installs_own time shard id =
      prunes_unseen.now (stored_from time (outputs all)) time id ∙ stores_last.now time (outputs all) id ∙ last_output id

  pub each_once : NoRepeat (outputs all)
  each_once =
      outputs_once lanes 0 all (λ l lt. values_once (output_at all l) (named l (inside l lt)))
      (λ l d lt there. let e = own_value l d (inside l lt) there in omega (arith, e))

  module _ (new_map : Chunks) (bag : Bag) (r : ℕ) (placed : IsPlaced old_map bag) (none : HasNoClash new_map bag) (told : TellPart new_map bag r donors feeds) where
    abbrev after : Bag
    after = opening_bag new_map (documents bag)

    got_after : (id : Value) → got id ≡ held after r id
    got_after id =
        output_is_part old_map new_map bag r (held_in lanes all) (whole_part old_map lanes donors feeds all taken new_map bag r placed told) placed none id

    to_outputs : (d : Document) → Contains (part new_map bag r) d → Contains (outputs all) d
    to_outputs d there =
        let w = was_there (λ x. owner_of new_map x == r) (documents bag) d there in
        let stands : held after (owner_of new_map d) (id_of d) ≡ Some d = opens_whole.each new_map (documents bag) (distinct_places old_map new_map bag placed none) d w.0 in
        got_output (id_of d) d (got_after (id_of d) ∙ subst (λ s. held after s (id_of d) ≡ Some d) (eqb-true (owner_of new_map d) r w.1) stands)

    from_outputs : (d : Document) → Contains (outputs all) d → Contains (part new_map bag r) d
    from_outputs d there =
        let stands : held after r (id_of d) ≡ Some d = sym (got_after (id_of d)) ∙ output_got d there in
        let is = (opens_placed.placed new_map (documents bag)).by_owner r (id_of d) d stands in
        kept (λ x. owner_of new_map x == r) (documents bag) d (opens_placed.only new_map (documents bag) r (id_of d) d stands) (ap (λ n. n == r) is ∙ same_number r)

    pub outputs_part : IsPermutation (part new_map bag r) (outputs all)
    outputs_part =
        same_members (part new_map bag r) (outputs all)
        (rising_once (part new_map bag r) (rising_unmap id_of compare_of (part new_map bag r) (parts_rise old_map new_map bag placed none r))) each_once
        to_outputs from_outputs

pub outputs_are_parts : OutputsAreParts
outputs_are_parts = record {
  installed = λ old_map lanes donors feeds all taken time shard id. installs_own old_map lanes donors feeds all taken time shard id;
  part = λ old_map new_map bag r lanes donors feeds all placed none told taken. outputs_part old_map lanes donors feeds all taken new_map bag r placed none told;
}
