-- A shard that installed has what it was given; of several outputs, what the one has that holds the `_id`.
use Rattle.std.proofs.Common.{◌≡◌, ◌≢◌, ℕ, zero, suc, Bool, true, false, cond, List, [], ◌∷◌, ◌++◌, map, slice_index_or, Option, Some, None, refl, sym, ap, ◌∙◌, arith, Less}
use Rattle.std.proofs.lemmas.List.Sums.{fold-append}
use Rattle.std.specs.FinMap as fin
use Rattle.std.specs.FinMap.{FinMap, empty, entries, entries_sorted, get, get-empty, get-entries, values}
use Rattle.std.specs.List.{AllByRecursion, Contains, flat_map, fold}
use Rattle.std.specs.List.Sorted.{IsStrictlySortedBy}
use Rattle.std.specs.Map.{keys_of}
use Rattle.std.specs.Option.{option_or}
use Rattle.std.specs.Ordering.{is_eq}
use Rattle.resh_value.specs.Lookup.{id_of}
use Rattle.resh_value.specs.Order.{compare_of, is_same}
use Rattle.resh_value.specs.OrderLaws.{compare_same, compare_total, same_from_test}
use Rattle.resh_value.specs.declared.value.Value.{Value}
use Rattle.resh_value.proofs.MapEntries.{entry_found, keys_rise}
use Rattle.resh_versions.specs.Chains.{Document, IsStored}
use Rattle.resh_versions.specs.Standing.{StandsUnder, now}
use Rattle.resh_versions.proofs.Listing.{first_there, later_there}
use Rattle.resh_versions.proofs.Pruning.{prunes_unseen}
use Rattle.resh_versions.proofs.Storing.{stores_last}
use Rattle.resh_shard.specs.Shards.{installed}
use Rattle.resh_story.specs.Laws.{InstallsLast, IsOutput, JoinsOutputs}
use Rattle.resh_story.proofs.Entries.{all_both, all_weaker}

pub installs_last : InstallsLast
installs_last time documents shard id =
    prunes_unseen.now (installed time documents shard).versions time id ∙ stores_last.now time documents id

abbrev Output : Type 0
Output = FinMap compare_of Document

abbrev Entries : Type 0
Entries = List (Value × Document)

-- outputs of parts of something, one after another
pub outputs_of : {X : Type 0} (output : X → Output) (parts : List X) → flat_map (λ part. values (output part)) parts ≡ flat_map values (map output parts)
outputs_of output [] = refl
outputs_of output (x ∷ xs) = ap (λ l. values (output x) ++ l) (outputs_of output xs)

-- each entry of an output may stand under its key
each_stands : (o : Output) → IsOutput o → (es : Entries) → ((e : Value × Document) → Contains es e → Contains (entries o) e) → AllByRecursion (λ e. StandsUnder e.0 e.1) es
each_stands o stands [] among = tt
each_stands o stands (e ∷ es) among =
    (stands e.0 e.1 (entry_found compare_total compare_same o e.0 e.1 (among e (first_there e es))), each_stands o stands es (λ x there. among x (later_there e es x there)))

each_named : (o : Output) → IsOutput o → AllByRecursion (λ e. id_of e.1 ≡ e.0) (entries o)
each_named o stands =
    all_weaker (λ (e : Value × Document). StandsUnder e.0 e.1) (λ (e : Value × Document). id_of e.1 ≡ e.0) (λ e s. s.named) (entries o)
    (each_stands o stands (entries o) (λ e there. there))

values_stored : (es : Entries) → AllByRecursion (λ e. StandsUnder e.0 e.1) es → AllByRecursion IsStored (map (λ e. e.1) es)
values_stored [] all = tt
values_stored (e ∷ es) all = (all.0.whole, values_stored es all.1)

all_stored : (outputs : List Output) → AllByRecursion IsOutput outputs → AllByRecursion IsStored (flat_map values outputs)
all_stored [] all = tt
all_stored (o ∷ os) all =
    all_both IsStored (values o) (flat_map values os) (values_stored (entries o) (each_stands o all.0 (entries o) (λ e there. there))) (all_stored os all.1)

module _ (id : Value) where
  -- the last one of the `_id`, or what was there before
  abbrev later : Option Document → Document → Option Document
  later before d = cond (is_same id (id_of d)) (Some d) before

  abbrev documents : Entries → List Document
  documents es = map (λ e. e.1) es

  abbrev AreNamed : Entries → Type 0
  AreNamed es = AllByRecursion (λ e. id_of e.1 ≡ e.0) es

  none_above : (k : Value) (es : Entries) → is_same id k ≡ true → AllByRecursion (λ y. compare_of k y ≡ Less) (keys_of es) → fin.find compare_of id es ≡ None
  none_above k [] same above = refl
  none_above k (e ∷ es) same above =
      ap (λ b. cond b (Some e.1) (fin.find compare_of id es)) ((λ i. is_same (same_from_test id k same i) e.0) ∙ ap is_eq above.0)
      ∙ none_above k es same above.1

  one_of_each : (es : Entries) → IsStrictlySortedBy compare_of (keys_of es) → AreNamed es → (before : Option Document)
      → fold later before (documents es) ≡ option_or (fin.find compare_of id es) before
  unfolding IsStrictlySortedBy
  one_of_each [] s named before = refl
  one_of_each (e ∷ es) s named before =
      one_of_each es s.1 named.1 (later before e.1)
      ∙ ap (λ k. option_or (fin.find compare_of id es) (cond (is_same id k) (Some e.1) before)) named.0
      ∙ by (is_same id e.0) refl
    where
      by : (b : Bool) → is_same id e.0 ≡ b
          → option_or (fin.find compare_of id es) (cond (is_same id e.0) (Some e.1) before) ≡ option_or (cond (is_same id e.0) (Some e.1) (fin.find compare_of id es)) before
      by true is =
          (λ i. option_or (none_above e.0 es is s.0 i) (cond (is i) (Some e.1) before))
          ∙ sym (ap (λ b. option_or (cond b (Some e.1) (fin.find compare_of id es)) before) is)
      by false is =
          ap (λ b. option_or (fin.find compare_of id es) (cond b (Some e.1) before)) is
          ∙ sym (ap (λ b. option_or (cond b (Some e.1) (fin.find compare_of id es)) before) is)

  one_output : (o : Output) → IsOutput o → (before : Option Document) → fold later before (values o) ≡ option_or (get o id) before
  one_output o named before =
      one_of_each (entries o) (keys_rise compare_of (entries o) (entries_sorted o)) (each_named o named) before
      ∙ ap (λ x. option_or x before) (sym (get-entries o id))

  abbrev all : List Output → List Document
  all os = flat_map values os

  in_none : (os : List Output) → AllByRecursion IsOutput os → ((k : ℕ) → get (slice_index_or os k empty) id ≡ None)
      → (before : Option Document) → fold later before (all os) ≡ before
  in_none [] named none before = refl
  in_none (o ∷ os) named none before =
      fold-append later before (values o) (all os)
      ∙ ap (λ x. fold later x (all os)) (one_output o named.0 before ∙ ap (λ x. option_or x before) (none zero))
      ∙ in_none os named.1 (λ k. none (suc k)) before

  or_none : (o : Option Document) → option_or o None ≡ o
  or_none None = refl
  or_none (Some d) = refl

  in_one : (os : List Output) (lane : ℕ) → AllByRecursion IsOutput os
      → ((k : ℕ) → k ≢ lane → get (slice_index_or os k empty) id ≡ None) → fold later None (all os) ≡ get (slice_index_or os lane empty) id
  in_one [] lane named none = sym (get-empty compare_of id)
  in_one (o ∷ os) zero named none =
      fold-append later None (values o) (all os)
      ∙ in_none os named.1 (λ k. none (suc k) (λ e. omega (arith, e))) (fold later None (values o))
      ∙ one_output o named.0 None ∙ or_none (get o id)
  in_one (o ∷ os) (suc lane) named none =
      fold-append later None (values o) (all os)
      ∙ ap (λ x. fold later x (all os)) (one_output o named.0 None ∙ ap (λ x. option_or x None) (none zero (λ e. omega (arith, e))))
      ∙ in_one os lane named.1 (λ k ne. none (suc k) (λ e. ne (omega (arith, e))))

pub joins_outputs : JoinsOutputs
joins_outputs = record {
  stored = all_stored;
  last = λ outputs lane id named none. in_one id outputs lane named none;
}
