-- Documents and filters that were read have rising names and few levels.
use Rattle.std.proofs.Common.{◌≡◌, ◌∙◌, ℕ, ◌+◌, ◌^◌, ◌≤◌, ℤ, pos, Bool, true, false, cond, ltb, List, [], ◌∷◌, map, max, Option, Some, None, Ok, refl, sym, ap, subst, arith, rules}
use Rattle.std.specs.Prelude.{◌||◌, nat_lt, option_map, option_and_then, suc, codes}
use Rattle.std.specs.List.{list_any}
use Rattle.std.specs.Map.{keys_of}
use Rattle.std.specs.List.Sorted.{IsStrictlySortedBy}
use Rattle.std.proofs.lemmas.Bool.{ltb-false}
use Rattle.serde_json.specs.Find.{as_str, as_object}
use Rattle.serde_json.specs.Data.{Num, unsigned, negative, float, Data, null, boolean, number, string, array, object, Items, no_items, item, Members, no_members, member}
use Rattle.resh_value.specs.Depth.{greatest, levels_of, document_levels}
use Rattle.resh_value.specs.Names.{name_cmp, same_name, HasRisingNames}
use Rattle.resh_value.specs.Outcome.{and_then}
use Rattle.resh_value.specs.Paths.{to_name, to_place}
use Rattle.resh_value.specs.Tags.{oid_of, oid_in, whole_in, instant_of, date_in, tagged, tag_of}
use Rattle.resh_value.specs.FromJson.{Read, whole, is_too_deep, has_dollar_name, object_value, value_at, items_at, members_at, walked_document}
use Rattle.resh_value.specs.Walk.{ends, under, at_step, as_kind}
use Rattle.resh_value.specs.declared.value.Value.{Value, the_lemmas}
use Rattle.resh_value.specs.declared.value.Value.TheVariants.{Null, Int, Text, Doc, List as Array, Oid, Bool as Boolean, Date}
use Rattle.resh_value.specs.declared.fault.ValueFaultKind.TheVariants.{NotWhole, TooDeep, DollarName}
use Rattle.resh_value.proofs.levels.Levels.{levels-Doc}
use Rattle.resh_filter.specs.declared.fault.FilterFaultKind.TheVariants.{Value as InValue}
use Rattle.resh_filter.specs.Filters.{is_dotted, first_dotted, dotted_in, undotted, walked_filter}
use Rattle.resh_config.proofs.Outcomes.{Ok-and_then, Ok-in_err, same_in_Ok}
use Rattle.resh_config.proofs.SortedMembers.{names_of, IsTidy}

abbrev pub Fields : Type 0
Fields = List (List ℕ × Value)

-- ---- names

first_key : (name : List ℕ) (v : Read Value) (rest : Read Fields) (fs : Fields) (names : List (List ℕ)) → ((gs : Fields) → rest ≡ Ok gs → keys_of gs ≡ names)
    → and_then (λ x. and_then (λ gs. Ok ((name, x) ∷ gs)) rest) v ≡ Ok fs → keys_of fs ≡ name ∷ names
first_key name v rest fs names later is =
    let x = Ok-and_then (λ (x : Value). and_then (λ (gs : Fields). let made : Read Fields = Ok ((name, x) ∷ gs) in made) rest) v fs is in
    let gs = Ok-and_then (λ (gs : Fields). let made : Read Fields = Ok ((name, x.0) ∷ gs) in made) rest fs x.2 in
    subst (λ (ns : Fields). keys_of ns ≡ name ∷ names) (same_in_Ok ((name, x.0) ∷ gs.0) fs gs.2) (ap (λ ns. name ∷ ns) (later gs.0 gs.1))

-- the fields of an object have its names
keys_read : (level : ℕ) (ds : Members) (fs : Fields) → members_at level ds ≡ Ok fs → keys_of fs ≡ names_of ds
keys_read level no_members fs is = let same : ◌≡◌ {A = Fields} [] fs = cc in subst (λ (ns : Fields). keys_of ns ≡ []) same refl
keys_read level (member name d ds) fs is =
    first_key name (at_step (to_name name) (value_at level d)) (members_at level ds) fs (names_of ds) (λ gs. keys_read level ds gs) is

-- a document that was read is an object's members
walked_members : (d : Data) (document : Fields) → walked_document d ≡ Ok document → (ds : Members) × (d ≡ object ds) × (members_at 2 ds ≡ Ok document)
walked_members (object ds) document is = (ds, refl, by (has_dollar_name ds) is)
  where
    by : (b : Bool) → cond b (ends DollarName) (members_at 2 ds) ≡ Ok document → members_at 2 ds ≡ Ok document
    by true e = cc
    by false e = e
walked_members null document is = cc
walked_members (boolean b) document is = cc
walked_members (number n) document is = cc
walked_members (string text) document is = cc
walked_members (array items) document is = cc

pub document_rises : (d : Data) (document : Fields) → IsTidy d → walked_document d ≡ Ok document → HasRisingNames document
document_rises d document tidy is =
    let m = walked_members d document is in
    let sorted = subst IsTidy m.1 tidy in
    subst (IsStrictlySortedBy name_cmp) (sym (keys_read 2 m.0 document m.2)) sorted.0

-- ---- levels

levels-List : (items : List Value) → levels_of (Array items) ≡ suc (greatest (map levels_of items))
unfolding levels_of
levels-List items = search (rules, the_lemmas)

levels-Null : levels_of Null ≡ 0
unfolding levels_of
levels-Null = search (rules, the_lemmas)

levels-Int : (n : ℤ) → levels_of (Int n) ≡ 0
unfolding levels_of
levels-Int n = search (rules, the_lemmas)

levels-Text : (text : List ℕ) → levels_of (Text text) ≡ 0
unfolding levels_of
levels-Text text = search (rules, the_lemmas)

levels-Bool : (b : Bool) → levels_of (Boolean b) ≡ 0
unfolding levels_of
levels-Bool b = search (rules, the_lemmas)

levels-Oid : (bytes : List ℕ) → levels_of (Oid bytes) ≡ 0
unfolding levels_of
levels-Oid bytes = search (rules, the_lemmas)

levels-Date : (n : ℤ) → levels_of (Date n) ≡ 0
unfolding levels_of
levels-Date n = search (rules, the_lemmas)

flat_by : {A : Type 0} (f : A → Value) → ((a : A) → levels_of (f a) ≡ 0) → (o : Option A) (v : Value) → option_map f o ≡ Some v → levels_of v ≡ 0
flat_by f flat None v is = cc
flat_by f flat (Some a) v is = let same : f a ≡ v = cc in subst (λ (x : Value). levels_of x ≡ 0) same (flat a)

instant_flat : (ds : Members) (v : Value) → instant_of ds ≡ Some v → levels_of v ≡ 0
instant_flat no_members v is = cc
instant_flat (member name content no_members) v is = by (same_name name (codes "$numberLong")) is
  where
    by : (b : Bool) → cond b (option_map Date (whole_in 63 content)) None ≡ Some v → levels_of v ≡ 0
    by true e = flat_by Date levels-Date (whole_in 63 content) v e
    by false e = cc
instant_flat (member name content (member other more rest)) v is = cc

date_flat : (content : Data) (v : Value) → date_in content ≡ Some v → levels_of v ≡ 0
date_flat content v is = by (as_object content) is
  where
    by : (o : Option Members) → option_and_then instant_of o ≡ Some v → levels_of v ≡ 0
    by None e = cc
    by (Some ds) e = instant_flat ds v e

tagged_flat : (name : List ℕ) (content : Data) (v : Value) → tagged name content ≡ Some (Some v) → levels_of v ≡ 0
tagged_flat name content v is = by (same_name name (codes "$oid")) (same_name name (codes "$numberLong")) (same_name name (codes "$numberInt")) (same_name name (codes "$date")) is
  where
    inside : (o : Option Value) → ◌≡◌ {A = Option (Option Value)} (Some o) (Some (Some v)) → o ≡ Some v
    inside o e = cc

    by : (a b c d : Bool) → cond a (Some (oid_in content)) (cond b (Some (option_map Int (whole_in 63 content)))
        (cond c (Some (option_map Int (whole_in 31 content))) (cond d (Some (date_in content)) None))) ≡ Some (Some v) → levels_of v ≡ 0
    by true b c d e = flat_by Oid levels-Oid (option_and_then oid_of (as_str content)) v (inside _ e)
    by false true c d e = flat_by Int levels-Int (whole_in 63 content) v (inside _ e)
    by false false true d e = flat_by Int levels-Int (whole_in 31 content) v (inside _ e)
    by false false false true e = date_flat content v (inside _ e)
    by false false false false e = cc

tag_flat : (ds : Members) (v : Value) → tag_of ds ≡ Some (Some v) → levels_of v ≡ 0
tag_flat no_members v is = cc
tag_flat (member name content no_members) v is = tagged_flat name content v is
tag_flat (member name content (member other more rest)) v is = cc

both_few : (m n k : ℕ) → m + k ≤ 33 → n + k ≤ 33 → max m n + k ≤ 33
both_few m n k p q = grind arith

not_deep : {A : Type 0} (level : ℕ) (r : Read A) (a : A) → cond (is_too_deep level) (ends TooDeep) r ≡ Ok a → (level ≤ 32) × (r ≡ Ok a)
not_deep level r a is = by (ltb 32 level) refl is
  where
    by : (b : Bool) → ltb 32 level ≡ b → cond b (ends TooDeep) r ≡ Ok a → (level ≤ 32) × (r ≡ Ok a)
    by true deep e = cc
    by false deep e = (ltb-false 32 level deep, e)

number_flat : (n : Num) (v : Value) → whole n ≡ Ok v → levels_of v ≡ 0
number_flat (unsigned n) v is = by (nat_lt n (2 ^ 63)) is
  where
    by : (b : Bool) → cond b (Ok (Int (pos n))) (ends NotWhole) ≡ Ok v → levels_of v ≡ 0
    by true e = let same : Int (pos n) ≡ v = cc in subst (λ (x : Value). levels_of x ≡ 0) same (levels-Int (pos n))
    by false e = cc
number_flat (negative z) v is = let same : Int z ≡ v = cc in subst (λ (x : Value). levels_of x ≡ 0) same (levels-Int z)
number_flat (float x) v is = cc

-- an object's value is a tag's, or has the levels of its members and one more
object_shallow : (level : ℕ) (v : Value) (tag : Option (Option Value)) (dollar : Bool) (fields : Read Fields) → level ≤ 32 → (tag ≡ Some (Some v) → levels_of v ≡ 0)
    → ((fs : Fields) → fields ≡ Ok fs → greatest (map (λ (f : List ℕ × Value). levels_of f.1) fs) + (level + 1) ≤ 33)
    → object_value tag dollar fields ≡ Ok v → levels_of v + level ≤ 33
object_shallow level v (Some (Some w)) dollar fields l flat few is =
    let same : w ≡ v = cc in
    let e = flat (ap (λ (x : Value). Some (Some x)) same) in
    omega arith
object_shallow level v (Some None) dollar fields l flat few is = cc
object_shallow level v None true fields l flat few is = cc
object_shallow level v None false fields l flat few is =
    let fs = Ok-and_then (λ (fs : Fields). let made : Read Value = Ok (Doc fs) in made) fields v is in
    let e = levels-Doc fs.0 in
    let n = few fs.0 fs.1 in
    subst (λ (x : Value). levels_of x + level ≤ 33) (same_in_Ok (Doc fs.0) v fs.2) (omega arith)

mutual
  value_shallow : (level : ℕ) (d : Data) (v : Value) → level ≤ 33 → value_at level d ≡ Ok v → levels_of v + level ≤ 33
  value_shallow level null v l is = let same : Null ≡ v = cc in let e = levels-Null in subst (λ (x : Value). levels_of x + level ≤ 33) same (omega arith)
  value_shallow level (boolean b) v l is = let same : Boolean b ≡ v = cc in let e = levels-Bool b in subst (λ (x : Value). levels_of x + level ≤ 33) same (omega arith)
  value_shallow level (number n) v l is = let e = number_flat n v is in omega arith
  value_shallow level (string text) v l is = let same : Text text ≡ v = cc in let e = levels-Text text in subst (λ (x : Value). levels_of x + level ≤ 33) same (omega arith)
  value_shallow level (array ds) v l is =
      let here = not_deep level (and_then (λ (vs : List Value). let made : Read Value = Ok (Array vs) in made) (items_at (level + 1) 0 ds)) v is in
      let vs = Ok-and_then (λ (vs : List Value). let made : Read Value = Ok (Array vs) in made) (items_at (level + 1) 0 ds) v here.1 in
      let few = items_shallow (level + 1) 0 ds vs.0 (omega (arith, here.0)) vs.1 in
      let e = levels-List vs.0 in
      subst (λ (x : Value). levels_of x + level ≤ 33) (same_in_Ok (Array vs.0) v vs.2) (omega arith)
  value_shallow level (object ds) v l is =
      let here = not_deep level (object_value (tag_of ds) (has_dollar_name ds) (members_at (level + 1) ds)) v is in
      object_shallow level v (tag_of ds) (has_dollar_name ds) (members_at (level + 1) ds) here.0 (λ t. tag_flat ds v t)
      (λ fs. members_shallow (level + 1) ds fs (omega (arith, here.0))) here.1

  items_shallow : (level place : ℕ) (ds : Items) (vs : List Value) → level ≤ 33 → items_at level place ds ≡ Ok vs → greatest (map levels_of vs) + level ≤ 33
  items_shallow level place no_items vs l is =
      let same : ◌≡◌ {A = List Value} [] vs = cc in
      let none : 0 + level ≤ 33 = omega arith in
      subst (λ (xs : List Value). greatest (map levels_of xs) + level ≤ 33) same none
  items_shallow level place (item d ds) vs l is =
      let x = Ok-and_then (λ (x : Value). and_then (λ (xs : List Value). let made : Read (List Value) = Ok (x ∷ xs) in made) (items_at level (place + 1) ds)) (at_step (to_place place) (value_at level d)) vs is in
      let xs = Ok-and_then (λ (xs : List Value). let made : Read (List Value) = Ok (x.0 ∷ xs) in made) (items_at level (place + 1) ds) vs x.2 in
      subst (λ (ys : List Value). greatest (map levels_of ys) + level ≤ 33) (same_in_Ok (x.0 ∷ xs.0) vs xs.2)
      (both_few (levels_of x.0) (greatest (map levels_of xs.0)) level (value_shallow level d x.0 l (Ok-in_err (under (to_place place)) (value_at level d) x.0 x.1))
      (items_shallow level (place + 1) ds xs.0 l xs.1))

  members_shallow : (level : ℕ) (ds : Members) (fs : Fields) → level ≤ 33 → members_at level ds ≡ Ok fs → greatest (map (λ (f : List ℕ × Value). levels_of f.1) fs) + level ≤ 33
  members_shallow level no_members fs l is =
      let same : ◌≡◌ {A = Fields} [] fs = cc in
      let none : 0 + level ≤ 33 = omega arith in
      subst (λ (gs : Fields). greatest (map (λ (f : List ℕ × Value). levels_of f.1) gs) + level ≤ 33) same none
  members_shallow level (member name d ds) fs l is =
      let x = Ok-and_then (λ (x : Value). and_then (λ (gs : Fields). let made : Read Fields = Ok ((name, x) ∷ gs) in made) (members_at level ds)) (at_step (to_name name) (value_at level d)) fs is in
      let gs = Ok-and_then (λ (gs : Fields). let made : Read Fields = Ok ((name, x.0) ∷ gs) in made) (members_at level ds) fs x.2 in
      subst (λ (hs : Fields). greatest (map (λ (f : List ℕ × Value). levels_of f.1) hs) + level ≤ 33) (same_in_Ok ((name, x.0) ∷ gs.0) fs gs.2)
      (both_few (levels_of x.0) (greatest (map (λ (f : List ℕ × Value). levels_of f.1) gs.0)) level
      (value_shallow level d x.0 l (Ok-in_err (under (to_name name)) (value_at level d) x.0 x.1)) (members_shallow level ds gs.0 l gs.1))

pub document_shallow : (d : Data) (document : Fields) → walked_document d ≡ Ok document → document_levels document ≤ 32
document_shallow d document is =
    let m = walked_members d document is in
    let few = members_shallow 2 m.0 document (omega arith) m.2 in
    omega arith

-- ---- filters

none_dotted : (ds : Members) (fs : Fields) → keys_of fs ≡ names_of ds → first_dotted ds ≡ None → list_any (λ (f : List ℕ × Value). is_dotted f.0) fs ≡ false
none_dotted ds [] same none = refl
none_dotted no_members (f ∷ fs) same none = cc
none_dotted (member name d ds) (f ∷ fs) same none = by (is_dotted name) refl none (λ e. none_dotted ds fs tail e)
  where
    head : f.0 ≡ name
    head = cc

    tail : keys_of fs ≡ names_of ds
    tail = cc

    by : (b : Bool) → is_dotted name ≡ b → cond b (Some name) (first_dotted ds) ≡ None
        → (first_dotted ds ≡ None → list_any (λ (g : List ℕ × Value). is_dotted g.0) fs ≡ false) → list_any (λ (g : List ℕ × Value). is_dotted g.0) (f ∷ fs) ≡ false
    by true here e later = cc
    by false here e later = ap (λ b. b || list_any (λ (g : List ℕ × Value). is_dotted g.0) fs) (ap is_dotted head ∙ here) ∙ later e

undotted_read : (o : Option (List ℕ)) (r : Read Fields) (filter : Fields) → undotted o r ≡ Ok filter → (o ≡ None) × (r ≡ Ok filter)
undotted_read (Some name) r filter is = cc
undotted_read None r filter is = (refl, Ok-in_err (as_kind InValue) r filter is)

filter_parts : (d : Data) (filter : Fields) → walked_filter d ≡ Ok filter → (dotted_in d ≡ None) × (walked_document d ≡ Ok filter)
filter_parts d filter is = undotted_read (dotted_in d) (walked_document d) filter is

pub filter_read : (d : Data) (filter : Fields) → walked_filter d ≡ Ok filter → walked_document d ≡ Ok filter
filter_read d filter is = (filter_parts d filter is).1

pub filter_undotted : (d : Data) (filter : Fields) → walked_filter d ≡ Ok filter → list_any (λ (f : List ℕ × Value). is_dotted f.0) filter ≡ false
filter_undotted d filter is =
    let s = filter_parts d filter is in
    let m = walked_members d filter s.1 in
    none_dotted m.0 filter (keys_read 2 m.0 filter m.2) (subst (λ (x : Data). dotted_in x ≡ None) m.1 s.0)
