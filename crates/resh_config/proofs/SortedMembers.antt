-- In what was read the names of each object rise.
use Rattle.std.proofs.Common.{◌≡◌, ℕ, List, [], ◌∷◌, Option, Some, None, Less, Equal, Greater, refl, subst}
use Rattle.std.specs.Prelude.{⊤, option_map, option_and_then}
use Rattle.std.specs.List.{AllByRecursion}
use Rattle.std.specs.List.Sorted.{IsStrictlySortedBy}
use Rattle.std.specs.Ordering.{match_ordering}
use Rattle.std.specs.declared.cmp.Ordering.{Ordering}
use Rattle.json.specs.Json as json
use Rattle.json.specs.Lex.{tokens}
use Rattle.serde_json.specs.Data.{Data, null, boolean, number, string, array, object, Items, no_items, item, Members, no_members, member, put}
use Rattle.serde_json.specs.Find.{get_member}
use Rattle.serde_json.specs.Read.{of_json, of_items, of_members, number_of, max_depth, read}
use Rattle.resh_value.specs.Names.{name_cmp}
use Rattle.resh_value.proofs.Names.{name_cmp_total, less_from_greater}

abbrev pub names_of : Members → List (List ℕ)
names_of no_members = []
names_of (member name d ds) = name ∷ names_of ds

-- the names of each object rise, at every level
abbrev mutual
  pub IsTidy : Data → Type 0
  IsTidy null = ⊤
  IsTidy (boolean b) = ⊤
  IsTidy (number n) = ⊤
  IsTidy (string text) = ⊤
  IsTidy (array ds) = AreTidy ds
  IsTidy (object ds) = IsStrictlySortedBy name_cmp (names_of ds) × HasTidy ds

  pub AreTidy : Items → Type 0
  AreTidy no_items = ⊤
  AreTidy (item d ds) = IsTidy d × AreTidy ds

  pub HasTidy : Members → Type 0
  HasTidy no_members = ⊤
  HasTidy (member name d ds) = IsTidy d × HasTidy ds

-- what stands under a name
pub tidy_member : (name : List ℕ) (ds : Members) (d : Data) → HasTidy ds → get_member name ds ≡ Some d → IsTidy d
tidy_member name no_members d h is = cc
tidy_member name (member other e ds) d h is = by (name_cmp name other) (tidy_member name ds d h.1) is
  where
    by : (r : Ordering) → (get_member name ds ≡ Some d → IsTidy d) → match_ordering r (get_member name ds) (Some e) (get_member name ds) ≡ Some d → IsTidy d
    by Less later at = later at
    by Equal later at = let same : e ≡ d = cc in subst IsTidy same h.0
    by Greater later at = later at

-- a member is put
put_keeps : (P : List ℕ → Type 0) (k : List ℕ) (d : Data) (ds : Members) → P k → AllByRecursion P (names_of ds) → AllByRecursion P (names_of (put k d ds))
put_keeps P k d no_members here rest = (here, tt)
put_keeps P k d (member l e ds) here rest = by (name_cmp k l) (put_keeps P k d ds here rest.1)
  where
    by : (r : Ordering) → AllByRecursion P (names_of (put k d ds))
        → AllByRecursion P (names_of (match_ordering r (member k d (member l e ds)) (member l d ds) (member l e (put k d ds))))
    by Less later = (here, rest)
    by Equal later = rest
    by Greater later = (rest.0, later)

above : (k l : List ℕ) (names : List (List ℕ)) → name_cmp k l ≡ Less → AllByRecursion (λ y. name_cmp l y ≡ Less) names → AllByRecursion (λ y. name_cmp k y ≡ Less) names
above k l [] is h = tt
above k l (y ∷ ys) is h = (name_cmp_total.trans k l y is h.0, above k l ys is h.1)

put_rises : (k : List ℕ) (d : Data) (ds : Members) → IsStrictlySortedBy name_cmp (names_of ds) → IsStrictlySortedBy name_cmp (names_of (put k d ds))
unfolding IsStrictlySortedBy
put_rises k d no_members h = (tt, tt)
put_rises k d (member l e ds) h = by (name_cmp k l) refl (put_rises k d ds h.1)
  where
    by : (r : Ordering) → name_cmp k l ≡ r → IsStrictlySortedBy name_cmp (names_of (put k d ds))
        → IsStrictlySortedBy name_cmp (names_of (match_ordering r (member k d (member l e ds)) (member l d ds) (member l e (put k d ds))))
    by Less is later = ((is, above k l (names_of ds) is h.0), h)
    by Equal is later = h
    by Greater is later = (put_keeps (λ y. name_cmp l y ≡ Less) k d ds (less_from_greater k l is) h.0, later)

put_tidy : (k : List ℕ) (d : Data) (ds : Members) → IsTidy d → HasTidy ds → HasTidy (put k d ds)
put_tidy k d no_members here rest = (here, tt)
put_tidy k d (member l e ds) here rest = by (name_cmp k l) (put_tidy k d ds here rest.1)
  where
    by : (r : Ordering) → HasTidy (put k d ds) → HasTidy (match_ordering r (member k d (member l e ds)) (member l d ds) (member l e (put k d ds)))
    by Less later = (here, rest)
    by Equal later = (here, rest.1)
    by Greater later = (rest.0, later)

-- options in a row
both_there : {A B : Type 0} (f : A → Option B) (o : Option A) (b : B) → option_and_then f o ≡ Some b → (a : A) × (o ≡ Some a) × (f a ≡ Some b)
both_there f None b is = cc
both_there f (Some a) b is = (a, refl, is)

mapped : {A B : Type 0} (f : A → B) (o : Option A) (b : B) → option_map f o ≡ Some b → (a : A) × (o ≡ Some a) × (f a ≡ b)
mapped f None b is = cc
mapped f (Some a) b is = let same : f a ≡ b = cc in (a, refl, same)

none_rise : IsStrictlySortedBy name_cmp (names_of no_members)
unfolding IsStrictlySortedBy
none_rise = tt

mutual
  json_tidy : (j : json.Json) (d : Data) → of_json j ≡ Some d → IsTidy d
  json_tidy json.null d is = let same : null ≡ d = cc in subst IsTidy same tt
  json_tidy (json.boolean b) d is = let same : boolean b ≡ d = cc in subst IsTidy same tt
  json_tidy (json.number s) d is = let m = mapped number (number_of s) d is in subst IsTidy m.2 tt
  json_tidy (json.string s) d is = let same : string s ≡ d = cc in subst IsTidy same tt
  json_tidy (json.array js) d is = let m = mapped array (of_items js) d is in subst IsTidy m.2 (items_tidy js m.0 m.1)
  json_tidy (json.object ms) d is =
      let m = mapped object (of_members ms no_members) d is in
      subst IsTidy m.2 (members_tidy ms no_members m.0 none_rise tt m.1)

  items_tidy : (js : json.Items) (ds : Items) → of_items js ≡ Some ds → AreTidy ds
  items_tidy json.no_items ds is = let same : no_items ≡ ds = cc in subst AreTidy same tt
  items_tidy (json.item j js) ds is =
      let first = both_there (λ d. option_map (item d) (of_items js)) (of_json j) ds is in
      let rest = mapped (item first.0) (of_items js) ds first.2 in
      subst AreTidy rest.2 (json_tidy j first.0 first.1, items_tidy js rest.0 rest.1)

  members_tidy : (ms : json.Members) (found ds : Members) → IsStrictlySortedBy name_cmp (names_of found) → HasTidy found
      → of_members ms found ≡ Some ds → IsStrictlySortedBy name_cmp (names_of ds) × HasTidy ds
  members_tidy json.no_members found ds rises tidy is =
      let same : found ≡ ds = cc in
      (subst (λ (m : Members). IsStrictlySortedBy name_cmp (names_of m)) same rises, subst HasTidy same tidy)
  members_tidy (json.member k j ms) found ds rises tidy is =
      let first = both_there (λ d. of_members ms (put k d found)) (of_json j) ds is in
      members_tidy ms (put k first.0 found) ds (put_rises k first.0 found rises) (put_tidy k first.0 found (json_tidy j first.0 first.1) tidy) first.2

-- what a text reads to
pub read_tidy : (text : List ℕ) (d : Data) → read text ≡ Some d → IsTidy d
read_tidy text d is =
    let parsed = both_there of_json (option_and_then (λ p. json.if_last p.0 p.1) (json.value max_depth (tokens text))) d is in
    json_tidy parsed.0 d parsed.2
