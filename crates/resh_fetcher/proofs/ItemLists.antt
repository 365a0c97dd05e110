-- A feed's items: how they split, and how far a front of them is read.
use Rattle.std.proofs.Common.{◌≡◌, ◌≤◌, ◌<◌, ◌⊎◌, inl, inr, ⊎_elim, ℕ, zero, suc, Bool, true, false, cond, List, [], ◌∷◌, ◌++◌, ◌||◌, length, map, take, Option, Some, None, refl, sym, ap, ◌∙◌, arith}
use Rattle.std.proofs.lemmas.Bool.{cases_lt}
use Rattle.std.proofs.lemmas.List.Sums.{fold-append}
use Rattle.std.specs.List.{fold}
use Rattle.std.specs.Option.{option_or}
use Rattle.resh_value.specs.Lookup.{id_of}
use Rattle.resh_value.specs.declared.value.Value.{Value}
use Rattle.resh_oplog.specs.Logs.{mark_of}
use Rattle.resh_oplog.specs.declared.entry.Entry.{Entry}
use Rattle.resh_stamp.specs.declared.stamp.Mark.{Mark}
use Rattle.resh_feed.specs.Items.{cloned_item, fetched_item, past, past_all, up_to_final, has_final, is_final, last_id_of, last_mark_of}
use Rattle.resh_feed.specs.declared.item.Item.{Item}
use Rattle.resh_feed.specs.declared.item.Reading.{Reading}
use Rattle.resh_feed.specs.Feeds.{items_of}
use Rattle.resh_feed.specs.Items.{Document}
use Rattle.resh_fetcher.specs.Links.{nothing_read}
use Rattle.resh_fetcher.specs.Standing.{read_with}

module _ {X Z : Type 0} (f : X → Z) where
  -- a front that isn't longer than the mapped part is mapped
  pub split_before : (xs : List X) (ys a b : List Z) → map f xs ++ ys ≡ a ++ b → length a ≤ length xs → (xa : List X) × (xb : List X) × (xs ≡ xa ++ xb) × (a ≡ map f xa) × (b ≡ map f xb ++ ys)
  split_before xs ys [] b e le = ([], xs, refl, refl, sym e)
  split_before [] ys (z ∷ a) b e le = absurd (omega (arith, le))
  split_before (x ∷ xs) ys (z ∷ a) b e le =
      let head : f x ≡ z = cc in
      let tail : map f xs ++ ys ≡ a ++ b = cc in
      let rest = split_before xs ys a b tail (omega (arith, le)) in
      (x ∷ rest.0, rest.1, ap (λ l. x ∷ l) rest.2, (λ i. sym head i ∷ rest.3 i), rest.4)

  -- a front that isn't shorter has the whole of it
  pub split_past : (xs : List X) (ys a b : List Z) → map f xs ++ ys ≡ a ++ b → length xs ≤ length a → (c : List Z) × (a ≡ map f xs ++ c) × (ys ≡ c ++ b)
  split_past [] ys a b e le = (a, refl, e)
  split_past (x ∷ xs) ys [] b e le = absurd (omega (arith, le))
  split_past (x ∷ xs) ys (z ∷ a) b e le =
      let head : f x ≡ z = cc in
      let tail : map f xs ++ ys ≡ a ++ b = cc in
      let rest = split_past xs ys a b tail (omega (arith, le)) in
      (rest.0, (λ i. sym head i ∷ rest.1 i), rest.2)

  pub split_all : (xs : List X) (a b : List Z) → map f xs ≡ a ++ b → (xa : List X) × (xb : List X) × (xs ≡ xa ++ xb) × (a ≡ map f xa) × (b ≡ map f xb)
  split_all xs [] b e = ([], xs, refl, refl, sym e)
  split_all [] (z ∷ a) b e = cc
  split_all (x ∷ xs) (z ∷ a) b e =
      let head : f x ≡ z = cc in
      let tail : map f xs ≡ a ++ b = cc in
      let rest = split_all xs a b tail in
      (x ∷ rest.0, rest.1, ap (λ l. x ∷ l) rest.2, (λ i. sym head i ∷ rest.3 i), rest.4)

-- readings
abbrev pub ids_from : Option Value → List Document → Option Value
ids_from o ds = fold (λ before d. Some (id_of d)) o ds

abbrev pub marks_from : Option Mark → List Entry → Option Mark
marks_from o es = fold (λ before e. Some (mark_of e)) o es

abbrev pub ends_from : Bool → List Entry → Bool
ends_from b es = fold (λ before e. is_final e.what) b es

or_twice : {X : Type 0} (a : Option X) (x : X) (o : Option X) → option_or (option_or a (Some x)) o ≡ option_or a (Some x)
or_twice None x o = refl
or_twice (Some y) x o = refl

pub ids_or : (o : Option Value) (ds : List Document) → ids_from o ds ≡ option_or (last_id_of ds) o
ids_or o [] = refl
ids_or o (d ∷ ds) = ids_or (Some (id_of d)) ds ∙ sym (or_twice (last_id_of ds) (id_of d) o) ∙ ap (λ x. option_or x o) (sym (ids_or (Some (id_of d)) ds))

pub marks_or : (o : Option Mark) (es : List Entry) → marks_from o es ≡ option_or (last_mark_of es) o
marks_or o [] = refl
marks_or o (e ∷ es) = marks_or (Some (mark_of e)) es ∙ sym (or_twice (last_mark_of es) (mark_of e) o) ∙ ap (λ x. option_or x o) (sym (marks_or (Some (mark_of e)) es))

pub past_clones : (o : Option Value) (m : Option Mark) (ds : List Document) → past_all (record { last_id = o; mark = m; finished = false }) (map cloned_item ds) ≡ record { last_id = ids_from o ds; mark = m; finished = false }
past_clones o m [] = refl
past_clones o m (d ∷ ds) = past_clones (Some (id_of d)) m ds

pub past_entries : (o : Option Value) (m : Option Mark) (b : Bool) (es : List Entry) → past_all (record { last_id = o; mark = m; finished = b }) (map fetched_item es) ≡ record { last_id = o; mark = marks_from m es; finished = ends_from b es }
past_entries o m b [] = refl
past_entries o m b (e ∷ es) = past_entries o (Some (mark_of e)) (is_final e.what) es

pub past_on : (r : Reading) (a b : List Item) → past_all r (a ++ b) ≡ past_all (past_all r a) b
past_on r a b = fold-append past r a b

pub read_clones : (ds : List Document) → read_with (map cloned_item ds) ≡ record { last_id = last_id_of ds; mark = None; finished = false }
read_clones ds = past_clones None None ds

pub read_entries : (ds : List Document) (es : List Entry) → read_with (map cloned_item ds ++ map fetched_item es) ≡ record { last_id = last_id_of ds; mark = last_mark_of es; finished = ends_from false es }
read_entries ds es = past_on nothing_read (map cloned_item ds) (map fetched_item es) ∙ ap (λ r. past_all r (map fetched_item es)) (read_clones ds) ∙ past_entries (last_id_of ds) None false es

pub ends_is : (es : List Entry) → up_to_final es ≡ es → ends_from false es ≡ has_final es
ends_is [] h = refl
ends_is (e ∷ es) h = by (is_final e.what) refl (ends_is es)
  where
    tail : cond (is_final e.what) [] (up_to_final es) ≡ es
    tail = cc

    by : (b : Bool) → is_final e.what ≡ b → (up_to_final es ≡ es → ends_from false es ≡ has_final es) → ends_from (is_final e.what) es ≡ has_final (e ∷ es)
    by true f on =
        let none : es ≡ [] = sym (sym (ap (λ b. cond b [] (up_to_final es)) f) ∙ tail) in
        ap (ends_from (is_final e.what)) none ∙ f ∙ sym (ap (λ b. b || has_final es) f)
    by false f on =
        let rest : up_to_final es ≡ es = sym (ap (λ b. cond b [] (up_to_final es)) f) ∙ tail in
        ap (λ b. ends_from b es) f ∙ on rest ∙ sym (ap (λ b. b || has_final es) f)

-- what is cut at its final one, and has read a front that doesn't end there, has none in that front
pub no_final : (all ea eb : List Entry) → up_to_final all ≡ ea ++ eb → ends_from false ea ≡ false → has_final ea ≡ false
no_final all [] eb h off = refl
no_final [] (e ∷ ea) eb h off = cc
no_final (x ∷ xs) (e ∷ ea) eb h off = by (is_final x.what) refl (no_final xs ea eb)
  where
    head : x ≡ e
    head = cc

    tail : cond (is_final x.what) [] (up_to_final xs) ≡ ea ++ eb
    tail = cc

    last : (ea : List Entry) → [] ≡ ea ++ eb → is_final x.what ≡ true → ends_from (is_final e.what) ea ≡ false → ⊥
    last [] g f none = let on : true ≡ false = sym f ∙ ap (λ (y : Entry). is_final y.what) head ∙ none in cc
    last (y ∷ ys) g f none = cc

    by : (b : Bool) → is_final x.what ≡ b → (up_to_final xs ≡ ea ++ eb → ends_from false ea ≡ false → has_final ea ≡ false) → has_final (e ∷ ea) ≡ false
    by true f on = absurd (last ea (sym (ap (λ b. cond b [] (up_to_final xs)) f) ∙ tail) f off)
    by false f on =
        let apart : is_final e.what ≡ false = ap (λ (y : Entry). is_final y.what) (sym head) ∙ f in
        ap (λ b. b || has_final ea) apart ∙ on (sym (ap (λ b. cond b [] (up_to_final xs)) f) ∙ tail) (ap (λ b. ends_from b ea) (sym apart) ∙ off)
