-- How a bag opens.
use Rattle.std.proofs.Common.{◌≡◌, ℕ, Bool, true, false, cond, List, [], ◌∷◌, length, map, Option, Some, None, refl, sym, ap, subst, ◌∙◌, ◌⊎◌, inl, inr, arith}
use Rattle.std.proofs.lemmas.List.Elements.{All-contains, All-from_recursion}
use Rattle.std.proofs.lemmas.List.Sorted.{IsPermutation-refl, IsPermutation-cons, IsPermutation-trans, IsPermutation-map}
use Rattle.std.proofs.lemmas.Map.Keys.{IsDistinct-head, IsDistinct-tail}
use Rattle.std.proofs.lemmas.Map.Views.{tells_apart}
use Rattle.std.proofs.lemmas.Option.{same_Some}
use Rattle.std.specs.Cmp.{eq_by_cmp_equiv}
use Rattle.std.specs.FinMap.{empty, entries, entries-insert, get, get-empty, get-entries, get-insert, len-empty, len-entries}
use Rattle.std.specs.List.{Contains}
use Rattle.std.specs.List.Sorted.{IsPermutation}
use Rattle.std.specs.Ordering.{eq_by_cmp}
use Rattle.resh_value.specs.declared.value.Value.{Value}
use Rattle.resh_chunks.specs.Chunks.{Chunks}
use Rattle.resh_bag.specs.Bag.{Bag, Document, place_cmp, place_of, held, put, documents, opening_bag, HasDistinctPlaces}
use Rattle.resh_bag.specs.Laws.{OpensPlaced, OpensWhole}
use Rattle.resh_bag.specs.PlaceOrder.{place_total, place_same}
use Rattle.resh_bag.proofs.bags.BagLaws.{itself}
use Rattle.resh_bag.proofs.bags.Entries.{put_new}
use Rattle.resh_bag.proofs.Lists.{first_there, later_there, first_or_later, mapped}

nothing_found : {X : Type 0} (x : X) → None ≡ Some x → ⊥
nothing_found x e = cc

no_items : {X : Type 0} (xs : List X) → length xs ≡ 0 → xs ≡ []
no_items [] e = refl
no_items (x ∷ xs) e = absurd (omega arith)

no_entries : entries (empty {X = Document} {R = place_cmp}) ≡ []
no_entries = no_items (entries (empty {X = Document} {R = place_cmp})) (sym (len-entries (empty {X = Document} {R = place_cmp})) ∙ len-empty place_cmp Document)

module _ (old_map : Chunks) where
  abbrev place : Document → Value × ℕ
  place = place_of old_map

  abbrev opened : List Document → Bag
  opened = opening_bag old_map

  step : (d : Document) (ds : List Document) (q : Value × ℕ) → get (opened (d ∷ ds)) q ≡ cond (eq_by_cmp place_cmp q (place d)) (Some d) (get (opened ds) q)
  unfolding put
  step d ds q = get-insert place_total (opened ds) (place d) d q

  -- what is found is a document of the list at its place
  pub found : (ds : List Document) (q : Value × ℕ) (e : Document) → get (opened ds) q ≡ Some e → Contains ds e × (place e ≡ q)
  found [] q e is = absurd (nothing_found e (sym (get-empty place_cmp q) ∙ is))
  found (d ∷ ds) q e is = by (eq_by_cmp place_cmp q (place d)) refl (sym (step d ds q) ∙ is) (found ds q e)
    where
      by : (b : Bool) → eq_by_cmp place_cmp q (place d) ≡ b → cond b (Some d) (get (opened ds) q) ≡ Some e → (get (opened ds) q ≡ Some e → Contains ds e × (place e ≡ q)) → Contains (d ∷ ds) e × (place e ≡ q)
      by true t s rest =
          let is = same_Some d e s in
          (subst (Contains (d ∷ ds)) is (first_there d ds), ap place (sym is) ∙ sym (tells_apart place_same q (place d) t))
      by false t s rest = let w = rest s in (later_there d ds e w.0, w.1)

  others_apart : (d : Document) (ds : List Document) → HasDistinctPlaces old_map (d ∷ ds) → (e : Document) → Contains ds e → eq_by_cmp place_cmp (place e) (place d) ≡ false
  others_apart d ds distinct e there =
      (eq_by_cmp_equiv place_total).symm (place e) (place d)
      ∙ All-contains (λ q. eq_by_cmp place_cmp (place d) q ≡ false) (map place ds) (place e)
      (All-from_recursion (λ q. eq_by_cmp place_cmp (place d) q ≡ false) (map place ds) (IsDistinct-head (eq_by_cmp place_cmp) (place d) (map place ds) distinct)) (mapped place ds e there)

  pub holds : (ds : List Document) → HasDistinctPlaces old_map ds → (d : Document) → Contains ds d → get (opened ds) (place d) ≡ Some d
  holds [] distinct d (k, within, is) = absurd (omega arith)
  holds (e ∷ ds) distinct d there = by (first_or_later e ds d there) (holds ds (IsDistinct-tail _ _ _ distinct) d)
    where
      by : (e ≡ d) ⊎ Contains ds d → (Contains ds d → get (opened ds) (place d) ≡ Some d) → get (opened (e ∷ ds)) (place d) ≡ Some d
      by (inl is) rest = step e ds (place d) ∙ ap (λ b. cond b (Some e) (get (opened ds) (place d))) (ap (λ x. eq_by_cmp place_cmp (place d) (place x)) is ∙ itself (place d)) ∙ ap Some is
      by (inr w) rest = step e ds (place d) ∙ ap (λ b. cond b (Some e) (get (opened ds) (place d))) (others_apart e ds distinct d w) ∙ rest w

  nothing_yet : (d : Document) (ds : List Document) → HasDistinctPlaces old_map (d ∷ ds) → get (opened ds) (place d) ≡ None
  nothing_yet d ds distinct = by (get (opened ds) (place d)) refl
    where
      by : (r : Option Document) → get (opened ds) (place d) ≡ r → r ≡ None
      by None e = refl
      by (Some x) e =
          let w = found ds (place d) x e in
          let a : eq_by_cmp place_cmp (place x) (place d) ≡ true = ap (λ p. eq_by_cmp place_cmp p (place d)) w.1 ∙ itself (place d) in
          let b = others_apart d ds distinct x w.0 in cc

  abbrev entry : Document → (Value × ℕ) × Document
  entry d = (place d, d)

  entries_of : (ds : List Document) → HasDistinctPlaces old_map ds → IsPermutation (map entry ds) (entries (opened ds))
  unfolding put
  entries_of [] distinct = subst (IsPermutation []) (sym no_entries) (IsPermutation-refl [])
  entries_of (d ∷ ds) distinct =
      let rest = IsPermutation-cons (entry d) _ _ (entries_of ds (IsDistinct-tail _ _ _ distinct)) in
      let new = put_new place_cmp (place d) d (entries (opened ds)) (sym (get-entries (opened ds) (place d)) ∙ nothing_yet d ds distinct) in
      subst (IsPermutation (map entry (d ∷ ds))) (sym (entries-insert place_total (opened ds) (place d) d)) (IsPermutation-trans _ _ _ rest new)

  same_documents : (ds : List Document) → map (λ (e : (Value × ℕ) × Document). e.1) (map entry ds) ≡ ds
  same_documents [] = refl
  same_documents (d ∷ ds) = ap (λ l. d ∷ l) (same_documents ds)

  pub all_held : (ds : List Document) → HasDistinctPlaces old_map ds → IsPermutation ds (documents (opened ds))
  unfolding documents
  all_held ds distinct =
      subst (λ l. IsPermutation l (documents (opened ds))) (same_documents ds) (IsPermutation-map (λ (e : (Value × ℕ) × Document). e.1) _ _ (entries_of ds distinct))

pub opens_placed : OpensPlaced
unfolding held
opens_placed = record {
  placed = λ old_map ds. record {
    by_id = λ shard id d is. ap (λ p. p.0) (found old_map ds (id, shard) d is).1;
    by_owner = λ shard id d is. ap (λ p. p.1) (found old_map ds (id, shard) d is).1;
  };
  only = λ old_map ds shard id d is. (found old_map ds (id, shard) d is).0;
}

pub opens_whole : OpensWhole
unfolding held
opens_whole = record { each = holds; all = all_held }
