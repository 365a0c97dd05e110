-- A bag that opens is filled from the list's end.
use Rattle.std.proofs.Common.{◌≡◌, ℕ, suc, ◌+◌, ◌<◌, ◌≤◌, List, [], ◌∷◌, length, drop, get_or, refl, ap, sym, ◌∙◌}
use Rattle.std.proofs.Math.Numerals.{add-one}
use Rattle.std.proofs.Math.Seq.{drop-cons}
use Rattle.std.proofs.lemmas.List.{drop_all}
use Rattle.std.specs.FinMap.{empty}
use Rattle.resh_chunks.specs.Chunks.{Chunks, owner_of}
use Rattle.resh_bag.specs.Bag.{Bag, Document, place_cmp, put, opening_bag}

module _ (chunks : Chunks) (ds : List Document) where
  -- behind the last document the bag is empty
  pub opened_none : (n : ℕ) → length ds ≤ n → empty ≡ opening_bag chunks (drop n ds)
  opened_none n le = ap (opening_bag chunks) (sym (drop_all n ds le))

  -- the bag of the documents from a place on, with the one before it
  pub opened_more : (n m : ℕ) (d : Document) (bag : Bag) → n ≡ m + 1 → m < length ds → d ≡ get_or ds m d → bag ≡ opening_bag chunks (drop n ds)
      → put bag (owner_of chunks d) d ≡ opening_bag chunks (drop m ds)
  opened_more n m d bag next within is opened =
      ap (λ b. put b (owner_of chunks d) d) (opened ∙ ap (λ k. opening_bag chunks (drop k ds)) (next ∙ add-one m))
      ∙ (λ i. put (opening_bag chunks (drop (suc m) ds)) (owner_of chunks (is i)) (is i))
      ∙ ap (opening_bag chunks) (sym (drop-cons ds m d within))
