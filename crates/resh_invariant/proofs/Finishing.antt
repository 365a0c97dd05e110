-- A link whose kept record is finished has the whole feed behind it.
use Rattle.std.proofs.Common.{◌≡◌, ◌<◌, ◌⊎◌, inl, inr, ℕ, zero, suc, Bool, true, false, cond, ◌||◌, ◌+◌, List, [], ◌∷◌, ◌++◌, length, map, replicate, slice_index, refl, sym, ap, ◌∙◌, arith}
use Rattle.std.proofs.lemmas.List.{length-replicate}
use Rattle.std.proofs.lemmas.List.Sums.{fold-append}
use Rattle.resh_feed.specs.Feeds.{items_of, whats}
use Rattle.resh_feed.specs.Items.{Document, fetched_item, has_final, is_final, past, up_to_final}
use Rattle.resh_feed.specs.Lanes.{lane_feed}
use Rattle.resh_feed.specs.declared.item.Item.{Item}
use Rattle.resh_feed.specs.declared.item.Reading.{Reading}
use Rattle.resh_feed.proofs.GoingOn.{by_last}
use Rattle.resh_feed.proofs.Positions.{count_is, counts_long}
use Rattle.resh_fetcher.specs.Links.{LinkOf, nothing_read}
use Rattle.resh_fetcher.specs.Standing.{LinkFits, read_with}
use Rattle.resh_oplog.specs.declared.entry.Entry.{Entry}

never : {A : Type 0} → true ≡ false → A
never e = cc

not_empty : {X : Type 0} (a : List X) (x : X) (b : List X) → [] ≡ a ++ x ∷ b → ⊥
not_empty [] x b e = cc
not_empty (y ∷ a) x b e = cc

head_is : {X : Type 0} (x y : X) (a b : List X) → x ∷ a ≡ y ∷ b → x ≡ y
head_is x y a b e = cc

tail_is : {X : Type 0} (x y : X) (a b : List X) → x ∷ a ≡ y ∷ b → a ≡ b
tail_is x y a b e = cc

-- nothing stands behind a final item
module _ (x : Item) (final : is_final x.what ≡ true) where
  last_entry : (all : List Entry) (a b : List Item) → map fetched_item (up_to_final all) ≡ a ++ x ∷ b
      → (b ≡ []) × (has_final (up_to_final all) ≡ true)
  last_entry [] a b e = absurd (not_empty a x b e)
  last_entry (y ∷ all) a b e = by (is_final y.what) refl a e (last_entry all)
    where
      by : (t : Bool) → is_final y.what ≡ t → (a : List Item) → fetched_item y ∷ map fetched_item (cond t [] (up_to_final all)) ≡ a ++ x ∷ b
          → ((a b : List Item) → map fetched_item (up_to_final all) ≡ a ++ x ∷ b → (b ≡ []) × (has_final (up_to_final all) ≡ true))
          → (b ≡ []) × ((t || has_final (cond t [] (up_to_final all))) ≡ true)
      by true is [] e rest = (sym (tail_is (fetched_item y) x [] b e), refl)
      by true is (z ∷ a) e rest = absurd (not_empty a x b (tail_is (fetched_item y) z [] (a ++ x ∷ b) e))
      by false is [] e rest = never (sym final ∙ sym (ap (λ (i : Item). is_final i.what) (head_is (fetched_item y) x (map fetched_item (up_to_final all)) b e)) ∙ is)
      by false is (z ∷ a) e rest = rest a b (tail_is (fetched_item y) z (map fetched_item (up_to_final all)) (a ++ x ∷ b) e)

  last_item : (docs : List Document) (all : List Entry) (a b : List Item) → items_of docs (up_to_final all) ≡ a ++ x ∷ b
      → (b ≡ []) × (has_final (up_to_final all) ≡ true)
  last_item [] all a b e = last_entry all a b e
  last_item (d ∷ docs) all [] b e = never (sym final ∙ sym (ap (λ (i : Item). is_final i.what) (head_is _ x _ b e)))
  last_item (d ∷ docs) all (z ∷ a) b e = last_item docs all a b (tail_is _ z _ (a ++ x ∷ b) e)

-- a front that is read as finished ends with a final item
ends : (front : List Item) → (read_with front).finished ≡ true → (a : List Item) × (x : Item) × (front ≡ a ++ x ∷ []) × (is_final x.what ≡ true)
ends front done = by (by_last front)
  where
    by : (front ≡ []) ⊎ ((a : List Item) × (x : Item) × (front ≡ a ++ x ∷ [])) → (a : List Item) × (x : Item) × (front ≡ a ++ x ∷ []) × (is_final x.what ≡ true)
    by (inl none) = never (sym done ∙ ap (λ f. (read_with f).finished) none)
    by (inr (a, x, is)) = (a, x, is, sym (ap (λ (r : Reading). r.finished) (fold-append past nothing_read a (x ∷ []))) ∙ sym (ap (λ f. (read_with f).finished) is) ∙ done)

nothing_more : {X : Type 0} (a : List X) → a ++ [] ≡ a
nothing_more [] = refl
nothing_more (x ∷ a) = ap (λ l. x ∷ l) (nothing_more a)

joined : {X : Type 0} (a b c : List X) → (a ++ b) ++ c ≡ a ++ (b ++ c)
joined [] b c = refl
joined (x ∷ a) b c = ap (λ l. x ∷ l) (joined a b c)

first_empty : {X : Type 0} (a b : List X) → a ++ b ≡ [] → a ≡ []
first_empty [] b e = refl
first_empty (x ∷ a) b e = cc

second_empty : {X : Type 0} (a b : List X) → a ++ b ≡ [] → b ≡ []
second_empty [] b e = e
second_empty (x ∷ a) b e = cc

-- what a finished record leaves
module _ (n : ℕ) (docs : List Document) (all : List Entry) (l : LinkOf) (fits : LinkFits n docs (up_to_final all) l)
    (done : l.kept.finished ≡ true) where
  abbrev behind : List Item
  behind = fits.out ++ (l.buffer ++ fits.rest)

  end : (behind ≡ []) × (has_final (up_to_final all) ≡ true)
  end =
      let last = ends fits.front (sym (ap (λ (r : Reading). r.finished) fits.kept.reading) ∙ done) in
      last_item last.1 last.3 docs all last.0 behind
      (fits.parts ∙ ap (λ f. f ++ behind) last.2 ∙ joined last.0 (last.1 ∷ []) behind)

  pub no_out : fits.out ≡ []
  no_out = first_empty fits.out (l.buffer ++ fits.rest) end.0

  pub no_buffer : l.buffer ≡ []
  no_buffer = first_empty l.buffer fits.rest (second_empty fits.out (l.buffer ++ fits.rest) end.0)

  pub has_ended : has_final (up_to_final all) ≡ true
  has_ended = end.1

  pub whole_front : items_of docs (up_to_final all) ≡ fits.front
  whole_front = fits.parts ∙ ap (λ b. fits.front ++ b) end.0 ∙ nothing_more fits.front

-- the kept positions are those of the lanes' items before the kept place
module _ (n : ℕ) (docs : List Document) (entries : List Entry) (l : LinkOf) (fits : LinkFits n docs entries l) where
  pub kept_many : length l.kept.lanes ≡ n
  kept_many = ap length fits.kept.lanes ∙ counts_long n (whats fits.front) (replicate n 0) (length-replicate n 0)

  pub kept_count : (lane : ℕ) → lane < n → slice_index l.kept.lanes lane ≡ length (lane_feed n lane (whats fits.front))
  kept_count lane lt =
      let is : slice_index l.kept.lanes lane ≡ slice_index (replicate n 0) lane + length (lane_feed n lane (whats fits.front)) =
      ap (λ c. slice_index c lane) fits.kept.lanes ∙ count_is n (whats fits.front) (replicate n 0) (length-replicate n 0) lane lt in
      let none = zeros n lane in
      omega (arith, is, none)
    where
      zeros : (n i : ℕ) → slice_index (replicate n 0) i ≡ 0
      zeros zero i = refl
      zeros (suc n) zero = refl
      zeros (suc n) (suc i) = zeros n i
