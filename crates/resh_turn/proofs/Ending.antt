-- What the last state of a cell gives, once one pass has taken in all others.
use Rattle.std.proofs.Common.{◌≡◌, ℕ, zero, suc, ◌<◌, ◌≤◌, Bool, true, false, true≢false, ◌||◌, ◌==◌, List, [], ◌∷◌, ◌++◌, map, length, take, drop, ◌⊎◌, sym, refl, ap, ◌∙◌, subst, inl, inr, ⊎_elim, arith, Option, Some, None}
use mathlib.Core.Option.{some, some-injective}
use mathlib.Core.Logic.{dite}
use native.Mathlib.Decide.{dec_le, ℕ_discrete}
use lib.ListN.{get_elem?}
use Rattle.std.proofs.lemmas.List.{take-append-drop, take-append-le}
use Rattle.std.proofs.Math.Seq.{take-append_seam}
use Rattle.atomic_table.specs.Table.{State, Final, Seen}
use Rattle.resh_turn.specs.declared.story.Made.{Made}
use Rattle.resh_turn.specs.declared.rule.Known.{Known}
use Rattle.resh_turn.specs.declared.rule.View.{View}
use Rattle.resh_turn.specs.Replay.{own_of, IsFront, Each}
use Rattle.resh_turn.specs.Sight.{Sight}
use Rattle.resh_turn.specs.Held.{AreAlong, Cell, IsEnd, IsKnownOf, has, has_all, known_of}
use Rattle.resh_turn.specs.Turns.{IsFree, IsTaken, Kept}
use Rattle.resh_turn.proofs.Steps.{at_inside, and_left, and_right, eqb_is, every, each_append}

abbrev content : {A : Type 0} → A → Option A → A
content d None = d
content d (Some x) = x

module _ {T : Type 0} where
  shorter_first : (xs ys whole : List (Made T)) → IsFront xs whole → IsFront ys whole → length xs ≤ length ys → IsFront xs ys
  shorter_first xs ys whole f g less =
      let n = length xs in
      let first : xs ≡ take n ys = sym (take-append_seam xs f.0) ∙ ap (take n) (sym f.1 ∙ g.1) ∙ take-append-le n ys g.0 less in
      (drop n ys, sym (take-append-drop n ys) ∙ ap (λ l. l ++ drop n ys) (sym first))

  fronts : (xs ys whole : List (Made T)) → IsFront xs whole → IsFront ys whole → IsFront xs ys ⊎ IsFront ys xs
  fronts xs ys whole f g = dite (dec_le (length xs) (length ys)) (λ less. inl (shorter_first xs ys whole f g less)) (λ more. inr (shorter_first ys xs whole g f (omega arith)))

either_one : {R : Type 0} (b rest : Bool) → (b ≡ true → R) → (rest ≡ true → R) → (b || rest) ≡ true → R
either_one true rest here more h = here refl
either_one false rest here more h = more h

module _ {T G : Type 0} where
  has_at : (count n : ℕ) (passes : List (Sight T G)) → n < count → has_all count passes ≡ true → has n passes ≡ true
  has_at zero n passes less h = absurd (omega arith)
  has_at (suc count) n passes less h = dite (ℕ_discrete n count)
      (λ is. ap (λ k. has k passes) is ∙ and_left (has count passes) (has_all count passes) h)
      (λ other. has_at count n passes (omega arith) (and_right (has count passes) (has_all count passes) h))

  pub some_pass : (count : ℕ) (passes : List (Sight T G)) → 0 < count → has_all count passes ≡ true → 0 < length passes
  some_pass count [] room h = absurd (true≢false (sym (has_at count 0 [] room h)))
  some_pass count (p ∷ ps) room h = omega arith

  found : (P : Known T → Type 0) (n : ℕ) (passes : List (Sight T G)) → has n passes ≡ true → Each P (map known_of passes) → (k : Known T) × P k × (k.number ≡ n)
  found P n [] h each = absurd (true≢false (sym h))
  found P n (p ∷ ps) h each = either_one (p.number == n) (has n ps) (λ is. (known_of p, each.0, eqb_is p.number n is)) (λ more. found P n ps more each.1) h

  among : (P : Known T → Type 0) (n : ℕ) (passes : List (Sight T G)) (ks : List (Known T)) → map known_of passes ≡ ks → has n passes ≡ true → Each P ks → (k : Known T) × P k × (k.number ≡ n)
  among P n passes ks same h each = found P n passes h (subst (Each P) (sym same) each)

  each_map : (P : Known T → Type 0) (Q : Sight T G → Type 0) → ((p : Sight T G) → P (known_of p) → Q p) → (passes : List (Sight T G)) → Each P (map known_of passes) → Each Q passes
  each_map P Q f [] h = tt
  each_map P Q f (p ∷ ps) h = (f p h.0, each_map P Q f ps h.1)

  along_of : (log : List (Made T)) (passes : List (Sight T G)) → Each (IsKnownOf log) passes → AreAlong passes
  along_of log passes known = every _ _ (λ p f. every _ _ (λ q g. fronts p.seen q.seen log f.0 g.0) passes known) passes known

module _ {S T G : Type 0} (start : S → G) (journal : S → List (Made T)) where
  abbrev V : Type 0
  V = View T G

  -- what is known of a pass
  abbrev IsSo : List (Made T) → Known T → Type 0
  IsSo log k = IsFront k.seen log × (own_of k.number log ≡ k.own)

  -- a number at which no live pass holds the turn
  abbrev IsQuiet : List V → Known T → Type 0
  IsQuiet views k = (u : V) → get_elem? views k.number ≡ some u → u.live ≡ true → u.holds ≡ false

  abbrev Ends : Cell G → List (Sight T G) → List (Option S) → Type 0
  Ends cell passes items = (x : S) × (get_elem? items 0 ≡ some (Some x)) × IsEnd start journal cell passes x

  pub ends : (cell : Cell G) (count : ℕ) (passes : List (Sight T G)) (id : ℕ) (v : V) (words : List ℕ) (items : List (Option S)) → cell.passes ≡ count
      → has_all cell.passes passes ≡ true → v.live ≡ true → v.holds ≡ false → map known_of passes ≡ v.gathered ++ v.known ∷ []
      → Final (Seen (Kept start journal cell.start count) id v) words items → Ends cell passes items
  ends cell count passes id v words items counted whole live waits known f =
      let s : State (Option S) V = f.0 in
      let k : Kept start journal cell.start count s = f.1.0 in
      let at : get_elem? s.views id ≡ some v = f.1.1 in
      let fv = k.fits id v at live in
      let quiet : Each (IsQuiet s.views) (v.gathered ++ v.known ∷ []) =
      each_append (IsQuiet s.views) v.gathered (v.known ∷ [])
      (every _ _ (λ g is u here alive. absurd (true≢false (sym alive ∙ ap (λ (y : V). y.live) (some-injective u is.0.0 (sym here ∙ is.0.1)) ∙ is.0.2))) v.gathered (k.gathered id v at live))
      ((λ u here alive. ap (λ (y : V). y.holds) (some-injective u v (sym here ∙ ap (get_elem? s.views) fv.0 ∙ at)) ∙ waits), tt) in
      let so : Each (IsSo k.log) (v.gathered ++ v.known ∷ []) =
      each_append (IsSo k.log) v.gathered (v.known ∷ [])
      (every _ _ (λ g is. (is.1, sym is.2)) v.gathered (k.gathered id v at live))
      ((fv.2, ap (λ n. own_of n k.log) fv.0 ∙ sym fv.3), tt) in
      ⊎_elim
      (λ (h : IsFree start journal cell.start s.words s.homes k.log). (
        h.1,
        f.4 0 (Some h.1) (ap (λ l. get_elem? l 0) h.2),
        record {
          start_stays = ap (content cell.start) h.4;
          known = subst (λ l. Each (IsKnownOf l) passes) (sym h.3) (each_map (IsSo k.log) (IsKnownOf k.log) (λ p is. is) passes (subst (Each (IsSo k.log)) (sym known) so));
          along = along_of k.log passes (each_map (IsSo k.log) (IsKnownOf k.log) (λ p is. is) passes (subst (Each (IsSo k.log)) (sym known) so));
          below = subst (λ l. Each (λ e. e.by < cell.passes) l) (sym h.3) (every _ _ (λ e less. let c = k.few in omega arith) k.log k.below);
        },
      ))
      (λ (h : IsTaken start journal k.holder s.words s.homes s.views).
      let inside = at_inside s.views k.holder h.2 h.3 in
      let few = k.few in
      let long = k.counted in
      let there = among (IsQuiet s.views) k.holder passes (v.gathered ++ v.known ∷ []) known (has_at cell.passes k.holder passes (omega arith) whole) quiet in
      absurd (true≢false (sym h.5 ∙ there.1 h.2 (ap (get_elem? s.views) there.2 ∙ h.3) h.4)))
      k.value

  pub is_there : (cell : Cell G) (passes : List (Sight T G)) (items : List (Option S)) → Ends cell passes items → (found : Option S) → get_elem? items 0 ≡ some found
      → (x : S) × (found ≡ Some x)
  is_there cell passes items e found is = (e.0, some-injective found (Some e.0) (sym is ∙ e.1))

  pub is_end : (cell cell' : Cell G) (passes : List (Sight T G)) (items : List (Option S)) → cell ≡ cell' → Ends cell passes items → (found : Option S) (story : S) → get_elem? items 0 ≡ some found → found ≡ Some story
      → IsEnd start journal cell' passes story
  is_end cell cell' passes items same e found story is value =
      let one : Some e.0 ≡ Some story = some-injective (Some e.0) found (sym e.1 ∙ is) ∙ value in
      subst (λ (z : Cell G × S). IsEnd start journal z.0 passes z.1) (λ i. (same i, ap (content story) one i)) e.2
