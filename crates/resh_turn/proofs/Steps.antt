-- Each step keeps the rule of a cell with turns.
use Rattle.std.proofs.Common.{◌≡◌, ◌≢◌, ℕ, zero, suc, ◌+◌, ◌<◌, Bool, true, false, true≢false, ne_eqb, cond, ◌&&◌, List, [], ◌∷◌, ◌++◌, length, length-set, drop, set, get_or, ◌==◌, sym, refl, ap, ◌∙◌, subst, inl, inr, ⊎_elim, append_assoc, append-nil, arith, Option, Some}
use mathlib.Core.Option.{some, none, some-injective, some-ne-none, Option as Maybe}
use lib.ListN.{get_elem?}
use lib.Dec.{T as IsSo}
use Rattle.std.proofs.Math.Facts.{eqb_yes}
use Rattle.std.proofs.lemmas.List.Elements.{filter-append}
use Rattle.std.specs.List.{list_all}
use prog.Atomic.{either}
use Rattle.atomic_table.specs.Table.{Me, Step, rest, Act, keeps, takes, gives, step, opening, Allows, Splits, Joins, Valid, homes_after, carried_after}
use Rattle.atomic_table.proofs.Lists.{at_set, set_here, set_else, set_again, at_longer}
use Rattle.resh_turn.specs.declared.story.Made.{Made}
use Rattle.resh_turn.specs.declared.rule.Known.{Known}
use Rattle.resh_turn.specs.declared.rule.View.{View}
use Rattle.resh_turn.specs.Replay.{own_of, IsFront, Each, Grows}
use Rattle.resh_turn.specs.Turns.{opened, newcomer, with_one_more, gathering, spent, holding, returned, IsGathered, IsFree, IsTaken, Fits, Makes, Below, Kept, Takes, taking, releasing}

abbrev head : List ℕ → ℕ
head [] = 0
head (n ∷ _) = n

zero_isn't_one : zero ≢ suc zero
zero_isn't_one e = omega arith

pub and_left : (a b : Bool) → (a && b) ≡ true → a ≡ true
and_left true b h = refl
and_left false b h = h

pub and_right : (a b : Bool) → (a && b) ≡ true → b ≡ true
and_right true b h = h
and_right false b h = absurd (true≢false (sym h))

pub eqb_is : (a b : ℕ) → (a == b) ≡ true → a ≡ b
eqb_is a b h = eqb_yes (subst IsSo (sym h) tt)

pub at_inside : {A : Type 0} (l : List A) (i : ℕ) (a : A) → get_elem? l i ≡ some a → i < length l
at_inside [] i a e = absurd (some-ne-none a (sym e))
at_inside (x ∷ xs) zero a e = omega arith
at_inside (x ∷ xs) (suc i) a e = let h = at_inside xs i a e in omega arith

pub every : {A : Type 0} (P Q : A → Type 0) → ((a : A) → P a → Q a) → (xs : List A) → Each P xs → Each Q xs
every P Q f [] p = tt
every P Q f (x ∷ xs) p = (f x p.0, every P Q f xs p.1)

pub each_append : {A : Type 0} (P : A → Type 0) → (xs ys : List A) → Each P xs → Each P ys → Each P (xs ++ ys)
each_append P [] ys p q = q
each_append P (x ∷ xs) ys p q = (p.0, each_append P xs ys p.1 q)

module _ {T : Type 0} where
  front_same : {xs ys : List (Made T)} → xs ≡ ys → IsFront xs ys
  front_same {xs} e = ([], sym e ∙ sym (append-nil xs))

  front_on : (xs ys zs : List (Made T)) → IsFront xs ys → IsFront xs (ys ++ zs)
  front_on xs ys zs f = (f.0 ++ zs, ap (λ l. l ++ zs) f.1 ∙ append_assoc xs f.0 zs)

length_snoc : {A : Type 0} (xs : List A) (x : A) → length (xs ++ x ∷ []) ≡ length xs + 1
length_snoc [] x = refl
length_snoc (y ∷ xs) x = let h = length_snoc xs x in omega (arith, h)

-- a list and one more, where that one's place is the list's length
at_both : {A : Type 0} (F : ℕ → A → Type 0) (xs : List A) (x : A) (n : ℕ) → length xs ≡ n → ((j : ℕ) (u : A) → get_elem? xs j ≡ some u → F j u) → F n x
    → (j : ℕ) (u : A) → get_elem? (xs ++ x ∷ []) j ≡ some u → F j u
at_both F [] x zero long old new zero u e = subst (F 0) (some-injective x u e) new
at_both F [] x (suc n) long old new j u e = absurd (omega arith)
at_both F [] x zero long old new (suc j) u e = absurd (some-ne-none u (sym e))
at_both F (y ∷ xs) x zero long old new j u e = absurd (omega arith)
at_both F (y ∷ xs) x (suc n) long old new zero u e = old 0 u e
at_both F (y ∷ xs) x (suc n) long old new (suc j) u e = at_both (λ i. F (suc i)) xs x n (omega arith) (λ i. old (suc i)) new j u e

module _ {T : Type 0} where
  all_head : (p : Made T → Bool) (e : Made T) (es : List (Made T)) → list_all p (e ∷ es) ≡ true → (p e ≡ true) × (list_all p es ≡ true)
  all_head p e es h = (and_left (p e) (list_all p es) h, and_right (p e) (list_all p es) h)

  -- steps of one pass are none of another
  none_of : (j seat : ℕ) (fresh : List (Made T)) → j ≢ seat → list_all (λ e. e.by == seat) fresh ≡ true → own_of j fresh ≡ []
  none_of j seat [] other mine = refl
  none_of j seat (e ∷ es) other mine = let h = all_head (λ e. e.by == seat) e es mine in
      let by : e.by ≡ seat = eqb_is e.by seat h.0 in
      let no : (e.by == j) ≡ false = ne_eqb e.by j (λ is. other (sym is ∙ by)) in
      ap (λ b. cond b (e ∷ own_of j es) (own_of j es)) no ∙ none_of j seat es other h.1

  own_stays : (j seat : ℕ) (log fresh : List (Made T)) → j ≢ seat → list_all (λ e. e.by == seat) fresh ≡ true → own_of j (log ++ fresh) ≡ own_of j log
  own_stays j seat log fresh other mine = filter-append (λ e. e.by == j) log fresh ∙ ap (λ l. own_of j log ++ l) (none_of j seat fresh other mine) ∙ append-nil (own_of j log)

  -- a pass whose number is that of all passes has no steps yet
  own_none : (count : ℕ) (log : List (Made T)) → Each (λ e. e.by < count) log → own_of count log ≡ []
  own_none count [] below = refl
  own_none count (e ∷ es) below = ap (λ b. cond b (e ∷ own_of count es) (own_of count es)) (ne_eqb e.by count (λ is. let h = below.0 in omega arith)) ∙ own_none count es below.1

  below_count : (seat count : ℕ) (fresh : List (Made T)) → seat < count → list_all (λ e. e.by == seat) fresh ≡ true → Each (λ e. e.by < count) fresh
  below_count seat count [] less mine = tt
  below_count seat count (e ∷ es) less mine = let h = all_head (λ e. e.by == seat) e es mine in let by = eqb_is e.by seat h.0 in (omega arith, below_count seat count es less h.1)

module _ {S T G : Type 0} (start : S → G) (journal : S → List (Made T)) where
  abbrev V : Type 0
  V = View T G

  only : (F : ℕ → V → Type 0) (w : V) → F 0 w → (seat : ℕ) (v : V) → get_elem? (w ∷ []) seat ≡ some v → F seat v
  only F w here zero v e = subst (F 0) (some-injective w v e) here
  only F w here (suc j) v e = absurd (some-ne-none v (sym e))

  abbrev AtEach : (ℕ → V → Type 0) → List V → Type 0
  AtEach F views = (seat : ℕ) (v : V) → get_elem? views seat ≡ some v → F seat v

  all_set : (F : ℕ → V → Type 0) (views : List V) (seat : ℕ) (w : V) → F seat w → ((j : ℕ) (u : V) → j ≢ seat → get_elem? views j ≡ some u → F j u) → AtEach F (set views seat w)
  all_set F views seat w mine others j u e = ⊎_elim (λ (x : (j ≡ seat) × (w ≡ u)). subst (λ (y : ℕ × V). F y.0 y.1) (λ i. (sym x.0 i, x.1 i)) mine)
      (λ (x : (j ≢ seat) × (get_elem? views j ≡ some u)). others j u x.0 x.1) (at_set views seat j w u e)

  begins : (x : S) (passes : ℕ) → 0 < passes → journal x ≡ [] → Kept start journal (start x) passes (opening (0 ∷ []) (Some x ∷ []) (opened (start x)))
  begins x passes room fresh = let v : V = opened (start x) in record {
    log = [];
    holder = 0;
    count = 1;
    counted = refl;
    value = inl (refl, x, refl, fresh, refl);
    fits = only (λ j u. u.live ≡ true → Fits start journal (start x) (0 ∷ []) [] 0 j u) v (λ _. (refl, refl, front_same refl, refl, λ h. absurd (true≢false (sym h))));
    makes = only (λ j u. u.live ≡ true → Makes start journal 1 j u) v (λ _ _. (refl, refl));
    gathered = only (λ j u. u.live ≡ true → Each (IsGathered (v ∷ []) []) u.gathered) v (λ _. tt);
    below = tt;
    few = room;
  }

  pub begins_with : (x : S) (begun : G) (passes : ℕ) (items : List (Option S)) → items ≡ Some x ∷ [] → start x ≡ begun → 0 < passes → journal x ≡ []
      → Kept start journal begun passes (opening (0 ∷ []) items (opened begun))
  begins_with x begun passes items is same room fresh =
      subst (λ (z : List (Option S) × G). Kept start journal z.1 passes (opening (0 ∷ []) z.0 (opened z.1))) (λ i. (sym is i, same i)) (begins x passes room fresh)

  -- what a step owes where the words and the homes are these
  abbrev Owes : G → ℕ → List V → ℕ → Me (Option S) V → (ℕ → ℕ) → (ℕ → Me (Option S) V → Type 0) → List ℕ → List (Maybe (Option S)) → Type 0
  Owes begun passes views seat me f then words homes =
      (w : V) × (a : Act (Option S)) × Valid homes me.1 a
      × Kept start journal begun passes record { words = set words 0 (f (get_or words 0 0)); homes = homes_after homes me.1 a; views = set views seat w }
      × then (get_or words 0 0) (w, carried_after me.1 a)

  owes : (begun : G) (passes : ℕ) (views : List V) (seat : ℕ) (me : Me (Option S) V) (f : ℕ → ℕ) (then : ℕ → Me (Option S) V → Type 0)
      → (words words' : List ℕ) (homes homes' : List (Maybe (Option S))) → words ≡ words' → homes ≡ homes'
      → Owes begun passes views seat me f then words' homes' → Owes begun passes views seat me f then words homes
  owes begun passes views seat me f then words words' homes homes' e h o =
      subst (λ (y : List ℕ × List (Maybe (Option S))). Owes begun passes views seat me f then y.0 y.1) (λ i. (sym e i, sym h i)) o

  -- a live pass isn't one that was taken in
  apart : (views : List V) (log : List (Made T)) (seat : ℕ) (v w : V) (k : Known T) → get_elem? views seat ≡ some v → v.live ≡ true
      → IsGathered views log k → k.number ≢ seat
  apart views log seat v w k at live g is = let h = g.0 in
      let both : some h.0 ≡ some v = sym h.1 ∙ ap (get_elem? views) is ∙ at in
      true≢false (sym live ∙ ap (λ (x : V). x.live) (sym (some-injective h.0 v both)) ∙ h.2)

  -- what was taken in stays so when a live pass makes a step that leaves the journal
  still_gathered : (views : List V) (log : List (Made T)) (seat : ℕ) (v w : V) → get_elem? views seat ≡ some v → v.live ≡ true
      → (k : Known T) → IsGathered views log k → IsGathered (set views seat w) log k
  still_gathered views log seat v w at live k g = ((g.0.0, set_else views seat k.number w (apart views log seat v w k at live g) ∙ g.0.1, g.0.2), g.1, g.2)

  takes_from : (begun : G) (passes slots seat : ℕ) (v : V) → v.live ≡ true → v.holds ≡ false
      → Allows (Kept start journal begun passes) slots seat (v, []) 0 (λ n. either (n == 0) 1 n) (taking start journal (step slots 0 0 1 none) (v, []))
  takes_from begun passes slots seat v live waits s k _ at _ =
      ⊎_elim
      (λ (h : IsFree start journal begun s.words s.homes k.log).
      let x = h.1 in let w : V = holding v (journal x) in let fv = k.fits seat v at live in
      let views = set s.views seat w in
      owes begun passes s.views seat (v, []) (λ n. either (n == 0) 1 n) (taking start journal (step slots 0 0 1 none) (v, [])) s.words (0 ∷ []) s.homes (some (Some x) ∷ []) h.0 h.2 (
        w,
        takes 0 (Some x),
        refl,
        record {
          log = k.log;
          holder = seat;
          count = k.count;
          counted = length-set s.views seat w ∙ k.counted;
          value = inr (refl, refl, w, set_here s.views seat w (at_inside s.views seat v at), live, refl);
          fits = all_set (λ j u. u.live ≡ true → Fits start journal begun (1 ∷ []) k.log seat j u) s.views seat w
              (λ _. (fv.0, fv.1, front_same h.3, fv.3, λ _. (refl, refl, h.3)))
              (λ j u other e alive. let f = k.fits j u e alive in (f.0, f.1, f.2, f.3, λ holds. absurd (zero_isn't_one (ap head (sym h.0 ∙ (f.4 holds).0)))));
          makes = all_set (λ j u. u.live ≡ true → Makes start journal k.count j u) s.views seat w (λ _. k.makes seat v at live) (λ j u other e. k.makes j u e);
          gathered = all_set (λ j u. u.live ≡ true → Each (IsGathered views k.log) u.gathered) s.views seat w
              (λ _. every _ _ (still_gathered s.views k.log seat v w at live) v.gathered (k.gathered seat v at live))
              (λ j u other e alive. every _ _ (still_gathered s.views k.log seat v w at live) u.gathered (k.gathered j u e alive));
          below = k.below;
          few = k.few;
        },
        (x, refl, (refl, subst (IsFront v.known.seen) (sym h.3) fv.2, fv.3 ∙ ap (λ n. own_of n k.log) (sym fv.0) ∙ ap (own_of v.known.number) (sym h.3), h.4 ∙ sym fv.1)),
      ))
      (λ (h : IsTaken start journal k.holder s.words s.homes s.views).
      owes begun passes s.views seat (v, []) (λ n. either (n == 0) 1 n) (taking start journal (step slots 0 0 1 none) (v, [])) s.words (1 ∷ []) s.homes s.homes h.0 refl (
        v,
        keeps,
        tt,
        subst (λ (y : List ℕ × List V). Kept start journal begun passes record { words = y.0; homes = s.homes; views = y.1 }) (λ i. (h.0 i, sym (set_again s.views seat v at) i)) k,
        refl,
      ))
      k.value

  pub takes_turn : (begun : G) (passes slots seat : ℕ) (me : Me (Option S) V) → me.0.live ≡ true → me.0.holds ≡ false → me.1 ≡ []
      → Allows (Kept start journal begun passes) slots seat me 0 (λ n. either (n == 0) 1 n) (taking start journal (step slots 0 0 1 none) me)
  takes_turn begun passes slots seat me live waits empty =
      subst (λ (c : List (ℕ × Option S)). Allows (Kept start journal begun passes) slots seat (me.0, c) 0 (λ n. either (n == 0) 1 n) (taking start journal (step slots 0 0 1 none) (me.0, c)))
      (sym empty) (takes_from begun passes slots seat me.0 live waits)

  -- what a try tells that found the turn free
  pub took : (st : Step (Option S)) (before after : Me (Option S) V) (found : ℕ) → found ≡ 0 → taking start journal st before found after
      → (x : S) × (after.1 ≡ (0, Some x) ∷ before.1) × Takes start journal before.0 x after.0
  took st before after found free t = subst (λ n. taking start journal st before n after) free t

  pub carries : (me : Me (Option S) V) (x : S) (c : List (ℕ × Option S)) → me.1 ≡ (0, Some x) ∷ c → (y : Option S) × (me.1 ≡ (0, y) ∷ rest me.1)
  carries me x c e = (Some x, e ∙ ap (λ l. (0, Some x) ∷ l) (ap rest (sym e)))

  -- what was taken in stays so when a live pass puts back a journal that has its own steps behind the log
  gathered_on : (views : List V) (log fresh : List (Made T)) (seat : ℕ) (v w : V) → get_elem? views seat ≡ some v → v.live ≡ true
      → list_all (λ e. e.by == seat) fresh ≡ true
      → (k : Known T) → IsGathered views log k → IsGathered (set views seat w) (log ++ fresh) k
  gathered_on views log fresh seat v w at live mine k g =
      let other = apart views log seat v w k at live g in (
        (g.0.0, set_else views seat k.number w other ∙ g.0.1, g.0.2),
        front_on k.seen log fresh g.1,
        g.2 ∙ sym (own_stays k.number seat log fresh other mine),
      )

  gives_from : (begun : G) (passes slots seat : ℕ) (v : V) (x : S) → v.live ≡ true → v.holds ≡ true
      → Grows v.known.number v.known.seen (journal x) → Some (start x) ≡ v.begun
      → Allows (Kept start journal begun passes) slots seat (v, (0, Some x) ∷ []) 0 (λ _. 0) (λ _. releasing start journal (step slots 0 0 0 none) (v, (0, Some x) ∷ []) 0)
  gives_from begun passes slots seat v x live holds grows began s k _ at _ =
      let fv = k.fits seat v at live in
      let held = fv.4 holds in
      let log = journal x in
      let fresh : List (Made T) = drop (length v.known.seen) log in
      let longer : log ≡ k.log ++ fresh = grows.0 ∙ ap (λ l. l ++ fresh) held.2 in
      let mine : list_all (λ e. e.by == seat) fresh ≡ true = subst (λ n. list_all (λ e. e.by == n) fresh ≡ true) fv.0 grows.1 in
      let w : V = returned v log in
      let views = set s.views seat w in
      ⊎_elim
      (λ (h : IsFree start journal begun s.words s.homes k.log). absurd (zero_isn't_one (ap head (sym h.0 ∙ held.0))))
      (λ (h : IsTaken start journal k.holder s.words s.homes s.views).
      owes begun passes s.views seat (v, (0, Some x) ∷ []) (λ _. 0) (λ _. releasing start journal (step slots 0 0 0 none) (v, (0, Some x) ∷ []) 0) s.words (1 ∷ []) s.homes (none ∷ []) h.0 h.1 (
        w,
        gives,
        tt,
        record {
          log = log;
          holder = 0;
          count = k.count;
          counted = length-set s.views seat w ∙ k.counted;
          value = inl (refl, x, refl, refl, began ∙ fv.1);
          fits = all_set (λ j u. u.live ≡ true → Fits start journal begun (0 ∷ []) log 0 j u) s.views seat w
              (λ _. (fv.0, fv.1, front_same refl, ap (λ n. own_of n log) fv.0, λ no_longer. absurd (true≢false (sym no_longer))))
              (λ j u other e alive. let f = k.fits j u e alive in (
                f.0,
                f.1,
                subst (IsFront u.known.seen) (sym longer) (front_on u.known.seen k.log fresh f.2),
                f.3 ∙ sym (own_stays j seat k.log fresh other mine) ∙ ap (own_of j) (sym longer),
                λ too. absurd (other ((f.4 too).1 ∙ sym held.1)),
              ));
          makes = all_set (λ j u. u.live ≡ true → Makes start journal k.count j u) s.views seat w (λ _. k.makes seat v at live) (λ j u other e. k.makes j u e);
          gathered = subst (λ l. AtEach (λ j u. u.live ≡ true → Each (IsGathered views l) u.gathered) views) (sym longer)
              (all_set (λ j u. u.live ≡ true → Each (IsGathered views (k.log ++ fresh)) u.gathered) s.views seat w
              (λ _. every _ _ (gathered_on s.views k.log fresh seat v w at live mine) v.gathered (k.gathered seat v at live))
              (λ j u other e alive. every _ _ (gathered_on s.views k.log fresh seat v w at live mine) u.gathered (k.gathered j u e alive)));
          below = subst (Below start journal k.count) (sym longer) (each_append _ k.log fresh k.below (below_count seat k.count fresh (let i = at_inside s.views seat v at in let c = k.counted in omega arith) mine));
          few = k.few;
        },
        refl,
      ))
      k.value

  pub gives_turn : (begun : G) (passes slots seat : ℕ) (me : Me (Option S) V) (v : V) (x : S) (number : ℕ) (c : List (ℕ × Option S)) → me ≡ (v, (0, Some x) ∷ c) → c ≡ [] → v.live ≡ true → v.holds ≡ true
      → v.known.number ≡ number → Some (start x) ≡ v.begun → Grows number v.known.seen (journal x)
      → Allows (Kept start journal begun passes) slots seat me 0 (λ _. 0) (λ _. releasing start journal (step slots 0 0 0 none) me 0)
  gives_turn begun passes slots seat me v x number c is none_else live holds numbered began grows =
      subst (λ (m : Me (Option S) V). Allows (Kept start journal begun passes) slots seat m 0 (λ _. 0) (λ _. releasing start journal (step slots 0 0 0 none) m 0))
      (sym (is ∙ ap (λ l. (v, (0, Some x) ∷ l)) none_else)) (gives_from begun passes slots seat v x live holds (subst (λ n. Grows n v.known.seen (journal x)) (sym numbered) grows) began)

  longer_gathered : (cut : List V) (right : V) (log : List (Made T)) (g : Known T) → IsGathered cut log g → IsGathered (cut ++ right ∷ []) log g
  longer_gathered cut right log g is = ((is.0.0, at_longer cut (right ∷ []) g.number is.0.0 is.0.1, is.0.2), is.1, is.2)

  pub makes_pass : (begun : G) (passes seat : ℕ) (v : V) → v.live ≡ true → v.holds ≡ false → v.makes ≡ true → v.made < passes
      → Splits (Kept start journal begun passes) seat v (with_one_more v) (newcomer v)
  makes_pass begun passes seat v live waits makes room s k at =
      let fv = k.fits seat v at live in
      let made = k.makes seat v at live makes in
      let left : V = with_one_more v in
      let right : V = newcomer v in
      let cut = set s.views seat left in
      let views = cut ++ right ∷ [] in
      let long : length cut ≡ k.count = length-set s.views seat left ∙ k.counted in
      let Old : (ℕ → V → Type 0) → Type 0 = λ F. AtEach F cut in
      let both : (F : ℕ → V → Type 0) → AtEach F cut → F k.count right → AtEach F views = λ F old new j u e. at_both F cut right k.count long old new j u e in
      record {
        log = k.log;
        holder = k.holder;
        count = k.count + 1;
        counted = length_snoc cut right ∙ ap (λ n. n + 1) long;
        value = ⊎_elim inl
            (λ (h : IsTaken start journal k.holder s.words s.homes s.views).
            let here : k.holder ≢ seat = λ is. true≢false (sym h.5 ∙ ap (λ (y : V). y.holds) (some-injective h.2 v (sym h.3 ∙ ap (get_elem? s.views) is ∙ at)) ∙ waits) in
            inr (h.0, h.1, h.2, at_longer cut (right ∷ []) k.holder h.2 (set_else s.views seat k.holder left here ∙ h.3), h.4, h.5))
            k.value;
        fits = both (λ j u. u.live ≡ true → Fits start journal begun s.words k.log k.holder j u)
            (all_set (λ j u. u.live ≡ true → Fits start journal begun s.words k.log k.holder j u) s.views seat left (λ _. fv) (λ j u other e. k.fits j u e))
            (λ _. (made.0, fv.1, fv.2, sym (own_none k.count k.log k.below), λ no. absurd (true≢false (sym no))));
        makes = both (λ j u. u.live ≡ true → Makes start journal (k.count + 1) j u)
            (all_set (λ j u. u.live ≡ true → Makes start journal (k.count + 1) j u) s.views seat left (λ _ _. (ap (λ n. n + 1) made.0, made.1))
            (λ j u other e alive too. absurd (other ((k.makes j u e alive too).1 ∙ sym made.1))))
            (λ _ no. absurd (true≢false (sym no)));
        gathered = both (λ j u. u.live ≡ true → Each (IsGathered views k.log) u.gathered)
            (all_set (λ j u. u.live ≡ true → Each (IsGathered views k.log) u.gathered) s.views seat left
            (λ _. every _ _ (λ g is. longer_gathered cut right k.log g (still_gathered s.views k.log seat v left at live g is)) v.gathered (k.gathered seat v at live))
            (λ j u other e alive. every _ _ (λ g is. longer_gathered cut right k.log g (still_gathered s.views k.log seat v left at live g is)) u.gathered (k.gathered j u e alive)))
            (λ _. tt);
        below = every _ _ (λ e less. omega arith) k.log k.below;
        few = let m = made.0 in omega arith;
      }

  pub takes_in : (begun : G) (passes seat : ℕ) (v : V) (other : ℕ) (w : V) → v.live ≡ true → v.holds ≡ false → w.live ≡ true → w.holds ≡ false
      → Joins (Kept start journal begun passes) seat v other w (gathering v w) spent
  takes_in begun passes seat v other w live waits live' waits' s k at two at' =
      let was : get_elem? s.views other ≡ some w = ⊎_elim (λ (x : (other ≡ seat) × (gathering v w ≡ w)). absurd (two x.0)) (λ x. x.1) (at_set s.views seat other (gathering v w) w at') in
      let both : V = gathering v w in
      let none_left : V = spent in
      let mid = set s.views seat both in
      let views = set mid other none_left in
      let fw = k.fits other w was live' in
      let All_of : (ℕ → V → Type 0) → Type 0 = λ F. ((j : ℕ) (u : V) → get_elem? s.views j ≡ some u → u.live ≡ true → F j u) in
      let keep : (F : ℕ → V → Type 0) → F seat both → ((j : ℕ) (u : V) → get_elem? s.views j ≡ some u → u.live ≡ true → F j u) → (j : ℕ) (u : V) → get_elem? views j ≡ some u → u.live ≡ true → F j u =
      λ F mine old. all_set (λ j u. u.live ≡ true → F j u) mid other none_left (λ no. absurd (true≢false (sym no)))
      (λ j u apart_from e. all_set (λ j u. u.live ≡ true → F j u) s.views seat both (λ _. mine) (λ j u apart_too e alive. old j u e alive) j u e) in
      let still : (g : Known T) → IsGathered s.views k.log g → IsGathered views k.log g = λ g is.
      still_gathered mid k.log other w none_left at' live' g (still_gathered s.views k.log seat v both at live g is) in
      let taken : IsGathered views k.log w.known = ((none_left, ap (get_elem? views) fw.0 ∙ set_here mid other none_left (at_inside mid other w at'), refl), fw.2, fw.3 ∙ ap (λ n. own_of n k.log) (sym fw.0)) in
      record {
        log = k.log;
        holder = k.holder;
        count = k.count;
        counted = length-set mid other none_left ∙ length-set s.views seat both ∙ k.counted;
        value = ⊎_elim inl
            (λ (h : IsTaken start journal k.holder s.words s.homes s.views).
            let here : k.holder ≢ seat = λ is. true≢false (sym h.5 ∙ ap (λ (y : V). y.holds) (some-injective h.2 v (sym h.3 ∙ ap (get_elem? s.views) is ∙ at)) ∙ waits) in
            let there : k.holder ≢ other = λ is. true≢false (sym h.5 ∙ ap (λ (y : V). y.holds) (some-injective h.2 w (sym h.3 ∙ ap (get_elem? s.views) is ∙ was)) ∙ waits') in
            inr (h.0, h.1, h.2, set_else mid other k.holder none_left there ∙ set_else s.views seat k.holder both here ∙ h.3, h.4, h.5))
            k.value;
        fits = keep (Fits start journal begun s.words k.log k.holder) (k.fits seat v at live) k.fits;
        makes = keep (Makes start journal k.count) (k.makes seat v at live) k.makes;
        gathered = keep (λ j u. Each (IsGathered views k.log) u.gathered)
            (taken, every _ _ still v.gathered (k.gathered seat v at live))
            (λ j u e alive. every _ _ still u.gathered (k.gathered j u e alive));
        below = k.below;
        few = k.few;
      }
