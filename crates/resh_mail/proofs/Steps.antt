-- Each step keeps the rule of the mailbox.
use Rattle.std.proofs.Common.{◌≡◌, ◌≢◌, ℕ, zero, suc, true, false, true≢false, List, [], ◌∷◌, ◌++◌, length, set, sym, refl, ap, ◌∙◌, subst, ⊎_elim, append_assoc, append-nil}
use mathlib.Core.Option.{some, some-ne-none}
use lib.ListN.{get_elem?}
use Rattle.crossbeam_queue.specs.Fifo.{Pushes, Pops, Forks, Merges, Learns}
use Rattle.crossbeam_queue.proofs.Lists.{at_set, at_snoc}
use Rattle.resh_oplog.specs.declared.piece.Piece.{Piece}
use Rattle.resh_mail.specs.declared.rule.Known.{Known}
use Rattle.resh_mail.specs.Rule.{AlongOneList, IsFront, Fits, Kept, known}

front_same : {xs ys : List Piece} → xs ≡ ys → IsFront xs ys
front_same {xs} e = ([], sym e ∙ sym (append-nil xs))

front_on : (xs ys : List Piece) (y : Piece) → IsFront xs ys → IsFront xs (ys ++ y ∷ [])
front_on xs ys y f = (f.0 ++ y ∷ [], ap (λ l. l ++ y ∷ []) f.1 ∙ append_assoc xs f.0 (y ∷ []))

at_end : (l : List Known) (a b : Known) (j : ℕ) → get_elem? l j ≢ some b → get_elem? (l ++ a ∷ []) j ≡ some b → j ≡ length l
at_end [] a b zero n e = refl
at_end [] a b (suc j) n e = absurd (some-ne-none b (sym e))
at_end (x ∷ xs) a b zero n e = absurd (n e)
at_end (x ∷ xs) a b (suc j) n e = ap suc (at_end xs a b j n e)

abbrev All : (ℕ → Known → Type 0) → List Known → Type 0
All F views = (port : ℕ) (v : Known) → get_elem? views port ≡ some v → F port v

all_set : (F : ℕ → Known → Type 0) (views : List Known) (port : ℕ) (w : Known) → F port w → ((j : ℕ) (u : Known) → j ≢ port → get_elem? views j ≡ some u → F j u) → All F (set views port w)
all_set F views port w mine others j u e = ⊎_elim (λ (x : (j ≡ port) × (w ≡ u)). subst (λ (y : ℕ × Known). F y.0 y.1) (λ i. (sym x.0 i, x.1 i)) mine)
    (λ (x : (j ≢ port) × (get_elem? views j ≡ some u)). others j u x.0 x.1) (at_set views port j w u e)

pub begins : Kept [] (known true true [] [] ∷ [])
begins = (0, 0, [], [], refl, all_set (Fits 0 0 [] []) (known true true [] [] ∷ []) 0 (known true true [] []) ((λ _. (refl, refl, front_same refl)), λ _. (refl, refl, front_same refl)) (λ j u other e. absurd (other (at_end [] _ u j (λ x. some-ne-none u (sym x)) e))))

pub sends : (n port : ℕ) (v : Known) (x : Piece) → v.sends ≡ true → Pushes Kept n port v x (λ w. w ≡ known v.sends v.receives (v.sent ++ x ∷ []) v.received)
sends n port v x may items views _ h at = let w : Known = known v.sends v.receives (v.sent ++ x ∷ []) v.received in let mine = h.5 port v at in let sent = h.2 ++ x ∷ [] in
    let grown : v.sent ++ x ∷ [] ≡ sent = ap (λ l. l ++ x ∷ []) (mine.0 may).1 in (
      w,
      (
        h.0,
        h.1,
        sent,
        h.3,
        ap (λ l. l ++ x ∷ []) h.4 ∙ append_assoc h.3 items (x ∷ []),
        all_set (Fits h.0 h.1 sent h.3) views port w ((λ _. ((mine.0 may).0, grown, (mine.0 may).2)), λ p. ((mine.1 p).0, (mine.1 p).1, front_same grown))
            (λ j u other e. ((λ p. absurd (other (((h.5 j u e).0 p).0 ∙ sym (mine.0 may).0))), λ p. let k = (h.5 j u e).1 p in (k.0, k.1, front_on u.sent h.2 x k.2))),
      ),
      refl,
    )

pub gets : (port : ℕ) (v : Known) → v.receives ≡ true → Pops Kept port v (λ x w. (w ≡ known v.sends v.receives v.sent (v.received ++ x ∷ [])) × AlongOneList v.sent (v.received ++ x ∷ []))
gets port v may x items views h at = let w : Known = known v.sends v.receives v.sent (v.received ++ x ∷ []) in let mine = h.5 port v at in let got = h.3 ++ x ∷ [] in
    let whole : h.2 ≡ got ++ items = h.4 ∙ sym (append_assoc h.3 (x ∷ []) items) in
    let grown : v.received ++ x ∷ [] ≡ got = ap (λ l. l ++ x ∷ []) (mine.1 may).1 in (
      w,
      (
        h.0,
        h.1,
        h.2,
        got,
        whole,
        all_set (Fits h.0 h.1 h.2 got) views port w ((λ p. ((mine.0 p).0, (mine.0 p).1, front_same grown)), λ _. ((mine.1 may).0, grown, (mine.1 may).2))
            (λ j u other e. ((λ p. let k = (h.5 j u e).0 p in (k.0, k.1, front_on u.received h.3 x k.2)), λ p. absurd (other (((h.5 j u e).1 p).0 ∙ sym (mine.1 may).0)))),
      ),
      (refl, (h.2, (mine.1 may).2, (items, whole ∙ ap (λ l. l ++ items) (sym grown)))),
    )

pub forks : (port : ℕ) (v : Known) → v.sends ≡ true → v.receives ≡ true → Forks Kept port v (known true false v.sent v.received) (known false true v.sent v.received)
forks port v a b items views h at = let l : Known = known true false v.sent v.received in let r : Known = known false true v.sent v.received in let mine = h.5 port v at in let vs : List Known = set views port l in
    let Old : ℕ → Known → Type 0 = λ j u. (u.sends ≡ true → (j ≡ h.0) × (u.sent ≡ h.2) × IsFront u.received h.3) × (u.receives ≢ true) in
    let old : All Old vs = all_set Old views port l ((λ _. mine.0 a), λ p. true≢false (sym p)) (λ j u other e. ((h.5 j u e).0, λ p. other (((h.5 j u e).1 p).0 ∙ sym (mine.1 b).0))) in (
      h.0,
      length vs,
      h.2,
      h.3,
      h.4,
      λ j u e. ⊎_elim (λ x. ((old j u x).0, λ p. absurd ((old j u x).1 p)))
          (λ (is : r ≡ u). ((λ p. absurd (true≢false (sym (ap (λ (y : Known). y.sends) is ∙ p)))), λ p. (at_end vs r u j (λ x. (old j u x).1 p) e, ap (λ (y : Known). y.received) (sym is) ∙ (mine.1 b).1, subst (λ (y : Known). IsFront y.sent h.2) is (mine.1 b).2)))
          (at_snoc vs r u j e),
    )

pub merges : (port : ℕ) (v : Known) (other : ℕ) (u : Known) → v.sends ≡ true → u.receives ≡ true → Merges Kept port v other u (known true true v.sent u.received) (known false false [] [])
merges port v other u a b items views h at two at' = let both : Known = known true true v.sent u.received in let mine = h.5 port v at in let vs : List Known = set views port both in
    let was : get_elem? views other ≡ some u = ⊎_elim (λ x. absurd (two x.0)) (λ x. x.1) (at_set views port other both u at') in let theirs = (h.5 other u was).1 b in
    let Now : ℕ → Known → Type 0 = λ j y. j ≢ other → Fits h.0 port h.2 h.3 j y in
    let now : All Now vs = all_set Now views port both (λ _. ((λ _. ((mine.0 a).0, (mine.0 a).1, front_same theirs.1)), λ _. (refl, theirs.1, front_same (mine.0 a).1))) (λ j y _ e apart. ((h.5 j y e).0, λ p. absurd (apart (((h.5 j y e).1 p).0 ∙ sym theirs.0)))) in
    (h.0, port, h.2, h.3, h.4, all_set (Fits h.0 port h.2 h.3) vs other (known false false [] []) ((λ p. absurd (true≢false (sym p))), λ p. absurd (true≢false (sym p))) (λ j y apart e. now j y e apart))

-- what a pass that sends learns of a moment
pub fulls : (port : ℕ) (v : Known) → v.sends ≡ true → Learns Kept port v (λ items. (received : List Piece) × IsFront v.received received × (v.sent ≡ received ++ items))
fulls port v a items views h at = let mine = (h.5 port v at).0 a in (h.3, mine.2, mine.1 ∙ h.4)

-- what a pass that receives learns of a moment
pub empties : (port : ℕ) (v : Known) → v.receives ≡ true → Learns Kept port v (λ items. IsFront v.sent (v.received ++ items))
empties port v b items views h at = let mine = (h.5 port v at).1 b in subst (IsFront v.sent) (h.4 ∙ ap (λ l. l ++ items) (sym mine.1)) mine.2

pub totals : (port : ℕ) (v : Known) → v.sends ≡ true → v.receives ≡ true → Learns Kept port v (λ items. v.sent ≡ v.received ++ items)
totals port v a b items views h at = let mine = h.5 port v at in (mine.0 a).1 ∙ h.4 ∙ ap (λ l. l ++ items) (sym (mine.1 b).1)
