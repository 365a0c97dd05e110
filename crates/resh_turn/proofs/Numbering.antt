-- Lists of passes.
use Rattle.std.proofs.Common.{◌≡◌, ℕ, zero, suc, ◌+◌, ◌-◌, ◌<◌, List, [], ◌∷◌, ◌++◌, map, append_assoc, sym, ap, ◌∙◌, subst, arith}
use Rattle.resh_turn.specs.Sight.{Sight}
use Rattle.resh_turn.specs.Held.{Cell, known_of, numbered, unused}
use Rattle.resh_turn.specs.Replay.{Each}
use Rattle.resh_turn.specs.declared.rule.Known.{Known}
use mathlib.Core.List.{map-append}

each_snoc : {A : Type 0} (P : A → Type 0) (xs : List A) (x : A) → Each P (xs ++ x ∷ []) → P x × Each P xs
each_snoc P [] x h = (h.0, tt)
each_snoc P (y ∷ ys) x h = let r = each_snoc P ys x h.1 in (r.0, (h.0, r.1))

-- what holds of each pass holds of the last one and of the others
pub last_of : {T G : Type 0} (P : Sight T G → Type 0) (all rest : List (Sight T G)) (p : Sight T G) → all ≡ rest ++ p ∷ [] → Each P all → P p × Each P rest
last_of P all rest p is h = each_snoc P rest p (subst (Each P) is h)

-- what is known of the passes, when the last one goes over to those that were taken in
pub goes_over : {T G : Type 0} (whole : List (Known T)) (all rest : List (Sight T G)) (p : Sight T G) (others : List (Known T)) (k : Known T)
    → all ≡ rest ++ p ∷ [] → k ≡ known_of p → whole ≡ map known_of all ++ others → whole ≡ map known_of rest ++ k ∷ others
goes_over whole all rest p others k is known e =
    e ∙ ap (λ l. map known_of l ++ others) is ∙ ap (λ l. l ++ others) (map-append known_of rest (p ∷ []))
    ∙ append_assoc (map known_of rest) (known_of p ∷ []) others ∙ ap (λ x. map known_of rest ++ x ∷ others) (sym known)

module _ {T G : Type 0} (cell : Cell G) where
  snoc : (first count : ℕ) → numbered {T = T} cell first count ++ unused cell (first + count) ∷ [] ≡ numbered cell first (suc count)
  snoc first zero = ap (λ n. unused cell n ∷ []) (omega arith)
  snoc first (suc count) = let h : suc first + count ≡ first + suc count = omega arith in
      ap (λ l. unused cell first ∷ l) (ap (λ n. numbered cell (suc first) count ++ unused cell n ∷ []) (sym h) ∙ snoc (suc first) count)

  pub one_more : (n : ℕ) → 0 < n → numbered {T = T} cell 1 (n - 1) ++ unused cell n ∷ [] ≡ numbered cell 1 ((n + 1) - 1)
  one_more n some_pass = let k = n - 1 in let a : 1 + k ≡ n = omega arith in let b : (n + 1) - 1 ≡ suc k = omega arith in
      ap (λ m. numbered cell 1 k ++ unused cell m ∷ []) (sym a) ∙ snoc 1 k ∙ ap (numbered cell 1) (sym b)

  pub all_of : (n : ℕ) → 0 < n → unused cell 0 ∷ numbered {T = T} cell 1 (n - 1) ≡ numbered cell 0 n
  all_of n some_pass = let k = n - 1 in let a : suc k ≡ n = omega arith in ap (numbered cell 0) a

  pub pushed : (n : ℕ) (all all' : List (Sight T G)) (p : Sight T G) → 0 < n → all' ≡ all ++ p ∷ [] → p ≡ unused cell n → all ≡ numbered cell 1 (n - 1) → all' ≡ numbered cell 1 ((n + 1) - 1)
  pushed n all all' p some_pass is new old = is ∙ (λ i. old i ++ new i ∷ []) ∙ one_more n some_pass
