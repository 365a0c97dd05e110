-- Jobs that are turned one by one, or group by group, are turned.
use Rattle.std.proofs.Common.{◌≡◌, ℕ, suc, ◌+◌, ◌<◌, List, [], ◌∷◌, ◌++◌, length, get_or, flat_map, sym, refl, subst, arith}
use Rattle.resh_pool.specs.declared.group.Group.{Group}
use Rattle.resh_pool.specs.Groups.{IsCut}
use Rattle.resh_pool.specs.Rounds.{AreTurned}

module _ {J : Type 0} (turned : J → ℕ → J → Type 0) where
  -- turned place by place
  pub turned_by_place : (first : ℕ) (before after : List J) → length after ≡ length before
      → ((k : ℕ) (d : J) → k < length before → turned (get_or before k d) (first + k) (get_or after k d))
      → AreTurned turned first before after
  turned_by_place first [] [] len each = tt
  turned_by_place first [] (a ∷ cs) len each = absurd (omega arith)
  turned_by_place first (b ∷ bs) [] len each = absurd (omega arith)
  turned_by_place first (b ∷ bs) (a ∷ cs) len each =
      let here : first + 0 ≡ first = omega arith in (
        subst (λ n. turned b n a) here (each 0 b (omega arith)),
        turned_by_place (first + 1) bs cs (omega arith)
            (λ k d l. let there : first + suc k ≡ (first + 1) + k = omega arith in subst (λ n. turned (get_or bs k d) n (get_or cs k d)) there (each (suc k) d (omega arith))),
      )

  pub turned_len : (first : ℕ) (before after : List J) → AreTurned turned first before after → length after ≡ length before
  turned_len first [] [] h = refl
  turned_len first [] (a ∷ cs) h = absurd h
  turned_len first (b ∷ bs) [] h = absurd h
  turned_len first (b ∷ bs) (a ∷ cs) h = let rest = turned_len (first + 1) bs cs h.1 in omega arith

  -- one list of turned jobs behind another
  pub turned_behind : (first : ℕ) (before after others afters : List J) → AreTurned turned first before after
      → AreTurned turned (first + length before) others afters → AreTurned turned first (before ++ others) (after ++ afters)
  turned_behind first [] [] others afters h rest = let same : first + 0 ≡ first = omega arith in subst (λ n. AreTurned turned n others afters) same rest
  turned_behind first [] (a ∷ cs) others afters h rest = absurd h
  turned_behind first (b ∷ bs) [] others afters h rest = absurd h
  turned_behind first (b ∷ bs) (a ∷ cs) others afters h rest =
      let same : first + length (b ∷ bs) ≡ (first + 1) + length bs = omega arith in
      (h.0, turned_behind (first + 1) bs cs others afters h.1 (subst (λ n. AreTurned turned n others afters) same rest))

  -- what is made of each group, in the groups' order
  pub turned_in_groups : {R : Type 0} (items : R → List J) (first : ℕ) (groups : List (Group J)) (results : List R) (jobs : List J)
      → length results ≡ length groups
      → ((k : ℕ) (d : R) → k < length groups → (group : Group J) × ((e : Group J) → get_or groups k e ≡ group) × AreTurned turned group.first group.jobs.items (items (get_or results k d)))
      → IsCut first groups jobs → AreTurned turned first jobs (flat_map items results)
  turned_in_groups items first [] [] jobs len each cut = subst (λ l. AreTurned turned first l []) (sym cut) tt
  turned_in_groups items first [] (r ∷ rs) jobs len each cut = absurd (omega arith)
  turned_in_groups items first (g ∷ gs) [] jobs len each cut = absurd (omega arith)
  turned_in_groups items first (g ∷ gs) (r ∷ rs) jobs len each cut =
      let made = each 0 r (omega arith) in
      let mine : AreTurned turned g.first g.jobs.items (items r) = subst (λ x. AreTurned turned x.first x.jobs.items (items r)) (sym (made.1 g)) made.2 in
      let placed : AreTurned turned first g.jobs.items (items r) = subst (λ n. AreTurned turned n g.jobs.items (items r)) cut.1 mine in
      let rest = turned_in_groups items (first + length g.jobs.items) gs rs cut.0 (omega arith) (λ k d l. each (suc k) d (omega arith)) cut.3 in
      subst (λ l. AreTurned turned first l (items r ++ flat_map items rs)) (sym cut.2) (turned_behind first g.jobs.items (items r) cut.0 (flat_map items rs) placed rest)
