-- A slot fits its feed: after an item at its position, after going back, and once the feed is longer.
use Rattle.std.proofs.Common.{◌≡◌, ◌≤◌, ◌<◌, ◌+◌, ◌-◌, ℕ, zero, suc, max, Bool, true, false, cond, List, [], ◌∷◌, ◌++◌, length, take, drop, get_or, Option, Some, None, refl, sym, ap, subst, ◌∙◌, ⊎_elim, arith}
use Rattle.std.proofs.lemmas.Bool.{cases_lt}
use Rattle.std.proofs.lemmas.List.{get_or-take, get_or-drop, length-take, length-drop, length-take-le, drop_more, take_more, drop-append-le, take-append-le, drop_all, length-append, take_all}
use Rattle.std.proofs.lemmas.Option.{slice_get_within, slice_get-get_or}
use Rattle.std.specs.List.{slice_get}
use Rattle.resh_value.specs.declared.value.Value.{Value}
use Rattle.resh_oplog.specs.declared.entry.What.{What}
use Rattle.resh_oplog.specs.declared.entry.What.TheVariants.{Insert, Update, Delete, Final}
use Rattle.resh_feed.specs.Items.{Document}
use Rattle.resh_feed.specs.Effects.{turn, effects_on, IsFormed, AreFormed}
use Rattle.resh_feed.specs.Fits.{FitsSlot}
use Rattle.resh_feed.proofs.Absorbing.{absorbed, turn_formed}

some_is : {X : Type 0} (x y : X) → Some x ≡ Some y → x ≡ y
some_is x y e = cc

formed_drop : (n : ℕ) (whats : List What) → AreFormed whats → AreFormed (drop n whats)
formed_drop n [] f = subst AreFormed (sym (drop_all n [] (omega arith))) tt
formed_drop zero (w ∷ ws) f = f
formed_drop (suc n) (w ∷ ws) f = formed_drop n ws f.1

formed_take : (n : ℕ) (whats : List What) → AreFormed whats → AreFormed (take n whats)
formed_take zero whats f = tt
formed_take (suc n) [] f = tt
formed_take (suc n) (w ∷ ws) f = (f.0, formed_take n ws f.1)

pub formed_at : (whats : List What) → AreFormed whats → (i : ℕ) (e : What) → slice_get whats i ≡ Some e → IsFormed e
formed_at [] f i e at = cc
formed_at (w ∷ ws) f zero e at = subst IsFormed (some_is w e at) f.0
formed_at (w ∷ ws) f (suc i) e at = formed_at ws f.1 i e at

pub effects_append : (id : Value) (a b : List What) (s : Option Document) → effects_on id (a ++ b) s ≡ effects_on id b (effects_on id a s)
effects_append id [] b s = refl
effects_append id (w ∷ ws) b s = effects_append id ws b (turn id w s)

-- an item at a place of a list stands in the rest from any earlier place on
stands_in_rest : (done : List What) (at from : ℕ) (e : What) → slice_get done at ≡ Some e → from ≤ at → slice_get (drop from done) (at - from) ≡ Some e
stands_in_rest done at from e here le =
    let lt : at < length done = slice_get_within done at e here in
    let is : get_or done at Final ≡ e = some_is (get_or done at Final) e (sym (slice_get-get_or done at Final lt) ∙ here) in
    let long : length (drop from done) ≡ length done - from = length-drop from done in
    let inside : at - from < length (drop from done) = omega (arith, long) in
    let same : from + (at - from) ≡ at = omega arith in
    slice_get-get_or (drop from done) (at - from) Final inside
    ∙ ap Some (get_or-drop from done (at - from) Final ∙ ap (λ i. get_or done i Final) same ∙ is)

module _ (id : Value) (feed : List What) (formed : AreFormed feed) (at high : ℕ) (s : Option Document) (e : What) (fits : FitsSlot id feed at high s) (reached : at ≤ high) (within : high ≤ length feed) (here : slice_get feed at ≡ Some e) where
  fe : IsFormed e
  fe = formed_at feed formed at e here

  is_here : get_or feed at Final ≡ e
  is_here = some_is (get_or feed at Final) e (sym (slice_get-get_or feed at Final (slice_get_within feed at e here)) ∙ here)

  -- the item was taken before
  module _ (below : at < high) where
    long : length (take high feed) ≡ high
    long = length-take-le high feed within

    in_done : slice_get (take high feed) at ≡ Some e
    in_done =
        let l = long in
        slice_get-get_or (take high feed) at Final (omega (arith, l)) ∙ ap Some (get_or-take high feed at Final below ∙ is_here)

    next_taken : effects_on id (drop (at + 1) (take high feed)) (turn id e s) ≡ effects_on id (take high feed) None
    next_taken =
        let l = long in
        let split : drop at (take high feed) ≡ e ∷ drop (at + 1) (take high feed) =
        drop_more (take high feed) at Final (omega (arith, l)) ∙ ap (λ x. x ∷ drop (at + 1) (take high feed)) (get_or-take high feed at Final below ∙ is_here) in
        sym (ap (λ w. effects_on id w s) split) ∙ fits.again at (omega arith)

    taken_again : (from : ℕ) → from ≤ at → effects_on id (drop from (take high feed)) (turn id e s) ≡ effects_on id (take high feed) None
    taken_again from le =
        absorbed id e fe (drop from (take high feed)) (formed_drop from (take high feed) (formed_take high feed formed)) (at - from) (stands_in_rest (take high feed) at from e in_done le) s fits.formed
        ∙ fits.again from le

    again_below : (from : ℕ) → from ≤ at + 1 → effects_on id (drop from (take high feed)) (turn id e s) ≡ effects_on id (take high feed) None
    again_below from le =
        ⊎_elim
        (λ (lt : from < at + 1). taken_again from (omega arith))
        (λ (ge : at + 1 ≤ from). let is : from ≡ at + 1 = omega arith in subst (λ n. effects_on id (drop n (take high feed)) (turn id e s) ≡ effects_on id (take high feed) None) (sym is) next_taken)
        (cases_lt from (at + 1))

  -- the item is new
  module _ (there : high ≡ at) where
    more : take (at + 1) feed ≡ take at feed ++ e ∷ []
    more = take_more feed at Final (slice_get_within feed at e here) ∙ ap (λ x. take at feed ++ x ∷ []) is_here

    long_at : length (take at feed) ≡ at
    long_at = length-take-le at feed (omega arith)

    again_at : (from : ℕ) → from ≤ at → effects_on id (drop from (take at feed)) s ≡ effects_on id (take at feed) None
    again_at from le = subst (λ n. effects_on id (drop from (take n feed)) s ≡ effects_on id (take n feed) None) there (fits.again from le)

    whole : effects_on id (take at feed ++ e ∷ []) None ≡ turn id e (effects_on id (take at feed) None)
    whole = effects_append id (take at feed) (e ∷ []) None

    new_again : (from : ℕ) → from ≤ at → effects_on id (drop from (take at feed ++ e ∷ [])) (turn id e s) ≡ effects_on id (take at feed ++ e ∷ []) None
    new_again from le =
        let l = long_at in
        let rest : List What = drop from (take at feed) in
        let split : drop from (take at feed ++ e ∷ []) ≡ rest ++ e ∷ [] = drop-append-le from (take at feed) (e ∷ []) (omega (arith, l)) in
        let last : slice_get (rest ++ e ∷ []) (length rest) ≡ Some e = last_one rest in
        ap (λ w. effects_on id w (turn id e s)) split
        ∙ absorbed id e fe (rest ++ e ∷ []) (formed_push rest (formed_drop from (take at feed) (formed_take at feed formed))) (length rest) last s fits.formed
        ∙ effects_append id rest (e ∷ []) s ∙ ap (turn id e) (again_at from le) ∙ sym whole
      where
        last_one : (l : List What) → slice_get (l ++ e ∷ []) (length l) ≡ Some e
        last_one [] = refl
        last_one (w ∷ ws) = last_one ws

        formed_push : (l : List What) → AreFormed l → AreFormed (l ++ e ∷ [])
        formed_push [] f = (fe, tt)
        formed_push (w ∷ ws) f = (f.0, formed_push ws f.1)

    new_next : effects_on id (drop (at + 1) (take at feed ++ e ∷ [])) (turn id e s) ≡ effects_on id (take at feed ++ e ∷ []) None
    new_next =
        let l = long_at in
        let n : length (take at feed ++ e ∷ []) ≡ length (take at feed) + 1 = length-append (take at feed) (e ∷ []) in
        let none : drop (at + 1) (take at feed ++ e ∷ []) ≡ [] = drop_all (at + 1) (take at feed ++ e ∷ []) (omega (arith, l, n)) in
        let rest : drop at (take at feed) ≡ [] = drop_all at (take at feed) (omega (arith, l)) in
        let now : s ≡ effects_on id (take at feed) None = sym (ap (λ w. effects_on id w s) rest) ∙ again_at at (omega arith) in
        ap (λ w. effects_on id w (turn id e s)) none ∙ ap (turn id e) now ∙ sym whole

    again_new : (from : ℕ) → from ≤ at + 1 → effects_on id (drop from (take (at + 1) feed)) (turn id e s) ≡ effects_on id (take (at + 1) feed) None
    again_new from le =
        subst (λ w. effects_on id (drop from w) (turn id e s) ≡ effects_on id w None) (sym more)
        (⊎_elim
        (λ (lt : from < at + 1). new_again from (omega arith))
        (λ (ge : at + 1 ≤ from). let is : from ≡ at + 1 = omega arith in subst (λ n. effects_on id (drop n (take at feed ++ e ∷ [])) (turn id e s) ≡ effects_on id (take at feed ++ e ∷ []) None) (sym is) new_next)
        (cases_lt from (at + 1)))

  pub fits_next : FitsSlot id feed (at + 1) (max high (at + 1)) (turn id e s)
  fits_next =
      ⊎_elim
      (λ (below : at < high). let top : max high (at + 1) ≡ high = omega arith in
      subst (λ n. FitsSlot id feed (at + 1) n (turn id e s)) (sym top) (record { formed = turn_formed id e s fe fits.formed; again = again_below below }))
      (λ (above : high ≤ at). let top : max high (at + 1) ≡ at + 1 = omega arith in let there : high ≡ at = omega arith in
      subst (λ n. FitsSlot id feed (at + 1) n (turn id e s)) (sym top) (record { formed = turn_formed id e s fe fits.formed; again = again_new there }))
      (cases_lt at high)

-- back to an earlier position
pub fits_back : (id : Value) (feed : List What) (at high back : ℕ) (s : Option Document) → back ≤ at → FitsSlot id feed at high s → FitsSlot id feed back high s
fits_back id feed at high back s le fits = record { formed = fits.formed; again = λ from l. fits.again from (omega arith) }

-- the feed is longer
pub fits_longer : (id : Value) (feed more : List What) (at high : ℕ) (s : Option Document) → high ≤ length feed → FitsSlot id feed at high s → FitsSlot id (feed ++ more) at high s
fits_longer id feed more at high s le fits =
    let same : take high (feed ++ more) ≡ take high feed = take-append-le high feed more le in
    record { formed = fits.formed; again = λ from l. subst (λ w. effects_on id (drop from w) s ≡ effects_on id w None) (sym same) (fits.again from l) }

-- at the end of a feed, once all of it was taken, a slot is what all of it leaves
pub fits_at_end : (id : Value) (feed : List What) (at high : ℕ) (s : Option Document) → at ≡ length feed → high ≡ length feed → FitsSlot id feed at high s → s ≡ effects_on id feed None
fits_at_end id feed at high s a h fits =
    let all : take high feed ≡ feed = take_whole high feed h in
    let none : drop at (take high feed) ≡ [] = ap (drop at) all ∙ drop_all at feed (omega arith) in
    sym (ap (λ w. effects_on id w s) none) ∙ fits.again at (omega arith) ∙ ap (λ w. effects_on id w None) all
  where
    take_whole : (n : ℕ) (l : List What) → n ≡ length l → take n l ≡ l
    take_whole n l e = take_all n l (omega (arith, e))

-- an empty slot at the beginning
pub fits_empty : (id : Value) (feed : List What) → FitsSlot id feed 0 0 None
fits_empty id feed = record { formed = tt; again = λ from le. let is : from ≡ 0 = omega arith in subst (λ n. effects_on id (drop n (take 0 feed)) None ≡ effects_on id (take 0 feed) None) (sym is) refl }
