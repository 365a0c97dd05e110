-- Entries up to a final one: their beginnings, and what stands behind them.
use Rattle.std.proofs.Common.{◌≡◌, ℕ, zero, suc, Bool, true, false, cond, List, [], ◌∷◌, ◌++◌, ◌||◌, take, refl, sym, ap, ◌∙◌}
use Rattle.resh_oplog.specs.declared.entry.Entry.{Entry}
use Rattle.resh_feed.specs.Items.{has_final, is_final, up_to_final}

take_none : (n : ℕ) → take {A = Entry} n [] ≡ []
take_none zero = refl
take_none (suc n) = refl

pub final_take : (n : ℕ) (es : List Entry) → up_to_final (take n es) ≡ take n (up_to_final es)
final_take zero es = refl
final_take (suc n) [] = refl
final_take (suc n) (e ∷ es) = by (is_final e.what) (final_take n es)
  where
    by : (b : Bool) → up_to_final (take n es) ≡ take n (up_to_final es) → e ∷ cond b [] (up_to_final (take n es)) ≡ e ∷ take n (cond b [] (up_to_final es))
    by true rest = ap (λ l. e ∷ l) (sym (take_none n))
    by false rest = ap (λ l. e ∷ l) rest

neither : (a b : Bool) → (a || b) ≡ false → (a ≡ false) × (b ≡ false)
neither true b h = cc
neither false b h = (refl, h)

-- behind a front without a final one stands the rest
pub behind_front : (all read rest : List Entry) → up_to_final all ≡ read ++ rest → has_final read ≡ false → (more : List Entry) × (all ≡ read ++ more) × (rest ≡ up_to_final more)
behind_front all [] rest h none = (all, refl, sym h)
behind_front [] (e ∷ read) rest h none = cc
behind_front (x ∷ xs) (e ∷ read) rest h none = by (is_final x.what) refl (behind_front xs read rest)
  where
    head : x ≡ e
    head = cc

    tail : cond (is_final x.what) [] (up_to_final xs) ≡ read ++ rest
    tail = cc

    apart : (is_final e.what ≡ false) × (has_final read ≡ false)
    apart = neither (is_final e.what) (has_final read) none

    by : (b : Bool) → is_final x.what ≡ b → (up_to_final xs ≡ read ++ rest → has_final read ≡ false → (more : List Entry) × (xs ≡ read ++ more) × (rest ≡ up_to_final more))
        → (more : List Entry) × (x ∷ xs ≡ e ∷ read ++ more) × (rest ≡ up_to_final more)
    by true f on = let never : true ≡ false = sym f ∙ ap (λ (y : Entry). is_final y.what) head ∙ apart.0 in cc
    by false f on =
        let found = on (sym (ap (λ b. cond b [] (up_to_final xs)) f) ∙ tail) apart.1 in
        (found.0, (λ i. head i ∷ found.1 i), found.2)
