-- Entries behind others, as far as they are told: up to a final one.
use Rattle.std.proofs.Common.{◌≡◌, ◌||◌, Bool, true, false, cond, List, [], ◌∷◌, ◌++◌, refl, sym, ap}
use Rattle.resh_feed.specs.Items.{has_final, is_final, up_to_final}
use Rattle.resh_oplog.specs.declared.entry.Entry.{Entry}
use Rattle.resh_invariant.proofs.Ones.{never}

pub nothing_more : {X : Type 0} (a : List X) → a ++ [] ≡ a
nothing_more [] = refl
nothing_more (x ∷ a) = ap (λ l. x ∷ l) (nothing_more a)

-- those behind are told where there was no final one
pub up_to_more : (a b : List Entry) → up_to_final (a ++ b) ≡ up_to_final a ++ cond (has_final a) [] (up_to_final b)
up_to_more [] b = refl
up_to_more (e ∷ a) b = ap (λ l. e ∷ l) (by (is_final e.what) (up_to_more a b))
  where
    by : (t : Bool) → up_to_final (a ++ b) ≡ up_to_final a ++ cond (has_final a) [] (up_to_final b)
        → cond t [] (up_to_final (a ++ b)) ≡ cond t [] (up_to_final a) ++ cond (t || has_final a) [] (up_to_final b)
    by true rest = refl
    by false rest = rest

-- the final one is told
pub has_up_to : (a : List Entry) → has_final (up_to_final a) ≡ has_final a
has_up_to [] = refl
has_up_to (e ∷ a) = by (is_final e.what) (has_up_to a)
  where
    by : (t : Bool) → has_final (up_to_final a) ≡ has_final a → (t || has_final (cond t [] (up_to_final a))) ≡ (t || has_final a)
    by true rest = refl
    by false rest = rest

pub has_more : (a b : List Entry) → has_final a ≡ true → has_final (a ++ b) ≡ true
has_more [] b h = never (sym h)
has_more (e ∷ a) b h = by (is_final e.what) (has_more a b) h
  where
    by : (t : Bool) → (has_final a ≡ true → has_final (a ++ b) ≡ true) → (t || has_final a) ≡ true → (t || has_final (a ++ b)) ≡ true
    by true rest k = refl
    by false rest k = rest k
