-- The piece of a position that was cut last.
use Rattle.std.proofs.Common.{◌≡◌, ◌<◌, ℕ, zero, suc, ◌==◌, Bool, true, false, cond, List, [], ◌∷◌, length, Option, Some, None, slice_index_or, refl, sym, ap, ◌∙◌, arith}
use Rattle.std.specs.List.{Contains}
use Rattle.std.specs.Option.{option_or}
use Rattle.std.specs.Prelude.{find, reverse}
use Rattle.std.proofs.lemmas.List.{reverse-append}
use Rattle.std.proofs.lemmas.List.Folds.{find-append}
use Rattle.resh_oplog.specs.declared.piece.Piece.{Piece}
use Rattle.resh_cells.specs.Cuts.{last_cut}

abbrev stands : ℕ → Piece → Bool
stands position piece = piece.position == position

one_more : (position : ℕ) (p : Piece) (pieces : List Piece)
    → last_cut (p ∷ pieces) position ≡ option_or (last_cut pieces position) (cond (stands position p) (Some p) None)
one_more position p pieces =
    ap (λ l. find (λ (q : Piece). q.position == position) l) (reverse-append (p ∷ []) pieces)
    ∙ find-append (λ (q : Piece). q.position == position) (reverse pieces) (p ∷ [])

further : (p x : Piece) (pieces : List Piece) → Contains pieces x → Contains (p ∷ pieces) x
further p x pieces (k, lt, is) = (suc k, omega (arith, lt), is)

-- one that is found stands there, and was cut
pub found : (pieces : List Piece) (position : ℕ) (x : Piece) → last_cut pieces position ≡ Some x
    → (stands position x ≡ true) × Contains pieces x
found [] position x e = cc
found (p ∷ pieces) position x e =
    by (last_cut pieces position) refl (stands position p) refl (sym (one_more position p pieces) ∙ e) (found pieces position x)
  where
    by : (o : Option Piece) → last_cut pieces position ≡ o → (t : Bool) → stands position p ≡ t
        → option_or o (cond t (Some p) None) ≡ Some x
        → (last_cut pieces position ≡ Some x → (stands position x ≡ true) × Contains pieces x)
        → (stands position x ≡ true) × Contains (p ∷ pieces) x
    by (Some y) is t at e rest = let behind = rest (is ∙ e) in (behind.0, further p x pieces behind.1)
    by None is true at e rest = let same : p ≡ x = cc in (ap (stands position) (sym same) ∙ at, (0, omega arith, same))
    by None is false at e rest = cc

-- where one was cut, one is found
pub finds : (pieces : List Piece) (position k : ℕ) (other : Piece) → k < length pieces
    → stands position (slice_index_or pieces k other) ≡ true → (x : Piece) × (last_cut pieces position ≡ Some x)
finds [] position k other lt at = absurd (omega (arith, lt))
finds (p ∷ pieces) position zero other lt at = by (last_cut pieces position) refl
  where
    by : (o : Option Piece) → last_cut pieces position ≡ o → (x : Piece) × (last_cut (p ∷ pieces) position ≡ Some x)
    by (Some y) is = (y, one_more position p pieces ∙ ap (λ o. option_or o (cond (stands position p) (Some p) None)) is)
    by None is = (p, one_more position p pieces ∙ ap (λ o. option_or o (cond (stands position p) (Some p) None)) is ∙ ap (λ t. cond t (Some p) None) at)
finds (p ∷ pieces) position (suc k) other lt at =
    let behind = finds pieces position k other (omega (arith, lt)) at in
    (behind.0, one_more position p pieces ∙ ap (λ o. option_or o (cond (stands position p) (Some p) None)) behind.1)
