-- No piece is found at a position above all.
use Rattle.std.proofs.Common.{◌≡◌, ◌<◌, ◌≤◌, ℕ, ◌==◌, Bool, true, false, cond, List, [], ◌∷◌, ◌++◌, Option, Some, None, refl, ap, ◌∙◌, arith}
use Rattle.std.specs.Prelude.{find, reverse}
use Rattle.std.proofs.lemmas.List.{reverse-append}
use Rattle.resh_oplog.specs.declared.piece.Piece.{Piece}
use Rattle.resh_cells.specs.Cuts.{last_cut, AreBelow}

none_step : {X : Type 0} (t : Bool) (x : X) (one both : Option X) → (one ≡ None → both ≡ None) → cond t (Some x) one ≡ None → cond t (Some x) both ≡ None
none_step true x one both f e = cc
none_step false x one both f e = f e

none_in_both : {X : Type 0} (p : X → Bool) (a b : List X) → find p a ≡ None → find p b ≡ None → find p (a ++ b) ≡ None
none_in_both p [] b none_a none_b = none_b
none_in_both p (x ∷ a) b none_a none_b = none_step (p x) x (find p a) (find p (a ++ b)) (λ e. none_in_both p a b e none_b) none_a

isnt_at : (end position n : ℕ) → n < end → end ≤ position → (n == position) ≡ false
isnt_at end position n below above = grind arith

none_in_one : (end position : ℕ) (p : Piece) → p.position < end → end ≤ position → find (λ (q : Piece). q.position == position) (p ∷ []) ≡ None
none_in_one end position p below above = ap (λ t. cond t (Some p) None) (isnt_at end position p.position below above)

pub none_past : (end position : ℕ) (pieces : List Piece) → AreBelow end pieces → end ≤ position → last_cut pieces position ≡ None
none_past end position [] all above = refl
none_past end position (p ∷ pieces) all above =
    ap (λ l. find (λ (q : Piece). q.position == position) l) (reverse-append (p ∷ []) pieces)
    ∙ none_in_both (λ (q : Piece). q.position == position) (reverse pieces) (p ∷ []) (none_past end position pieces all.1 above) (none_in_one end position p all.0 above)
