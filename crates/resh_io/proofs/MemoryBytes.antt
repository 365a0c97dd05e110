-- What a source in memory gives in one call.
use Rattle.std.proofs.Common.{◌≡◌, ℕ, ◌+◌, ◌<◌, ◌≤◌, min, List, ◌++◌, [], length, take, drop, sym, ap, ◌∙◌, arith, take-append-drop}
use Rattle.std.proofs.lemmas.List.{take_at, drop_all, drop-drop, length-take-le}
use Rattle.std.proofs.Common.{length-drop}

-- what was copied was the front of the bytes left, and the others stay left
pub given-first : (all into copied : List ℕ) (at n : ℕ) → copied ≡ take n (drop at all) → n ≤ length (drop at all)
    → drop at all ≡ take n (copied ++ drop n into) ++ drop (at + n) all
given-first all into copied at n e fits =
    let left = drop at all in
    let count : length copied ≡ n = ap length e ∙ length-take-le n left fits in
    let front : take n (copied ++ drop n into) ≡ take n left = take_at copied (drop n into) n count ∙ e in
    sym (take-append-drop n left) ∙ ap (λ l. l ++ drop n left) (sym front) ∙ ap (λ l. take n (copied ++ drop n into) ++ l) (drop-drop n at all)

-- none was given where one had room only because none was left
pub given-none : (all : List ℕ) (at n most room : ℕ) → n ≡ min (min most room) (length (drop at all)) → 0 < most → 0 < room
    → n ≡ 0 → drop (at + n) all ≡ []
given-none all at n most room e some room_is none = drop_all (at + n) all (omega (arith, length-drop at all))
