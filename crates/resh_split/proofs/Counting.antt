-- Positions, one item more at a time.
use Rattle.std.proofs.Common.{◌≡◌, ℕ, ◌+◌, ◌≤◌, List, [], ◌∷◌, ◌++◌, Some, None, length, map, take, slice_get, option_map, sym, ap, ◌∙◌, ⊎_elim, arith}
use Rattle.std.proofs.lemmas.List.{take_all, take_more}
use Rattle.std.proofs.lemmas.List.Sums.{fold-append}
use Rattle.std.proofs.lemmas.Option.{none-some, slice_get-map, slice_get_cases, slice_get_within, get_or_from_slice_get}
use Rattle.resh_oplog.specs.declared.entry.What.{What}
use Rattle.resh_feed.specs.declared.item.Item.{Item}
use Rattle.resh_feed.specs.Lanes.{counted, counts_after, item_lane}

took : {X : Type 0} (xs : List X) (i : ℕ) (x : X) → slice_get xs i ≡ Some x → take (i + 1) xs ≡ take i xs ++ x ∷ []
took xs i x h = take_more xs i x (slice_get_within xs i x h) ∙ ap (λ y. take i xs ++ y ∷ []) (get_or_from_slice_get xs i x x h)

over : {X : Type 0} (xs : List X) (i : ℕ) → slice_get xs i ≡ None → length xs ≤ i
over xs i h = ⊎_elim (λ u. absurd (none-some u.0 (sym h ∙ u.2))) (λ u. u.0) ((slice_get_cases xs i).1)

abbrev whats : List Item → List What
whats items = map (λ (item : Item). item.what) items

pub counts_behind : (lanes : ℕ) (counts : List ℕ) (before : List What) (what : What) → counts_after lanes counts (before ++ what ∷ []) ≡ counted (counts_after lanes counts before) (item_lane lanes what)
counts_behind lanes counts before what = fold-append (λ before w. counted before (item_lane lanes w)) counts before (what ∷ [])

-- an item of the buffer is counted
pub counts_more : (lanes : ℕ) (counts : List ℕ) (items : List Item) (i : ℕ) (what : What) → Some what ≡ option_map (λ (item : Item). item.what) (slice_get items i)
    → counted (counts_after lanes counts (take i (whats items))) (item_lane lanes what) ≡ counts_after lanes counts (take (i + 1) (whats items))
counts_more lanes counts items i what h =
    let found = slice_get-map (λ (item : Item). item.what) items i ∙ sym h in
    sym (ap (counts_after lanes counts) (took (whats items) i what found) ∙ counts_behind lanes counts (take i (whats items)) what)

-- where the buffer ends, all is counted
pub counts_all : (lanes : ℕ) (counts : List ℕ) (items : List Item) (i most : ℕ) → None ≡ option_map (λ (item : Item). item.what) (slice_get items i) → i ≤ most
    → counts_after lanes counts (take i (whats items)) ≡ counts_after lanes counts (take most (whats items))
counts_all lanes counts items i most h le =
    let past = over (whats items) i (slice_get-map (λ (item : Item). item.what) items i ∙ sym h) in
    ap (counts_after lanes counts) (take_all i (whats items) past ∙ sym (take_all most (whats items) (omega (arith, past, le))))
