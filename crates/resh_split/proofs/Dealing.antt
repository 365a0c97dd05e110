-- Parts and pieces, one item more at a time.
use Rattle.std.proofs.Common.{◌≡◌, ◌≢◌, ℕ, ◌+◌, ◌<◌, Bool, true, false, cond, ◌==◌, List, [], ◌∷◌, ◌++◌, Option, Some, None, length, map, replicate, get_or, set, refl, sym, ap, subst, ◌∙◌, ⊎_elim, arith, length-set}
use Rattle.std.specs.List.{range_with_len}
use Rattle.std.proofs.lemmas.List.{append-nil, append_assoc, ext_get_or, get_or-set_same, get_or-set_other, get_or-replicate, length-replicate, length-append}
use Rattle.std.proofs.lemmas.List.Elements.{filter-append}
use Rattle.std.proofs.lemmas.List.FromFn.{length-map-range_with_len, get_or-map-range_with_len}
use Rattle.std.proofs.lemmas.Bool.Decides.{eqb_tells}
use Rattle.std.proofs.Math.Nat.{add-zero, zero-add, mod-lt}
use Rattle.resh_value.specs.declared.value.ShardId.{ShardId}
use Rattle.resh_oplog.specs.Logs.{id_written}
use Rattle.resh_oplog.specs.declared.entry.What.{What}
use Rattle.resh_oplog.specs.declared.piece.Piece.{Piece}
use Rattle.resh_split.proofs.Counting.{counts_behind}
use Rattle.resh_feed.specs.Lanes.{counted, counts_after, id_lane, item_lane}
use Rattle.resh_split.specs.Parts.{part_of, parts_of, pieces_from, pieces_of, put_all, put_in}

-- one more of a list of values by number is another
changed_at : {X : Type 0} (f g : ℕ → X) (n l : ℕ) (d : X) → l < n → ((j : ℕ) → j ≢ l → g j ≡ f j) → map g (range_with_len 0 n) ≡ set (map f (range_with_len 0 n)) l (g l)
changed_at f g n l d h same =
    let many = length-map-range_with_len g 0 n in
    let fewer = length-map-range_with_len f 0 n in
    ext_get_or d _ _ (many ∙ sym (length-set (map f (range_with_len 0 n)) l (g l) ∙ fewer))
    (λ i lt. let within = subst (λ m. i < m) many lt in
    get_or-map-range_with_len g 0 n i i d within (zero-add i)
    ∙ ⊎_elim (λ e. ap g e.1 ∙ sym (ap (λ k. get_or (set (map f (range_with_len 0 n)) l (g l)) k d) e.1 ∙ get_or-set_same (map f (range_with_len 0 n)) l (g l) d (subst (λ m. l < m) (sym fewer) h)))
    (λ e. same i e.1 ∙ sym (get_or-set_other (map f (range_with_len 0 n)) l i (g l) d e.1 ∙ get_or-map-range_with_len f 0 n i i d within (zero-add i))) (eqb_tells i l))

alone : (lanes : ℕ) (piece : Piece) (lane : ℕ) (here : Bool) → (id_lane piece.id lanes == lane) ≡ here → part_of lanes (piece ∷ []) lane ≡ cond here (piece ∷ []) []
alone lanes piece lane here e = ap (λ b. cond b (piece ∷ []) []) e

pub put_one : (lanes : ℕ) (all : List Piece) (piece : Piece) → 0 < lanes → put_in (parts_of lanes all) (id_lane piece.id lanes) piece ≡ parts_of lanes (all ++ piece ∷ [])
put_one lanes all piece h =
    let lane = id_lane piece.id lanes in
    let within : lane < lanes = mod-lt _ h in
    let here : part_of lanes (all ++ piece ∷ []) lane ≡ part_of lanes all lane ++ piece ∷ [] =
    filter-append (λ p. id_lane p.id lanes == lane) all (piece ∷ []) ∙ ap (λ ps. part_of lanes all lane ++ ps) (alone lanes piece lane true (⊎_elim (λ e. e.0) (λ e. absurd (e.1 refl)) (eqb_tells lane lane))) in
    let elsewhere : (j : ℕ) → j ≢ lane → part_of lanes (all ++ piece ∷ []) j ≡ part_of lanes all j = λ j apart. filter-append (λ p. id_lane p.id lanes == j) all (piece ∷ []) ∙ ap (λ ps. part_of lanes all j ++ ps) (alone lanes piece j false (⊎_elim (λ e. absurd (apart (sym e.1))) (λ e. e.0) (eqb_tells lane j))) ∙ append-nil _ in
    let found = get_or-map-range_with_len (part_of lanes all) 0 lanes lane lane [] within (zero-add lane) in
    sym (changed_at (part_of lanes all) (part_of lanes (all ++ piece ∷ [])) lanes lane [] within elsewhere
    ∙ ap (set (parts_of lanes all) lane) (here ∙ ap (λ ps. ps ++ piece ∷ []) (sym found)))

pub put_these : (lanes : ℕ) (all more : List Piece) → 0 < lanes → put_all lanes (parts_of lanes all) more ≡ parts_of lanes (all ++ more)
put_these lanes all [] h = ap (parts_of lanes) (sym (append-nil all))
put_these lanes all (piece ∷ more) h =
    ap (λ parts. put_all lanes parts more) (put_one lanes all piece h) ∙ put_these lanes (all ++ piece ∷ []) more h ∙ ap (parts_of lanes) (append_assoc all (piece ∷ []) more)

-- the pieces of one more item
pub pieces_behind : (lanes : ℕ) (donor : ShardId) (time place : ℕ) (counts : List ℕ) (whats : List What) (what : What)
    → pieces_from lanes donor time place counts (whats ++ what ∷ []) ≡ pieces_from lanes donor time place counts whats ++ pieces_of lanes donor time (place + length whats) (counts_after lanes counts whats) what (id_written what)
pieces_behind lanes donor time place counts [] what = append-nil _ ∙ ap (λ p. pieces_of lanes donor time p counts what (id_written what)) (sym (add-zero place))
pieces_behind lanes donor time place counts (w ∷ ws) what =
    let first = pieces_of lanes donor time place counts w (id_written w) in
    let later = counted counts (item_lane lanes w) in
    let moved : place + 1 + length ws ≡ place + length (w ∷ ws) = omega arith in
    ap (λ ps. first ++ ps) (pieces_behind lanes donor time (place + 1) later ws what ∙ ap (λ p. pieces_from lanes donor time (place + 1) later ws ++ pieces_of lanes donor time p (counts_after lanes later ws) what (id_written what)) moved)
    ∙ sym (append_assoc first (pieces_from lanes donor time (place + 1) later ws) (pieces_of lanes donor time (place + length (w ∷ ws)) (counts_after lanes later ws) what (id_written what)))

pub parts_more : (lanes l : ℕ) (donor : ShardId) (time start place : ℕ) (starts counts : List ℕ) (whats : List What) (what : What) (parts new : List (List Piece)) → 0 < lanes → l ≡ lanes → place ≡ start + length whats
    → counts ≡ counts_after lanes starts whats → parts ≡ parts_of lanes (pieces_from lanes donor time start starts whats)
    → new ≡ put_all l parts (pieces_of l donor time place counts what (id_written what)) → new ≡ parts_of lanes (pieces_from lanes donor time start starts (whats ++ what ∷ []))
parts_more lanes l donor time start place starts counts whats what parts new h same at counted_on held put =
    put ∙ (λ i. put_all (same i) (held i) (pieces_of (same i) donor time (at i) (counted_on i) what (id_written what)))
    ∙ put_these lanes (pieces_from lanes donor time start starts whats) (pieces_of lanes donor time (start + length whats) (counts_after lanes starts whats) what (id_written what)) h
    ∙ ap (parts_of lanes) (sym (pieces_behind lanes donor time start starts whats what))

pub positions_more : (lanes l : ℕ) (starts counts new : List ℕ) (whats : List What) (what : What) → l ≡ lanes → counts ≡ counts_after lanes starts whats → new ≡ counted counts (item_lane l what)
    → new ≡ counts_after lanes starts (whats ++ what ∷ [])
positions_more lanes l starts counts new whats what same before count = count ∙ (λ i. counted (before i) (item_lane (same i) what)) ∙ sym (counts_behind lanes starts whats what)

as_many : (counts : List ℕ) (lane : Option ℕ) → length (counted counts lane) ≡ length counts
as_many counts None = refl
as_many counts (Some lane) = length-set counts lane (get_or counts lane 0 + 1)

pub positions_many : (lanes : ℕ) (starts : List ℕ) (whats : List What) → length (counts_after lanes starts whats) ≡ length starts
positions_many lanes starts [] = refl
positions_many lanes starts (what ∷ whats) = positions_many lanes (counted starts (item_lane lanes what)) whats ∙ as_many starts (item_lane lanes what)

pub parts_many : (lanes : ℕ) (all : List Piece) → length (parts_of lanes all) ≡ lanes
parts_many lanes all = length-map-range_with_len (part_of lanes all) 0 lanes

pub no_parts : (lanes : ℕ) → replicate lanes [] ≡ parts_of lanes []
no_parts lanes =
    let none : List Piece = [] in
    ext_get_or none (replicate lanes none) (parts_of lanes []) (length-replicate lanes none ∙ sym (parts_many lanes []))
    (λ i lt. let within = subst (λ m. i < m) (length-replicate lanes none) lt in get_or-replicate lanes i none none within ∙ sym (get_or-map-range_with_len (part_of lanes []) 0 lanes i i none within (zero-add i)))

pub place_more : (start : ℕ) (whats : List What) (what : What) → start + length whats + 1 ≡ start + length (whats ++ what ∷ [])
place_more start whats what = let n = length-append whats (what ∷ []) in omega (arith, n)
