-- What stashes hold and what room they have, as one after another is reserved in, emptied or read.
use Rattle.std.proofs.Common.{◌≡◌, ◌≤◌, ◌<◌, ℕ, zero, suc, ◌+◌, ◌-◌, ◌^◌, List, [], ◌∷◌, ◌++◌, length, map, true, take, replicate, get_or, slice_index_or, slice_set, Option, None, IsOk, Result, Ok, Err, arith, refl, sym, ap, subst, ◌∙◌}
use Rattle.std.proofs.Math.Seq.{take-suc}
use Rattle.std.proofs.lemmas.List.{length-map, length-replicate, take_all}
use Rattle.std.specs.FinMap.{empty, entries, get, get-empty, len, len-empty, values}
use Rattle.std.specs.List.{Contains}
use Rattle.std.proofs.lemmas.List.Elements.{All-cons, All-nil}
use Rattle.resh_value.specs.Order.{compare_of}
use Rattle.resh_value.specs.OrderLaws.{compare_same, compare_total}
use Rattle.resh_value.specs.Whole.{is_whole}
use Rattle.resh_value.proofs.MapEntries.{entry_found}
use Rattle.resh_value.proofs.WholeLaws.{whole_decides}
use Rattle.resh_value.specs.declared.value.Value.{Value}
use Rattle.resh_chunks.specs.Chunks.{Chunks}
use Rattle.resh_stash.specs.Stored.{Document, Stored, StashOf, first_id}
use Rattle.resh_rules.proofs.Ruling.{empty_sound}
use Rattle.resh_rules.proofs.Writing.{least_at}
use Rattle.resh_rules.specs.Pools.{AreWhole, PoolOf, IsKept, IsPool, cleared, documents_of, first_stashed, held_of, lesser, pool_of, spare_of, stashed, waiting_of}
use Rattle.resh_rules.specs.Slots.{IsSound}
use Rattle.resh_rules.specs.Upkeep.{HaveRoom}

-- a stash that is emptied
pub emptied_more : (stashes : List StashOf) (place : ℕ) (s : StashOf) → place < length stashes → documents_of (take place stashes) ≡ replicate place empty → s.documents ≡ empty
    → documents_of (take (suc place) (slice_set stashes place s)) ≡ replicate (suc place) empty
emptied_more [] place s within is e = absurd (omega (arith, within))
emptied_more (t ∷ ts) zero s within is e = ap (λ d. d ∷ []) e
emptied_more (t ∷ ts) (suc place) s within is e =
    let rest = emptied_more ts place s (omega (arith, within)) (cc) e in
    let first : t.documents ≡ empty = cc in
    λ i. first i ∷ rest i

-- a stash that holds what it held
pub kept_at : (stashes : List StashOf) (place : ℕ) (s s' : StashOf) → place < length stashes → s ≡ slice_index_or stashes place s → s'.documents ≡ s.documents
    → documents_of (slice_set stashes place s') ≡ documents_of stashes
kept_at [] place s s' within is same = absurd (omega (arith, within))
kept_at (t ∷ ts) zero s s' within is same = let first : s'.documents ≡ t.documents = same ∙ ap (λ (u : StashOf). u.documents) is in λ i. first i ∷ documents_of ts
kept_at (t ∷ ts) (suc place) s s' within is same = ap (λ ds. t.documents ∷ ds) (kept_at ts place s s' (omega (arith, within)) is same)

-- a stash that has room
pub room_more : (n : ℕ) (stashes : List StashOf) (place : ℕ) (s : StashOf) → place < length stashes → HaveRoom (take place stashes) n → n ≤ s.spare → HaveRoom (take (suc place) (slice_set stashes place s)) n
room_more n [] place s within have room output h = absurd (omega (arith, within))
room_more n (t ∷ ts) zero s within have room output h = omega (arith, room, h)
room_more n (t ∷ ts) (suc place) s within have room output h =
    let both = have output h in
    let rest = room_more n ts place s (omega (arith, within)) (λ o k. let b = have o k in omega (arith, b)) room output h in
    omega (arith, both, rest)

-- the room of a pool by that of its output
pub spare_within : (output : StashOf) (stashes : List StashOf) → spare_of output stashes ≤ output.spare
spare_within output [] = omega arith
spare_within output (s ∷ ss) = let rest = spare_within output ss in omega (arith, rest)

pub spare_more : (output output' : StashOf) (stashes : List StashOf) → output.spare ≤ output'.spare → spare_of output stashes ≤ spare_of output' stashes
spare_more output output' [] more = more
spare_more output output' (s ∷ ss) more = let rest = spare_more output output' ss more in omega (arith, rest)

pub have_room : (n : ℕ) (output : StashOf) (stashes : List StashOf) → n ≤ spare_of output stashes → HaveRoom stashes n
have_room n output [] enough other h = h
have_room n output (s ∷ ss) enough other h = let rest = have_room n output ss (omega (arith, enough)) other h in omega (arith, enough, rest)

pub room_at : (n : ℕ) (stashes : List StashOf) (place : ℕ) (s : StashOf) → HaveRoom stashes n → place < length stashes → s ≡ slice_index_or stashes place s → n ≤ s.spare
room_at n stashes place s have within is =
    let output : StashOf = record { documents = empty; spare = n } in
    let enough = have output (omega arith) in
    let least = least_at output stashes place s within in
    let here = ap (λ (t : StashOf). t.spare) is in
    omega (arith, enough, least, here)

-- what surely succeeds didn't fail
pub failed : {X Y : Type 0} (P : Type 0) (r : Result X Y) (e : Y) → r ≡ Err e → IsOk r → P
failed P (Ok x) e was is = cc
failed P (Err f) e was is = cc

-- no stash, no document
pub counted_none : (stashes : List StashOf) → length stashes < 1 → stashed (documents_of stashes) ≡ 0
counted_none [] none = refl
counted_none (t ∷ ts) none = absurd (omega (arith, none))

-- the least `_id` of stashes and of one `_id` more
abbrev pub least_with : List Stored → Option Value → Option Value
least_with [] b = b
least_with (stash ∷ stashes) b = lesser (first_id stash) (least_with stashes b)

pub least_with_none : (stashes : List Stored) → least_with stashes None ≡ first_stashed stashes
least_with_none [] = refl
least_with_none (s ∷ ss) = ap (lesser (first_id s)) (least_with_none ss)

least_pushed : (stashes : List StashOf) (s : StashOf) (b : Option Value) → least_with (documents_of (stashes ++ s ∷ [])) b ≡ least_with (documents_of stashes) (lesser (first_id s.documents) b)
least_pushed [] s b = refl
least_pushed (t ∷ ts) s b = ap (lesser (first_id t.documents)) (least_pushed ts s b)

pub least_before : (stashes : List StashOf) (s : StashOf) (b : Option Value) → 1 ≤ length stashes → s ≡ get_or stashes (length stashes - 1) s
    → least_with (documents_of stashes) b ≡ least_with (documents_of (take (length stashes - 1) stashes)) (lesser (first_id s.documents) b)
least_before stashes s b some is =
    let ends : stashes ≡ take (length stashes - 1) stashes ++ s ∷ [] =
    sym (take_all (suc (length stashes - 1)) stashes (omega arith)) ∙ take-suc stashes (length stashes - 1) s (omega arith) ∙ ap (λ t. take (length stashes - 1) stashes ++ t ∷ []) (sym is) in
    ap (λ ss. least_with (documents_of ss) b) ends ∙ least_pushed (take (length stashes - 1) stashes) s b

-- a pool that holds nothing is sound
none_waits : (n : ℕ) (id : Value) (donor : ℕ) → slice_index_or (waiting_of (replicate n empty) id) donor None ≡ None
none_waits zero id donor = refl
none_waits (suc n) id zero = get-empty compare_of id
none_waits (suc n) id (suc donor) = none_waits n id donor

pub none_counted : (stashes : List StashOf) (donors : ℕ) → documents_of stashes ≡ replicate donors empty → stashed (documents_of stashes) ≡ 0
none_counted stashes donors is = ap stashed is ∙ by donors
  where
    by : (n : ℕ) → stashed (replicate n empty) ≡ 0
    by zero = refl
    by (suc n) = let none = len-empty compare_of Document in let rest = by n in omega (arith, none, rest)

pub nothing_kept : (old : Chunks) (donors : ℕ) (pool : PoolOf) → pool.chunks ≡ old → pool.output ≡ empty → pool.stashes ≡ replicate donors empty → donors < 2 ^ 32 → IsKept pool
nothing_kept old donors pool chunks none stashes few = record {
  pool = record {
    sound = λ id.
        let held : held_of pool id ≡ record { output = None; waiting = waiting_of (replicate donors empty) id } =
        let output : get pool.output id ≡ None = ap (λ (m : Stored). get m id) none ∙ get-empty compare_of id in
        λ i. record { output = output i; waiting = waiting_of (stashes i) id } in
        subst (λ h. IsSound pool.chunks id h) (sym held) (empty_sound pool.chunks id (waiting_of (replicate donors empty) id) (none_waits donors id));
    few = let many = ap length stashes ∙ length-replicate donors empty in omega (arith, many, few);
  };
  count = let none = ap stashed stashes ∙ none_of donors in omega (arith, none);
}
  where
    none_of : (n : ℕ) → stashed (replicate n empty) ≡ 0
    none_of zero = refl
    none_of (suc n) = let none = len-empty compare_of Document in let rest = none_of n in omega (arith, none, rest)

-- what is left where all goes
pub nothing_held : (old : Chunks) (stashes : List StashOf) (output output' : StashOf) (stashes' : List StashOf) → output'.documents ≡ empty → documents_of stashes' ≡ replicate (length stashes) empty
    → pool_of old output' stashes' ≡ cleared (pool_of old output stashes)
nothing_held old stashes output output' stashes' none nones =
    let many : length stashes ≡ length (documents_of stashes) = sym (length-map stashes (λ (s : StashOf). s.documents)) in
    let each = nones ∙ ap (λ n. replicate n empty) many in
    λ i. record { chunks = old; output = none i; stashes = each i }

-- each document of the output is whole
module _ (pool : PoolOf) (is : IsPool pool) where
  entries_whole : (es : List (Value × Document)) → ((q : Value) (d : Document) → Contains es (q, d) → is_whole d ≡ true) → AreWhole (map (λ (e : Value × Document). e.1) es)
  entries_whole [] each = All-nil (λ (d : Document). is_whole d ≡ true)
  entries_whole (e ∷ es) each = All-cons (λ (d : Document). is_whole d ≡ true) e.1 (map (λ (x : Value × Document). x.1) es) (each e.0 e.1 (0, omega arith, refl)) (entries_whole es (λ q d there. each q d (suc there.0, omega (arith, there.1), there.2)))

  pub all_whole : AreWhole (values pool.output)
  all_whole = entries_whole (entries pool.output) (λ q d there. (whole_decides d).1 ((is.sound q).output_whole d (entry_found compare_total compare_same pool.output q d there)))
