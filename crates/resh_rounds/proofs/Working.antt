-- Each row of a link takes of its work.
use Rattle.std.proofs.Common.{◌≡◌, ◌<◌, ◌≤◌, ◌⊎◌, inl, inr, ℕ, zero, suc, ◌+◌, ◌-◌, ◌*◌, min, Bool, true, false, not, ◌&&◌, List, [], ◌∷◌, ◌++◌, drop, length, map, nat_lt, Option, Some, None, is_some, refl, sym, ap, subst, ◌∙◌}
use Rattle.std.specs.Option.{option_map_or}
use Rattle.std.proofs.lemmas.Bool.Decides.{nat_tests}
use native.Mathlib.Omega.{arith}
use Rattle.resh_feed.specs.Items.{Document, cloned_item, fetched_item}
use Rattle.resh_oplog.specs.declared.entry.Entry.{Entry}
use Rattle.resh_fetcher.specs.Conditions.{may_clone, may_cut, may_fetch, may_keep}
use Rattle.resh_fetcher.specs.Links.{LinkOf, batch_kept, kept_at, out_end, sent_out, with_cloned, with_fetched}
use Rattle.resh_fetcher.specs.declared.state.Out.{Out}
use Rattle.resh_ending.proofs.Applying.{both}
use Rattle.resh_ending.proofs.Places.{length-map}
use Rattle.resh_rounds.specs.Working.{LinkRowsPay, got, one, work, work_of}

-- lengths
zero_on : (n : ℕ) → n ≡ 0 + n
zero_on n = omega arith

behind : {X Y : Type 0} (f : Y → X) (xs : List X) (ys : List Y) → length (xs ++ map f ys) ≡ length xs + length ys
behind f [] ys = length-map f ys ∙ zero_on (length ys)
behind f (x ∷ xs) ys = on (length (xs ++ map f ys)) (length xs) (length ys) (behind f xs ys)
  where
    on : (a b c : ℕ) → a ≡ b + c → suc a ≡ suc b + c
    on a b c e = omega arith

front_and_rest : {X : Type 0} (n : ℕ) (xs : List X) → min n (length xs) + length (drop n xs) ≡ length xs
front_and_rest zero xs = none (length xs)
  where
    none : (a : ℕ) → min 0 a + a ≡ a
    none a = omega arith
front_and_rest (suc n) [] = nothing n
  where
    nothing : (n : ℕ) → min (suc n) 0 + 0 ≡ 0
    nothing n = omega arith
front_and_rest (suc n) (x ∷ xs) = on n (length xs) (length (drop n xs)) (front_and_rest n xs)
  where
    on : (n a b : ℕ) → min n a + b ≡ a → min (suc n) (suc a) + b ≡ suc a
    on n a b e = omega arith

below : (a b : ℕ) → nat_lt a b ≡ true → a < b
below a b e = grind (arith, nat_tests)

is_below : (a b : ℕ) → a < b → nat_lt a b ≡ true
is_below a b lt = grind (arith, nat_tests)

one_small : (t : Bool) → one t ≤ 1
one_small true = most
  where
    most : 1 ≤ 1
    most = omega arith
one_small false = least
  where
    least : 0 ≤ 1
    least = omega arith

unread_is : (t : Bool) → t ≡ false → one (not t) ≡ 1
unread_is true e = cc
unread_is false e = refl

none_is : (t : Bool) → t ≡ true → one (not t) ≡ 0
none_is true e = refl
none_is false e = cc

not_true : (t : Bool) → not t ≡ true → t ≡ false
not_true true e = cc
not_true false e = refl

-- a clone
some_clones : (total end b o k r s n c : ℕ) → c ≡ b + suc k → end + b + suc k ≤ total → r ≤ 1 → s ≡ 1
    → work_of total end c o r n < work_of total end b o s n
some_clones total end b o k r s n c is h small e = omega arith

no_clones : (total end b o r s n c : ℕ) → c ≡ b + 0 → r ≡ 0 → s ≡ 1 → work_of total end c o r n < work_of total end b o s n
no_clones total end b o r s n c is h e = omega arith

clones_pay : (total : ℕ) (l : LinkOf) (docs : List Document) → 0 < l.batch → may_clone l ≡ true → got l + length docs ≤ total
    → work total (with_cloned l docs (nat_lt (length docs) l.batch)) < work total l
clones_pay total l [] some may within =
    no_clones total (out_end l.kept l.out) (length l.buffer) (one (is_some l.out)) (one (not (nat_lt 0 l.batch))) (one (not l.read_out))
    (one (not l.near)) (length (l.buffer ++ map cloned_item [])) (behind cloned_item l.buffer [])
    (none_is (nat_lt 0 l.batch) (is_below 0 l.batch some))
    (unread_is l.read_out (not_true l.read_out (both l.is_open (not l.read_out) may).1))
clones_pay total l (d ∷ docs) some may within =
    some_clones total (out_end l.kept l.out) (length l.buffer) (one (is_some l.out)) (length docs)
    (one (not (nat_lt (length (d ∷ docs)) l.batch))) (one (not l.read_out)) (one (not l.near))
    (length (l.buffer ++ map cloned_item (d ∷ docs))) (behind cloned_item l.buffer (d ∷ docs)) within
    (one_small (not (nat_lt (length (d ∷ docs)) l.batch)))
    (unread_is l.read_out (not_true l.read_out (both l.is_open (not l.read_out) may).1))

-- a fetch
some_fetched : (total end b o k r n m c : ℕ) → c ≡ b + suc k → end + b + suc k ≤ total → m ≤ 1
    → work_of total end c o r m < work_of total end b o r n
some_fetched total end b o k r n m c is h small = omega arith

none_fetched : (total end b o r n m c : ℕ) → c ≡ b + 0 → m ≡ 0 → n ≡ 1 → work_of total end c o r m < work_of total end b o r n
none_fetched total end b o r n m c is h e = omega arith

fetches_pay : (total : ℕ) (l : LinkOf) (entries : List Entry) → 0 < l.batch → got l + length entries ≤ total
    → (work total (with_fetched l entries) < work total l) ⊎ ((entries ≡ []) × (l.near ≡ true))
fetches_pay total l [] some within = by l.near refl
  where
    by : (t : Bool) → l.near ≡ t
        → (work total (with_fetched l []) < work total l) ⊎ ((let none : List Entry = [] in none ≡ []) × (l.near ≡ true))
    by true is = inr (refl, is)
    by false is =
        inl (none_fetched total (out_end l.kept l.out) (length l.buffer) (one (is_some l.out)) (one (not l.read_out)) (one (not l.near))
        (one (not (nat_lt 0 l.batch))) (length (l.buffer ++ map fetched_item [])) (behind fetched_item l.buffer [])
        (none_is (nat_lt 0 l.batch) (is_below 0 l.batch some)) (unread_is l.near is))
fetches_pay total l (e ∷ entries) some within =
    inl (some_fetched total (out_end l.kept l.out) (length l.buffer) (one (is_some l.out)) (length entries) (one (not l.read_out))
    (one (not l.near)) (one (not (nat_lt (length (e ∷ entries)) l.batch))) (length (l.buffer ++ map fetched_item (e ∷ entries)))
    (behind fetched_item l.buffer (e ∷ entries)) within (one_small (not (nat_lt (length (e ∷ entries)) l.batch))))

-- a cut
cut_falls : (total end p b d m o r n : ℕ) → o ≡ 0 → end ≡ p → m + d ≡ b → 0 < m → work_of total (p + m) d 1 r n < work_of total end b o r n
cut_falls total end p b d m o r n out at is some = omega arith

some_least : (a b : ℕ) → 0 < a → 0 < b → 0 < min a b
some_least a b h k = omega arith

no_batch : (l : LinkOf) (o : Option Out) → l.out ≡ o → is_some o ≡ false → (one (is_some l.out) ≡ 0) × (out_end l.kept l.out ≡ l.kept.place)
no_batch l None is none = (ap (λ (o : Option Out). one (is_some o)) is, ap (out_end l.kept) is)
no_batch l (Some out) is none = cc

cuts_pay : (total : ℕ) (l : LinkOf) (ends : List ℕ) → 0 < l.batch → may_cut l ≡ true
    → work total (sent_out l l.batch ends) < work total l
cuts_pay total l ends some may =
    let parts : (not (is_some l.out) ≡ true) × (nat_lt 0 (length l.buffer) ≡ true)
    = both (not (is_some l.out)) (nat_lt 0 (length l.buffer)) may in
    let none : (one (is_some l.out) ≡ 0) × (out_end l.kept l.out ≡ l.kept.place)
    = no_batch l l.out refl (not_true (is_some l.out) parts.0) in
    cut_falls total (out_end l.kept l.out) l.kept.place (length l.buffer) (length (drop l.batch l.buffer)) (min l.batch (length l.buffer))
    (one (is_some l.out)) (one (not l.read_out)) (one (not l.near)) none.0 none.1 (front_and_rest l.batch l.buffer)
    (some_least l.batch (length l.buffer) some (below 0 (length l.buffer) parts.1))

-- a batch that is kept
kept_falls : (total end p b o r n : ℕ) → o ≡ 1 → end ≡ p → work_of total p b 0 r n < work_of total end b o r n
kept_falls total end p b o r n out at = omega arith

keeps_pay : (total : ℕ) (l : LinkOf) → may_keep l ≡ true → work total (batch_kept l) < work total l
keeps_pay total l may = by l.out refl may
  where
    by : (o : Option Out) → l.out ≡ o → is_some o ≡ true
        → work total (option_map_or (λ (out : Out). let k : LinkOf = record l { kept = kept_at l out; out = None } in k) o l) < work total l
    by None is some = cc
    by (Some out) is some =
        kept_falls total (out_end l.kept l.out) out.place (length l.buffer) (one (is_some l.out)) (one (not l.read_out)) (one (not l.near))
        (ap (λ (o : Option Out). one (is_some o)) is) (ap (out_end l.kept) is)

pub link_rows_pay : LinkRowsPay
link_rows_pay = record { clones = clones_pay; fetches = fetches_pay; cuts = cuts_pay; keeps = keeps_pay }
