-- What the tests of a link's conditions say.
use Rattle.std.proofs.Common.{◌≡◌, ◌↔◌, ◌<◌, ◌≤◌, ◌==◌, ℕ, Bool, true, false, not, ◌&&◌, cond, List, [], ◌∷◌, length, Option, Some, None, is_some, nat_le, nat_lt, refl, sym, ap, ◌∙◌, arith, rules, tests, ⊎_elim}
use Rattle.std.proofs.lemmas.Bool.{and_from, and_parts}
use Rattle.std.proofs.lemmas.Bool.Decides.{eqb_tells}
use Rattle.std.proofs.lemmas.List.Sums.{AllPass-from_list_all, list_all-from_AllPass}
use Rattle.resh_value.specs.Whole as value
use Rattle.resh_oplog.specs.Logs.{is_whole}
use Rattle.resh_oplog.specs.declared.entry.Entry.{Entry}
use Rattle.resh_feed.specs.Items.{Document, is_final, up_to_final}
use Rattle.resh_fetcher.specs.Conditions.{MayClone, MayFetch, MayCut, FitsClone, FitsFetch, FitsCut, fits_clone, fits_fetch, fits_cut, may_clone, may_fetch, may_cut}
use Rattle.resh_fetcher.specs.Links.{LinkOf}

off : (b : Bool) → not b ≡ true → b ≡ false
off true e = sym e
off false e = refl

on : (b : Bool) → b ≡ false → not b ≡ true
on b e = ap not e

none : {X : Type 0} (o : Option X) → not (is_some o) ≡ true → o ≡ None
none None e = refl
none (Some x) e = cc

le_of : (a b : ℕ) → nat_le a b ≡ true → a ≤ b
le_of a b h = search (arith, rules)

of_le : (a b : ℕ) → a ≤ b → nat_le a b ≡ true
of_le a b h = search (arith, rules)

lt_of : (a b : ℕ) → nat_lt a b ≡ true → a < b
lt_of a b h = search (arith, rules)

of_lt : (a b : ℕ) → a < b → nat_lt a b ≡ true
of_lt a b h = search (arith, rules)

eq_of : (a b : ℕ) → (a == b) ≡ true → a ≡ b
eq_of a b h = ⊎_elim (λ e. e.1) (λ e. absurd (never (sym e.0 ∙ h))) (eqb_tells a b)
  where
    never : false ≡ true → ⊥
    never e = cc

of_eq : (a b : ℕ) → a ≡ b → (a == b) ≡ true
of_eq a b h = ⊎_elim (λ e. e.0) (λ e. absurd (e.1 h)) (eqb_tells a b)

pub clone_by_test : (l : LinkOf) → (may_clone l ≡ true) ↔ MayClone l
clone_by_test l = (
  λ e. let t = and_parts _ _ e in record { is_open = t.0; reading = off l.read_out t.1 },
  λ m. and_from _ _ m.is_open (on l.read_out m.reading),
)

pub fetch_by_test : (l : LinkOf) → (may_fetch l ≡ true) ↔ MayFetch l
fetch_by_test l = (
  λ e. let t = and_parts _ _ e in let u = and_parts _ _ t.1 in record { is_open = t.0; read_out = u.0; going = off l.reading.finished u.1 },
  λ m. and_from _ _ m.is_open (and_from _ _ m.read_out (on l.reading.finished m.going)),
)

pub cut_by_test : (l : LinkOf) → (may_cut l ≡ true) ↔ MayCut l
cut_by_test l = (
  λ e. let t = and_parts _ _ e in record { none_out = none l.out t.0; filled = lt_of 0 (length l.buffer) t.1 },
  λ m. and_from _ _ (ap (λ o. not (is_some o)) m.none_out) (of_lt 0 (length l.buffer) m.filled),
)

pub fits_clone_by_test : (l : LinkOf) (documents : List Document) → (fits_clone l documents ≡ true) ↔ FitsClone l documents
fits_clone_by_test l documents = (
  λ e. let t = and_parts _ _ e in record { most = le_of (length documents) l.batch t.0; whole = AllPass-from_list_all value.is_whole documents t.1 },
  λ f. and_from _ _ (of_le (length documents) l.batch f.most) (list_all-from_AllPass value.is_whole documents f.whole),
)

long_enough : (e : Entry) (b : Bool) (es rest : List Entry) → (length rest ≡ length es → rest ≡ es) → length (e ∷ cond b [] rest) ≡ length (e ∷ es) → e ∷ cond b [] rest ≡ e ∷ es
long_enough e true [] rest same h = refl
long_enough e true (x ∷ xs) rest same h = absurd (omega (arith, h))
long_enough e false es rest same h = ap (λ l. e ∷ l) (same (omega (arith, h)))

same_where_long : (es : List Entry) → length (up_to_final es) ≡ length es → up_to_final es ≡ es
same_where_long [] h = refl
same_where_long (e ∷ es) h = long_enough e (is_final e.what) es (up_to_final es) (same_where_long es) h

pub fits_fetch_by_test : (l : LinkOf) (entries : List Entry) → (fits_fetch l entries ≡ true) ↔ FitsFetch l entries
fits_fetch_by_test l entries =
    let whole : Entry → Bool = λ entry. is_whole entry.what in (
      λ e. let t = and_parts _ _ e in
          let u = and_parts _ _ t.1 in record {
            most = le_of (length entries) l.batch t.0;
            whole = AllPass-from_list_all whole entries u.0;
            last = same_where_long entries (eq_of (length (up_to_final entries)) (length entries) u.1);
          },
      λ f. and_from _ _ (of_le (length entries) l.batch f.most)
          (and_from _ _ (list_all-from_AllPass whole entries f.whole) (of_eq (length (up_to_final entries)) (length entries) (ap length f.last))),
    )

pub fits_cut_by_test : (l : LinkOf) (most : ℕ) (ends : List ℕ) → (fits_cut l most ends ≡ true) ↔ FitsCut l most ends
fits_cut_by_test l most ends = (
  λ e. let t = and_parts _ _ e in record { some_item = lt_of 0 most t.0; each_lane = eq_of (length ends) l.lanes t.1 },
  λ f. and_from _ _ (of_lt 0 most f.some_item) (of_eq (length ends) l.lanes f.each_lane),
)
