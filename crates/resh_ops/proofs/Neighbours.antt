-- In their order, the path that begins another, or is begun by it, stands beside it.
use Rattle.std.proofs.Common.{◌≡◌, ◌∙◌, ℕ, ◌+◌, ◌<◌, cond, Some, get_or, take, drop, Bool, true, false, Bor, List, [], ◌∷◌, ◌++◌, map, refl, sym, ap, subst, BTreeSet, length}
use Rattle.std.specs.Prelude.{◌&&◌, ◌||◌}
use Rattle.std.specs.declared.cmp.Ordering.{Ordering}
use Rattle.std.specs.declared.cmp.Ordering.TheVariants.{Less, Equal, Greater}
use Rattle.std.specs.Ordering.{is_eq, is_gt, is_lt, ordering_then, ordering_reverse, match_ordering}
use Rattle.std.specs.Cmp.{IsTotalOrder}
use Rattle.std.proofs.lemmas.Cmp.{on_total}
use Rattle.std.specs.Cmp.Lexicographic.{lists_total, same_text, nat_list_eq_equiv}
use Rattle.std.specs.List.{list_any, starts_with}
use Rattle.std.specs.BTreeSet.{contains, insert_key, IsKeyRangeOf}
use Rattle.std.specs.declared.ops.Bound.TheVariants.{Included, Unbounded}
use Rattle.std.proofs.lemmas.List.Folds.{list_any_none, list_any-append}
use Rattle.std.proofs.lemmas.List.{take_more, drop_more, map-append}
use Rattle.std.proofs.lemmas.List.Elements.{All-weaker}
use Rattle.std.proofs.lemmas.Map.Views.{All-set_contains}
use Rattle.resh_value.specs.Names.{name_cmp, same_name}
use Rattle.resh_value.proofs.Names.{name_cmp_total, name_cmp-itself, same_from_equal, greater_from_less, by_order}
use Rattle.resh_ops.specs.Apart.{path_cmp, IsAmong, AreApart}
use Rattle.resh_ops.specs.Paths.{Path, is_related}
use Rattle.resh_ops.specs.Reading.{first_conflict}

path_cmp_total : IsTotalOrder path_cmp
path_cmp_total = lists_total name_cmp_total

path_cmp-itself : (p : Path) → path_cmp p p ≡ Equal
path_cmp-itself [] = refl
path_cmp-itself (name ∷ rest) = ap (λ o. ordering_then o (path_cmp rest rest)) (name_cmp-itself name) ∙ path_cmp-itself rest

same_path : (p q : Path) → is_eq (path_cmp p q) ≡ true → p ≡ q
same_path [] [] e = refl
same_path [] (b ∷ q) e = cc
same_path (a ∷ p) [] e = cc
same_path (a ∷ p) (b ∷ q) e =
    let both : Ordering → Type 0 = λ o. is_eq (ordering_then o (path_cmp p q)) ≡ true in
    by_order (name_cmp a b)
    (λ h. let wrong : is_eq (ordering_then Less (path_cmp p q)) ≡ true = subst both h e in cc)
    (λ h. let rest : p ≡ q = same_path p q (subst both h e) in let first : a ≡ b = same_from_equal a b h in cc)
    (λ h. let wrong : is_eq (ordering_then Greater (path_cmp p q)) ≡ true = subst both h e in cc)

both_true : (a b : Bool) → (a && b) ≡ true → (a ≡ true) × (b ≡ true)
both_true true true e = (refl, refl)
both_true true false e = cc
both_true false b e = cc

and_true : {a b : Bool} → a ≡ true → b ≡ true → (a && b) ≡ true
and_true {a} {b} p q = ap (λ x. x && b) p ∙ q

-- what begins a path isn't above it
begins_below : (long short : Path) → starts_with same_name long short ≡ true → is_gt (path_cmp short long) ≡ false
begins_below [] [] e = refl
begins_below (c ∷ long) [] e = refl
begins_below [] (a ∷ short) e = cc
begins_below (c ∷ long) (a ∷ short) e =
    let s = both_true (same_name a c) (starts_with same_name long short) e in
    let same : a ≡ c = same_text a c (sym s.0) in
    ap (λ o. is_gt (ordering_then o (path_cmp short long))) (subst (λ (x : List ℕ). name_cmp a x ≡ Equal) same (name_cmp-itself a)) ∙ begins_below long short s.1

-- what stands between a path and one that extends it extends it too
between : (short middle long : Path) → starts_with same_name long short ≡ true → is_gt (path_cmp short middle) ≡ false → is_gt (path_cmp middle long) ≡ false → starts_with same_name middle short ≡ true
between [] middle long e low high = refl
between (a ∷ short) middle [] e low high = cc
between (a ∷ short) [] (c ∷ long) e low high = cc
between (a ∷ short) (b ∷ middle) (c ∷ long) e low high =
    let s = both_true (same_name a c) (starts_with same_name long short) e in
    let same : a ≡ c = same_text a c (sym s.0) in
    let below : Ordering → Type 0 = λ o. is_gt (ordering_then o (path_cmp short middle)) ≡ false in
    let above : Ordering → Type 0 = λ o. is_gt (ordering_then o (path_cmp middle long)) ≡ false in
    by_order (name_cmp a b)
    (λ h. let wrong : is_gt (ordering_then Greater (path_cmp middle long)) ≡ false = subst above (subst (λ (x : List ℕ). name_cmp b x ≡ Greater) same (greater_from_less a b h)) high in cc)
    (λ h.
    let here : a ≡ b = same_from_equal a b h in
    let rest = between short middle long s.1 (subst below h low) (subst above (subst (λ (x : List ℕ). name_cmp x c ≡ Equal) here (subst (λ (x : List ℕ). name_cmp a x ≡ Equal) same (name_cmp-itself a))) high) in
    and_true (subst (λ (x : List ℕ). same_name a x ≡ true) here (nat_list_eq_equiv.refl a)) rest)
    (λ h. let wrong : is_gt (ordering_then Greater (path_cmp short middle)) ≡ false = subst below h low in cc)

-- references to paths, in the paths' order
abbrev pub Key : Type 0
Key = Bor Path

abbrev pub key_cmp : Key → Key → Ordering
key_cmp x y = path_cmp x.now y.now

key_total : IsTotalOrder key_cmp
key_total = on_total (λ (k : Key). k.now) path_cmp_total

or_left : (a b : Bool) → a ≡ true → (a || b) ≡ true
or_left true b e = refl
or_left false b e = cc

or_right : (a b : Bool) → b ≡ true → (a || b) ≡ true
or_right true b e = refl
or_right false b e = e

either : {P : Type 0} (a b : Bool) → (a || b) ≡ true → (a ≡ true → P) → (b ≡ true → P) → P
either true b e left right = left refl
either false b e left right = right e

-- a test that one of the paths passes is passed by some
among_passes : (f : Path → Bool) (p : Path) (paths : List Path) → IsAmong p paths → f p ≡ true → list_any f paths ≡ true
among_passes f p [] is pass = cc
among_passes f p (x ∷ paths) is pass =
    either (is_eq (path_cmp p x)) (list_any (λ q. is_eq (path_cmp p q)) paths) is
    (λ h. or_left (f x) (list_any f paths) (subst (λ (q : Path). f q ≡ true) (same_path p x h) pass))
    (λ h. or_right (f x) (list_any f paths) (among_passes f p paths h pass))

pub any_now : (f : Path → Bool) (keys : List Key) → list_any f (map (λ (k : Key). k.now) keys) ≡ list_any (λ (k : Key). f k.now) keys
any_now f [] = refl
any_now f (k ∷ keys) = ap (λ b. f k.now || b) (any_now f keys)

contained_among : (s : BTreeSet Key) (k : Key) → contains key_cmp s k ≡ true → IsAmong k.now (map (λ (x : Key). x.now) s.keys)
contained_among s k is = any_now (λ p. is_eq (path_cmp k.now p)) s.keys ∙ is

contained_passes : (f : Path → Bool) (s : BTreeSet Key) (k : Key) → contains key_cmp s k ≡ true → f k.now ≡ true → list_any (λ (x : Key). f x.now) s.keys ≡ true
contained_passes f s k is pass = sym (any_now f s.keys) ∙ among_passes f k.now (map (λ (x : Key). x.now) s.keys) (contained_among s k is) pass

unless : (b : Bool) → (b ≡ true → false ≡ true) → b ≡ false
unless true wrong = sym (wrong refl)
unless false wrong = refl

none_passes : (f : Path → Bool) (s : BTreeSet Key) → ((k : Key) → contains key_cmp s k ≡ true → f k.now ≡ true → false ≡ true) → list_any (λ (x : Key). f x.now) s.keys ≡ false
none_passes f s wrong =
    list_any_none (λ (x : Key). f x.now) s.keys
    (All-weaker (λ (k : Key). contains key_cmp s k ≡ true) (λ (k : Key). f k.now ≡ false) (λ k is. unless (f k.now) (wrong k is)) s.keys (All-set_contains key_total s))

by_answer : (b any : Bool) → (b ≡ true → any ≡ true) → (b ≡ false → any ≡ false) → b ≡ any
by_answer true any if_true if_false = sym (if_true refl)
by_answer false any if_true if_false = sym (if_false refl)

reversed : (o : Ordering) → is_lt o ≡ false → is_gt (ordering_reverse o) ≡ false
reversed Less e = cc
reversed Equal e = refl
reversed Greater e = refl

turned : (p q : Path) → is_lt (path_cmp p q) ≡ false → is_gt (path_cmp q p) ≡ false
turned p q e = ap is_gt (path_cmp_total.antisymm q p) ∙ reversed (path_cmp p q) e

module _ (s : BTreeSet Key) (path : Key) where
  -- the first path from this one on extends it if any does
  pub next_extends : (part rest : List Key) (next : Key) → part ≡ next ∷ rest → IsKeyRangeOf key_cmp (Included path) Unbounded s part
      → starts_with same_name next.now path.now ≡ list_any (λ (k : Key). starts_with same_name k.now path.now) s.keys
  next_extends part rest next is range =
      let here = subst (IsKeyRangeOf key_cmp (Included path) Unbounded s) is range in
      by_answer (starts_with same_name next.now path.now) _
      (λ e. contained_passes (λ (p : Path). starts_with same_name p path.now) s next here.1.1 e)
      (λ e. none_passes (λ (p : Path). starts_with same_name p path.now) s (λ k in' extends.
      let from = begins_below k.now path.now extends in
      sym e ∙ between path.now next.now k.now extends here.1.0.0 (here.2 k (from, tt) in')))

  pub no_next : (part : List Key) → part ≡ [] → IsKeyRangeOf key_cmp (Included path) Unbounded s part → list_any (λ (k : Key). starts_with same_name k.now path.now) s.keys ≡ false
  no_next part is range =
      none_passes (λ (p : Path). starts_with same_name p path.now) s (λ k in' extends. sym (range.5 is k (begins_below k.now path.now extends, tt)) ∙ in')

  -- the last path up to this one begins it if any does
  pub previous_begins : (part rest : List Key) (previous : Key) → AreApart (map (λ (k : Key). k.now) s.keys) → part ≡ rest ++ previous ∷ [] → IsKeyRangeOf key_cmp Unbounded (Included path) s part
      → starts_with same_name path.now previous.now ≡ list_any (λ (k : Key). starts_with same_name path.now k.now) s.keys
  previous_begins part rest previous apart is range =
      let last = range.3 previous rest is in
      by_answer (starts_with same_name path.now previous.now) _
      (λ e. contained_passes (λ (p : Path). starts_with same_name path.now p) s previous last.1 e)
      (λ e. none_passes (λ (p : Path). starts_with same_name path.now p) s (λ k in' begins.
      let up = begins_below path.now k.now begins in
      let low = turned previous.now k.now (range.4 previous rest is k (tt, up) in') in
      let mid = between k.now previous.now path.now begins low last.0.1 in
      let same : k.now ≡ previous.now = apart k.now previous.now (contained_among s k in') (contained_among s previous last.1) mid in
      sym e ∙ subst (λ (p : Path). starts_with same_name path.now p ≡ true) same begins))

  pub no_previous : (part : List Key) → part ≡ [] → IsKeyRangeOf key_cmp Unbounded (Included path) s part → list_any (λ (k : Key). starts_with same_name path.now k.now) s.keys ≡ false
  no_previous part is range =
      none_passes (λ (p : Path). starts_with same_name path.now p) s (λ k in' begins. sym (range.5 is k (tt, begins_below path.now k.now begins)) ∙ in')

or_shuffle : (a b x y : Bool) → ((a || b) || (x || y)) ≡ ((a || x) || (b || y))
or_shuffle true b x y = refl
or_shuffle false true true y = refl
or_shuffle false false true y = refl
or_shuffle false true false y = refl
or_shuffle false false false y = refl

pub related_split : (path : Path) (keys : List Key)
    → list_any (is_related path) (map (λ (k : Key). k.now) keys) ≡ (list_any (λ (k : Key). starts_with same_name path k.now) keys || list_any (λ (k : Key). starts_with same_name k.now path) keys)
related_split path [] = refl
related_split path (k ∷ keys) =
    ap (λ b. is_related path k.now || b) (related_split path keys)
    ∙ or_shuffle (starts_with same_name path k.now) (starts_with same_name k.now path) (list_any (λ (k : Key). starts_with same_name path k.now) keys) (list_any (λ (k : Key). starts_with same_name k.now path) keys)

or_twice : (a b : Bool) → (a || b) ≡ (a || (a || b))
or_twice true b = refl
or_twice false b = refl

or_swap : (a b c : Bool) → (a || (b || c)) ≡ (b || (a || c))
or_swap true true c = refl
or_swap true false c = refl
or_swap false b c = refl

-- what some of the paths pass, with one more
pub any_inserted : (f : Path → Bool) (keys : List Key) (k : Key) → list_any f (map (λ (x : Key). x.now) (insert_key key_cmp keys k)) ≡ (f k.now || list_any f (map (λ (x : Key). x.now) keys))
any_inserted f [] k = refl
any_inserted f (x ∷ keys) k =
    let now : List Key → List Path = λ ks. map (λ (y : Key). y.now) ks in
    let any : Ordering → Type 0 = λ o. list_any f (now (match_ordering o (k ∷ x ∷ keys) (x ∷ keys) (x ∷ insert_key key_cmp keys k))) ≡ (f k.now || (f x.now || list_any f (now keys))) in
    by_order (key_cmp k x)
    (λ h. subst any (sym h) refl)
    (λ h. subst any (sym h) (subst (λ (p : Path). (f x.now || list_any f (now keys)) ≡ (f p || (f x.now || list_any f (now keys)))) (sym (same_path k.now x.now (ap is_eq h))) (or_twice (f x.now) (list_any f (now keys)))))
    (λ h. subst any (sym h) (ap (λ b. f x.now || b) (any_inserted f keys k) ∙ or_swap (f x.now) (f k.now) (list_any f (now keys))))

-- one more path that is related to none
pub apart_more : (old new : List Path) (p : Path) → ((f : Path → Bool) → list_any f new ≡ (f p || list_any f old)) → AreApart old → list_any (is_related p) old ≡ false → AreApart new
apart_more old new p more apart free = λ q r in-q in-r begins.
    either (is_eq (path_cmp q p)) (list_any (λ x. is_eq (path_cmp q x)) old) (sym (more (λ x. is_eq (path_cmp q x))) ∙ in-q)
    (λ is-q. either (is_eq (path_cmp r p)) (list_any (λ x. is_eq (path_cmp r x)) old) (sym (more (λ x. is_eq (path_cmp r x))) ∙ in-r)
    (λ is-r. same_path q p is-q ∙ sym (same_path r p is-r))
    (λ old-r. let begun : starts_with same_name r p ≡ true = subst (λ (x : Path). starts_with same_name r x ≡ true) (same_path q p is-q) begins in
    let wrong : false ≡ true = sym free ∙ among_passes (is_related p) r old old-r (or_right (starts_with same_name p r) (starts_with same_name r p) begun) in cc))
    (λ old-q. either (is_eq (path_cmp r p)) (list_any (λ x. is_eq (path_cmp r x)) old) (sym (more (λ x. is_eq (path_cmp r x))) ∙ in-r)
    (λ is-r. let begun : starts_with same_name p q ≡ true = subst (λ (x : Path). starts_with same_name x q ≡ true) (same_path r p is-r) begins in
    let wrong : false ≡ true = sym free ∙ among_passes (is_related p) q old old-q (or_left (starts_with same_name p q) (starts_with same_name q p) begun) in cc)
    (λ old-r. apart q r old-q old-r begins))

or_last : (a b : Bool) → (a || b) ≡ (b || (a || false))
or_last true true = refl
or_last true false = refl
or_last false true = refl
or_last false false = refl

-- the next path is related to none before it
module _ (paths : List Key) (i : ℕ) (k : Key) (within : i < length paths) (at : k ≡ get_or paths i k) where
  take_now : map (λ (x : Key). x.now) (take (i + 1) paths) ≡ map (λ (x : Key). x.now) (take i paths) ++ k.now ∷ []
  take_now =
      ap (map (λ (x : Key). x.now)) (take_more paths i k within ∙ ap (λ (x : Key). take i paths ++ x ∷ []) (sym at))
      ∙ map-append (λ (x : Key). x.now) (take i paths) (k ∷ [])

  drop_now : map (λ (x : Key). x.now) (drop i paths) ≡ k.now ∷ map (λ (x : Key). x.now) (drop (i + 1) paths)
  drop_now = ap (map (λ (x : Key). x.now)) (drop_more paths i k within ∙ ap (λ (x : Key). x ∷ drop (i + 1) paths) (sym at))

  pub same_more : (all : List Path) → list_any (is_related k.now) (map (λ (x : Key). x.now) (take i paths)) ≡ false
      → first_conflict [] all ≡ first_conflict (map (λ (x : Key). x.now) (take i paths)) (map (λ (x : Key). x.now) (drop i paths))
      → first_conflict [] all ≡ first_conflict (map (λ (x : Key). x.now) (take (i + 1) paths)) (map (λ (x : Key). x.now) (drop (i + 1) paths))
  same_more all free same =
      let before = map (λ (x : Key). x.now) (take i paths) in
      let later = map (λ (x : Key). x.now) (drop (i + 1) paths) in
      same ∙ ap (first_conflict before) drop_now
      ∙ ap (λ b. cond b (Some k.now) (first_conflict (before ++ k.now ∷ []) later)) free
      ∙ ap (λ (ps : List Path). first_conflict ps later) (sym take_now)

  pub holds_more : (old : List Key) (f : Path → Bool) → list_any f (map (λ (x : Key). x.now) old) ≡ list_any f (map (λ (x : Key). x.now) (take i paths))
      → list_any f (map (λ (x : Key). x.now) (insert_key key_cmp old k)) ≡ list_any f (map (λ (x : Key). x.now) (take (i + 1) paths))
  holds_more old f same =
      let before = map (λ (x : Key). x.now) (take i paths) in
      any_inserted f old k ∙ ap (λ b. f k.now || b) same ∙ or_last (f k.now) (list_any f before)
      ∙ sym (list_any-append f before (k.now ∷ [])) ∙ ap (list_any f) (sym take_now)
