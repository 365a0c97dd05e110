-- Values as lists of numbers that compare alike.
use Rattle.std.proofs.Common.{ℕ, ◌<◌, ℤ, pos, ◌<ℤ◌, Bool, true, false, List, [], ◌∷◌, ◌++◌, map, ◌≡◌, ◌∙◌, sym, ap, refl, arith, append_assoc, append-nil}
use Rattle.std.specs.List.{AllByRecursion}
use Rattle.std.specs.Ordering.{MatchOrdering, nat_cmp, int_cmp, bool_cmp, ordering_then}
use Rattle.std.specs.Cmp.{ranked, int_cmp_is}
use Rattle.std.specs.Cmp.Lexicographic.{slice_cmp}
use Rattle.std.specs.declared.cmp.Ordering.{Ordering}
use Rattle.std.specs.declared.cmp.Ordering.TheVariants.{Less, Equal, Greater}
use Rattle.resh_value.specs.Names.{name_cmp}
use Rattle.resh_value.specs.Order.{compare_of, compare_fields, content, content_of, kind, rank}
use Rattle.resh_value.specs.derived.OrderFolds.{Inside, by_inside, map-Doc}
use Rattle.resh_value.specs.derived.OrderEquations.{by_kind_then_content, rank-map}
use Rattle.std.proofs.lemmas.Int.{ints}
use Rattle.resh_value.specs.declared.value.Value.{Value, Value-F, fold-Value, out-Value, map-Value, fold_out-Value}

abbrev numbers_cmp : List ℤ → List ℤ → Ordering
numbers_cmp = slice_cmp int_cmp

-- each byte after a 1, and a 0 at the end
abbrev bytes_code : List ℕ → List ℤ
bytes_code [] = pos 0 ∷ []
bytes_code (b ∷ bs) = pos 1 ∷ pos b ∷ bytes_code bs

abbrev first : List ℤ → ℤ
first [] = pos 0
first (n ∷ ns) = n

-- each field after a 1: the kind, the name and the value
abbrev fields_code : List (List ℕ × List ℤ) → List ℤ
fields_code [] = pos 0 ∷ []
fields_code (f ∷ fs) = pos 1 ∷ first f.1 ∷ (bytes_code f.0 ++ (f.1 ++ fields_code fs))

abbrev items_code : List (List ℤ) → List ℤ
items_code [] = pos 0 ∷ []
items_code (x ∷ xs) = pos 1 ∷ (x ++ items_code xs)

abbrev truth_code : Bool → ℤ
truth_code false = pos 0
truth_code true = pos 1

-- the code of what a value holds
abbrev body : Value-F (List ℤ) → List ℤ
body Value-F.Null = []
body (Value-F.Int n) = n ∷ []
body (Value-F.Text t) = bytes_code t
body (Value-F.Doc fs) = fields_code fs
body (Value-F.List xs) = items_code xs
body (Value-F.Oid s) = bytes_code s
body (Value-F.Bool b) = truth_code b ∷ []
body (Value-F.Date n) = n ∷ []

abbrev code_step : Value-F (List ℤ) → List ℤ
code_step x = pos (rank x) ∷ body x

unfoldable pub code : Value → List ℤ
code = fold-Value (List ℤ) code_step

-- a code begins with the kind
code-out : (v : Value) → code v ≡ pos (kind v) ∷ body (map-Value Value (List ℤ) code (out-Value v))
unfolding code
code-out v = fold_out-Value (List ℤ) code_step v
    ∙ ap (λ (k : ℕ). pos k ∷ body (map-Value Value (List ℤ) code (out-Value v))) (rank-map code (out-Value v))

first-code : (v : Value) → first (code v) ≡ pos (kind v)
first-code v = ap first (code-out v)

then_assoc : (a b c : Ordering) → ordering_then (ordering_then a b) c ≡ ordering_then a (ordering_then b c)
then_assoc Less b c = refl
then_assoc Equal b c = refl
then_assoc Greater b c = refl

raised : (a b : ℕ) (r : Ordering) → MatchOrdering r (a < b) (a ≡ b) (b < a)
    → MatchOrdering r (pos a <ℤ pos b) (pos a ≡ pos b) (pos b <ℤ pos a)
raised a b Less h = let k : a < b = h in omega (arith, ints)
raised a b Equal h = ap pos h
raised a b Greater h = let k : b < a = h in omega (arith, ints)

pub pos-cmp : (a b : ℕ) → int_cmp (pos a) (pos b) ≡ nat_cmp a b
pos-cmp a b = sym (int_cmp_is (pos a) (pos b) (nat_cmp a b) (raised a b (nat_cmp a b) (ranked a b (nat_cmp a b) refl)))

bytes_alike : (s t : List ℕ) (p q : List ℤ)
    → numbers_cmp (bytes_code s ++ p) (bytes_code t ++ q) ≡ ordering_then (name_cmp s t) (numbers_cmp p q)
bytes_alike [] [] p q = refl
bytes_alike [] (b ∷ bs) p q = refl
bytes_alike (a ∷ s) [] p q = refl
bytes_alike (a ∷ s) (b ∷ t) p q = (λ i. ordering_then (pos-cmp a b i) (bytes_alike s t p q i))
    ∙ sym (then_assoc (nat_cmp a b) (name_cmp s t) (numbers_cmp p q))

truths_alike : (a b : Bool) → int_cmp (truth_code a) (truth_code b) ≡ bool_cmp a b
truths_alike false false = refl
truths_alike false true = refl
truths_alike true false = refl
truths_alike true true = refl

abbrev coded : Value-F Value → Value-F (List ℤ)
coded = map-Value Value (List ℤ) code

-- x's code, before any other, compares as x does
abbrev Alike : Value → Type 0
Alike x = (y : Value) (p q : List ℤ)
    → numbers_cmp (code x ++ p) (code y ++ q) ≡ ordering_then (compare_of x y) (numbers_cmp p q)

kinds_alike : (v w : Value) → int_cmp (first (code v)) (first (code w)) ≡ nat_cmp (kind v) (kind w)
kinds_alike v w = (λ i. int_cmp (first-code v i) (first-code w i)) ∙ pos-cmp (kind v) (kind w)

abbrev coded_field : List ℕ × Value → List ℕ × List ℤ
coded_field f = (f.0, code f.1)

-- a field's code, before the rest
moved : (f : List ℕ × Value) (rest p : List ℤ)
    → (bytes_code f.0 ++ (code f.1 ++ rest)) ++ p ≡ bytes_code f.0 ++ (code f.1 ++ (rest ++ p))
moved f rest p = append_assoc (bytes_code f.0) (code f.1 ++ rest) p
    ∙ ap (λ l. bytes_code f.0 ++ l) (append_assoc (code f.1) rest p)

then_three : (a b c d e : Ordering)
    → ordering_then (ordering_then (ordering_then a (ordering_then b c)) d) e
    ≡ ordering_then a (ordering_then b (ordering_then c (ordering_then d e)))
then_three Less b c d e = refl
then_three Equal b c d e = ap (λ r. ordering_then r e) (then_assoc b c d) ∙ then_assoc b (ordering_then c d) e
    ∙ ap (ordering_then b) (then_assoc c d e)
then_three Greater b c d e = refl

module _ (p q : List ℤ) where
  fields_alike : (fs gs : List (List ℕ × Value)) → AllByRecursion (λ f. Alike f.1) fs
      → numbers_cmp (fields_code (map coded_field fs) ++ p) (fields_code (map coded_field gs) ++ q)
      ≡ ordering_then (slice_cmp compare_fields fs gs) (numbers_cmp p q)
  fields_alike [] [] h = refl
  fields_alike [] (g ∷ gs) h = refl
  fields_alike (f ∷ fs) [] h = refl
  fields_alike (f ∷ fs) (g ∷ gs) h =
      let us : List ℤ = fields_code (map coded_field fs) in
      let vs : List ℤ = fields_code (map coded_field gs) in
      let e = moved f us p in
      let d = moved g vs q in
      (λ i. ordering_then (kinds_alike f.1 g.1 i) (numbers_cmp (e i) (d i)))
      ∙ ap (ordering_then (nat_cmp (kind f.1) (kind g.1)))
      (bytes_alike f.0 g.0 (code f.1 ++ (us ++ p)) (code g.1 ++ (vs ++ q)))
      ∙ ap (λ r. ordering_then (nat_cmp (kind f.1) (kind g.1)) (ordering_then (name_cmp f.0 g.0) r))
      (h.0 g.1 (us ++ p) (vs ++ q))
      ∙ ap (λ r. ordering_then (nat_cmp (kind f.1) (kind g.1))
      (ordering_then (name_cmp f.0 g.0) (ordering_then (compare_of f.1 g.1) r))) (fields_alike fs gs h.1)
      ∙ sym (then_three (nat_cmp (kind f.1) (kind g.1)) (name_cmp f.0 g.0) (compare_of f.1 g.1)
      (slice_cmp compare_fields fs gs) (numbers_cmp p q))

  items_alike : (xs ys : List Value) → AllByRecursion Alike xs
      → numbers_cmp (items_code (map code xs) ++ p) (items_code (map code ys) ++ q)
      ≡ ordering_then (slice_cmp compare_of xs ys) (numbers_cmp p q)
  items_alike [] [] h = refl
  items_alike [] (y ∷ ys) h = refl
  items_alike (x ∷ xs) [] h = refl
  items_alike (x ∷ xs) (y ∷ ys) h =
      let us : List ℤ = items_code (map code xs) in
      let vs : List ℤ = items_code (map code ys) in
      let e = append_assoc (code x) us p in
      let d = append_assoc (code y) vs q in
      (λ i. numbers_cmp (e i) (d i))
      ∙ h.0 y (us ++ p) (vs ++ q)
      ∙ ap (ordering_then (compare_of x y)) (items_alike xs ys h.1)
      ∙ sym (then_assoc (compare_of x y) (slice_cmp compare_of xs ys) (numbers_cmp p q))

  -- the codes of what values of one kind hold
  bodies_alike : (x y : Value-F Value) → Inside Alike x → nat_cmp (rank x) (rank y) ≡ Equal
      → numbers_cmp (body (coded x) ++ p) (body (coded y) ++ q)
      ≡ ordering_then (content compare_fields compare_of x y) (numbers_cmp p q)
  bodies_alike Value-F.Null Value-F.Null h e = refl
  bodies_alike Value-F.Null y h e = cc
  bodies_alike (Value-F.Int m) (Value-F.Int n) h e = refl
  bodies_alike (Value-F.Int m) y h e = cc
  bodies_alike (Value-F.Text s) (Value-F.Text t) h e = bytes_alike s t p q
  bodies_alike (Value-F.Text s) y h e = cc
  bodies_alike (Value-F.Doc fs) (Value-F.Doc gs) h e =
      (λ i. numbers_cmp (body (map-Doc code fs i) ++ p) (body (map-Doc code gs i) ++ q)) ∙ fields_alike fs gs h
  bodies_alike (Value-F.Doc fs) y h e = cc
  bodies_alike (Value-F.List xs) (Value-F.List ys) h e = items_alike xs ys h
  bodies_alike (Value-F.List xs) y h e = cc
  bodies_alike (Value-F.Oid s) (Value-F.Oid t) h e = bytes_alike s t p q
  bodies_alike (Value-F.Oid s) y h e = cc
  bodies_alike (Value-F.Bool a) (Value-F.Bool b) h e = ap (λ r. ordering_then r (numbers_cmp p q)) (truths_alike a b)
  bodies_alike (Value-F.Bool a) y h e = cc
  bodies_alike (Value-F.Date m) (Value-F.Date n) h e = refl
  bodies_alike (Value-F.Date m) y h e = cc

first_then : (k c l b : Ordering) → (k ≡ Equal → b ≡ ordering_then c l)
    → ordering_then k b ≡ ordering_then (ordering_then k c) l
first_then Less c l b h = refl
first_then Equal c l b h = h refl
first_then Greater c l b h = refl

alike : (x : Value) → Alike x
alike = by_inside Alike (λ x h y p q.
    (λ i. numbers_cmp (code-out x i ++ p) (code-out y i ++ q))
    ∙ ap (λ r. ordering_then r (numbers_cmp (body (coded (out-Value x)) ++ p) (body (coded (out-Value y)) ++ q)))
    (pos-cmp (kind x) (kind y))
    ∙ first_then (nat_cmp (kind x) (kind y)) (content_of x y) (numbers_cmp p q) _
    (bodies_alike p q (out-Value x) (out-Value y) h)
    ∙ ap (λ r. ordering_then r (numbers_cmp p q)) (sym (by_kind_then_content x y)))

then_Equal : (r : Ordering) → ordering_then r Equal ≡ r
then_Equal Less = refl
then_Equal Equal = refl
then_Equal Greater = refl

-- codes compare as their values do
pub code-cmp : (x y : Value) → slice_cmp int_cmp (code x) (code y) ≡ compare_of x y
code-cmp x y =
    (λ i. numbers_cmp (sym (append-nil (code x)) i) (sym (append-nil (code y)) i)) ∙ alike x y [] []
    ∙ then_Equal (compare_of x y)
