-- What paths reach after a write and after an erasure.
use Rattle.std.proofs.Common.{◌≡◌, ℕ, true, false, ◌&&◌, ◌||◌, List, [], ◌∷◌, ◌++◌, length, take, drop, Option, Some, None, unwrap_or, refl, ap, sym, ◌∙◌, subst}
use Rattle.std.proofs.lemmas.List.{take-append-drop}
use Rattle.std.specs.Ordering.{is_eq}
use Rattle.std.specs.List.{starts_with}
use Rattle.std.specs.Cmp.Lexicographic.{bytes_decides, pointwise_decides}
use Rattle.resh_value.specs.Names.{name_cmp, same_name}
use Rattle.resh_value.specs.Lookup.{field_of, with_field}
use Rattle.resh_value.specs.declared.value.Value.{Value, out-Value}
use Rattle.resh_value.specs.declared.value.Value.TheVariants.{Doc, outs-Doc}
use Rattle.resh_value.proofs.Names.{by_order, same_from_equal}
use Rattle.resh_value.proofs.FieldLaws.{field_of-with_field_same, field_of-with_field_other, field_of-without_field_other}
use Rattle.resh_ops.specs.Paths.{Document, Path, here, scalar, is_scalar, found, fields_in, embedded, within, reach, write, erase, is_related}

same_name-itself : (n : List ℕ) → same_name n n ≡ true
same_name-itself n = (bytes_decides n n).1 refl

-- paths with one first name are related as their rests
related-rest : (n : List ℕ) (q p : Path) → is_related (n ∷ q) (n ∷ p) ≡ is_related q p
related-rest n q p = ap (λ b. (b && starts_with same_name q p) || (b && starts_with same_name p q)) (same_name-itself n)

-- what a path of this first name reaches turns on that field alone
pub reach-by_field : (n : List ℕ) (q : Path) (d e : Document) → field_of e n ≡ field_of d n → reach (n ∷ q) e ≡ reach (n ∷ q) d
reach-by_field n [] d e h = ap found h
reach-by_field n (x ∷ q) d e h = ap (λ o. within (λ inner. reach (x ∷ q) inner) (embedded o)) h

-- into a document that was put
reach-through : (n x : List ℕ) (q : Path) (d inner : Document) → reach (n ∷ x ∷ q) (with_field d n (Doc inner)) ≡ reach (x ∷ q) inner
reach-through n x q d inner =
    ap (λ o. within (λ i. reach (x ∷ q) i) (embedded o)) (field_of-with_field_same d n (Doc inner))
    ∙ ap (λ o. within (λ i. reach (x ∷ q) i) (fields_in o)) (outs-Doc inner)

pub write-other : (n m : List ℕ) (p : Path) (v : Value) (d : Document) → is_eq (name_cmp n m) ≡ false → field_of (write (m ∷ p) v d) n ≡ field_of d n
write-other n m [] v d h = field_of-with_field_other d m n v h
write-other n m (x ∷ p) v d h = field_of-with_field_other d m n (Doc (write (x ∷ p) v (unwrap_or (embedded (field_of d m)) []))) h

pub erase-other : (n m : List ℕ) (p : Path) (d : Document) → is_eq (name_cmp n m) ≡ false → field_of (erase (m ∷ p) d) n ≡ field_of d n
erase-other n m [] d h = field_of-without_field_other d m n h
erase-other n m (x ∷ p) d h = field_of-with_field_other d m n (Doc (erase (x ∷ p) (unwrap_or (embedded (field_of d m)) []))) h

-- a path that doesn't lead through a scalar goes on in a document
goes_on : (p : Path) (o : Option Document) → is_scalar (within (λ inner. reach p inner) o) ≡ false → o ≡ Some (unwrap_or o [])
goes_on p (Some d) h = refl
goes_on p None h = cc

goes_in : (p : Path) (o : Option Document) → is_scalar (within (λ inner. reach p inner) o) ≡ false → is_scalar (reach p (unwrap_or o [])) ≡ false
goes_in p (Some d) h = h
goes_in p None h = cc

into : (n x : List ℕ) (q : Path) (d : Document) → embedded (field_of d n) ≡ Some (unwrap_or (embedded (field_of d n)) []) → reach (x ∷ q) (unwrap_or (embedded (field_of d n)) []) ≡ reach (n ∷ x ∷ q) d
into n x q d h = ap (λ o. within (λ inner. reach (x ∷ q) inner) o) (sym h)

-- where two paths go on together, they go on in documents
abbrev pub Along : Path → Path → Document → Type 0
Along [] p d = Unit {0}
Along (n ∷ q) [] d = Unit {0}
Along (n ∷ []) (m ∷ p) d = Unit {0}
Along (n ∷ x ∷ q) (m ∷ []) d = Unit {0}
Along (n ∷ x ∷ q) (m ∷ y ∷ p) d =
    n ≡ m → (embedded (field_of d m) ≡ Some (unwrap_or (embedded (field_of d m)) [])) × Along (x ∷ q) (y ∷ p) (unwrap_or (embedded (field_of d m)) [])

-- the same of the paths that are left, from what stands under the common name
abbrev Inside : Path → Path → Option Value → Type 0
Inside q p o = (embedded o ≡ Some (unwrap_or (embedded o) [])) × Along q p (unwrap_or (embedded o) [])

-- a path that doesn't lead through a scalar goes on in documents
pub along-clear : (q p : Path) (d : Document) → is_scalar (reach p d) ≡ false → Along q p d
along-clear [] p d s = tt
along-clear (n ∷ q) [] d s = tt
along-clear (n ∷ []) (m ∷ p) d s = tt
along-clear (n ∷ x ∷ q) (m ∷ []) d s = tt
along-clear (n ∷ x ∷ q) (m ∷ y ∷ p) d s =
    λ e. (goes_on (y ∷ p) (embedded (field_of d m)) s, along-clear (x ∷ q) (y ∷ p) (unwrap_or (embedded (field_of d m)) []) (goes_in (y ∷ p) (embedded (field_of d m)) s))

-- what is done below a first name leaves what paths with that name reach, where it does so below
below : (n : List ℕ) (q p : Path) (d : Document) (act : Path → Document → Document)
    → ((x : List ℕ) (r : Path) → p ≡ x ∷ r → act (n ∷ p) d ≡ with_field d n (Doc (act p (unwrap_or (embedded (field_of d n)) []))))
    → ((e : Document) → is_related q p ≡ false → Along q p e → reach q (act p e) ≡ reach q e)
    → is_related (n ∷ q) (n ∷ p) ≡ false → Along (n ∷ q) (n ∷ p) d → reach (n ∷ q) (act (n ∷ p) d) ≡ reach (n ∷ q) d
below n [] [] d act step inner r a = let e = sym (related-rest n [] []) ∙ r in cc
below n [] (y ∷ p) d act step inner r a = let e = sym (related-rest n [] (y ∷ p)) ∙ r in cc
below n (x ∷ q) [] d act step inner r a = let e = sym (related-rest n (x ∷ q) []) ∙ r in cc
below n (x ∷ q) (y ∷ p) d act step inner r a =
    let i = unwrap_or (embedded (field_of d n)) [] in
    ap (reach (n ∷ x ∷ q)) (step y p refl) ∙ reach-through n x q d (act (y ∷ p) i) ∙ inner i (sym (related-rest n (x ∷ q) (y ∷ p)) ∙ r) (a refl).1 ∙ into n x q d (a refl).0

-- by whether two first names are one
by_name : {P : Type 0} (n m : List ℕ) → (n ≡ m → P) → (is_eq (name_cmp n m) ≡ false → P) → P
by_name n m same other = by_order (name_cmp n m) (λ h. other (ap is_eq h)) (λ h. same (same_from_equal n m h)) (λ h. other (ap is_eq h))

write_step : (n : List ℕ) (v : Value) (d : Document) (p : Path) (x : List ℕ) (r : Path) → p ≡ x ∷ r → write (n ∷ p) v d ≡ with_field d n (Doc (write p v (unwrap_or (embedded (field_of d n)) [])))
write_step n v d [] x r h = cc
write_step n v d (y ∷ p) x r h = refl

erase_step : (n : List ℕ) (d : Document) (p : Path) (x : List ℕ) (r : Path) → p ≡ x ∷ r → erase (n ∷ p) d ≡ with_field d n (Doc (erase p (unwrap_or (embedded (field_of d n)) [])))
erase_step n d [] x r h = cc
erase_step n d (y ∷ p) x r h = refl

-- a write leaves what a path reaches that isn't related to its own
pub reach-write_along : (q p : Path) (v : Value) (d : Document) → is_related q p ≡ false → Along q p d → reach q (write p v d) ≡ reach q d
reach-write_along [] p v d r a = refl
reach-write_along (n ∷ q) [] v d r a = refl
reach-write_along (n ∷ q) (m ∷ p) v d r a =
    by_name n m
    (λ h. subst (λ (k : List ℕ). is_related (n ∷ q) (k ∷ p) ≡ false → Along (n ∷ q) (k ∷ p) d → reach (n ∷ q) (write (k ∷ p) v d) ≡ reach (n ∷ q) d) h
    (below n q p d (λ path document. write path v document) (write_step n v d p) (λ e. reach-write_along q p v e)) r a)
    (λ h. reach-by_field n q d (write (m ∷ p) v d) (write-other n m p v d h))

pub reach-write_apart : (q p : Path) (v : Value) (d : Document) → is_related q p ≡ false → is_scalar (reach p d) ≡ false → reach q (write p v d) ≡ reach q d
reach-write_apart q p v d r s = reach-write_along q p v d r (along-clear q p d s)

-- and so does an erasure
pub reach-erase_along : (q p : Path) (d : Document) → is_related q p ≡ false → Along q p d → reach q (erase p d) ≡ reach q d
reach-erase_along [] p d r a = refl
reach-erase_along (n ∷ q) [] d r a = refl
reach-erase_along (n ∷ q) (m ∷ p) d r a =
    by_name n m
    (λ h. subst (λ (k : List ℕ). is_related (n ∷ q) (k ∷ p) ≡ false → Along (n ∷ q) (k ∷ p) d → reach (n ∷ q) (erase (k ∷ p) d) ≡ reach (n ∷ q) d) h
    (below n q p d erase (erase_step n d p) (λ e. reach-erase_along q p e)) r a)
    (λ h. reach-by_field n q d (erase (m ∷ p) d) (erase-other n m p d h))

pub reach-erase_apart : (q p : Path) (d : Document) → is_related q p ≡ false → is_scalar (reach p d) ≡ false → reach q (erase p d) ≡ reach q d
reach-erase_apart q p d r s = reach-erase_along q p d r (along-clear q p d s)

-- an erasure at one first name
inside-erased : (n x : List ℕ) (q t p : Path) (d : Document)
    → ((e : Document) → is_related (x ∷ q) p ≡ false → Along (x ∷ q) t e → Along (x ∷ q) t (erase p e))
    → is_related (n ∷ x ∷ q) (n ∷ p) ≡ false → Inside (x ∷ q) t (field_of d n) → Inside (x ∷ q) t (field_of (erase (n ∷ p) d) n)
inside-erased n x q t [] d inner r i = let e = sym (related-rest n (x ∷ q) []) ∙ r in cc
inside-erased n x q t (y ∷ p) d inner r i =
    let e = erase (y ∷ p) (unwrap_or (embedded (field_of d n)) []) in
    let is : embedded (field_of (with_field d n (Doc e)) n) ≡ Some e = ap embedded (field_of-with_field_same d n (Doc e)) ∙ ap fields_in (outs-Doc e) in
    subst (λ (o : Option Document). (o ≡ Some (unwrap_or o [])) × Along (x ∷ q) t (unwrap_or o [])) (sym is)
    (refl, inner (unwrap_or (embedded (field_of d n)) []) (sym (related-rest n (x ∷ q) (y ∷ p)) ∙ r) i.1)

-- an erasure leaves the documents on the way of a path that isn't related to its own
pub along-erased : (q t p : Path) (d : Document) → is_related q p ≡ false → Along q t d → Along q t (erase p d)
along-erased [] t p d r a = tt
along-erased (n ∷ q) [] p d r a = tt
along-erased (n ∷ []) (m ∷ t) p d r a = tt
along-erased (n ∷ x ∷ q) (m ∷ []) p d r a = tt
along-erased (n ∷ x ∷ q) (m ∷ y ∷ t) [] d r a = a
along-erased (n ∷ x ∷ q) (m ∷ y ∷ t) (k ∷ p) d r a =
    λ e. by_name m k
    (λ h. subst (λ (k : List ℕ). is_related (n ∷ x ∷ q) (k ∷ p) ≡ false → Inside (x ∷ q) (y ∷ t) (field_of (erase (k ∷ p) d) m)) h
    (λ u. inside-erased m x q (y ∷ t) p d (λ i. along-erased (x ∷ q) (y ∷ t) p i) (subst (λ (l : List ℕ). is_related (l ∷ x ∷ q) (m ∷ p) ≡ false) e u) (a e)) r)
    (λ h. subst (Inside (x ∷ q) (y ∷ t)) (sym (erase-other m k p d h)) (a e))

-- a value that is written stands at its path
pub reach-write_itself : (n : List ℕ) (rest : Path) (v : Value) (d : Document) → reach (n ∷ rest) (write (n ∷ rest) v d) ≡ here v
reach-write_itself n [] v d = ap found (field_of-with_field_same d n v)
reach-write_itself n (x ∷ rest) v d =
    reach-through n x rest d (write (x ∷ rest) v (unwrap_or (embedded (field_of d n)) [])) ∙ reach-write_itself x rest v (unwrap_or (embedded (field_of d n)) [])

-- a document stands at each path that begins its path
pub reach-write_on_the_way : (n : List ℕ) (q : Path) (m : List ℕ) (rest : Path) (v : Value) (d : Document)
    → (inner : Document) × (reach (n ∷ q) (write (n ∷ (q ++ m ∷ rest)) v d) ≡ here (Doc inner))
reach-write_on_the_way n [] m rest v d =
    let inner = write (m ∷ rest) v (unwrap_or (embedded (field_of d n)) []) in (inner, ap found (field_of-with_field_same d n (Doc inner)))
reach-write_on_the_way n (x ∷ q) m rest v d =
    let on = reach-write_on_the_way x q m rest v (unwrap_or (embedded (field_of d n)) []) in
    (on.0, reach-through n x q d (write (x ∷ (q ++ m ∷ rest)) v (unwrap_or (embedded (field_of d n)) [])) ∙ on.1)

-- a path that extends it goes on in the value, and is stopped there where the value is no document
pub reach-write_beyond : (n : List ℕ) (p : Path) (m : List ℕ) (rest : Path) (v : Value) (d : Document)
    → reach (n ∷ (p ++ m ∷ rest)) (write (n ∷ p) v d) ≡ within (λ inner. reach (m ∷ rest) inner) (fields_in (out-Value v))
reach-write_beyond n [] m rest v d = ap (λ o. within (λ inner. reach (m ∷ rest) inner) (embedded o)) (field_of-with_field_same d n v)
reach-write_beyond n (x ∷ p) m rest v d =
    reach-through n x (p ++ m ∷ rest) d (write (x ∷ p) v (unwrap_or (embedded (field_of d n)) [])) ∙ reach-write_beyond x p m rest v (unwrap_or (embedded (field_of d n)) [])

pub reach-write_stopped : (n : List ℕ) (p : Path) (m : List ℕ) (rest : Path) (v : Value) (d : Document)
    → fields_in (out-Value v) ≡ None → reach (n ∷ (p ++ m ∷ rest)) (write (n ∷ p) v d) ≡ scalar
reach-write_stopped n p m rest v d h = reach-write_beyond n p m rest v d ∙ ap (λ o. within (λ inner. reach (m ∷ rest) inner) o) h

-- a path that begins another is its first part
pub begins-is : (path front : Path) → starts_with same_name path front ≡ true → path ≡ front ++ drop (length front) path
begins-is path front h =
    sym (take-append-drop (length front) path) ∙ ap (λ (t : Path). t ++ drop (length front) path) (sym ((pointwise_decides bytes_decides front (take (length front) path)).0 h))
