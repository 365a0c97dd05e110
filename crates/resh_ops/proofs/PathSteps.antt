-- A path of two or more names, by its first one.
use Rattle.std.proofs.Common.{◌≡◌, ℕ, ◌+◌, ◌<◌, ◌≤◌, List, [], ◌∷◌, ◌++◌, length, get_or, drop, None, append_assoc, refl, ap, sym, ◌∙◌, subst, arith}
use Rattle.std.proofs.lemmas.List.{drop_more}
use Rattle.std.specs.Ordering.{match_ordering}
use Rattle.resh_value.specs.Names.{name_cmp}
use Rattle.resh_value.specs.Lookup.{field_of, with_field}
use Rattle.resh_value.proofs.FieldSteps.{with_field-before, with_field-here, with_field-past}
use Rattle.resh_value.proofs.Names.{name_cmp-itself, by_order}
use Rattle.resh_ops.specs.Paths.{Document, Path, reach, missing, within, embedded, dotted}

-- the second of two puts under a name stands
pub with_field-twice : {X : Type 0} (fs : List (List ℕ × X)) (name : List ℕ) (v w : X) → with_field (with_field fs name v) name w ≡ with_field fs name w
with_field-twice [] name v w = ap (λ o. match_ordering o ((name, w) ∷ (name, v) ∷ []) ((name, w) ∷ []) ((name, v) ∷ (name, w) ∷ [])) (name_cmp-itself name)
with_field-twice {X} (f ∷ fs) name v w =
    let both : List (List ℕ × X) → Type 0 = λ l. with_field l name w ≡ with_field (f ∷ fs) name w in
    by_order (name_cmp name f.0)
    (λ h. subst both (sym (with_field-before name f fs v h)) (with_field-here name (name, v) (f ∷ fs) w (name_cmp-itself name) ∙ sym (with_field-before name f fs w h)))
    (λ h. subst both (sym (with_field-here name f fs v h)) (with_field-here name (f.0, v) fs w h ∙ sym (with_field-here name f fs w h)))
    (λ h. subst both (sym (with_field-past name f fs v h)) (with_field-past name f (with_field fs name v) w h ∙ ap (λ (l : List (List ℕ × X)). f ∷ l) (with_field-twice fs name v w) ∙ sym (with_field-past name f fs w h)))

-- the same, where both have the name from elsewhere
pub puts_again : {X : Type 0} (fs gs : List (List ℕ × X)) (name copy : List ℕ) (v w : X) → gs ≡ with_field fs copy v → copy ≡ name → with_field gs name w ≡ with_field fs name w
puts_again fs gs name copy v w g c = ap (λ l. with_field l name w) g ∙ ap (λ k. with_field (with_field fs k v) name w) c ∙ with_field-twice fs name v w

-- an empty document has nothing at any path
reach-empty : (path : Path) → reach path [] ≡ missing
reach-empty [] = refl
reach-empty (name ∷ []) = refl
reach-empty (name ∷ next ∷ rest) = reach-empty (next ∷ rest)

pub reach-past : (path : Path) (d : Document) (name : List ℕ) → 2 ≤ length path → name ≡ get_or path 0 name → field_of d name ≡ None → reach path d ≡ missing
reach-past [] d name l n m = absurd (omega arith)
reach-past (first ∷ []) d name l n m = absurd (omega arith)
reach-past (first ∷ next ∷ rest) d name l n m =
    ap (λ o. within (λ inner. reach (next ∷ rest) inner) (embedded o)) (subst (λ k. field_of d k ≡ None) n m) ∙ reach-empty (next ∷ rest)

dotted-two : (a name : List ℕ) (path : Path) → dotted (a ∷ name ∷ path) ≡ dotted (((a ++ 46 ∷ []) ++ name) ∷ path)
dotted-two a name [] = sym (append_assoc a (46 ∷ []) name)
dotted-two a name (next ∷ path) =
    ap (λ t. t) (sym (append_assoc (a ++ 46 ∷ []) name (46 ∷ dotted (next ∷ path)) ∙ append_assoc a (46 ∷ []) (name ++ 46 ∷ dotted (next ∷ path))))

-- a dot and one more name behind the text
pub dotted-more : (path : Path) (i : ℕ) (name piece a m b whole : List ℕ) → i < length path → name ≡ get_or path i name
    → m ≡ a ++ 46 ∷ [] → piece ≡ name → b ≡ m ++ piece → dotted (a ∷ drop i path) ≡ whole → dotted (b ∷ drop (i + 1) path) ≡ whole
dotted-more path i name piece a m b whole l n dot p e h =
    let text : b ≡ (a ++ 46 ∷ []) ++ name = cc in
    ap (λ (t : List ℕ). dotted (t ∷ drop (i + 1) path)) text ∙ sym (dotted-two a name (drop (i + 1) path))
    ∙ ap (λ (t : List ℕ). dotted (a ∷ t ∷ drop (i + 1) path)) n ∙ ap (λ (p : Path). dotted (a ∷ p)) (sym (drop_more path i name l)) ∙ h
