-- Folds and inductions at documents and arrays.
use Rattle.std.proofs.Common.{ℕ, List, [], ◌∷◌, ◌≡◌, ◌∙◌, sym, rules, map, ap, subst, refl}
use Rattle.std.specs.List.{AllByRecursion}
use Rattle.resh_value.specs.declared.value.Value.{Value, Value-F, the_lemmas, fold-Value, map-Value, fold-roll-Value, ind-Value, roll-Value, out-Value, out-roll-Value}
use Rattle.resh_value.specs.declared.value.Value.TheVariants.{Doc, List as Array, rolls-Doc, rolls-List}

pub map-Doc : {Y Z : Type 0} (h : Y → Z) (fs : List (List ℕ × Y))
    → map-Value Y Z h (Value-F.Doc fs) ≡ Value-F.Doc (map (λ f. (f.0, h f.1)) fs)
map-Doc h fs = search (rules, the_lemmas)

pub map-Array : {Y Z : Type 0} (h : Y → Z) (xs : List Y) → map-Value Y Z h (Value-F.List xs) ≡ Value-F.List (map h xs)
map-Array h xs = refl

pub fold-Doc : {A : Type 0} (step : Value-F A → A) (fs : List (List ℕ × Value))
    → fold-Value A step (Doc fs) ≡ step (Value-F.Doc (map (λ f. (f.0, fold-Value A step f.1)) fs))
fold-Doc {A} step fs = ap (fold-Value A step) (sym (rolls-Doc fs)) ∙ fold-roll-Value A step (Value-F.Doc fs)
    ∙ ap step (map-Doc (fold-Value A step) fs)

pub fold-Array : {A : Type 0} (step : Value-F A → A) (xs : List Value)
    → fold-Value A step (Array xs) ≡ step (Value-F.List (map (fold-Value A step) xs))
fold-Array {A} step xs = ap (fold-Value A step) (sym (rolls-List xs)) ∙ fold-roll-Value A step (Value-F.List xs)
    ∙ ap step (map-Array (fold-Value A step) xs)

-- P holds of each value that stands inside
abbrev pub Inside : (Value → Type 0) → Value-F Value → Type 0
Inside P Value-F.Null = Unit {0}
Inside P (Value-F.Int n) = Unit {0}
Inside P (Value-F.Text t) = Unit {0}
Inside P (Value-F.Doc fs) = AllByRecursion (λ f. P f.1) fs
Inside P (Value-F.List xs) = AllByRecursion P xs
Inside P (Value-F.Oid s) = Unit {0}
Inside P (Value-F.Bool b) = Unit {0}
Inside P (Value-F.Date n) = Unit {0}

module _ (P : Value → Type 0) where
  abbrev Proved : Type 0
  Proved = (v : Value) × P v

  each_field : (fs : List (List ℕ × Proved))
      → AllByRecursion (λ (f : List ℕ × Value). P f.1) (map (λ f. (f.0, f.1.0)) fs)
  each_field [] = tt
  each_field (f ∷ fs) = (f.1.1, each_field fs)

  each_item : (xs : List Proved) → AllByRecursion P (map (λ x. x.0) xs)
  each_item [] = tt
  each_item (x ∷ xs) = (x.1, each_item xs)

  inside : (y : Value-F Proved) → Inside P (map-Value Proved Value (λ e. e.0) y)
  inside Value-F.Null = tt
  inside (Value-F.Int n) = tt
  inside (Value-F.Text t) = tt
  inside (Value-F.Doc fs) = subst (Inside P) (sym (map-Doc (λ (e : Proved). e.0) fs)) (each_field fs)
  inside (Value-F.List xs) = each_item xs
  inside (Value-F.Oid s) = tt
  inside (Value-F.Bool b) = tt
  inside (Value-F.Date n) = tt

  -- what holds of a value where it holds of each inside holds of all
  pub by_inside : ((v : Value) → Inside P (out-Value v) → P v) → (v : Value) → P v
  by_inside step = ind-Value P
      (λ x y is. step (roll-Value x) (subst (Inside P) (is ∙ sym (out-roll-Value x)) (inside y)))
