-- Where a final entry stands, the entries are cut behind it.
use Rattle.std.proofs.Common.{◌≡◌, ℕ, ◌+◌, ◌≤◌, Bool, true, false, cond, List, [], ◌∷◌, Option, Some, None, length, take, refl, ap, sym, ◌∙◌, arith}
use Rattle.std.proofs.lemmas.Bool.{ltb-false}
use Rattle.std.proofs.lemmas.List.{take_all}
use Rattle.std.proofs.Math.Seq.{take-length}
use Rattle.std.proofs.Math.Dec.{ltb}
use Rattle.std.proofs.lemmas.List.Elements.{All-from_recursion, recursion_from_All}
use Rattle.std.specs.List.{All, AllByRecursion, position_or_len}
use Rattle.resh_oplog.specs.declared.entry.Entry.{Entry}
use Rattle.resh_feed.specs.Items.{is_final, up_to_final}

abbrev place : List Entry → ℕ
place entries = position_or_len (λ entry. is_final entry.what) entries

abbrev pub cutoff : List Entry → Option ℕ → ℕ
cutoff entries None = length entries
cutoff entries (Some n) = n + 1

to_final : (es : List Entry) → take (place es + 1) es ≡ up_to_final es
to_final [] = refl
to_final (e ∷ es) = let rest = to_final es in grind (arith, rest)

step : (es : List Entry) (within : Bool) → ltb (place es) (length es) ≡ within → take (cutoff es (cond within (Some (place es)) None)) es ≡ up_to_final es
step es true h = to_final es
step es false h = let past = ltb-false (place es) (length es) h in take-length es ∙ sym (take_all (place es + 1) es (omega (arith, past))) ∙ to_final es

pub cut_at : (es : List Entry) → take (cutoff es (cond (ltb (place es) (length es)) (Some (place es)) None)) es ≡ up_to_final es
cut_at es = step es _ refl

again : (e : Entry) (es : List Entry) (final : Bool) → is_final e.what ≡ final → up_to_final (up_to_final es) ≡ up_to_final es
    → e ∷ cond (is_final e.what) [] (up_to_final (cond final [] (up_to_final es))) ≡ e ∷ cond final [] (up_to_final es)
again e es true h rest = ap (λ b. e ∷ cond b [] []) h
again e es false h rest = ap (λ b. e ∷ cond b [] (up_to_final (up_to_final es))) h ∙ ap (λ r. e ∷ r) rest

-- what is cut once isn't cut again
pub cut_again : (es : List Entry) → up_to_final (up_to_final es) ≡ up_to_final es
cut_again [] = refl
cut_again (e ∷ es) = again e es (is_final e.what) refl (cut_again es)

fewer : (final : Bool) (es rest : List Entry) → length es ≤ length rest → length (cond final [] es) ≤ length rest
fewer true es rest h = omega arith
fewer false es rest h = h

pub cut_fewer : (es : List Entry) → length (up_to_final es) ≤ length es
cut_fewer [] = omega arith
cut_fewer (e ∷ es) = let rest = fewer (is_final e.what) (up_to_final es) es (cut_fewer es) in omega (arith, rest)

cut_all : (P : Entry → Type 0) (es : List Entry) → AllByRecursion P es → AllByRecursion P (up_to_final es)
cut_all P [] h = tt
cut_all P (e ∷ es) h = (h.0, by (is_final e.what) (cut_all P es h.1))
  where
    by : (final : Bool) → AllByRecursion P (up_to_final es) → AllByRecursion P (cond final [] (up_to_final es))
    by true rest = tt
    by false rest = rest

-- what holds of each entry holds of each that is left
pub cut_keeps : (P : Entry → Type 0) (es : List Entry) → All P es → All P (up_to_final es)
cut_keeps P es h = All-from_recursion P (up_to_final es) (cut_all P es (recursion_from_All P es h))
