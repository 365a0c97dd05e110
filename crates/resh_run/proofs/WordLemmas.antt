-- What is asked by the words.
use Rattle.std.proofs.Common.{◌≡◌, ◌≢◌, ◌⊎◌, ◌∙◌, ℕ, ◌^◌, ◌<◌, ◌≤◌, Bool, true, false, cond, List, [], ◌∷◌, length, map, Option, Some, None, Result, Ok, Err, inl, inr, ⊎_elim, refl, sym, ap, arith}
use Rattle.std.specs.declared.alloc.Global.{Global}
use Rattle.std.specs.Prelude.{◌&&◌, ◌==◌, String, nat_lt, nat_le, IfOk, IfErr, codes, option_and_then}
use Rattle.std.specs.Char.{is_ascii_digit}
use Rattle.std.specs.List.{list_all}
use Rattle.std.specs.Str.{all_ascii_digits}
use Rattle.std.specs.Str.Parse.{digits_value, ParsesUnsigned}
use Rattle.std.proofs.lemmas.Bool.Decides.{nat_tests}
use Rattle.std.proofs.lemmas.Str.Parse.{IsNumeralModel, numerals_by_value, tells_all_ascii_digits, digits_value_short, parse_gives}
use Rattle.clap.specs.Kinds.{FailsBy, IsAmong, Kinds}
use Rattle.clap.specs.Words.{Row, Text, fault_of, first_of, first_value, rows_of, is_simple, is_simple_and_free, kind_of, matches_of}
use Rattle.clap.specs.declared.error.Error.{Error}
use Rattle.clap.specs.declared.error.kind.ErrorKind.{ErrorKind}
use Rattle.clap.specs.declared.error.kind.ErrorKind.TheVariants.{OutOfMemory}
use Rattle.clap.specs.declared.parser.matches.Found.{Found}
use Rattle.clap.proofs.OnLiterals.{clap_on_literals}
use Rattle.clap.proofs.WalkLemmas.{first_value-rows}
use Rattle.resh_run.specs.Words.{FormsAreRead, asked_in, asked_by, asked_of, form, is_free, is_number, is_set, reshard}
use Rattle.resh_run.specs.declared.words.Asked.{Asked}

-- no words ask for nothing
pub none_asked : asked_of [] ≡ None
unfolding asked_of reshard clap_on_literals
none_asked = refl

is_zero : (n : ℕ) → (n == 0) ≡ true → n ≡ 0
is_zero n e = grind (arith, nat_tests)

pub no_words : (words : List (String Global)) → (length words == 0) ≡ true → ◌≡◌ {A = Option Asked} None (asked_by words)
no_words [] e = sym none_asked
no_words (word ∷ words) e = let bad : length (word ∷ words) ≡ 0 = is_zero (length (word ∷ words)) e in absurd (omega (arith, bad))

pub forms_read : FormsAreRead
unfolding asked_of reshard clap_on_literals
forms_read = (refl, refl, refl, refl, refl, refl, refl, refl, refl, refl)

-- ---- what is read of words

pub asked_free : (texts : List Text) → fault_of reshard texts ≡ [] → asked_of texts ≡ asked_in (matches_of reshard texts)
unfolding asked_of
asked_free texts free = ap (λ (kinds : Kinds). cond (is_free kinds) (asked_in (matches_of reshard texts)) None) free

refused_by : (kinds : Kinds) (o : Option Asked) → kinds ≢ [] → cond (is_free kinds) o None ≡ None
refused_by [] o some = absurd (some refl)
refused_by (k ∷ ks) o some = refl

pub asked_refused : (texts : List Text) → fault_of reshard texts ≢ [] → asked_of texts ≡ None
unfolding asked_of
asked_refused texts some = refused_by (fault_of reshard texts) (asked_in (matches_of reshard texts)) some

pub among_some : (k : ErrorKind) (kinds : Kinds) → IsAmong k kinds → kinds ≢ []
among_some k [] h = absurd h
among_some k (x ∷ xs) h = λ e. cc

-- an `Ok` says that no kind of fault comes
pub fails_ok : {T : Type 0} (kinds others : Kinds) (r : Result T Error) → kinds ≡ others → FailsBy kinds r → IfOk r (λ _. others ≡ [])
fails_ok kinds others (Ok m) same h = sym same ∙ h
fails_ok kinds others (Err e) same h = tt

-- and an `Err` is for memory, or some kind of fault comes
pub fails_err : {T : Type 0} (kinds others : Kinds) (r : Result T Error) → kinds ≡ others → FailsBy kinds r
    → IfErr r (λ e. (kind_of e ≡ OutOfMemory) ⊎ (others ≢ []))
fails_err kinds others (Ok m) same h = tt
fails_err kinds others (Err e) same h = ⊎_elim (λ memory. inl memory) (λ among. inr (λ none. among_some (kind_of e) kinds among (same ∙ none))) h

-- the command is simple, and no argument has a rule on another
pub is_one : is_simple reshard ≡ true
unfolding reshard clap_on_literals
is_one = refl

pub is_free_one : is_simple_and_free reshard ≡ true
unfolding reshard clap_on_literals
is_free_one = refl

-- ---- numbers

digits_alike : (ds : List ℕ) → list_all is_ascii_digit ds ≡ all_ascii_digits ds
digits_alike [] = refl
digits_alike (c ∷ cs) = ap (λ b. is_ascii_digit c && b) (digits_alike cs)

abbrev AreDigits : List ℕ → Type 0
AreDigits ds = all_ascii_digits ds ≡ true

digits_model : IsNumeralModel AreDigits (digits_value 10)
digits_model = numerals_by_value AreDigits tells_all_ascii_digits

-- what a number's text is
record IsNumber (text : List ℕ) : Type 0 where
  some : 0 < length text
  few : length text ≤ 10
  digits : AreDigits text

at_least_one : (n : ℕ) → nat_lt 0 n ≡ true → 0 < n
at_least_one n h = grind (arith, nat_tests)

at_most_ten : (n : ℕ) → nat_le n 10 ≡ true → n ≤ 10
at_most_ten n h = grind (arith, nat_tests)

parts_of : (text : List ℕ) (some few digits first : Bool) → nat_lt 0 (length text) ≡ some → nat_le (length text) 10 ≡ few → list_all is_ascii_digit text ≡ digits
    → (some && few && digits && first) ≡ true → IsNumber text
parts_of text true true true first a b c is = record { some = at_least_one (length text) a; few = at_most_ten (length text) b; digits = sym (digits_alike text) ∙ c }
parts_of text true true false first a b c is = cc
parts_of text true false digits first a b c is = cc
parts_of text false few digits first a b c is = cc

number_parts : (text : List ℕ) → is_number text ≡ true → IsNumber text
number_parts text is = parts_of text (nat_lt 0 (length text)) (nat_le (length text) 10) (list_all is_ascii_digit text) _ refl refl refl is

-- a number that is parsed
pub number_parsed : {E : Type 0} (text : List ℕ) (r : Result ℕ E) → is_number text ≡ true → ParsesUnsigned 64 10 text r → r ≡ Ok (digits_value 10 text)
number_parsed text r is parses =
    let n = number_parts text is in
    let short = digits_value_short digits_model text 10 n.digits n.few in
    parse_gives digits_model 64 text r parses n.digits n.some (omega arith)

-- ---- the row that a reading is

-- what a getter reads, by the rows
pub got : (f : Found) (id : Text) (o : Option Text) (rows : List Row) → o ≡ first_value f id → rows_of f ≡ rows → o ≡ first_of id rows
got f id o rows is same = is ∙ first_value-rows f id ∙ ap (first_of id) same

pub form_read : (rows : List Row) (mode : Text) (number workers print : Option Text) (set : Bool) → Some mode ≡ first_of (codes "mode") rows → number ≡ first_of (codes "number") rows
    → workers ≡ first_of (codes "workers") rows → print ≡ first_of (codes "print") rows → set ≡ is_set print → form mode number workers set ≡ asked_in rows
form_read rows mode number workers print set mode_is number_is workers_is print_is set_is =
    let set_too : set ≡ is_set (first_of (codes "print") rows) = set_is ∙ ap is_set print_is in
    let same : form mode number workers set ≡ form mode (first_of (codes "number") rows) (first_of (codes "workers") rows) (is_set (first_of (codes "print") rows)) = cc in
    same ∙ ap (option_and_then (λ m. form m (first_of (codes "number") rows) (first_of (codes "workers") rows) (is_set (first_of (codes "print") rows)))) mode_is

pub no_form : (rows : List Row) → None ≡ first_of (codes "mode") rows → ◌≡◌ {A = Option Asked} None (asked_in rows)
no_form rows none = ap (option_and_then (λ m. form m (first_of (codes "number") rows) (first_of (codes "workers") rows) (is_set (first_of (codes "print") rows)))) none
