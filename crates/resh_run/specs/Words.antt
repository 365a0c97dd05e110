-- What the words of the command line ask: what `clap` reads of them as one simple command, and the rows of the table of
-- forms that such a reading may be.
use Rattle.std.specs.Prelude.{◌≡◌, ℕ, ◌^◌, ◌-◌, ◌==◌, ◌&&◌, ◌||◌, Bool, true, false, not, cond, nat_lt, nat_le, List}
use Rattle.std.specs.Prelude.{[], ◌∷◌, length, slice_index, map, codes, Option, Some, None, option_map, option_and_then}
use Rattle.std.specs.Prelude.{String, string_bytes}
use Rattle.std.specs.declared.alloc.Global.{Global}
use Rattle.std.specs.Char.{is_ascii_digit}
use Rattle.std.specs.List.{list_all}
use Rattle.std.specs.Option.{option_map_or}
use Rattle.std.specs.Str.Parse.{digits_value}
use Rattle.clap.specs.Simple.{on_top}
use Rattle.clap.specs.Words.{App, Kinds, Row, Rule, Text, fault_of, first_of, matches_of, new_app, new_rule, with_rule}
use Rattle.clap.specs.declared.builder.action.ArgAction.TheVariants.{SetTrue}
use Rattle.resh_value.specs.Names.{same_name}
use Rattle.resh_run.specs.declared.words.Asked.{Asked}
use Rattle.resh_run.specs.declared.words.Asked.TheVariants.{Plain, Check, Run, Generate}

-- ---- the command: a mode, a number, `--workers` with a value, the flag `--print`, and no program's name before them

abbrev pub mode_rule : Rule
mode_rule = record (new_rule (codes "mode")) { required = true }

abbrev pub number_rule : Rule
number_rule = new_rule (codes "number")

abbrev pub workers_rule : Rule
workers_rule = record (new_rule (codes "workers")) { long = Some (codes "workers") }

abbrev pub print_rule : Rule
print_rule = record (new_rule (codes "print")) { long = Some (codes "print"); action = Some SetTrue }

abbrev pub named : App
named = on_top (λ s. record s { no_binary_name = true }) (new_app (codes "reshard"))

unfoldable pub reshard : App
reshard = with_rule (with_rule (with_rule (with_rule named mode_rule) number_rule) workers_rule) print_rule

-- ---- the rows of the table

-- a decimal number of 1 to 10 digits, without a leading zero but in `0`
abbrev pub is_number : Text → Bool
is_number text =
    nat_lt 0 (length text) && nat_le (length text) 10 && list_all is_ascii_digit text
    && (not (slice_index text 0 == 48) || (length text == 1))

abbrev pub is_within : ℕ → ℕ → ℕ → Bool
is_within least most n = not (nat_lt n least || nat_lt most n)

-- such a number between two bounds
abbrev pub number_within : ℕ → ℕ → Text → Option ℕ
number_within least most text =
    cond (is_number text && is_within least most (digits_value 10 text)) (Some (digits_value 10 text)) None

-- a mode that stands alone
abbrev pub bare : Asked → Option Text → Option Text → Bool → Option Asked
bare asked None None false = Some asked
bare asked None None true = None
bare asked None (Some workers) print = None
bare asked (Some number) workers print = None

-- `run --workers N`
abbrev pub run_form : Option Text → Option Text → Bool → Option Asked
run_form None (Some workers) false = option_map Run (number_within 1 16 workers)
run_form None (Some workers) true = None
run_form None None print = None
run_form (Some number) workers print = None

-- `generate N`, and `--print`
abbrev pub generate_form : Option Text → Option Text → Bool → Option Asked
generate_form (Some number) None print = option_map (λ n. Generate n print) (number_within 0 (2 ^ 32 - 1) number)
generate_form (Some number) (Some workers) print = None
generate_form None workers print = None

abbrev pub form : Text → Option Text → Option Text → Bool → Option Asked
form mode number workers print =
    cond (same_name mode (codes "plain")) (bare Plain number workers print)
    (cond (same_name mode (codes "check")) (bare Check number workers print)
    (cond (same_name mode (codes "run")) (run_form number workers print)
    (cond (same_name mode (codes "generate")) (generate_form number workers print) None)))

-- a flag's text is `true` where it was given
abbrev pub is_set : Option Text → Bool
is_set text = option_map_or (λ t. same_name t (codes "true")) text false

-- the row that a reading is
abbrev pub asked_in : List Row → Option Asked
asked_in rows =
    option_and_then
    (λ mode. form mode (first_of (codes "number") rows) (first_of (codes "workers") rows)
    (is_set (first_of (codes "print") rows)))
    (first_of (codes "mode") rows)

-- ---- the words

-- nothing is wrong with the words
abbrev pub is_free : Kinds → Bool
is_free [] = true
is_free (kind ∷ kinds) = false

-- what is asked where `clap` takes the words and their reading is a row
unfoldable pub asked_of : List Text → Option Asked
asked_of texts = cond (is_free (fault_of reshard texts)) (asked_in (matches_of reshard texts)) None

abbrev pub texts_of : List (String Global) → List Text
texts_of words = map string_bytes words

abbrev pub asked_by : List (String Global) → Option Asked
asked_by words = asked_of (texts_of words)

-- what some words ask: each form of the table, and words that are none
abbrev pub FormsAreRead : Type 0
FormsAreRead =
    (asked_of (codes "plain" ∷ []) ≡ Some Plain) × (asked_of (codes "check" ∷ []) ≡ Some Check)
    × (asked_of (codes "run" ∷ codes "--workers" ∷ codes "16" ∷ []) ≡ Some (Run 16))
    × (asked_of (codes "generate" ∷ codes "7" ∷ []) ≡ Some (Generate 7 false))
    × (asked_of (codes "generate" ∷ codes "7" ∷ codes "--print" ∷ []) ≡ Some (Generate 7 true))
    × (asked_of [] ≡ None) × (asked_of (codes "plain" ∷ codes "3" ∷ []) ≡ None)
    × (asked_of (codes "run" ∷ codes "--workers" ∷ codes "0" ∷ []) ≡ None)
    × (asked_of (codes "generate" ∷ codes "4294967296" ∷ []) ≡ None)
    × (asked_of (codes "plain" ∷ codes "--help" ∷ []) ≡ None)
