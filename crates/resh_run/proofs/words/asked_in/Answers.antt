use Rattle.std.proofs.Common.{None, Some, codes, option_map, refl, ◌∙◌}
use Rattle.clap.specs.Words.{found_of, rows_of}
use Rattle.resh_run.proofs.WordLemmas.{form_read, got, no_form}
use Rattle.resh_run.proofs.words.asked_in.Goals as goal

pub returns-in-Some : goal.returns-in-Some
returns-in-Some c =
    let found = found_of c.args.matches.now in
    c.form.ensures
    ∙ form_read (rows_of found) c.in-Some.mode.now (option_map (λ t. t.now) c.get_str-number.result) (option_map (λ t. t.now) c.get_str-workers.result)
    (option_map (λ t. t.now) c.get_str.result) c.is_set-print.result
    (got found (codes "mode") (Some c.in-Some.mode.now) (rows_of found) c.in-Some.ensures refl)
    (got found (codes "number") _ (rows_of found) c.get_str-number.ensures refl) (got found (codes "workers") _ (rows_of found) c.get_str-workers.ensures refl)
    (got found (codes "print") _ (rows_of found) c.get_str.ensures refl) c.is_set-print.ensures

pub returns-in-None : goal.returns-in-None
returns-in-None c = let found = found_of c.args.matches.now in no_form (rows_of found) (got found (codes "mode") None (rows_of found) c.in-None.ensures refl)
