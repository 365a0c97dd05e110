use Rattle.std.proofs.Common.{rules, ap, ap₂, true, ◌≡◌, ◌∙◌}
use Rattle.clap.specs.Simple.{app_of_fields, on_top}
use Rattle.clap.specs.Words.{app_of, rule_of, with_rule}
use Rattle.resh_run.specs.Words.{mode_rule, number_rule, workers_rule, print_rule, named, reshard}
use Rattle.resh_run.proofs.words.command.Goals as goal

pub returns : goal.returns
unfolding reshard
returns c =
    let mode_is : rule_of c.required-mode.result ≡ mode_rule = search rules in
    let number_is : rule_of c.new-number.result ≡ number_rule = search rules in
    let workers_is : rule_of c.long-workers.result ≡ workers_rule = search rules in
    let print_is : rule_of c.action-print.result ≡ print_rule = search rules in
    let named_is : app_of c.no_binary_name-named.result ≡ named = ap app_of_fields c.no_binary_name-named.ensures
    ∙ ap (on_top (λ s. record s { no_binary_name = true })) c.new-4.ensures.app in
    let one : app_of c.in_ok-arg.field-0 ≡ with_rule named mode_rule = c.in_ok-arg.ensures.shape (search rules) ∙ ap₂ with_rule named_is mode_is in
    let two : app_of c.in_ok-arg-2.field-0 ≡ with_rule (with_rule named mode_rule) number_rule = c.in_ok-arg-2.ensures.shape (search rules) ∙ ap₂ with_rule one number_is in
    let three : app_of c.in_ok-arg-3.field-0 ≡ with_rule (with_rule (with_rule named mode_rule) number_rule) workers_rule
    = c.in_ok-arg-3.ensures.shape (search rules) ∙ ap₂ with_rule two workers_is in
    c.in_ok-command.ensures.shape (search rules) ∙ ap₂ with_rule three print_is
