use Rattle.std.proofs.Common.{Bool, true, false, not, ◌&&◌, ◌∙◌, ◌≡◌, Some, None, filter, refl, ap, sym}
use Rattle.std.specs.Option.{option_copied}
use Rattle.resh_versions.specs.Standing.{chains_above, is_above}
use Rattle.resh_versions.proofs.versions.chains_above.Goals as goal

and_true : (b : Bool) → (b && not false) ≡ b
and_true true = refl
and_true false = refl

pub returns-in-Some : goal.returns-in-Some
returns-in-Some c =
    c.range.ensures.between tt ∙ (λ i. filter (λ e. and_true (is_above (Some c.in-Some.id.now) e.0) i) c.args.chains.now.entries)
    ∙ ap (λ a. chains_above (option_copied a) c.args.chains.now.entries) (sym c.in-Some.is)

pub returns-in-None : goal.returns-in-None
returns-in-None c =
    c.range-in-None.ensures.between tt ∙ (λ i. filter (λ e. and_true (is_above None e.0) i) c.args.chains.now.entries)
    ∙ ap (λ a. chains_above (option_copied a) c.args.chains.now.entries) (sym c.in-None.is)
