use Rattle.std.proofs.Common.{◌≡◌, ◌∙◌, ap}
use Rattle.resh_chunks.specs.Pattern.{key_of, pattern_fault}
use Rattle.resh_chunks.proofs.Keys.{key_of_three, at_most_three}
use Rattle.resh_chunks.proofs.owner.DocumentKey.read.Goals as goal

pub returns : goal.returns
returns c =
    let names : c.as_slice-names.result.now ≡ c.args.pattern.now = c.as_slice-names.ensures ∙ c.names.ensures.names in
    let few = at_most_three c.as_slice-names.result.now (ap pattern_fault names ∙ c.names.ensures.valid) in
    key_of_three c.as_slice-names.result.now c.args.document.now _ _ _ few c.value_at.ensures c.value_at-2.ensures c.value_at-3.ensures ∙ ap (λ n. key_of n c.args.document.now) names
