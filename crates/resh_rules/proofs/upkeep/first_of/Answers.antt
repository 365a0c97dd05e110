use Rattle.std.proofs.Common.{◌-◌, length, take, arith, sym, ap, ◌∙◌}
use Rattle.std.proofs.lemmas.List.{length-take}
use Rattle.std.specs.Option.{option_copied}
use Rattle.resh_rules.proofs.Upkeeping.{least_with, least_with_none, least_before}
use Rattle.resh_rules.specs.Pools.{documents_of, lesser}
use Rattle.resh_rules.proofs.upkeep.first_of.Goals as goal

pub loop-rest-init : goal.loop-rest-init
loop-rest-init c = record { within = omega arith; least = least_with_none (documents_of c.args.stashes.now) }

pub loop-rest-preserved : goal.loop-rest-preserved
loop-rest-preserved c = record {
  within = let fewer = length-take (length c.loop-rest.rest.now - 1) c.loop-rest.rest.now in omega (arith, fewer, c.loop-rest.invariant.within);
  least =
      ap (least_with (documents_of (take (length c.loop-rest.rest.now - 1) c.loop-rest.rest.now)))
      (c.lesser-least.ensures ∙ ap (λ first. lesser first (option_copied c.loop-rest.least)) c.first.ensures.first)
      ∙ sym (least_before c.loop-rest.rest.now c.last-item.result (option_copied c.loop-rest.least) c.in-len1-up.len_at_least c.last-item.is)
      ∙ c.loop-rest.invariant.least;
}
