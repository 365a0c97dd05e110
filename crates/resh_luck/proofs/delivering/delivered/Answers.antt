use Rattle.std.proofs.Common.{◌≡◌, ◌-◌, true, false, not, ap, sym, ◌∙◌, arith}
use Rattle.resh_luck.specs.Fates.{next_delivery, is_lost}
use Rattle.resh_luck.proofs.Tries.{loses-step, after_tries-step, loses-end, after_tries-end, loses-none, after_tries-none, is_lost-not, plus_count-step, HasRisen-trans}
use Rattle.resh_luck.proofs.delivering.delivered.Goals as goal

pub loop-tried-preserved : goal.loop-tried-preserved
loop-tried-preserved g c =
    let inv = c.loop-tried.invariant in
    let lost : is_lost (next_delivery (g.L.Luck.told c.loop-tried.luck)) ≡ true = ap is_lost (sym c.in-Lost.ensures.delivery) in
    record {
      loses = inv.loses ∙ loses-step _ _ _ _ (omega arith) c.in-Lost.ensures.told lost;
      tries = inv.tries ∙ after_tries-step _ _ _ _ (omega arith) c.in-Lost.ensures.told lost;
      risen = HasRisen-trans _ _ _ inv.risen c.in-Lost.ensures.counts;
      rose = plus_count-step _ _ _ _ inv.rose c.in-Lost.ensures.rose;
    }

pub returns-in_default : goal.returns-in_default
returns-in_default g c =
    let inv = c.loop-tried.invariant in
    let lost : is_lost (next_delivery (g.L.Luck.told c.loop-tried.luck)) ≡ false = ap is_lost (sym c.deliver.ensures.delivery) ∙ is_lost-not _ c.in_default.not-Lost in
    record {
      answer = sym (ap not (inv.loses ∙ loses-end (64 - c.loop-tried.tried) (63 - c.loop-tried.tried) _ (omega arith) lost));
      told = c.deliver.ensures.told ∙ sym (inv.tries ∙ after_tries-end (64 - c.loop-tried.tried) (63 - c.loop-tried.tried) _ (omega arith) lost);
      counts = HasRisen-trans _ _ _ inv.risen c.deliver.ensures.counts;
      rose = λ e. cc;
    }

pub returns-clause-answer : goal.returns-clause-answer
returns-clause-answer g c =
    let inv = c.loop-tried.invariant in
    sym (ap not (inv.loses ∙ loses-none (64 - c.loop-tried.tried) _ (omega arith)))

pub returns-clause-told : goal.returns-clause-told
returns-clause-told g c =
    let inv = c.loop-tried.invariant in
    sym (inv.tries ∙ after_tries-none (64 - c.loop-tried.tried) _ (omega arith))
