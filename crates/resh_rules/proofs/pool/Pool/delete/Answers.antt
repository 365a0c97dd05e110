use Rattle.std.proofs.Common.{None, length, refl, sym, ◌∙◌}
use Rattle.resh_oplog.specs.declared.entry.What.TheVariants.{Delete}
use Rattle.resh_rules.specs.Held.{with_waiting}
use Rattle.resh_rules.specs.Rules.{first_waiting, refilled}
use Rattle.resh_rules.specs.declared.rule.Found.TheVariants.{Waiting, Nothing, Own, Others}
use Rattle.resh_rules.proofs.Giving.{given_at, given_not, sound_at}
use Rattle.resh_rules.proofs.pool.Pool.delete.Goals as goal

pub take_waiting-requires-clause-sound : goal.take_waiting-requires-clause-sound
take_waiting-requires-clause-sound c = sound_at c.args.self.now.state c.args.donor.0 c.args.id.now (Delete c.args.id.now) Waiting (sym c.found.ensures.found ∙ c.in-Waiting.is) c.found.ensures.sound tt

pub returns-in-Waiting-clause-state : goal.returns-in-Waiting-clause-state
returns-in-Waiting-clause-state c =
    given_at c.args.self.now.state c.args.donor.0 c.args.id.now (Delete c.args.id.now) Waiting (sym c.found.ensures.found ∙ c.in-Waiting.is) (λ held. with_waiting held c.args.donor.0 None) _ c.take_waiting.ensures.acts refl

pub refill-requires-clause-sound : goal.refill-requires-clause-sound
refill-requires-clause-sound c = sound_at c.args.self.now.state c.args.donor.0 c.args.id.now (Delete c.args.id.now) Own (sym c.found.ensures.found ∙ c.in-Own.is) c.found.ensures.sound tt

pub returns-in-Own-clause-state : goal.returns-in-Own-clause-state
returns-in-Own-clause-state c =
    given_at c.args.self.now.state c.args.donor.0 c.args.id.now (Delete c.args.id.now) Own (sym c.found.ensures.found ∙ c.in-Own.is) (λ held. refilled held (first_waiting held)) _ c.refill.ensures.acts refl

pub returns-in-Nothing-clause-state : goal.returns-in-Nothing-clause-state
returns-in-Nothing-clause-state c = given_not c.args.self.now.state c.args.donor.0 c.args.id.now (Delete c.args.id.now) Nothing (sym c.found.ensures.found ∙ c.in-Nothing.is) refl

pub returns-in-Others-clause-state : goal.returns-in-Others-clause-state
returns-in-Others-clause-state c = given_not c.args.self.now.state c.args.donor.0 c.args.id.now (Delete c.args.id.now) Others (sym c.found.ensures.found ∙ c.in-Others.is) refl
