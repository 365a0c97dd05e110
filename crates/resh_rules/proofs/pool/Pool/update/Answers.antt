use Rattle.std.proofs.Common.{refl, sym, ◌∙◌}
use Rattle.std.proofs.lemmas.Result.{MatchResult-from_err}
use Rattle.resh_oplog.specs.declared.entry.What.TheVariants.{Update}
use Rattle.resh_rules.specs.Pools.{held_of}
use Rattle.resh_rules.specs.Rules.{output_changed, waiting_changed}
use Rattle.resh_rules.specs.declared.rule.Found.TheVariants.{Waiting, Nothing, Own, Others}
use Rattle.resh_rules.proofs.Giving.{filled_by, given_at, given_not, may_come, sound_at}
use Rattle.resh_rules.proofs.pool.Pool.update.Goals as goal

pub alter_waiting-requires-clause-sound : goal.alter_waiting-requires-clause-sound
alter_waiting-requires-clause-sound c =
    sound_at c.args.self.now.state c.args.donor.0 c.args.id.now (Update c.args.id.now c.args.change.now) Waiting (sym c.found.ensures.found ∙ c.in-Waiting.is) c.found.ensures.sound (may_come c.args.self.now.state c.args.donor.0 c.args.id.now (Update c.args.id.now c.args.change.now) c.requires.fits)

pub returns-in_ok-alter_waiting-in-Waiting-clause-state : goal.returns-in_ok-alter_waiting-in-Waiting-clause-state
returns-in_ok-alter_waiting-in-Waiting-clause-state c =
    given_at c.args.self.now.state c.args.donor.0 c.args.id.now (Update c.args.id.now c.args.change.now) Waiting (sym c.found.ensures.found ∙ c.in-Waiting.is) (waiting_changed c.args.donor.0 c.args.change.now) _ c.in_ok-alter_waiting-in-Waiting.ensures.acts refl

pub returns-in_err-alter_waiting-in-Waiting-clause-wanted : goal.returns-in_err-alter_waiting-in-Waiting-clause-wanted
returns-in_err-alter_waiting-in-Waiting-clause-wanted c =
    MatchResult-from_err c.from_residual.result _ _ c.from_residual.ensures.0 (λ _. filled_by c.args.self.now.state.chunks c.args.donor.0 (held_of c.args.self.now.state c.args.id.now) Waiting (sym c.found.ensures.found ∙ c.in-Waiting.is) refl)

pub alter_output-requires-clause-sound : goal.alter_output-requires-clause-sound
alter_output-requires-clause-sound c =
    sound_at c.args.self.now.state c.args.donor.0 c.args.id.now (Update c.args.id.now c.args.change.now) Own (sym c.found.ensures.found ∙ c.in-Own.is) c.found.ensures.sound (may_come c.args.self.now.state c.args.donor.0 c.args.id.now (Update c.args.id.now c.args.change.now) c.requires.fits)

pub returns-in_ok-alter_output-in-Own-clause-state : goal.returns-in_ok-alter_output-in-Own-clause-state
returns-in_ok-alter_output-in-Own-clause-state c =
    given_at c.args.self.now.state c.args.donor.0 c.args.id.now (Update c.args.id.now c.args.change.now) Own (sym c.found.ensures.found ∙ c.in-Own.is) (output_changed c.args.change.now) _ c.in_ok-alter_output-in-Own.ensures.acts refl

pub returns-in_err-alter_output-in-Own-clause-wanted : goal.returns-in_err-alter_output-in-Own-clause-wanted
returns-in_err-alter_output-in-Own-clause-wanted c =
    MatchResult-from_err c.from_residual-in_err-alter_output-in-Own.result _ _ c.from_residual-in_err-alter_output-in-Own.ensures.0 (λ _. filled_by c.args.self.now.state.chunks c.args.donor.0 (held_of c.args.self.now.state c.args.id.now) Own (sym c.found.ensures.found ∙ c.in-Own.is) refl)

pub returns-in-Nothing-clause-state : goal.returns-in-Nothing-clause-state
returns-in-Nothing-clause-state c = given_not c.args.self.now.state c.args.donor.0 c.args.id.now (Update c.args.id.now c.args.change.now) Nothing (sym c.found.ensures.found ∙ c.in-Nothing.is) refl

pub returns-in-Others-clause-state : goal.returns-in-Others-clause-state
returns-in-Others-clause-state c = given_not c.args.self.now.state c.args.donor.0 c.args.id.now (Update c.args.id.now c.args.change.now) Others (sym c.found.ensures.found ∙ c.in-Others.is) refl
