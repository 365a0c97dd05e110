use Rattle.std.proofs.Common.{Some, refl, sym, ◌∙◌}
use Rattle.resh_oplog.specs.declared.entry.What.{What}
use Rattle.resh_oplog.specs.declared.entry.What.TheVariants.{Insert}
use Rattle.resh_rules.specs.Held.{with_output, with_waiting}
use Rattle.resh_rules.specs.declared.rule.Found.TheVariants.{Waiting, Nothing, Own, Others}
use Rattle.resh_rules.proofs.Giving.{given_at, may_come, sound_at}
use Rattle.resh_rules.proofs.pool.Pool.insert.Goals as goal

pub put_waiting-requires-clause-sound : goal.put_waiting-requires-clause-sound
put_waiting-requires-clause-sound c =
    sound_at c.args.self.now.state c.args.donor.0 c.args.id (Insert c.args.document) Waiting (sym c.found.ensures.found ∙ c.in-Waiting.is) c.found.ensures.sound (may_come c.args.self.now.state c.args.donor.0 c.args.id (Insert c.args.document) c.requires.fits)

pub returns-in-Waiting-clause-state : goal.returns-in-Waiting-clause-state
returns-in-Waiting-clause-state c =
    given_at c.args.self.now.state c.args.donor.0 c.args.id (Insert c.args.document) Waiting (sym c.found.ensures.found ∙ c.in-Waiting.is) (λ held. with_waiting held c.args.donor.0 (Some c.args.document)) _ c.put_waiting.ensures.acts refl

pub put_output-requires-clause-sound : goal.put_output-requires-clause-sound
put_output-requires-clause-sound c =
    sound_at c.args.self.now.state c.args.donor.0 c.args.id (Insert c.args.document) Nothing (sym c.found.ensures.found ∙ c.in-Nothing.is) c.found.ensures.sound (may_come c.args.self.now.state c.args.donor.0 c.args.id (Insert c.args.document) c.requires.fits)

pub returns-in-Nothing-clause-state : goal.returns-in-Nothing-clause-state
returns-in-Nothing-clause-state c =
    given_at c.args.self.now.state c.args.donor.0 c.args.id (Insert c.args.document) Nothing (sym c.found.ensures.found ∙ c.in-Nothing.is) (λ held. with_output held (Some c.args.document)) _ c.put_output.ensures.acts refl

pub put_output-requires-in-Own-clause-sound : goal.put_output-requires-in-Own-clause-sound
put_output-requires-in-Own-clause-sound c =
    sound_at c.args.self.now.state c.args.donor.0 c.args.id (Insert c.args.document) Own (sym c.found.ensures.found ∙ c.in-Own.is) c.found.ensures.sound (may_come c.args.self.now.state c.args.donor.0 c.args.id (Insert c.args.document) c.requires.fits)

pub returns-in-Own-clause-state : goal.returns-in-Own-clause-state
returns-in-Own-clause-state c =
    given_at c.args.self.now.state c.args.donor.0 c.args.id (Insert c.args.document) Own (sym c.found.ensures.found ∙ c.in-Own.is) (λ held. with_output held (Some c.args.document)) _ c.put_output-in-Own.ensures.acts refl

pub put_waiting-requires-in-Others-clause-sound : goal.put_waiting-requires-in-Others-clause-sound
put_waiting-requires-in-Others-clause-sound c =
    sound_at c.args.self.now.state c.args.donor.0 c.args.id (Insert c.args.document) Others (sym c.found.ensures.found ∙ c.in-Others.is) c.found.ensures.sound (may_come c.args.self.now.state c.args.donor.0 c.args.id (Insert c.args.document) c.requires.fits)

pub returns-in-Others-clause-state : goal.returns-in-Others-clause-state
returns-in-Others-clause-state c =
    given_at c.args.self.now.state c.args.donor.0 c.args.id (Insert c.args.document) Others (sym c.found.ensures.found ∙ c.in-Others.is) (λ held. with_waiting held c.args.donor.0 (Some c.args.document)) _ c.put_waiting-in-Others.ensures.acts refl
