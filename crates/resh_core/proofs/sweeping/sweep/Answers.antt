use Rattle.std.proofs.Common.{sym, ◌∙◌}
use Rattle.resh_core.proofs.TrialLaws.{round_end, round_falls, round_more, rounds_none}
use Rattle.resh_core.proofs.sweeping.sweep.Goals as goal

pub rounds-init : goal.rounds-init
rounds-init g c = rounds_none _ _ _ c.requires.sound

pub rounds-preserved : goal.rounds-preserved
rounds-preserved g c =
    round_more _ _ _ _ _ _ _ c.rounds.invariant (sym c.is_over.ensures ∙ c.rounds-test.true) c.in_ok-make_round.ensures

pub rounds-smaller : goal.rounds-smaller
rounds-smaller g c =
    round_falls _ _ _ _ _ c.rounds_end.ensures c.rounds.invariant.sound (sym c.is_over.ensures ∙ c.rounds-test.true)
    c.in_ok-make_round.ensures

pub make_round-requires : goal.make_round-requires
make_round-requires g c = record { sound = c.rounds.invariant.sound }

pub returns-clause-swept : goal.returns-clause-swept
returns-clause-swept g c = round_end _ _ _ _ _ c.rounds.invariant (sym c.is_over.ensures ∙ c.rounds-test.false)
