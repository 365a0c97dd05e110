use Rattle.std.proofs.Common.{◌∙◌, ◌∷◌, ◌++◌, [], refl, ap}
use Rattle.resh_gen.proofs.Places.{command_drawn, stands_after}
use Rattle.resh_gen.proofs.commands.push_next.Goals as goal

pub returns-in_err-chosen-clause-stands : goal.returns-in_err-chosen-clause-stands
returns-in_err-chosen-clause-stands c =
    stands_after c.args.number c.args.streams.now c.requires.stands c.below_thousand-x.new.self.state c.below_four-choice.new.self.state
    c.below_thousand-x.ensures.state c.below_four-choice.ensures.state _ refl c.below_thousand-y.ensures.state c.below_thousand-z.ensures.state

pub returns-in_err-push-clause-stands : goal.returns-in_err-push-clause-stands
returns-in_err-push-clause-stands c =
    stands_after c.args.number c.args.streams.now c.requires.stands c.below_thousand-x.new.self.state c.below_four-choice.new.self.state
    c.below_thousand-x.ensures.state c.below_four-choice.ensures.state _ refl c.below_thousand-y.ensures.state c.below_thousand-z.ensures.state

pub returns-clause-commands : goal.returns-clause-commands
returns-clause-commands c =
    c.in_ok-push.ensures.items
    ∙ ap (λ command. c.args.commands.now.items ++ command ∷ []) (c.in_ok-chosen.ensures
    ∙ command_drawn c.args.number c.args.streams.now c.requires.stands c.below_thousand-x.new.self.state c.below_four-choice.new.self.state
    c.below_thousand-x.ensures.state c.below_four-choice.ensures.state _ _ _ _
    c.below_thousand-x.ensures.drawn c.below_thousand-y.ensures.drawn c.below_four-choice.ensures.drawn c.below_thousand-z.ensures.drawn)

pub returns-clause-stands : goal.returns-clause-stands
returns-clause-stands c =
    stands_after c.args.number c.args.streams.now c.requires.stands c.below_thousand-x.new.self.state c.below_four-choice.new.self.state
    c.below_thousand-x.ensures.state c.below_four-choice.ensures.state _ refl c.below_thousand-y.ensures.state c.below_thousand-z.ensures.state
