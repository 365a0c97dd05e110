use Rattle.std.proofs.Common.{Global, rules}
use Rattle.resh_turn.proofs.Steps.{begins_with}
use Rattle.resh_turn.specs.Turns.{boxed}
use Rattle.resh_turn.proofs.cell.TurnCell.opened.Goals as goal

pub new-requires-2 : goal.new-requires-2
new-requires-2 g c =
    begins_with (boxed {Z = Global} g.S.Journal.start) (boxed {Z = Global} g.S.Journal.journal) c.in_ok-story.story (g.S.Journal.start c.of.result.value) c.args.passes c.push_reserved.new.self.items (search rules) (search rules) c.requires.some (search rules)
