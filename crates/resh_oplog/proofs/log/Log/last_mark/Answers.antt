use Rattle.std.proofs.Common.{◌≡◌, Some, sym, ap, ◌∙◌}
use Rattle.std.specs.Option.{option_copied, option_map}
use Rattle.resh_oplog.specs.Logs.{LogOf, last_mark, mark_of}
use Rattle.resh_oplog.proofs.Rising.{last_at}
use Rattle.resh_oplog.proofs.log.Log.last_mark.Goals as goal

pub returns-in-Some : goal.returns-in-Some
returns-in-Some c =
    let all : c.deref.result.now ≡ c.args.self.now.entries = c.deref.ensures.value ∙ ap (λ (l : LogOf). l.entries) c.self.view_is in
    ap Some c.mark.ensures ∙ ap (option_map mark_of) (ap option_copied (sym c.in-Some.is) ∙ c.last.ensures.value) ∙ last_at c.deref.result.now ∙ ap last_mark all

pub returns-in-None : goal.returns-in-None
returns-in-None c =
    let all : c.deref.result.now ≡ c.args.self.now.entries = c.deref.ensures.value ∙ ap (λ (l : LogOf). l.entries) c.self.view_is in
    ap (option_map mark_of) (ap option_copied (sym c.in-None.is) ∙ c.last.ensures.value) ∙ last_at c.deref.result.now ∙ ap last_mark all
