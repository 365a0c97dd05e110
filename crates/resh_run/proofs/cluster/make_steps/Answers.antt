use Rattle.std.proofs.Common.{◌+◌, refl, ap, ◌∙◌}
use Rattle.std.proofs.lemmas.List.{take_all}
use Rattle.resh_run.proofs.Steps.{all_shown, none_shown, shown_more}
use Rattle.resh_run.proofs.cluster.make_steps.Goals as goal

pub loop-event-init : goal.loop-event-init
loop-event-init g c = record { shown = none_shown c.args.setup.now _ _ _ c.new-lines.ensures; number = refl }

pub loop-event-preserved : goal.loop-event-preserved
loop-event-preserved g c =
    let l = c.loop-event in
    let numbered = c.in_ok-number.ensures ∙ ap (λ n. n + 1) l.invariant.number in
    record {
      shown = shown_more c.args.setup.now c.as_slice-event-items.result.now l.event-index c.in_ok-number.number c.event-item.result _ _ _ _ _ _ _ _
          l.invariant.shown c.loop-event-test.true c.event-item.is numbered c.in_ok-make_step.ensures;
      number = numbered;
    }

pub returns : goal.returns
returns g c =
    all_shown c.args.setup.now _ _ _ _ _ c.loop-event.event-index _ (take_all _ _ c.loop-event-test.false ∙ c.as_slice-event-items.ensures) c.loop-event.invariant.shown
