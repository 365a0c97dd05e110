use Rattle.std.proofs.Common.{◌+◌, refl, ap, sym, ◌∙◌, length, map, min, take}
use Rattle.std.proofs.lemmas.List.{length-map, length-take}
use Rattle.resh_feed.specs.declared.item.Item.{Item}
use Rattle.resh_split.proofs.Standing.{all_timed, counts_join, pieces_join, pieces_stand}
use Rattle.resh_split.proofs.laws.split_laws.Goals as goal

pub returns-clause-stand : goal.returns-clause-stand
returns-clause-stand c = λ lanes donor time place starts front items rest some long count piece there. pieces_stand lanes some donor time place starts front items rest long count piece there

pub returns-clause-join : goal.returns-clause-join
returns-clause-join c =
    record {
      pieces = pieces_join;
      times = all_timed;
      counts = counts_join;
      place = λ l most time ends. ap (λ n. l.kept.place + n) (sym (length-map (take most l.buffer) (λ (item : Item). item.what) ∙ length-take most l.buffer));
      starts = λ l most ends. refl;
    }
