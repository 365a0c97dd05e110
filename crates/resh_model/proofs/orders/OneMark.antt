-- Without clients, a run of one mark is a lawful order, and its page is the page of that order.
use Rattle.std.proofs.Common.{◌≡◌, false, List, [], map, sym, ap, ◌∙◌}
use Rattle.resh_coord.specs.declared.cause.End.{End}
use Rattle.resh_setup.specs.declared.setup.Setup.{Setup}
use Rattle.resh_setup.specs.declared.turn.Turn.{Turn}
use Rattle.resh_report.specs.Page.{page_text}
use Rattle.resh_bag.specs.Bag.{Document}
use Rattle.resh_model.specs.Marks.{bag_of, IsRun}
use Rattle.resh_model.specs.Orders.{last_state, holdings_of, IsLawful}
use Rattle.resh_report.specs.Lines.{names_of}
use Rattle.resh_model.specs.MarkLaws.{is_failure}
use Rattle.resh_model.specs.Runs.{page_of}
use Rattle.resh_model.proofs.orders.Lawful.{runs_are_lawful}

module _ (setup : Setup) (none : setup.clients ≡ []) where
  module _ (order : List Turn) (end : End) (holdings : List (List Document)) where
    pub one_well : IsRun setup.old_map setup.new_map (bag_of setup) order end holdings → is_failure end ≡ false
    one_well (IsRun.switched calm o e h) = ap is_failure e
    one_well (IsRun.dropped shard id first o e h) = ap is_failure e

    pub one_lawful : IsRun setup.old_map setup.new_map (bag_of setup) order end holdings → IsLawful setup order end
    one_lawful run = (runs_are_lawful setup order end holdings none run).0

    pub one_held : IsRun setup.old_map setup.new_map (bag_of setup) order end holdings → holdings ≡ holdings_of (last_state setup order)
    one_held run = (runs_are_lawful setup order end holdings none run).1

    no_answers : IsRun setup.old_map setup.new_map (bag_of setup) order end holdings → (last_state setup order).answers ≡ []
    no_answers (IsRun.switched calm o e h) = ap (λ x. (last_state setup x).answers) o ∙ (λ i. map (λ client. []) (none i))
    no_answers (IsRun.dropped shard id first o e h) = ap (λ x. (last_state setup x).answers) o ∙ (λ i. map (λ client. []) (none i))

    pub one_page : IsRun setup.old_map setup.new_map (bag_of setup) order end holdings
        → page_text setup.shards (names_of setup.clients) order end [] holdings ≡ page_of setup order end
    one_page run = λ i. page_text setup.shards (names_of setup.clients) order end (sym (no_answers run) i) (one_held run i)
