-- A run without clients is a lawful order.
use Rattle.std.proofs.Common.{◌≡◌, List, [], ◌∷◌, length, refl, sym, ap, subst, ◌∙◌}
use Rattle.std.specs.List.{slice_get}
use Rattle.resh_coord.specs.declared.cause.End.{End}
use Rattle.resh_coord.specs.declared.cause.End.TheVariants.{Committed, Aborted}
use Rattle.resh_setup.specs.declared.setup.Setup.{Setup}
use Rattle.resh_setup.specs.declared.turn.Turn.{Turn}
use Rattle.resh_setup.specs.declared.turn.Turn.TheVariants as turn
use Rattle.resh_bag.specs.Bag.{Document}
use Rattle.resh_model.specs.Marks.{IsRun, switched, dropped, bag_of, clash_at}
use Rattle.resh_model.specs.Orders.{ended, opening, replies_to, commands_of, last_state, holdings_of, AllowsAll, IsLawful}
use Rattle.resh_model.specs.OrderLaws.{mark_of, RunsAreLawful}
use Rattle.resh_model.proofs.orders.Placed.{stays_placed}
use Rattle.resh_model.proofs.orders.Switching.{switch_keeps}

module _ (setup : Setup) (none : setup.clients ≡ []) where
  abbrev Stands : List Turn → End → List (List Document) → Type 0
  Stands order end holdings = IsLawful setup order end × (holdings ≡ holdings_of (last_state setup order))

  lawful : (end : End) → AllowsAll setup (opening setup) (mark_of end ∷ []) → (last_state setup (mark_of end ∷ [])).fate ≡ ended end → IsLawful setup (mark_of end ∷ []) end
  lawful end all decided = record {
    allowed = all;
    finished = record {
      decided = decided;
      served = λ client. ap (λ cs. slice_get (commands_of (slice_get cs client)) (length (replies_to (last_state setup (mark_of end ∷ [])) client))) none;
    };
  }

  same : (order one : List Turn) (end last : End) (holdings parts' : List (List Document)) → order ≡ one → end ≡ last → holdings ≡ parts' → Stands one last parts' → Stands order end holdings
  same order one end last holdings parts' o e h stands =
      let w : Stands order end parts' = subst (λ (p : List Turn × End). Stands p.0 p.1 parts') (λ i. (sym o i, sym e i)) stands in
      (w.0, h ∙ w.1)

  stands : (order : List Turn) (end : End) (holdings : List (List Document)) → IsRun setup.old_map setup.new_map (bag_of setup) order end holdings → Stands order end holdings
  stands order end holdings (switched free o e h) =
      same order (turn.Switch ∷ []) end Committed holdings _ o e h
      (lawful Committed ((refl, free), tt) refl, sym (switch_keeps.holdings setup (opening setup) (stays_placed.opens setup) free))
  stands order end holdings (dropped shard id first o e h) =
      same order (turn.Drop (clash_at shard id) ∷ []) end (Aborted (clash_at shard id)) holdings _ o e h
      (lawful (Aborted (clash_at shard id)) ((refl, first), tt) refl, refl)

pub runs_are_lawful : RunsAreLawful
runs_are_lawful setup order end holdings none run = stands setup none order end holdings run
