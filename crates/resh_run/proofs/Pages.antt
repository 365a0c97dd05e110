-- What a setup without clients has to say.
use Rattle.std.proofs.Common.{◌≡◌, ℕ, Bool, true, false, List, [], ◌∷◌, length, refl, ap, ◌∙◌, arith}
use Rattle.std.specs.Prelude.{◌||◌, nat_lt}
use Rattle.std.proofs.lemmas.Bool.{lt-ltb}
use Rattle.resh_coord.specs.declared.cause.End.{End}
use Rattle.resh_setup.specs.declared.event.Event.{Event}
use Rattle.resh_setup.specs.declared.setup.Setup.{Setup}
use Rattle.resh_setup.specs.declared.turn.Turn.{Turn}
use Rattle.resh_report.specs.Page.{page_text}
use Rattle.resh_bag.specs.Bag.{Document}
use Rattle.resh_model.specs.Marks.{bag_of, IsRun}
use Rattle.resh_report.specs.Lines.{names_of}
use Rattle.resh_model.proofs.orders.OneMark.{one_lawful, one_page, one_well}
use Rattle.resh_run.specs.Top.{needs_cluster}
use Rattle.resh_run.specs.Said.{IsPage}

none_there : {X : Type 0} (xs : List X) (b : Bool) → (nat_lt 0 (length xs) || b) ≡ false → xs ≡ []
none_there [] b e = refl
none_there (x ∷ xs) b e = absurd (by (nat_lt 0 (length (x ∷ xs))) (lt-ltb 0 (length (x ∷ xs)) (omega arith)) e)
  where
    by : (a : Bool) → a ≡ true → (a || b) ≡ false → ⊥
    by true is e = let clash : true ≡ false = e in cc
    by false is e = let clash : false ≡ true = is in cc

later_fails : (a b : Bool) → (a || b) ≡ false → b ≡ false
later_fails true b e = let clash : true ≡ false = e in cc
later_fails false b e = e

pub without_clients : (setup : Setup) → needs_cluster setup ≡ false → setup.clients ≡ []
without_clients setup fails = none_there setup.clients _ fails

pub without_steps : (setup : Setup) → needs_cluster setup ≡ false → length setup.steps ≡ 0
without_steps setup fails =
    ap (λ (steps : List Event). length steps)
    (none_there setup.steps (nat_lt 0 (length setup.plan))
    (later_fails (nat_lt 0 (length setup.clients)) (nat_lt 0 (length setup.steps) || nat_lt 0 (length setup.plan)) fails))

pub says_page : (setup : Setup) (order : List Turn) (end : End) (holdings : List (List Document)) (page : List ℕ) → needs_cluster setup ≡ false
    → IsRun setup.old_map setup.new_map (bag_of setup) order end holdings
    → page ≡ page_text setup.shards (names_of setup.clients) order end [] holdings → IsPage setup order end page
says_page setup order end holdings page fails run is =
    let none = without_clients setup fails in
    record {
      lawful = one_lawful setup none order end holdings run;
      well = one_well setup none order end holdings run;
      text = is ∙ one_page setup none order end holdings run;
    }
