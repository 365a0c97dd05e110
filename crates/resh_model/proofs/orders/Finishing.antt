-- No client has a command left where none of those that there are has one.
use Rattle.std.proofs.Common.{◌≡◌, ◌<◌, ◌≤◌, ℕ, Bool, true, false, length, ltb, Some, None, slice_get, refl, ap, ◌∙◌, arith}
use Rattle.std.proofs.lemmas.Bool.{ltb-true}
use Rattle.std.proofs.lemmas.Bool.Decides.{nat_tests}
use Rattle.std.proofs.lemmas.Option.{slice_get_past}
use Rattle.resh_setup.specs.declared.setup.Setup.{Setup}
use Rattle.resh_model.specs.Orders.{State, commands_of, next_command, replies_to}

module _ (setup : Setup) (state : State) where
  past_clients : (client : ℕ) → length setup.clients ≤ client → next_command setup state client ≡ None
  past_clients client le = ap (λ asking. slice_get (commands_of asking) (length (replies_to state client))) (slice_get_past setup.clients client le)

  not_below : (m n : ℕ) → ltb m n ≡ false → n ≤ m
  not_below m n e = grind (arith, nat_tests)

  at_most : (a b c : ℕ) → a ≤ b → b ≤ c → a ≤ c
  at_most a b c h k = omega arith

  pub none_left : (n : ℕ) → length setup.clients ≤ n → ((k : ℕ) → k < n → next_command setup state k ≡ None) → (client : ℕ) → next_command setup state client ≡ None
  none_left n le below client = by (ltb client n) refl
    where
      by : (b : Bool) → ltb client n ≡ b → next_command setup state client ≡ None
      by true e = below client (ltb-true client n e)
      by false e = past_clients client (at_most (length setup.clients) n client le (not_below client n e))
