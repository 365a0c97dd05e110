-- What a turn makes of a state, case by case, and walks over lists that are joined.
use Rattle.std.proofs.Common.{◌≡◌, ◌≢◌, ℕ, ◌+◌, Bool, true, false, cond, List, [], ◌∷◌, ◌++◌, length, Option, Some, None, refl, ◌∙◌}
use Rattle.std.proofs.lemmas.List.{get_or-set_other, length-set, length-map}
use Rattle.resh_command.specs.declared.command.Command.{Command}
use Rattle.resh_command.specs.declared.reply.Reply.TheVariants.{AbortAccepted, AbortTooLate, NoMemory}
use Rattle.resh_setup.specs.declared.setup.Setup.{Setup}
use Rattle.resh_setup.specs.declared.turn.Turn.{Turn}
use Rattle.resh_setup.specs.declared.turn.Turn.TheVariants as turn
use Rattle.resh_bag.specs.Answer.{doing}
use Rattle.resh_model.specs.Orders.{Fate, undecided, asked, ended, State, opening, replies_to, next_command, replied, abort_asked, done, is_abort, served, turned, walked, last_state, AllowsAll}

pub walked-append : (setup : Setup) (state : State) (before after : List Turn) → walked setup state (before ++ after) ≡ walked setup (walked setup state before) after
walked-append setup state [] after = refl
walked-append setup state (t ∷ ts) after = walked-append setup (turned setup state t) ts after

pub allowed_behind : (setup : Setup) (state : State) (before after : List Turn) → AllowsAll setup state (before ++ after) → AllowsAll setup (walked setup state before) after
allowed_behind setup state [] after all = all
allowed_behind setup state (t ∷ ts) after all = allowed_behind setup (turned setup state t) ts after all.1

pub allowed_front : (setup : Setup) (state : State) (before after : List Turn) → AllowsAll setup state (before ++ after) → AllowsAll setup state before
allowed_front setup state [] after all = tt
allowed_front setup state (t ∷ ts) after all = (all.0, allowed_front setup (turned setup state t) ts after all.1)

-- a fact of each way in which a client's turn goes
module _ (client : ℕ) (state : State) (P : State → Type 0) where
  pub each_abort : ((number : ℕ) → number ≡ length (replies_to state client) + 1 → state.fate ≡ undecided → P (replied client AbortAccepted (record state { fate = asked client number })))
      → (state.fate ≢ undecided → P (replied client AbortTooLate state)) → (fate : Fate) → state.fate ≡ fate → P (abort_asked client fate state)
  each_abort accepted late undecided is = accepted _ refl is
  each_abort accepted late (asked other number) is = late (λ e. cc)
  each_abort accepted late (ended end) is = late (λ e. cc)

  either : (b : Bool) (one other : State) → P one → P other → P (cond b one other)
  either true one other p q = p
  either false one other p q = q

  pub each_answer : P (replied client NoMemory state) → ((command : Command) → P (done client (doing state.map state.bag command) state))
      → ((number : ℕ) → number ≡ length (replies_to state client) + 1 → state.fate ≡ undecided → P (replied client AbortAccepted (record state { fate = asked client number })))
      → (state.fate ≢ undecided → P (replied client AbortTooLate state))
      → (refused : Bool) (command : Command) → P (served client refused (Some command) state)
  each_answer refuses does accepted late true command = refuses
  each_answer refuses does accepted late false command = either (is_abort command) _ _ (each_abort accepted late state.fate refl) (does command)

  pub each_served : P state → P (replied client NoMemory state) → ((command : Command) → P (done client (doing state.map state.bag command) state))
      → ((number : ℕ) → number ≡ length (replies_to state client) + 1 → state.fate ≡ undecided → P (replied client AbortAccepted (record state { fate = asked client number })))
      → (state.fate ≢ undecided → P (replied client AbortTooLate state))
      → (refused : Bool) (next : Option Command) → P (served client refused next state)
  each_served none refuses does accepted late refused None = none
  each_served none refuses does accepted late refused (Some command) = each_answer refuses does accepted late refused command

-- a state has a list of replies for each client
abbrev pub HasRows : Setup → State → Type 0
HasRows setup state = length state.answers ≡ length setup.clients

pub opening_rows : (setup : Setup) → HasRows setup (opening setup)
opening_rows setup = length-map setup.clients (λ client. [])

pub turned_rows : (setup : Setup) (state : State) → HasRows setup state → (t : Turn) → HasRows setup (turned setup state t)
turned_rows setup state rows (turn.Command client refused) =
    each_served client state (HasRows setup) rows (length-set state.answers client _ ∙ rows) (λ command. length-set state.answers client _ ∙ rows)
    (λ number is undecided. length-set state.answers client _ ∙ rows) (λ decided. length-set state.answers client _ ∙ rows) refused (next_command setup state client)
turned_rows setup state rows turn.Switch = rows
turned_rows setup state rows (turn.Drop cause) = rows

walked_rows : (setup : Setup) (state : State) → HasRows setup state → (ts : List Turn) → HasRows setup (walked setup state ts)
walked_rows setup state rows [] = rows
walked_rows setup state rows (t ∷ ts) = walked_rows setup (turned setup state t) (turned_rows setup state rows t) ts

pub last_rows : (setup : Setup) (ts : List Turn) → HasRows setup (last_state setup ts)
last_rows setup ts = walked_rows setup (opening setup) (opening_rows setup) ts

-- a client's turn gives the others no reply
pub served_elsewhere : (client other : ℕ) → other ≢ client → (state : State) (refused : Bool) (next : Option Command) → replies_to (served client refused next state) other ≡ replies_to state other
served_elsewhere client other apart state refused next =
    each_served client state (λ s. replies_to s other ≡ replies_to state other) refl (get_or-set_other state.answers client other _ [] apart)
    (λ command. get_or-set_other state.answers client other _ [] apart) (λ number is undecided. get_or-set_other state.answers client other _ [] apart)
    (λ decided. get_or-set_other state.answers client other _ [] apart) refused next
