-- Each client's commands are asked once each, and each is answered.
use Rattle.std.proofs.Common.{◌≡◌, ℕ, zero, suc, ◌+◌, ◌<◌, ◌≤◌, Bool, true, false, cond, List, filter, [], ◌∷◌, ◌++◌, length, map, drop, get_or, eqb, Option, Some, None, refl, sym, ap, subst, ◌∙◌, ◌⊎◌, inl, inr, arith}
use Rattle.std.proofs.lemmas.Bool.{eqb-true, eqb-false}
use Rattle.std.proofs.lemmas.List.{append-nil, drop_all, drop_more, get_or-set_same, length_push}
use Rattle.std.proofs.lemmas.Option.{get_or_from_slice_get, slice_get_cases, slice_get_within}
use Rattle.std.specs.List.{cons_option, slice_get}
use Rattle.resh_command.specs.declared.command.Command.{Command}
use Rattle.resh_command.specs.declared.reply.Reply.{Reply}
use Rattle.resh_setup.specs.declared.client.Client.{Client}
use Rattle.resh_setup.specs.declared.setup.Setup.{Setup}
use Rattle.resh_setup.specs.declared.turn.Turn.{Turn}
use Rattle.resh_setup.specs.declared.turn.Turn.TheVariants as turn
use Rattle.resh_model.specs.Orders.{State, opening, replies_to, commands_of, next_command, served, turned, walked, last_state, HasNext, AllowsAll}
use Rattle.resh_model.specs.OrderLaws.{asked_at, asked_by, is_turn_of, AsksEachOnce, HasTurnForEach, AnswersEachOnce, AnswersOne}
use Rattle.resh_model.proofs.orders.Turns.{each_answer, served_elsewhere, HasRows, turned_rows, opening_rows, last_rows}

no_replies : (clients : List Client) (k : ℕ) → get_or (map {B = List Reply} (λ client. []) clients) k [] ≡ []
no_replies [] k = refl
no_replies (c ∷ cs) zero = refl
no_replies (c ∷ cs) (suc k) = no_replies cs k

past_end : {X : Type 0} (xs : List X) (k : ℕ) → slice_get xs k ≡ None → length xs ≤ k
past_end {X} xs k none = by (slice_get_cases xs k).1
  where
    by : ((x : X) × (k < length xs) × (slice_get xs k ≡ Some x) × (get_or xs k x ≡ x)) ⊎ ((length xs ≤ k) × (slice_get xs k ≡ None)) → length xs ≤ k
    by (inl (x, within, is, at)) = absurd (let e : None ≡ Some x = sym none ∙ is in cc)
    by (inr (past, is)) = past

-- what is left of a list, from a place where it has an item
left_from : {X : Type 0} (xs : List X) (k : ℕ) (x : X) → slice_get xs k ≡ Some x → drop k xs ≡ x ∷ drop (k + 1) xs
left_from xs k x is = drop_more xs k x (slice_get_within xs k x is) ∙ ap (λ y. y ∷ drop (k + 1) xs) (get_or_from_slice_get xs k x x is)

consed : {X : Type 0} (o : Option X) (xs ys : List X) → cons_option o (xs ++ ys) ≡ cons_option o xs ++ ys
consed None xs ys = refl
consed (Some x) xs ys = refl

-- a client that has a command left has its list of replies
client_there : (clients : List Client) (client k : ℕ) (command : Command) (found : Option Client) → slice_get clients client ≡ found → slice_get (commands_of found) k ≡ Some command → client < length clients
client_there clients client k command None is e = absurd (cc)
client_there clients client k command (Some c) is e = slice_get_within clients client c is

module _ (setup : Setup) (client : ℕ) where
  abbrev commands : List Command
  commands = commands_of (slice_get setup.clients client)

  -- the number of replies
  abbrev answers : State → ℕ
  answers state = length (replies_to state client)

  row_there : (state : State) → HasRows setup state → (command : Command) → next_command setup state client ≡ Some command → client < length state.answers
  row_there state rows command is = subst (λ n. client < n) (sym rows) (client_there setup.clients client (answers state) command (slice_get setup.clients client) refl is)

  one_reply : (state : State) → client < length state.answers → (refused : Bool) (command : Command)
      → (reply : Reply) × (replies_to (served client refused (Some command) state) client ≡ replies_to state client ++ reply ∷ [])
  one_reply state there refused command =
      each_answer client state (λ s. (reply : Reply) × (replies_to s client ≡ replies_to state client ++ reply ∷ []))
      (_, get_or-set_same state.answers client _ [] there) (λ command. (_, get_or-set_same state.answers client _ [] there))
      (λ number is undecided. (_, get_or-set_same state.answers client _ [] there)) (λ decided. (_, get_or-set_same state.answers client _ [] there)) refused command

  pub has_row : (state : State) → HasRows setup state → (next : Option Command) → next_command setup state client ≡ next → HasNext next → client < length state.answers
  has_row state rows None is has = absurd has
  has_row state rows (Some command) is has = row_there state rows command is

  next_reply : (state : State) → HasRows setup state → (refused : Bool) (next : Option Command) → next_command setup state client ≡ next → HasNext next
      → (reply : Reply) × (replies_to (served client refused next state) client ≡ replies_to state client ++ reply ∷ [])
  next_reply state rows refused None is has = absurd has
  next_reply state rows refused (Some command) is has = one_reply state (row_there state rows command is) refused command

  -- a turn asks what it takes from the commands left
  abbrev Takes : State → State → Option Command → Type 0
  Takes state after asked = (drop (answers state) commands ≡ cons_option asked (drop (answers after) commands)) × (answers state ≤ length commands → answers after ≤ length commands)

  takes_none : (state after : State) → replies_to after client ≡ replies_to state client → Takes state after None
  takes_none state after same = (ap (λ r. drop (length r) commands) (sym same), λ within. subst (λ r. length r ≤ length commands) (sym same) within)

  takes_one : (state after : State) (command : Command) → next_command setup state client ≡ Some command
      → (reply : Reply) × (replies_to after client ≡ replies_to state client ++ reply ∷ []) → Takes state after (Some command)
  takes_one state after command is (reply, more) =
      let one : answers after ≡ answers state + 1 = ap length more ∙ length_push (replies_to state client) reply in
      let within : answers state < length commands = slice_get_within commands (answers state) command is in
      (left_from commands (answers state) command is ∙ ap (λ n. command ∷ drop n commands) (sym one), λ w. omega arith)

  own_turn : (state : State) → HasRows setup state → (refused : Bool) (next : Option Command) → next_command setup state client ≡ next → Takes state (served client refused next state) next
  own_turn state rows refused None is = takes_none state state refl
  own_turn state rows refused (Some command) is = takes_one state (served client refused (Some command) state) command is (one_reply state (row_there state rows command is) refused command)

  command_turn : (state : State) → HasRows setup state → (other : ℕ) (refused : Bool) (b : Bool) → eqb other client ≡ b
      → Takes state (served other refused (next_command setup state other) state) (cond b (next_command setup state client) None)
  command_turn state rows other refused true e =
      subst (λ o. Takes state (served o refused (next_command setup state o) state) (next_command setup state client)) (sym (eqb-true other client e))
      (own_turn state rows refused (next_command setup state client) refl)
  command_turn state rows other refused false e = takes_none state (served other refused (next_command setup state other) state) (served_elsewhere other client (λ same. eqb-false other client e (sym same)) state refused (next_command setup state other))

  takes : (state : State) → HasRows setup state → (t : Turn) → Takes state (turned setup state t) (asked_at setup state client t)
  takes state rows (turn.Command other refused) = command_turn state rows other refused (eqb other client) refl
  takes state rows turn.Switch = takes_none state (turned setup state turn.Switch) refl
  takes state rows (turn.Drop cause) = takes_none state (turned setup state (turn.Drop cause)) refl

  asked_along : (state : State) → HasRows setup state → (ts : List Turn) → drop (answers state) commands ≡ asked_by setup state client ts ++ drop (answers (walked setup state ts)) commands
  asked_along state rows [] = refl
  asked_along state rows (t ∷ ts) =
      (takes state rows t).0
      ∙ ap (cons_option (asked_at setup state client t)) (asked_along (turned setup state t) (turned_rows setup state rows t) ts)
      ∙ consed (asked_at setup state client t) (asked_by setup (turned setup state t) client ts) (drop (answers (walked setup state (t ∷ ts))) commands)

  within_along : (state : State) → HasRows setup state → (ts : List Turn) → answers state ≤ length commands → answers (walked setup state ts) ≤ length commands
  within_along state rows [] within = within
  within_along state rows (t ∷ ts) within = within_along (turned setup state t) (turned_rows setup state rows t) ts ((takes state rows t).1 within)

  none_yet : answers (opening setup) ≡ 0
  none_yet = ap length (no_replies setup.clients client)

  pub all_asked : (ts : List Turn) → next_command setup (last_state setup ts) client ≡ None → asked_by setup (opening setup) client ts ≡ commands
  all_asked ts none =
      sym (append-nil _)
      ∙ ap (λ l. asked_by setup (opening setup) client ts ++ l) (sym (drop_all (answers (last_state setup ts)) commands (past_end commands _ none)))
      ∙ sym (asked_along (opening setup) (opening_rows setup) ts)
      ∙ ap (λ n. drop n commands) none_yet

  pub all_answered : (ts : List Turn) → next_command setup (last_state setup ts) client ≡ None → answers (last_state setup ts) ≡ length commands
  all_answered ts none =
      let past : length commands ≤ answers (last_state setup ts) = past_end commands _ none in
      let within : answers (last_state setup ts) ≤ length commands = within_along (opening setup) (opening_rows setup) ts (omega (arith, none_yet)) in
      omega arith

  -- each turn of the client asks
  turn_asks : (other : ℕ) (refused : Bool) (b : Bool) → eqb other client ≡ b → (state : State) → HasNext (next_command setup state other) → (turns : List Turn) (asked : List Command) → length turns ≡ length asked
      → length (cond b (turn.Command other refused ∷ turns) turns) ≡ length (cons_option (cond b (next_command setup state client) None) asked)
  turn_asks other refused true is state has turns asked same = by (next_command setup state client) (subst (λ c. HasNext (next_command setup state c)) (eqb-true other client is) has)
    where
      by : (next : Option Command) → HasNext next → suc (length turns) ≡ length (cons_option next asked)
      by None none = absurd none
      by (Some command) some = ap suc same
  turn_asks other refused false is state has turns asked same = same

  turns_ask : (ts : List Turn) (state : State) → AllowsAll setup state ts → length (filter (is_turn_of client) ts) ≡ length (asked_by setup state client ts)
  turns_ask [] state all = refl
  turns_ask (turn.Command other refused ∷ ts) state all =
      turn_asks other refused (eqb other client) refl state all.0.1 _ _ (turns_ask ts (turned setup state (turn.Command other refused)) all.1)
  turns_ask (turn.Switch ∷ ts) state all = turns_ask ts (turned setup state turn.Switch) all.1
  turns_ask (turn.Drop cause ∷ ts) state all = turns_ask ts (turned setup state (turn.Drop cause)) all.1

pub asks_each_once : AsksEachOnce
asks_each_once setup order end lawful client = all_asked setup client order (lawful.finished.served client)

pub has_turn_for_each : HasTurnForEach
has_turn_for_each setup order end lawful client = turns_ask setup client order (opening setup) lawful.allowed ∙ ap length (asks_each_once setup order end lawful client)

pub answers_each_once : AnswersEachOnce
answers_each_once setup order end lawful client = all_answered setup client order (lawful.finished.served client)

pub answers_one : AnswersOne
answers_one = record {
  one = λ setup before client refused has. next_reply setup client (last_state setup before) (last_rows setup before) refused (next_command setup (last_state setup before) client) refl has;
  others = λ setup before client other refused apart. served_elsewhere client other apart (last_state setup before) refused (next_command setup (last_state setup before) client);
}
