-- An accepted abort is followed at once by its drop, which stands nowhere else.
use Rattle.std.proofs.Common.{◌≡◌, ◌≢◌, ℕ, zero, suc, ◌+◌, ◌<◌, Bool, List, [], ◌∷◌, ◌++◌, length, get_or, set, Option, refl, sym, ap, subst, ◌∙◌, ◌⊎◌, inl, inr, arith}
use Rattle.std.proofs.lemmas.List.{get_or-set_same, length_push, same_from_push}
use Rattle.resh_coord.specs.declared.cause.Cause.{Cause}
use Rattle.resh_coord.specs.declared.cause.Cause.TheVariants.{Clash, Asked, Failed, NoMemory}
use Rattle.resh_coord.specs.declared.cause.End.{End}
use Rattle.resh_command.specs.declared.command.Command.{Command}
use Rattle.resh_command.specs.declared.reply.Reply.TheVariants.{AbortAccepted}
use Rattle.resh_setup.specs.declared.setup.Setup.{Setup}
use Rattle.resh_setup.specs.declared.turn.Turn.{Turn}
use Rattle.resh_setup.specs.declared.turn.Turn.TheVariants as turn
use Rattle.resh_chunks.specs.Chunks.{Chunks}
use Rattle.resh_bag.specs.Bag.{Bag}
use Rattle.resh_bag.specs.Answer.{doing, reply_of}
use Rattle.resh_model.specs.Orders.{asked, ended, State, opening, replies_to, next_command, served, turned, walked, last_state, IsFree, Allows, AllowsDrop, AllowsAll}
use Rattle.resh_model.specs.OrderLaws.{AcceptsAbort, drop_of, EndsAccepting, DropsAtOnce, DropsOnlyThere}
use Rattle.resh_bag.proofs.answers.Doings.{each_doing}
use Rattle.resh_model.proofs.orders.Served.{has_row}
use Rattle.resh_model.proofs.orders.Turns.{each_served, HasRows, last_rows, walked-append, allowed_behind, allowed_front}

no_more : {X : Type 0} (xs : List X) (x : X) → xs ≡ xs ++ x ∷ [] → ⊥
no_more xs x is = omega (arith, ap length is, length_push xs x)

-- where one row of a list got an item more, a row that has one more is that row, and it is that item
pushed_at : {X : Type 0} (rows : List (List X)) (k j : ℕ) (x y : X) → get_or (set rows k (get_or rows k [] ++ x ∷ [])) j [] ≡ get_or rows j [] ++ y ∷ [] → (k ≡ j) × (x ≡ y)
pushed_at [] k j x y is = absurd (no_more [] y is)
pushed_at (r ∷ rs) zero zero x y is = (refl, (same_from_push r r x y is).1)
pushed_at (r ∷ rs) zero (suc j) x y is = absurd (no_more (get_or rs j []) y is)
pushed_at (r ∷ rs) (suc k) zero x y is = absurd (no_more r y is)
pushed_at (r ∷ rs) (suc k) (suc j) x y is = let w = pushed_at rs k j x y is in (ap suc w.0, w.1)

never_accepted : (chunks : Chunks) (bag : Bag) (command : Command) → reply_of (doing chunks bag command) ≢ AbortAccepted
never_accepted chunks bag = each_doing chunks bag (λ d. reply_of d ≢ AbortAccepted) (λ d is. cc) (λ shard d e is. cc) (λ shard d is. cc) (λ reply other. other)

module _ (client number : ℕ) (state : State) where
  abbrev IsAsked : State → Type 0
  IsAsked s = s.fate ≡ asked client number

  abbrev Accepts : State → Type 0
  Accepts s = (replies_to s client ≡ replies_to state client ++ AbortAccepted ∷ []) × (number ≡ length (replies_to s client))

  served_asked : (other : ℕ) (refused : Bool) (next : Option Command) → Accepts (served other refused next state) → IsAsked (served other refused next state)
  served_asked other refused next =
      each_served other state (λ s. Accepts s → IsAsked s)
      (λ a. absurd (no_more (replies_to state client) AbortAccepted a.0))
      (λ a. absurd (let w = (pushed_at state.answers other client _ _ a.0).1 in cc))
      (λ command a. absurd (never_accepted state.map state.bag command (pushed_at state.answers other client _ _ a.0).1))
      (λ n is free a. let here = (pushed_at state.answers other client _ _ a.0).0 in
      let same : n ≡ number = is ∙ ap (λ k. length (replies_to state k) + 1) here ∙ sym (length_push (replies_to state client) AbortAccepted) ∙ sym (ap length a.0) ∙ sym a.1 in
      λ i. asked (here i) (same i))
      (λ late a. absurd (let w = (pushed_at state.answers other client _ _ a.0).1 in cc))
      refused next

  turned_asked : (setup : Setup) (t : Turn) → AcceptsAbort setup state t client number → IsAsked (turned setup state t)
  turned_asked setup (turn.Command other refused) a = served_asked other refused (next_command setup state other) (a.reply, a.numbered)
  turned_asked setup turn.Switch a = absurd (no_more (replies_to state client) AbortAccepted a.reply)
  turned_asked setup (turn.Drop cause) a = absurd (no_more (replies_to state client) AbortAccepted a.reply)

  busy : IsFree state.fate → state.fate ≡ asked client number → ⊥
  busy free is = subst IsFree is free

  accepted_here : (other n : ℕ) → other < length state.answers → n ≡ length (replies_to state other) + 1 → other ≡ client → n ≡ number
      → (get_or (set state.answers other (replies_to state other ++ AbortAccepted ∷ [])) client [] ≡ replies_to state client ++ AbortAccepted ∷ [])
      × (number ≡ length (get_or (set state.answers other (replies_to state other ++ AbortAccepted ∷ [])) client []))
  accepted_here other n there is here same =
      let at : get_or (set state.answers other (replies_to state other ++ AbortAccepted ∷ [])) client [] ≡ replies_to state client ++ AbortAccepted ∷ []
      = subst (λ k. get_or (set state.answers other (replies_to state other ++ AbortAccepted ∷ [])) k [] ≡ replies_to state k ++ AbortAccepted ∷ []) here (get_or-set_same state.answers other _ [] there) in
      (at, sym same ∙ is ∙ ap (λ k. length (replies_to state k) + 1) here ∙ sym (length_push (replies_to state client) AbortAccepted) ∙ sym (ap length at))

  served_accepts : (other : ℕ) → other < length state.answers → IsFree state.fate → (refused : Bool) (next : Option Command) → IsAsked (served other refused next state) → Accepts (served other refused next state)
  served_accepts other there free refused next =
      each_served other state (λ s. IsAsked s → Accepts s) (λ is. absurd (busy free is)) (λ is. absurd (busy free is)) (λ command is. absurd (busy free is))
      (λ n is undecided now. accepted_here other n there is (cc) (cc)) (λ late is. absurd (busy free is)) refused next

  turned_accepts : (setup : Setup) → HasRows setup state → (t : Turn) → Allows setup state t → IsAsked (turned setup state t) → AcceptsAbort setup state t client number
  turned_accepts setup rows (turn.Command other refused) allowed is =
      let w = served_accepts other (has_row setup other state rows (next_command setup state other) refl allowed.1) allowed.0 refused (next_command setup state other) is in
      record { reply = w.0; numbered = w.1 }
  turned_accepts setup rows turn.Switch allowed is = absurd (cc)
  turned_accepts setup rows (turn.Drop cause) allowed is = absurd (cc)

-- where an abort waits, its drop comes next
drop_next : (setup : Setup) (client number : ℕ) (end : End) (ts : List Turn) (state : State) → state.fate ≡ asked client number → AllowsAll setup state ts → (walked setup state ts).fate ≡ ended end
    → (rest : List Turn) × (ts ≡ drop_of client number ∷ rest)
drop_next setup client number end [] state is all last = absurd (cc)
drop_next setup client number end (turn.Command other refused ∷ ts) state is all last = absurd (busy client number state all.0.0 is)
drop_next setup client number end (turn.Switch ∷ ts) state is all last = absurd (let free = all.0.0 in cc)
drop_next setup client number end (turn.Drop cause ∷ ts) state is all last = by cause all.0
  where
    by : (c : Cause) → AllowsDrop setup state c → (rest : List Turn) × (turn.Drop c ∷ ts ≡ drop_of client number ∷ rest)
    by (Clash shard id) allowed = absurd (let free = allowed.0 in cc)
    by (Asked other n) allowed =
        let here : other ≡ client = cc in
        let same : n ≡ number = cc in
        (ts, λ i. drop_of (here i) (same i) ∷ ts)
    by (Failed node why) allowed = absurd (cc)
    by NoMemory allowed = absurd (cc)

pub drops_at_once : DropsAtOnce
drops_at_once setup before t after end client number lawful accepts =
    let all = allowed_behind setup (opening setup) before (t ∷ after) lawful.allowed in
    drop_next setup client number end after (turned setup (last_state setup before) t) (turned_asked client number (last_state setup before) setup t accepts) all.1
    (ap (λ (s : State). s.fate) (sym (walked-append setup (opening setup) before (t ∷ after))) ∙ lawful.finished.decided)

-- a list is empty, or has a last item
last_of : {X : Type 0} (xs : List X) → (xs ≡ []) ⊎ ((front : List X) × (last : X) × (xs ≡ front ++ last ∷ []))
last_of [] = inl refl
last_of {X} (x ∷ xs) = by (last_of xs)
  where
    by : (xs ≡ []) ⊎ ((front : List X) × (last : X) × (xs ≡ front ++ last ∷ [])) → (x ∷ xs ≡ []) ⊎ ((front : List X) × (last : X) × (x ∷ xs ≡ front ++ last ∷ []))
    by (inl none) = inr ([], x, ap (λ l. x ∷ l) none)
    by (inr (front, last, is)) = inr (x ∷ front, last, ap (λ l. x ∷ l) is)

ends_accepting : (setup : Setup) (before : List Turn) (client number : ℕ) → AllowsAll setup (opening setup) before → (last_state setup before).fate ≡ asked client number → EndsAccepting setup before client number
ends_accepting setup before client number all is = by (last_of before)
  where
    by : (before ≡ []) ⊎ ((front : List Turn) × (last : Turn) × (before ≡ front ++ last ∷ [])) → EndsAccepting setup before client number
    by (inl none) = absurd (let e : (last_state setup []).fate ≡ asked client number = subst (λ ts. (last_state setup ts).fate ≡ asked client number) none is in cc)
    by (inr (front, last, at)) = record {
      front = front;
      last = last;
      is = at;
      accepts = turned_accepts client number (last_state setup front) setup (last_rows setup front) last
          (allowed_behind setup (opening setup) front (last ∷ []) (subst (AllowsAll setup (opening setup)) at all)).0
          (ap (λ (s : State). s.fate) (sym (walked-append setup (opening setup) front (last ∷ []))) ∙ subst (λ ts. (last_state setup ts).fate ≡ asked client number) at is);
    }

pub drops_only_there : DropsOnlyThere
drops_only_there setup before after end client number lawful =
    ends_accepting setup before client number (allowed_front setup (opening setup) before (drop_of client number ∷ after) lawful.allowed)
    (allowed_behind setup (opening setup) before (drop_of client number ∷ after) lawful.allowed).0
