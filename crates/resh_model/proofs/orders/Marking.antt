-- One mark stands in a lawful order: nothing is decided before it, and nothing more after it.
use Rattle.std.proofs.Common.{◌≡◌, ◌≢◌, ℕ, Bool, List, [], ◌∷◌, filter, Option, refl}
use Rattle.resh_coord.specs.declared.cause.Cause.{Cause}
use Rattle.resh_coord.specs.declared.cause.Cause.TheVariants.{Clash, Asked, Failed, NoMemory}
use Rattle.resh_coord.specs.declared.cause.End.{End}
use Rattle.resh_coord.specs.declared.cause.End.TheVariants.{Committed, Aborted}
use Rattle.resh_command.specs.declared.command.Command.{Command}
use Rattle.resh_setup.specs.declared.setup.Setup.{Setup}
use Rattle.resh_setup.specs.declared.turn.Turn.{Turn}
use Rattle.resh_setup.specs.declared.turn.Turn.TheVariants as turn
use Rattle.resh_model.specs.Orders.{ended, State, opening, next_command, served, switched, dropped, turned, walked, AllowsDrop, AllowsAll}
use Rattle.resh_model.specs.OrderLaws.{is_mark, mark_of, HasOneMark}
use Rattle.resh_model.proofs.orders.Turns.{each_served}

-- what has been decided stays so
served_ended : (client : ℕ) (state : State) (end : End) → state.fate ≡ ended end → (refused : Bool) (next : Option Command) → (served client refused next state).fate ≡ ended end
served_ended client state end is refused next =
    each_served client state (λ s. s.fate ≡ ended end) is is (λ command. is) (λ number n free. absurd (cc)) (λ late. is) refused next

-- no client's turn decides the end
served_open : (client : ℕ) (state : State) → ((e : End) → state.fate ≢ ended e) → (refused : Bool) (next : Option Command) → (e : End) → (served client refused next state).fate ≢ ended e
served_open client state open' refused next =
    each_served client state (λ s. (e : End) → s.fate ≢ ended e) open' open' (λ command. open') (λ number n free e is. cc) (λ late. open') refused next

pub no_drop : (setup : Setup) (state : State) (end : End) → state.fate ≡ ended end → (cause : Cause) → AllowsDrop setup state cause → ⊥
no_drop setup state end is (Clash shard id) allowed = let free = allowed.0 in cc
no_drop setup state end is (Asked client number) allowed = cc
no_drop setup state end is (Failed node why) allowed = cc
no_drop setup state end is NoMemory allowed = cc

-- behind the mark no other stands
pub after_mark : (setup : Setup) (ts : List Turn) (state : State) (end : End) → state.fate ≡ ended end → AllowsAll setup state ts → (filter is_mark ts ≡ []) × ((walked setup state ts).fate ≡ ended end)
after_mark setup [] state end is all = (refl, is)
after_mark setup (turn.Command client refused ∷ ts) state end is all =
    after_mark setup ts (turned setup state (turn.Command client refused)) end (served_ended client state end is refused (next_command setup state client)) all.1
after_mark setup (turn.Switch ∷ ts) state end is all = absurd (let free = all.0.0 in cc)
after_mark setup (turn.Drop cause ∷ ts) state end is all = absurd (no_drop setup state end is cause all.0)

with_mark : (setup : Setup) (ts : List Turn) (state : State) (one end : End) → state.fate ≡ ended one → AllowsAll setup state ts → (walked setup state ts).fate ≡ ended end → mark_of one ∷ filter is_mark ts ≡ mark_of end ∷ []
with_mark setup ts state one end is all last =
    let w = after_mark setup ts state one is all in
    let decided = w.1 in
    let same : one ≡ end = cc in
    λ i. mark_of (same i) ∷ w.0 i

one_mark : (setup : Setup) (ts : List Turn) (state : State) (end : End) → ((e : End) → state.fate ≢ ended e) → AllowsAll setup state ts → (walked setup state ts).fate ≡ ended end → filter is_mark ts ≡ mark_of end ∷ []
one_mark setup [] state end open' all is = absurd (open' end is)
one_mark setup (turn.Command client refused ∷ ts) state end open' all is =
    one_mark setup ts (turned setup state (turn.Command client refused)) end (served_open client state open' refused (next_command setup state client)) all.1 is
one_mark setup (turn.Switch ∷ ts) state end open' all is = with_mark setup ts (switched setup state) Committed end refl all.1 is
one_mark setup (turn.Drop cause ∷ ts) state end open' all is = with_mark setup ts (dropped cause state) (Aborted cause) end refl all.1 is

pub has_one_mark : HasOneMark
has_one_mark setup order end lawful = one_mark setup order (opening setup) end (λ e is. cc) lawful.allowed lawful.finished.decided
