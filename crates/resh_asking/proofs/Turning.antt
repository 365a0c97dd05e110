-- What is a turn of the table of events, by what it showed and what it left.
use Rattle.std.proofs.Common.{◌≡◌, ◌&&◌, ◌<◌, ℕ, Bool, true, false, cond, not, List, [], ◌∷◌, ◌++◌, length, Some, None, refl, sym, ap, subst, ◌∙◌, arith}
use Rattle.std.specs.Prelude.{nat_lt}
use Rattle.resh_command.specs.declared.command.Command.{Command}
use Rattle.resh_command.specs.declared.command.Command.TheVariants.{Insert, Update, Delete, Find, Count, Abort}
use Rattle.resh_command.specs.declared.reply.Reply.TheVariants as reply
use Rattle.resh_stamp.specs.declared.stamp.Stamp.{Stamp}
use Rattle.resh_bag.specs.Answer.{Doing, reply_of}
use Rattle.resh_model.specs.Orders.{is_abort}
use Rattle.resh_setup.specs.declared.event.Event.TheVariants as event
use Rattle.resh_setup.specs.declared.seen.Seen.{Seen}
use Rattle.resh_setup.specs.declared.seen.Seen.TheVariants as shown
use Rattle.resh_setup.specs.declared.setup.Setup.{Setup}
use Rattle.resh_setup.specs.declared.trace.Met.TheVariants.{Row, NoMemory, NoMemoryInMove}
use Rattle.resh_cells.specs.Cells.{client_in}
use Rattle.resh_cells.specs.declared.cell.Cell.{Cell}
use Rattle.resh_cells.specs.declared.cell.Cell.TheVariants as named
use Rattle.resh_cells.specs.declared.cluster.Cluster.{Cluster}
use Rattle.resh_events.specs.Luck as luck
use Rattle.resh_events.specs.Table.{change, holds, seen}
use Rattle.resh_events.specs.Targets.{all_at, all_targets, doing_by, doing_of, first_targets, has_map, is_free, leaves_to, move_targets, next_command, serve, shard_cells}
use Rattle.resh_events.specs.rows.Client as row
use Rattle.resh_events.specs.rows.Refused as refused
use Rattle.resh_asking.specs.Servings.{serving_at, serving_by}
use Rattle.resh_asking.specs.Turns.{IsHeld, IsStamped, IsTurn, Shows}
use Rattle.resh_asking.specs.declared.asked.Asked.{Asked}
use Rattle.resh_asking.specs.declared.asked.Held.{Held}
use Rattle.resh_asking.specs.declared.asked.Serving.{Serving}
use Rattle.resh_asking.specs.declared.asked.Serving.TheVariants.{Waits, Refreshes, Serves}

module _ (setup : Setup) (old new : Cluster) (c : ℕ) (asked : Asked) (held : Held) (cells : List Cell) (of : IsHeld setup old cells held) where
  held_stamp : (asked.cells.items ≡ held.cells.items) → asked.stamp ≡ held.stamp → IsStamped setup old asked.cells.items asked.stamp
  held_stamp same stamp = subst (λ s. IsStamped setup old asked.cells.items s) (sym stamp) (subst (λ l. IsStamped setup old l held.stamp) (sym (same ∙ of.are)) of.stamp)

  pub turn_row : (what : Seen) → Shows held Row what asked → row.holds setup old c ≡ cells → new ≡ row.change setup old held.stamp c → row.seen setup old c ≡ what → IsTurn setup old new c asked
  unfolding change holds seen
  turn_row what shows cells_are changed seen_is = record {
    met = subst (λ m. luck.may_meet setup old (event.Client c) None m ≡ true) (sym shows.is_met) refl;
    cells = shows.cells ∙ of.are ∙ sym cells_are ∙ ap (luck.holds setup old (event.Client c)) (sym shows.is_met);
    stamp = held_stamp shows.cells shows.stamp;
    change = changed ∙ (λ i. luck.change setup (sym shows.stamp i) old (event.Client c) None (sym shows.is_met i));
    seen = shows.is_seen ∙ sym seen_is ∙ (λ i. luck.seen setup (sym shows.stamp i) old (event.Client c) None (sym shows.is_met i));
  }

  pub turn_wants : Shows held NoMemory (shown.Command (row.next_number old c)) asked → refused.holds setup old c ≡ cells → new ≡ row.with_reply c reply.NoMemory old → IsTurn setup old new c asked
  unfolding change holds seen
  turn_wants shows cells_are changed = record {
    met = subst (λ m. luck.may_meet setup old (event.Client c) None m ≡ true) (sym shows.is_met) refl;
    cells = shows.cells ∙ of.are ∙ sym cells_are ∙ ap (luck.holds setup old (event.Client c)) (sym shows.is_met);
    stamp = held_stamp shows.cells shows.stamp;
    change = changed ∙ (λ i. luck.change setup (sym shows.stamp i) old (event.Client c) None (sym shows.is_met i));
    seen = shows.is_seen ∙ (λ i. luck.seen setup (sym shows.stamp i) old (event.Client c) None (sym shows.is_met i));
  }

  pub turn_wants_in_move : Shows held NoMemoryInMove (shown.Command (row.next_number old c)) asked → refused.may_in_move setup old c ≡ true → row.holds setup old c ≡ cells → new ≡ row.with_reply c reply.NoMemory old
      → IsTurn setup old new c asked
  unfolding change holds seen
  turn_wants_in_move shows begun cells_are changed = record {
    met = subst (λ m. luck.may_meet setup old (event.Client c) None m ≡ true) (sym shows.is_met) begun;
    cells = shows.cells ∙ of.are ∙ sym cells_are ∙ ap (luck.holds setup old (event.Client c)) (sym shows.is_met);
    stamp = held_stamp shows.cells shows.stamp;
    change = changed ∙ (λ i. luck.change setup (sym shows.stamp i) old (event.Client c) None (sym shows.is_met i));
    seen = shows.is_seen ∙ (λ i. luck.seen setup (sym shows.stamp i) old (event.Client c) None (sym shows.is_met i));
  }

-- whether targets serve
abbrev coming_by : Serving → row.Coming
coming_by Waits = row.waits
coming_by Refreshes = row.refreshes
coming_by Serves = row.comes

come_by : (free under : Bool) → cond (not free) row.waits (cond (not under) row.refreshes row.comes) ≡ coming_by (serving_by free under)
come_by true true = refl
come_by true false = refl
come_by false under = refl

serve_by : (free under : Bool) → serving_by free under ≡ Serves → (free ≡ true) × (under ≡ true)
serve_by true true e = (refl, refl)
serve_by true false e = cc
serve_by false under e = cc

wait_by : (free under : Bool) → serving_by free under ≡ Waits → (free && under) ≡ false
wait_by true true e = cc
wait_by true false e = cc
wait_by false under e = refl

refresh_by : (free under : Bool) → serving_by free under ≡ Refreshes → (free && under) ≡ false
refresh_by true true e = cc
refresh_by true false e = refl
refresh_by false under e = cc

module _ (setup : Setup) (old : Cluster) (c : ℕ) (command : Command) (next : next_command setup old c ≡ Some command) where
  row_change : (stamp : Stamp) → row.change setup old stamp c ≡ row.change_by setup old stamp c command (row.coming setup old c command)
  row_change stamp = ap (row.change_of setup old stamp c) next

  row_seen : row.seen setup old c ≡ row.seen_by setup old c (row.coming setup old c command)
  row_seen = ap (row.seen_of setup old c) next

  row_holds : row.holds setup old c ≡ row.cells_for setup old c command (all_targets setup old c command)
  row_holds = ap (row.cells_of setup old c) next

  -- an abort
  module _ (abort : is_abort command ≡ true) where
    pub abort_holds : row.holds setup old c ≡ named.Coordinator ∷ named.Client c ∷ []
    abort_holds = row_holds ∙ ap (λ b. cond b (named.Coordinator ∷ named.Client c ∷ []) (shard_cells setup (all_targets setup old c command) ++ named.Client c ∷ [])) abort

    -- it is for no shard
    abort_comes : row.coming setup old c command ≡ row.comes
    abort_comes = by command abort
      where
        by : (k : Command) → is_abort k ≡ true → row.coming setup old c k ≡ row.comes
        by Abort e = refl
        by (Insert d) e = cc
        by (Update f u) e = cc
        by (Delete f) e = cc
        by (Find f) e = cc
        by (Count f) e = cc

    pub abort_change : (stamp : Stamp) → row.change setup old stamp c ≡ row.abort_asked c old
    abort_change stamp =
        row_change stamp ∙ ap (row.change_by setup old stamp c command) abort_comes
        ∙ ap (λ b. cond b (row.abort_asked c old) (row.done setup old stamp c (doing_of setup old c command))) abort

    pub abort_seen : row.seen setup old c ≡ shown.Command (row.next_number old c)
    abort_seen = row_seen ∙ ap (row.seen_by setup old c) abort_comes

  -- another command, by where it goes
  module _ (plain : is_abort command ≡ false) (shards : List ℕ) (first : first_targets setup old c command ≡ shards) where
    pub first_holds : refused.holds setup old c ≡ shard_cells setup shards ++ named.Client c ∷ []
    first_holds =
        ap (refused.cells_of setup old c) next
        ∙ ap (λ b. cond b (named.Coordinator ∷ named.Client c ∷ []) (shard_cells setup (first_targets setup old c command) ++ named.Client c ∷ [])) plain
        ∙ ap (λ l. shard_cells setup l ++ named.Client c ∷ []) first

    unserved : serve old (client_in old c).knows shards ≡ false → move_targets setup old c command ≡ []
    unserved off =
        ap (λ l. cond (serve old (client_in old c).knows l) (leaves_to (doing_by setup old c l command)) []) first
        ∙ ap (λ b. cond b (leaves_to (doing_by setup old c shards command)) []) off

    pub none_moves : serving_at old (client_in old c).knows shards ≡ Waits → move_targets setup old c command ≡ []
    none_moves waits = unserved (wait_by (all_at old is_free shards) (all_at old (has_map (client_in old c).knows) shards) waits)

    pub none_moves_yet : serving_at old (client_in old c).knows shards ≡ Refreshes → move_targets setup old c command ≡ []
    none_moves_yet refreshes = unserved (refresh_by (all_at old is_free shards) (all_at old (has_map (client_in old c).knows) shards) refreshes)

    pub moves_by : serving_at old (client_in old c).knows shards ≡ Serves → move_targets setup old c command ≡ leaves_to (doing_by setup old c shards command)
    moves_by serves =
        let w = serve_by (all_at old is_free shards) (all_at old (has_map (client_in old c).knows) shards) serves in
        ap (λ l. cond (serve old (client_in old c).knows l) (leaves_to (doing_by setup old c l command)) []) first
        ∙ (λ i. cond (w.0 i && w.1 i) (leaves_to (doing_by setup old c shards command)) [])

    module _ (more : List ℕ) (moves : move_targets setup old c command ≡ more) where
      targets_are : all_targets setup old c command ≡ shards ++ more
      targets_are i = first i ++ moves i

      pub holds_are : row.holds setup old c ≡ shard_cells setup (shards ++ more) ++ named.Client c ∷ []
      holds_are =
          row_holds ∙ ap (λ b. cond b (named.Coordinator ∷ named.Client c ∷ []) (shard_cells setup (all_targets setup old c command) ++ named.Client c ∷ [])) plain
          ∙ ap (λ l. shard_cells setup l ++ named.Client c ∷ []) targets_are

      coming_is : (x : Serving) → serving_at old (client_in old c).knows (shards ++ more) ≡ x → row.coming setup old c command ≡ coming_by x
      coming_is x is =
          ap (row.coming_to setup old c) targets_are
          ∙ come_by (all_at old is_free (shards ++ more)) (all_at old (has_map (client_in old c).knows) (shards ++ more)) ∙ ap coming_by is

      pub waits_change : (stamp : Stamp) → serving_at old (client_in old c).knows (shards ++ more) ≡ Waits → row.change setup old stamp c ≡ old
      waits_change stamp is = row_change stamp ∙ ap (row.change_by setup old stamp c command) (coming_is Waits is)

      pub waits_seen : serving_at old (client_in old c).knows (shards ++ more) ≡ Waits → row.seen setup old c ≡ shown.Blocked
      waits_seen is = row_seen ∙ ap (row.seen_by setup old c) (coming_is Waits is)

      pub refreshes_change : (stamp : Stamp) → serving_at old (client_in old c).knows (shards ++ more) ≡ Refreshes → row.change setup old stamp c ≡ row.with_new_map c old
      refreshes_change stamp is = row_change stamp ∙ ap (row.change_by setup old stamp c command) (coming_is Refreshes is)

      pub refreshes_seen : serving_at old (client_in old c).knows (shards ++ more) ≡ Refreshes → row.seen setup old c ≡ shown.Refreshed
      refreshes_seen is = row_seen ∙ ap (row.seen_by setup old c) (coming_is Refreshes is)

      pub serves_seen : serving_at old (client_in old c).knows (shards ++ more) ≡ Serves → row.seen setup old c ≡ shown.Command (row.next_number old c)
      serves_seen is = row_seen ∙ ap (row.seen_by setup old c) (coming_is Serves is)

      pub serves_change : (stamp : Stamp) (x : Doing) → serving_at old (client_in old c).knows (shards ++ more) ≡ Serves → doing_by setup old c (shards ++ more) command ≡ x
          → row.change setup old stamp c ≡ row.with_reply c (reply_of x) (row.did stamp x old)
      serves_change stamp x is does =
          row_change stamp ∙ ap (row.change_by setup old stamp c command) (coming_is Serves is)
          ∙ ap (λ b. cond b (row.abort_asked c old) (row.done setup old stamp c (doing_of setup old c command))) plain
          ∙ ap (row.done setup old stamp c) (ap (λ l. doing_by setup old c l command) targets_are ∙ does)

      pub begun_is : 0 < length more → refused.may_in_move setup old c ≡ true
      begun_is some = ap (λ k. refused.has_moved setup old k c) next ∙ ap (λ l. nat_lt 0 (length l)) moves ∙ positive (length more) some
        where
          positive : (n : ℕ) → 0 < n → nat_lt 0 n ≡ true
          positive n lt = grind arith
