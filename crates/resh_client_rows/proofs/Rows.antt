-- The row of a client, answered or refused.
use Rattle.std.proofs.Common.{◌≡◌, ◌<◌, ◌^◌, ◌==◌, ℕ, Bool, true, false, cond, [], ◌∷◌, ◌++◌, length, Option, Some, None, is_some, refl, sym, ap, subst, ◌∙◌}
use Rattle.resh_bag.specs.Answer.{Doing, adds, replaces, removes, says, bag_after, doing, reply_of}
use Rattle.resh_bag.specs.Parts.{places_of}
use Rattle.resh_bag.specs.WholeLaws.{BringsWhole}
use Rattle.resh_cells.specs.Cells.{client_in}
use Rattle.resh_cells.specs.declared.cluster.Clocks.{Clocks}
use Rattle.resh_cells.specs.declared.cluster.Cluster.{Cluster}
use Rattle.resh_command.specs.declared.command.Command.{Command}
use Rattle.resh_command.specs.declared.command.Command.TheVariants.{Insert, Update, Delete, Find, Count, Abort}
use Rattle.resh_coord.specs.Control.{Control}
use Rattle.resh_coord.specs.declared.cause.End.{End}
use Rattle.resh_events.specs.Targets.{all_targets, doing_of, next_command}
use Rattle.resh_events.specs.Turns.{mark_of, row_turns, turn_by}
use Rattle.resh_events.specs.rows.Client as client
use Rattle.resh_events.specs.rows.Client.{Coming, coming, comes, did, done_at, moved, refreshes, waits, with_new_map}
use Rattle.resh_model.specs.Orders as orders
use Rattle.resh_model.specs.Orders.{State, is_abort, replies_to, served}
use Rattle.resh_model.proofs.bags.ValidSetups.{valid_is_whole}
use Rattle.resh_setup.specs.Validity.{IsValid}
use Rattle.resh_setup.specs.declared.setup.Setup.{Setup}
use Rattle.resh_setup.specs.declared.turn.Turn.TheVariants as turn
use Rattle.resh_shard.specs.declared.act.Which.TheVariants.{New}
use Rattle.resh_stamp.specs.declared.stamp.Stamp.{Stamp}
use Rattle.resh_invariant.specs.Frames.{AreLater}
use Rattle.resh_invariant.specs.Keeping.{Keeps}
use Rattle.resh_invariant.specs.Sources.{Clones}
use Rattle.resh_invariant.proofs.Framing.{client_keeps, clocks_keep}
use Rattle.resh_invariant.proofs.Ones.{never}
use Rattle.resh_write_rows.specs.Laws.{WriteKeeps}
use Rattle.resh_client_rows.specs.Laws.{AreSet, ClientRowsKeep, KeepsTurns, shards_for, turns_by}
use Rattle.resh_client_rows.proofs.Aborting.{abort_keeps}
use Rattle.resh_client_rows.proofs.Asked.{allowed, same_next, was_kept}
use Rattle.resh_client_rows.proofs.Doing.{doing_is, done_in, refreshes_to, target_free, targets_inside}
use Rattle.resh_client_rows.proofs.Reaching.{Among}
use Rattle.resh_client_rows.proofs.Refusing.{refuse_keeps}
use Rattle.resh_client_rows.proofs.Replying.{reply_keeps}
use Rattle.resh_client_rows.proofs.Turning.{does}
use Rattle.resh_client_rows.proofs.Writing.{IsReady}

-- what a command does decides nothing
no_mark : (o : Option End) → mark_of o o ≡ []
no_mark None = refl
no_mark (Some end) = refl

same_control : (stamp : Stamp) (x : Doing) (cluster : Cluster) → (did stamp x cluster).control ≡ cluster.control
same_control stamp (adds s d) cluster = refl
same_control stamp (removes s d) cluster = refl
same_control stamp (says reply) cluster = refl
same_control stamp (replaces s d t e) cluster = by (t == s)
  where
    by : (b : Bool) → (cond b (done_at stamp s (replaces s d t e) cluster) (moved stamp s d t e cluster)).control ≡ cluster.control
    by true = refl
    by false = refl

abort_is : (command : Command) → is_abort command ≡ true → command ≡ Abort
abort_is (Insert d) e = never (sym e)
abort_is (Update f u) e = never (sym e)
abort_is (Delete f) e = never (sym e)
abort_is (Find f) e = never (sym e)
abort_is (Count f) e = never (sym e)
abort_is Abort e = refl

module _ (writes : WriteKeeps) (setup : Setup) (state : State) (clones : Clones) (cluster : Cluster) (c : ℕ) (stamp : Stamp) (clocks : Clocks) (valid : IsValid setup)
    (keeps : Keeps setup state clones cluster) (may : client.may setup cluster c ≡ true) (rise : AreLater cluster.clocks clocks) (node : stamp.node < 2 ^ 32) where
  -- a turn of none keeps the invariant as it is
  stays : (o : Option End) (after : Cluster) → Keeps setup state clones after → KeepsTurns setup state ([] ++ mark_of o o) after
  stays o after kept = subst (λ ts. KeepsTurns setup state ts after) (sym (no_mark o)) (tt, (clones, kept))

  module _ (command : Command) (next : next_command setup cluster c ≡ Some command) (set : AreSet setup cluster stamp clocks (all_targets setup cluster c command)) where
    abbrev Goal : Coming → Type 0
    Goal x = KeepsTurns setup state (turn_by c x ++ mark_of cluster.control.decision (client.change_by setup cluster stamp c command x).control.decision)
        (record (client.change_by setup cluster stamp c command x) { clocks = clocks })

    order_next : orders.next_command setup state c ≡ Some command
    order_next = same_next setup state clones cluster keeps c may ∙ next

    brings : BringsWhole command
    brings = (valid_is_whole setup valid).commands c (length (replies_to state c)) command order_next

    refreshed : coming setup cluster c command ≡ refreshes → Goal refreshes
    refreshed is =
        let was = was_kept setup state clones cluster keeps c may in
        let committed = refreshes_to setup valid state clones cluster keeps c command was.knows is in
        stays cluster.control.decision (record (with_new_map c cluster) { clocks = clocks })
        (clocks_keep setup state clones (with_new_map c cluster)
        (client_keeps setup state clones cluster keeps c (record (client_in cluster c) { knows = New }) (λ lt. record { answers = was.answers; knows = λ new. committed })) clocks rise)

    -- an answered command that is no abort
    module _ (is : coming setup cluster c command ≡ comes) (asks : is_abort command ≡ false) where
      abbrev done : Doing
      done = doing state.map state.bag command

      ready : (s : ℕ) → Among (places_of done) s → IsReady setup cluster stamp clocks s
      ready s h =
          let target = done_in setup valid state clones cluster keeps c command is asks s h in
          let inside = targets_inside setup valid state clones cluster keeps c command s target in
          record {
            inside = inside;
            free = target_free setup valid state clones cluster keeps c command is s target;
            before = (set s inside target).0;
            set = (set s inside target).1;
          }

      kept : (later : Clones) × Keeps setup (record state { bag = bag_after state.bag done }) later (record (did stamp done cluster) { clocks = clocks })
      kept = does writes setup valid stamp node state clones cluster keeps clocks rise command brings done refl ready

      order_does : served c false (orders.next_command setup state c) state ≡ orders.done c done state
      order_does =
          ap (λ o. served c false o state) order_next
          ∙ ap (λ b. cond b (orders.abort_asked c state.fate state) (orders.done c (doing state.map state.bag command) state)) asks

      row_keeps : KeepsTurns setup state (turn.Command c false ∷ []) (record (client.done setup cluster stamp c done) { clocks = clocks })
      row_keeps = (
        (allowed setup state clones cluster keeps c may false, tt),
        (
          kept.0,
          subst (λ (x : State). Keeps setup x kept.0 (record (client.done setup cluster stamp c done) { clocks = clocks })) (sym order_does)
              (reply_keeps setup (record state { bag = bag_after state.bag done }) kept.0 (record (did stamp done cluster) { clocks = clocks }) kept.1 c (reply_of done)),
        ),
      )

      marked : KeepsTurns setup state (turn.Command c false ∷ mark_of cluster.control.decision (client.done setup cluster stamp c done).control.decision)
          (record (client.done setup cluster stamp c done) { clocks = clocks })
      marked =
          subst (λ ts. KeepsTurns setup state (turn.Command c false ∷ ts) (record (client.done setup cluster stamp c done) { clocks = clocks }))
          (sym (ap (λ (x : Control). mark_of cluster.control.decision x.decision) (same_control stamp done cluster) ∙ no_mark cluster.control.decision)) row_keeps

      answered : KeepsTurns setup state (turn.Command c false ∷ mark_of cluster.control.decision (client.done setup cluster stamp c (doing_of setup cluster c command)).control.decision)
          (record (client.done setup cluster stamp c (doing_of setup cluster c command)) { clocks = clocks })
      answered =
          subst (λ x. KeepsTurns setup state (turn.Command c false ∷ mark_of cluster.control.decision (client.done setup cluster stamp c x).control.decision)
          (record (client.done setup cluster stamp c x) { clocks = clocks })) (sym (doing_is setup valid state clones cluster keeps c command is asks)) marked

    abbrev GoalBy : Bool → Type 0
    GoalBy b = KeepsTurns setup state
        (turn.Command c false ∷ mark_of cluster.control.decision (cond b (client.abort_asked c cluster) (client.done setup cluster stamp c (doing_of setup cluster c command))).control.decision)
        (record (cond b (client.abort_asked c cluster) (client.done setup cluster stamp c (doing_of setup cluster c command))) { clocks = clocks })

    answers : coming setup cluster c command ≡ comes → Goal comes
    answers is = by (is_abort command) refl
      where
        by : (b : Bool) → is_abort command ≡ b → GoalBy b
        by true e = abort_keeps setup state clones cluster keeps c may clocks rise (order_next ∙ ap Some (abort_is command e))
        by false e = answered is e

    by_coming : (x : Coming) → coming setup cluster c command ≡ x → Goal x
    by_coming waits is = stays cluster.control.decision (record cluster { clocks = clocks }) (clocks_keep setup state clones cluster keeps clocks rise)
    by_coming refreshes is = refreshed is
    by_coming comes is = answers is

  pub asks_keep : AreSet setup cluster stamp clocks (shards_for setup cluster c (next_command setup cluster c))
      → KeepsTurns setup state (turns_by setup cluster stamp c) (record (client.change setup cluster stamp c) { clocks = clocks })
  asks_keep = by (next_command setup cluster c) refl
    where
      by : (o : Option Command) → next_command setup cluster c ≡ o → AreSet setup cluster stamp clocks (shards_for setup cluster c o)
          → KeepsTurns setup state (row_turns setup cluster c o ++ mark_of cluster.control.decision (client.change_of setup cluster stamp c o).control.decision)
          (record (client.change_of setup cluster stamp c o) { clocks = clocks })
      by None none set = never (sym may ∙ ap is_some none)
      by (Some command) next set = by_coming command next set (coming setup cluster c command) refl

pub client_rows_keep : WriteKeeps → ClientRowsKeep
client_rows_keep writes = record {
  asks = λ setup state clones cluster c stamp clocks valid keeps may rise set node. asks_keep writes setup state clones cluster c stamp clocks valid keeps may rise node set;
  refuses = λ setup state clones cluster c keeps may. refuse_keeps setup state clones cluster keeps c may;
}
