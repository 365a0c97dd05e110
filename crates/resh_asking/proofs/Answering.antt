-- What comes of a command whose targets serve is a turn of the table of events.
use Rattle.std.proofs.Common.{◌≡◌, ◌<◌, ◌==◌, ℕ, Bool, true, false, cond, List, [], ◌∷◌, ◌++◌, length, Some, is_some, refl, sym, ap, subst, ◌∙◌, arith}
use Rattle.std.specs.FinMap.{empty}
use Rattle.resh_value.specs.Lookup.{id_of}
use Rattle.resh_chunks.specs.Chunks.{Chunks}
use Rattle.resh_command.specs.declared.command.Command.{Command}
use Rattle.resh_command.specs.declared.command.Command.TheVariants.{Insert, Update, Delete, Find, Count, Abort}
use Rattle.resh_command.specs.declared.reply.Reply.{Reply}
use Rattle.resh_command.specs.declared.reply.Reply.TheVariants as reply
use Rattle.resh_stamp.specs.declared.stamp.Stamp.{Stamp}
use Rattle.resh_versions.specs.Chains.{Document}
use Rattle.resh_versions.specs.Standing.{now}
use Rattle.resh_bag.specs.Answer.{Doing, replaces, says, doing, has_key, reply_of, text_limit}
use Rattle.resh_bag.specs.Bag.{Bag}
use Rattle.resh_bag.specs.Parts.{bag_over, has_pattern, put_all}
use Rattle.resh_shard.specs.Decisions.{done, doing_on}
use Rattle.resh_shard.specs.Shards.{map_of, number_of, taken_in, taken_out, taking_in}
use Rattle.resh_shard.specs.declared.act.TakeIn.TheVariants as taking
use Rattle.resh_router.specs.Laws.{is_reading}
use Rattle.resh_model.specs.Orders.{is_abort}
use Rattle.resh_router.specs.Targets.{by_owner, target_of}
use Rattle.resh_router.specs.declared.goal.Target.TheVariants as goals
use Rattle.resh_setup.specs.declared.seen.Seen.TheVariants as shown
use Rattle.resh_setup.specs.declared.setup.Setup.{Setup}
use Rattle.resh_setup.specs.declared.trace.Met.TheVariants.{Row, NoMemory, NoMemoryInMove}
use Rattle.resh_cells.specs.Belonging.{IsClusterOf}
use Rattle.resh_coord.specs.Control.{unless_decided}
use Rattle.resh_coord.specs.declared.cause.Cause.TheVariants.{Asked as AskedFor}
use Rattle.resh_cells.specs.Cells.{client_in, on_control, on_shard, shard_in, with_shard}
use Rattle.resh_cells.specs.declared.cell.Cell.TheVariants as named
use Rattle.resh_cells.specs.declared.cluster.Cluster.{Cluster}
use Rattle.resh_events.specs.Targets.{doing_by, documents_at, first_targets, known_map, leaves_to, move_targets, next_command, shard_cells}
use Rattle.resh_events.specs.rows.Client as row
use Rattle.resh_asking.specs.Served.{IsCarried, IsReached, Leaves, update_id}
use Rattle.resh_asking.specs.Servings.{serving_at}
use Rattle.resh_asking.specs.Steps.{Became, HasDone}
use Rattle.resh_asking.specs.Turns.{IsHeld, IsTurn, Shows}
use Rattle.resh_asking.specs.declared.asked.Asked.{Asked}
use Rattle.resh_asking.specs.declared.asked.Did.TheVariants as did
use Rattle.resh_asking.specs.declared.asked.Held.{Held}
use Rattle.resh_asking.specs.declared.asked.Serving.TheVariants.{Waits, Refreshes, Serves}
use Rattle.resh_asking.proofs.AtShards.{did_is, does_is, map_is, number_is, one_under, other_under, set_by, set_same}
use Rattle.resh_asking.proofs.Doings.{Goes, IsAt, changes, done_there, found, gone, moves_are, named_by, replied}
use Rattle.resh_asking.proofs.Turning.{abort_change, abort_holds, abort_seen, begun_is, first_holds, holds_are, moves_by, none_moves, none_moves_yet, refreshes_change, refreshes_seen, serves_change, serves_seen, turn_row, turn_wants, turn_wants_in_move, waits_change, waits_seen}

pub no_more : (ns : List ℕ) → ns ++ [] ≡ ns
no_more [] = refl
no_more (n ∷ ns) = ap (λ l. n ∷ l) (no_more ns)

-- what says no more than a reply
reads_say : (chunks : Chunks) (bag : Bag) (command : Command) → is_reading command ≡ true → doing chunks bag command ≡ says (reply_of (doing chunks bag command))
reads_say chunks bag (Find f) is = refl
reads_say chunks bag (Count f) is = refl
reads_say chunks bag (Insert d) is = cc
reads_say chunks bag (Update f u) is = cc
reads_say chunks bag (Delete f) is = cc
reads_say chunks bag Abort is = cc

no_key_said : (chunks : Chunks) (bag : Bag) (command : Command) → target_of chunks command ≡ Some goals.NoKey → doing chunks bag command ≡ says reply.NoKey
no_key_said chunks bag (Insert d) e = cc
no_key_said chunks bag (Update f u) e = by (has_key chunks f) _ e
  where
    by : (b : Bool) (x : Doing) → Some (cond b (by_owner chunks f) goals.NoKey) ≡ Some goals.NoKey → cond b x (says reply.NoKey) ≡ says reply.NoKey
    by true x h = cc
    by false x h = refl
no_key_said chunks bag (Delete f) e = by (has_key chunks f) _ e
  where
    by : (b : Bool) (x : Doing) → Some (cond b (by_owner chunks f) goals.NoKey) ≡ Some goals.NoKey → cond b x (says reply.NoKey) ≡ says reply.NoKey
    by true x h = cc
    by false x h = refl
no_key_said chunks bag (Find f) e = by (has_pattern chunks f) e
  where
    by : (b : Bool) → Some (cond b (by_owner chunks f) goals.All) ≡ Some goals.NoKey → doing chunks bag (Find f) ≡ says reply.NoKey
    by true h = cc
    by false h = cc
no_key_said chunks bag (Count f) e = by (has_pattern chunks f) e
  where
    by : (b : Bool) → Some (cond b (by_owner chunks f) goals.All) ≡ Some goals.NoKey → doing chunks bag (Count f) ≡ says reply.NoKey
    by true h = cc
    by false h = cc
no_key_said chunks bag Abort e = cc

-- a target that waits, or serves under another map
module _ (setup : Setup) (old : Cluster) (c : ℕ) (command : Command) (ns : List ℕ) (next : next_command setup old c ≡ Some command) (plain : is_abort command ≡ false) (first : first_targets setup old c command ≡ ns)
    (new : Cluster) (asked : Asked) (held : Held) where
  pub waits_turn : (more : List ℕ) → move_targets setup old c command ≡ more → IsHeld setup old (shard_cells setup (ns ++ more) ++ named.Client c ∷ []) held
      → serving_at old (client_in old c).knows (ns ++ more) ≡ Waits → Shows held Row shown.Blocked asked → new ≡ old → IsTurn setup old new c asked
  waits_turn more moves cells waits shows same =
      turn_row setup old new c asked held (shard_cells setup (ns ++ more) ++ named.Client c ∷ []) cells shown.Blocked shows
      (holds_are setup old c command next plain ns first more moves)
      (same ∙ sym (waits_change setup old c command next plain ns first more moves held.stamp waits))
      (waits_seen setup old c command next plain ns first more moves waits)

  pub refreshes_turn : (more : List ℕ) → move_targets setup old c command ≡ more → IsHeld setup old (shard_cells setup (ns ++ more) ++ named.Client c ∷ []) held
      → serving_at old (client_in old c).knows (ns ++ more) ≡ Refreshes → Shows held Row shown.Refreshed asked → new ≡ row.with_new_map c old → IsTurn setup old new c asked
  refreshes_turn more moves cells refreshes shows changed =
      turn_row setup old new c asked held (shard_cells setup (ns ++ more) ++ named.Client c ∷ []) cells shown.Refreshed shows
      (holds_are setup old c command next plain ns first more moves)
      (changed ∙ sym (refreshes_change setup old c command next plain ns first more moves held.stamp refreshes))
      (refreshes_seen setup old c command next plain ns first more moves refreshes)

  -- the first ones
  pub first_waits : IsHeld setup old (shard_cells setup ns ++ named.Client c ∷ []) held → serving_at old (client_in old c).knows ns ≡ Waits → Shows held Row shown.Blocked asked → new ≡ old → IsTurn setup old new c asked
  first_waits cells waits shows same =
      waits_turn [] (none_moves setup old c command next plain ns first waits)
      (subst (λ l. IsHeld setup old (shard_cells setup l ++ named.Client c ∷ []) held) (sym (no_more ns)) cells)
      (ap (serving_at old (client_in old c).knows) (no_more ns) ∙ waits) shows same

  pub first_refreshes : IsHeld setup old (shard_cells setup ns ++ named.Client c ∷ []) held → serving_at old (client_in old c).knows ns ≡ Refreshes → Shows held Row shown.Refreshed asked
      → new ≡ row.with_new_map c old → IsTurn setup old new c asked
  first_refreshes cells refreshes shows changed =
      refreshes_turn [] (none_moves_yet setup old c command next plain ns first refreshes)
      (subst (λ l. IsHeld setup old (shard_cells setup l ++ named.Client c ∷ []) held) (sym (no_more ns)) cells)
      (ap (serving_at old (client_in old c).knows) (no_more ns) ∙ refreshes) shows changed

module _ (setup : Setup) (old : Cluster) (c : ℕ) (command : Command) (ns : List ℕ) (reached : IsReached setup old c command ns) (new : Cluster) (asked : Asked) (held : Held) where
  -- memory was wanted before a move began
  pub wants_turn : IsHeld setup old (shard_cells setup ns ++ named.Client c ∷ []) held → (mid : Cluster) → mid ≡ old → Shows held NoMemory (shown.Command (row.next_number mid c)) asked
      → new ≡ row.with_reply c reply.NoMemory mid → IsTurn setup old new c asked
  wants_turn cells mid same shows changed =
      turn_wants setup old new c asked held (shard_cells setup ns ++ named.Client c ∷ []) cells (subst (λ k. Shows held NoMemory (shown.Command (row.next_number k c)) asked) same shows)
      (first_holds setup old c command reached.next reached.plain ns reached.first) (changed ∙ ap (row.with_reply c reply.NoMemory) same)

  module _ (more : List ℕ) (moves : move_targets setup old c command ≡ more) (cells : IsHeld setup old (shard_cells setup (ns ++ more) ++ named.Client c ∷ []) held)
      (serves : serving_at old (client_in old c).knows (ns ++ more) ≡ Serves) where
    -- an answer, whatever is done
    pub done_turn : (x : Doing) → doing_by setup old c (ns ++ more) command ≡ x → (what : Reply) → what ≡ reply_of x → (mid : Cluster) → mid ≡ row.did held.stamp x old → (row.next_number mid c ≡ row.next_number old c)
        → Shows held Row (shown.Command (row.next_number mid c)) asked → new ≡ row.with_reply c what mid → IsTurn setup old new c asked
    done_turn x does what is mid mid_is number shows changed =
        turn_row setup old new c asked held (shard_cells setup (ns ++ more) ++ named.Client c ∷ []) cells (shown.Command (row.next_number mid c)) shows
        (holds_are setup old c command reached.next reached.plain ns reached.first more moves)
        (changed ∙ (λ i. row.with_reply c (is i) (mid_is i)) ∙ sym (serves_change setup old c command reached.next reached.plain ns reached.first more moves held.stamp x serves does))
        (serves_seen setup old c command reached.next reached.plain ns reached.first more moves serves ∙ ap shown.Command (sym number))

    -- an answer alone
    pub said_turn : (what : Reply) → doing_by setup old c (ns ++ more) command ≡ says what → (mid : Cluster) → mid ≡ old → Shows held Row (shown.Command (row.next_number mid c)) asked
        → new ≡ row.with_reply c what mid → IsTurn setup old new c asked
    said_turn what does mid same shows changed = done_turn (says what) does what refl mid same (ap (λ k. row.next_number k c) same) shows changed

  -- a reply without any act
  pub alone_turn : (what : Reply) → doing_by setup old c ns command ≡ says what → IsHeld setup old (shard_cells setup ns ++ named.Client c ∷ []) held → (mid : Cluster) → mid ≡ old
      → Shows held Row (shown.Command (row.next_number mid c)) asked → new ≡ row.with_reply c what mid → IsTurn setup old new c asked
  alone_turn what does cells mid same shows changed =
      said_turn []
      (moves_by setup old c command reached.next reached.plain ns reached.first reached.serves ∙ ap leaves_to does)
      (subst (λ l. IsHeld setup old (shard_cells setup l ++ named.Client c ∷ []) held) (sym (no_more ns)) cells)
      (ap (serving_at old (client_in old c).knows) (no_more ns) ∙ reached.serves)
      what (ap (λ l. doing_by setup old c l command) (no_more ns) ∙ does) mid same shows changed

  pub no_key_turn : target_of (known_map setup old c) command ≡ Some goals.NoKey → IsHeld setup old (shard_cells setup ns ++ named.Client c ∷ []) held
      → Shows held Row (shown.Command (row.next_number old c)) asked → new ≡ row.with_reply c reply.NoKey old → IsTurn setup old new c asked
  no_key_turn goal cells shows changed =
      alone_turn reply.NoKey (no_key_said (known_map setup old c) (bag_over (documents_at old) ns) command goal) cells old refl shows changed

  pub read_turn : is_reading command ≡ true → (what : Reply) → what ≡ reply_of (doing_by setup old c ns command) → IsHeld setup old (shard_cells setup ns ++ named.Client c ∷ []) held → (mid : Cluster) → mid ≡ old
      → Shows held Row (shown.Command (row.next_number mid c)) asked → new ≡ row.with_reply c what mid → IsTurn setup old new c asked
  read_turn reading what is cells mid same shows changed =
      alone_turn what (reads_say (known_map setup old c) (bag_over (documents_at old) ns) command reading ∙ ap says (sym is)) cells mid same shows changed

-- an abort
pub abort_turn : (setup : Setup) (old new mid : Cluster) (c : ℕ) (command : Command) (asked : Asked) (held : Held) (what : Reply) → next_command setup old c ≡ Some command → is_abort command ≡ true
    → IsHeld setup old (named.Coordinator ∷ named.Client c ∷ []) held → what ≡ row.abort_reply old.control.decision
    → mid ≡ on_control (unless_decided (AskedFor c (row.next_number old c))) old → Shows held Row (shown.Command (row.next_number mid c)) asked
    → new ≡ row.with_reply c what mid → IsTurn setup old new c asked
abort_turn setup old new mid c command asked held what next abort cells is mid_is shows changed =
    turn_row setup old new c asked held (named.Coordinator ∷ named.Client c ∷ []) cells (shown.Command (row.next_number mid c)) shows
    (abort_holds setup old c command next abort)
    (changed ∙ (λ i. row.with_reply c (is i) (mid_is i)) ∙ sym (abort_change setup old c command next abort held.stamp))
    (abort_seen setup old c command next abort ∙ ap shown.Command (sym (ap (λ k. row.next_number k c) mid_is)))

-- one shard
module _ (setup : Setup) (old : Cluster) (c : ℕ) (command : Command) (of : IsClusterOf setup old) (s : ℕ) (there : s < length old.shards) (reached : IsReached setup old c command (s ∷ [])) where
  abbrev acts : Doing
  acts = doing_on (shard_in old s).shard command

  does : doing_on (shard_in old s).shard command ≡ doing_by setup old c (s ∷ []) command
  does = does_is setup old c of s there (one_under setup old c of s [] reached.serves) command

  at_one : IsAt s (doing_on (shard_in old s).shard command)
  at_one = subst (IsAt s) (sym does) (done_there (known_map setup old c) (bag_over (documents_at old) (s ∷ [])) s command reached.first)

  moves_one : move_targets setup old c command ≡ leaves_to (doing_on (shard_in old s).shard command)
  moves_one = moves_by setup old c command reached.next reached.plain (s ∷ []) reached.first reached.serves ∙ ap leaves_to (sym does)

  pub one_turn : (new mid : Cluster) (asked : Asked) (held : Held) (what : Reply) → IsHeld setup old (shard_cells setup (s ∷ []) ++ named.Client c ∷ []) held
      → Became s old mid (λ before after. HasDone held.stamp command before after (did.Replies what)) → Shows held Row (shown.Command (row.next_number mid c)) asked
      → new ≡ row.with_reply c what mid → IsTurn setup old new c asked
  one_turn new mid asked held what cells became shows changed =
      let stays = replied acts what became.made.0 in
      done_turn setup old c command (s ∷ []) reached new asked held [] (moves_one ∙ stays.stays) cells reached.serves acts (sym does) what stays.said mid
      (became.only ∙ set_by old s became.shard (done held.stamp acts) became.made.1 ∙ did_is old s held.stamp acts at_one stays.stays)
      (ap (λ k. row.next_number k c) became.only) shows changed

  pub one_wants : (new mid : Cluster) (asked : Asked) (held : Held) → IsHeld setup old (shard_cells setup (s ∷ []) ++ named.Client c ∷ []) held
      → Became s old mid (λ before after. HasDone held.stamp command before after did.Wants) → Shows held NoMemory (shown.Command (row.next_number mid c)) asked
      → new ≡ row.with_reply c reply.NoMemory mid → IsTurn setup old new c asked
  one_wants new mid asked held cells became shows changed =
      wants_turn setup old c command (s ∷ []) reached new asked held cells mid (became.only ∙ set_same old s became.shard became.made) shows changed

  -- nothing is done where a document leaves it
  pub left_same : (mid : Cluster) (stamp : Stamp) (to : ℕ) (document : Document) → Became s old mid (λ before after. HasDone stamp command before after (did.Leaves to document)) → mid ≡ old
  left_same mid stamp to document became = became.only ∙ set_same old s became.shard became.made.1

  -- a document leaves it
  module _ (to : ℕ) (document : Document) (leaves : Leaves old s command to document) where
    goes : Goes (doing_on (shard_in old s).shard command) to document
    goes = gone acts to document leaves.leaves

    from_is : goes.from ≡ s
    from_is = subst (IsAt s) goes.is at_one

    is_move : doing_on (shard_in old s).shard command ≡ replaces s goes.before to document
    is_move = goes.is ∙ ap (λ n. replaces n goes.before to document) from_is

    apart : (to == s) ≡ false
    apart = ap (λ n. to == n) (sym from_is) ∙ goes.apart

    pub moves_to : move_targets setup old c command ≡ to ∷ []
    moves_to = moves_one ∙ ap leaves_to is_move ∙ ap (λ b. cond b [] (to ∷ [])) apart

    module _ (held : Held) (carried : IsCarried setup old c s to held) where
      number_s : number_of (shard_in old s).shard ≡ s
      number_s = number_is setup old c of s there (one_under setup old c of s (to ∷ []) carried.serves)

      number_to : number_of (shard_in old to).shard ≡ to
      number_to = number_is setup old c of to carried.there (other_under setup old c of s to [] carried.serves)

      map_s : map_of (shard_in old s).shard ≡ known_map setup old c
      map_s = map_is setup old c of s there (one_under setup old c of s (to ∷ []) carried.serves)

      at_numbers : doing_on (shard_in old s).shard command ≡ replaces (number_of (shard_in old s).shard) goes.before (number_of (shard_in old to).shard) document
      at_numbers = is_move ∙ (λ i. replaces (sym number_s i) goes.before (sym number_to i) document)

      apart_numbers : (number_of (shard_in old to).shard == number_of (shard_in old s).shard) ≡ false
      apart_numbers = (λ i. number_to i == number_s i) ∙ apart

      limited : (shard_in old s).shard.limit ≡ text_limit
      limited = (of.each s there).limit

      both_do : doing_by setup old c (s ∷ to ∷ []) command ≡ cond (is_some (now (shard_in old to).shard.versions (id_of document))) (says reply.Duplicate) (replaces s goes.before to document)
      both_do =
          (λ i. doing (sym map_s i) (put_all (sym number_s i) (documents_at old s) (put_all (sym number_to i) (documents_at old to) empty)) command)
          ∙ moves_are (shard_in old s).shard (shard_in old to).shard command goes.before document limited leaves.filed at_numbers apart_numbers carried.filed
          ∙ (λ i. cond (is_some (now (shard_in old to).shard.versions (id_of document))) (says reply.Duplicate) (replaces (number_s i) goes.before (number_to i) document))

      pub duplicate_turn : (new mid : Cluster) (asked : Asked) → (taking_in (shard_in old to).shard document ≡ taking.Duplicate) → mid ≡ old → Shows held Row (shown.Command (row.next_number mid c)) asked
          → new ≡ row.with_reply c reply.Duplicate mid → IsTurn setup old new c asked
      duplicate_turn new mid asked is same shows changed =
          said_turn setup old c command (s ∷ []) reached new asked held (to ∷ []) moves_to carried.cells carried.serves reply.Duplicate
          (both_do ∙ ap (λ b. cond b (says reply.Duplicate) (replaces s goes.before to document)) (held_there (is_some (now (shard_in old to).shard.versions (id_of document))) is)) mid same shows changed
        where
          held_there : (b : Bool) → cond b taking.Duplicate taking.Taken ≡ taking.Duplicate → b ≡ true
          held_there true e = refl
          held_there false e = cc

      pub moved_turn : (new mid : Cluster) (asked : Asked) → (taking_in (shard_in old to).shard document ≡ taking.Taken)
          → mid ≡ on_shard s (with_shard (taken_out held.stamp (update_id command))) (on_shard to (with_shard (taken_in held.stamp document)) old)
          → Shows held Row (shown.Command (row.next_number mid c)) asked → new ≡ row.with_reply c (reply.Matched true) mid → IsTurn setup old new c asked
      moved_turn new mid asked is mid_is shows changed =
          done_turn setup old c command (s ∷ []) reached new asked held (to ∷ []) moves_to carried.cells carried.serves (replaces s goes.before to document)
          (both_do ∙ ap (λ b. cond b (says reply.Duplicate) (replaces s goes.before to document)) (free_there (is_some (now (shard_in old to).shard.versions (id_of document))) is))
          (reply.Matched true)
          (sym (changes (shard_in old s).shard (shard_in old to).shard command goes.before document limited leaves.filed at_numbers apart_numbers))
          mid
          (mid_is ∙ ap (λ id. on_shard s (with_shard (taken_out held.stamp id)) (on_shard to (with_shard (taken_in held.stamp document)) old)) id_is
          ∙ sym (ap (λ b. cond b (row.done_at held.stamp s (replaces s goes.before to document) old) (row.moved held.stamp s goes.before to document old)) apart))
          (ap (λ k. row.next_number k c) mid_is) shows changed
        where
          free_there : (b : Bool) → cond b taking.Duplicate taking.Taken ≡ taking.Taken → b ≡ false
          free_there true e = cc
          free_there false e = refl

          id_is : update_id command ≡ id_of goes.before
          id_is =
              ap update_id (found (shard_in old s).shard (shard_in old to).shard command goes.before document limited leaves.filed at_numbers apart_numbers).is ∙ sym (named_by (shard_in old s).shard (shard_in old to).shard command goes.before document limited leaves.filed at_numbers apart_numbers)

      pub in_move_turn : (new mid : Cluster) (asked : Asked) → mid ≡ old → Shows held NoMemoryInMove (shown.Command (row.next_number mid c)) asked
          → new ≡ row.with_reply c reply.NoMemory mid → IsTurn setup old new c asked
      in_move_turn new mid asked same shows changed =
          turn_wants_in_move setup old new c asked held (shard_cells setup (s ∷ to ∷ []) ++ named.Client c ∷ []) carried.cells
          (subst (λ k. Shows held NoMemoryInMove (shown.Command (row.next_number k c)) asked) same shows)
          (begun_is setup old c command reached.next reached.plain (s ∷ []) reached.first (to ∷ []) moves_to (omega arith))
          (holds_are setup old c command reached.next reached.plain (s ∷ []) reached.first (to ∷ []) moves_to)
          (changed ∙ ap (row.with_reply c reply.NoMemory) same)
