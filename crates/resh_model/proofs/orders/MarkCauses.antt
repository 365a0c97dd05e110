-- The end of a lawful order has its cause at the mark; without clients there is the mark alone.
use Rattle.std.proofs.Common.{◌≡◌, ℕ, Bool, true, false, List, [], ◌∷◌, ◌++◌, length, filter, append_assoc, refl, sym, ap, subst, ◌∙◌}
use Rattle.std.specs.List.{slice_get}
use Rattle.resh_coord.specs.declared.cause.Cause.{Cause}
use Rattle.resh_coord.specs.declared.cause.Cause.TheVariants.{Clash, Asked, Failed, NoMemory}
use Rattle.resh_coord.specs.declared.cause.End.{End}
use Rattle.resh_coord.specs.declared.cause.End.TheVariants.{Committed, Aborted}
use Rattle.resh_setup.specs.declared.setup.Setup.{Setup}
use Rattle.resh_setup.specs.declared.turn.Turn.{Turn}
use Rattle.resh_setup.specs.declared.turn.Turn.TheVariants as turn
use Rattle.resh_bag.specs.Placement.{HasNoClash}
use Rattle.resh_model.specs.Orders.{ended, undecided, State, opening, replies_to, commands_of, next_command, switched, dropped, turned, walked, last_state, HasNext, Allows, AllowsDrop, AllowsAll, IsLawful}
use Rattle.resh_model.specs.OrderLaws.{is_mark, mark_of}
use Rattle.resh_model.specs.MarkLaws.{before_mark, bag_at_mark, is_failure, AcceptsNone, HasCause, EndsHaveCauses, CommitsElse, OneMarkWithoutClients}
use Rattle.resh_model.specs.Runs.{IsMarked}
use Rattle.resh_model.proofs.orders.Aborts.{drops_only_there}
use Rattle.resh_model.proofs.orders.Marking.{after_mark, has_one_mark, no_drop}
use Rattle.resh_model.proofs.orders.Turns.{allowed_behind}

-- an order is the turns before its mark, the mark, and the rest
split_mark : (ts : List Turn) (m : Turn) → filter is_mark ts ≡ m ∷ [] → (after : List Turn) × (ts ≡ before_mark ts ++ m ∷ after)
split_mark [] m e = cc
split_mark (turn.Command client refused ∷ ts) m e = let w = split_mark ts m e in (w.0, ap (λ l. turn.Command client refused ∷ l) w.1)
split_mark (turn.Switch ∷ ts) m e = let same : turn.Switch ≡ m = cc in (ts, ap (λ x. x ∷ ts) same)
split_mark (turn.Drop cause ∷ ts) m e = let same : turn.Drop cause ≡ m = cc in (ts, ap (λ x. x ∷ ts) same)

module _ (setup : Setup) (order : List Turn) (end : End) (lawful : IsLawful setup order end) where
  rest : (after : List Turn) × (order ≡ before_mark order ++ mark_of end ∷ after)
  rest = split_mark order (mark_of end) (has_one_mark setup order end lawful)

  here : Allows setup (last_state setup (before_mark order)) (mark_of end)
  here = (allowed_behind setup (opening setup) (before_mark order) (mark_of end ∷ rest.0) (subst (AllowsAll setup (opening setup)) rest.1 lawful.allowed)).0

pub ends_have_causes : EndsHaveCauses
ends_have_causes setup order Committed lawful = (here setup order Committed lawful).1
ends_have_causes setup order (Aborted (Clash shard id)) lawful = (here setup order (Aborted (Clash shard id)) lawful).1
ends_have_causes setup order (Aborted (Asked client number)) lawful =
    let r = rest setup order (Aborted (Asked client number)) lawful in
    drops_only_there setup (before_mark order) r.0 (Aborted (Asked client number)) client number
    (subst (λ ts. IsLawful setup ts (Aborted (Asked client number))) r.1 lawful)
ends_have_causes setup order (Aborted (Failed node why)) lawful = tt
ends_have_causes setup order (Aborted NoMemory) lawful = tt

commits : (setup : Setup) (order : List Turn) (end : End) → IsLawful setup order end → HasNoClash setup.new_map (bag_at_mark setup order)
    → AcceptsNone setup order → is_failure end ≡ false → HasCause setup order end → end ≡ Committed
commits setup order Committed lawful calm none well cause = refl
commits setup order (Aborted (Clash shard id)) lawful calm none well cause = absurd (calm shard.0 id cause.clash)
commits setup order (Aborted (Asked client number)) lawful calm none well cause =
    let r = rest setup order (Aborted (Asked client number)) lawful in
    let whole : order ≡ cause.front ++ cause.last ∷ (mark_of (Aborted (Asked client number)) ∷ r.0) =
    r.1 ∙ ap (λ l. l ++ mark_of (Aborted (Asked client number)) ∷ r.0) cause.is ∙ append_assoc cause.front (cause.last ∷ []) (mark_of (Aborted (Asked client number)) ∷ r.0) in
    absurd (none cause.front cause.last (mark_of (Aborted (Asked client number)) ∷ r.0) client number whole cause.accepts)
commits setup order (Aborted (Failed node why)) lawful calm none well cause = cc
commits setup order (Aborted NoMemory) lawful calm none well cause = cc

pub commits_else : CommitsElse
commits_else setup order end lawful calm none well = commits setup order end lawful calm none well (ends_have_causes setup order end lawful)

module _ (setup : Setup) (none : setup.clients ≡ []) where
  no_command : (state : State) (client : ℕ) → HasNext (next_command setup state client) → ⊥
  no_command state client next = subst HasNext (ap (λ cs. slice_get (commands_of (slice_get cs client)) (length (replies_to state client))) none) next

  -- behind the mark nothing may come
  alone : (ts : List Turn) (state : State) (end : End) → state.fate ≡ ended end → AllowsAll setup state ts → ts ≡ []
  alone [] state end is all = refl
  alone (turn.Command client refused ∷ ts) state end is all = absurd (no_command state client all.0.1)
  alone (turn.Switch ∷ ts) state end is all = absurd (let free = all.0.0 in cc)
  alone (turn.Drop cause ∷ ts) state end is all = absurd (no_drop setup state end is cause all.0)

  same_end : (ts : List Turn) (state : State) (one end : End) → state.fate ≡ ended one → AllowsAll setup state ts → (walked setup state ts).fate ≡ ended end → one ≡ end
  same_end ts state one end is all last = let decided = (after_mark setup ts state one is all).1 in cc

  drop_marked : (cause : Cause) (ts : List Turn) (end : End) → AllowsDrop setup (opening setup) cause → ts ≡ [] → Aborted cause ≡ end → is_failure end ≡ false → IsMarked setup (turn.Drop cause ∷ ts) end
  drop_marked (Clash shard id) ts end allowed last is well = IsMarked.dropped shard.0 id allowed.1 (ap (λ l. turn.Drop (Clash shard id) ∷ l) last) (sym is)
  drop_marked (Asked client number) ts end allowed last is well = cc
  drop_marked (Failed node why) ts end allowed last is well = absurd (let no : true ≡ false = ap is_failure is ∙ well in cc)
  drop_marked NoMemory ts end allowed last is well = absurd (let no : true ≡ false = ap is_failure is ∙ well in cc)

  marked : (order : List Turn) (end : End) → AllowsAll setup (opening setup) order → (last_state setup order).fate ≡ ended end → is_failure end ≡ false → IsMarked setup order end
  marked [] end all is well = cc
  marked (turn.Command client refused ∷ ts) end all is well = absurd (no_command (opening setup) client all.0.1)
  marked (turn.Switch ∷ ts) end all is well =
      IsMarked.switched all.0.1 (ap (λ l. turn.Switch ∷ l) (alone ts (switched setup (opening setup)) Committed refl all.1))
      (sym (same_end ts (switched setup (opening setup)) Committed end refl all.1 is))
  marked (turn.Drop cause ∷ ts) end all is well =
      drop_marked cause ts end all.0 (alone ts (dropped cause (opening setup)) (Aborted cause) refl all.1) (same_end ts (dropped cause (opening setup)) (Aborted cause) end refl all.1 is) well

pub one_mark_without_clients : OneMarkWithoutClients
one_mark_without_clients setup order end none lawful well = marked setup none order end lawful.allowed lawful.finished.decided well
