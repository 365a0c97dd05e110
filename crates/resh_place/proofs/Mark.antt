-- The mark: a switch where no recipient noted a clash, else a drop for the first clash.
use Rattle.std.proofs.Common.{◌≡◌, ◌<◌, ◌≤◌, ℕ, not, true, false, List, length, slice_index_or, Option, Some, None, is_some, refl, sym, ap, subst, ◌∙◌, ⊎_elim, arith}
use Rattle.std.proofs.lemmas.Bool.{cases_lt}
use Rattle.std.proofs.lemmas.List.{get_or_past}
use Rattle.std.proofs.lemmas.List.Sums.{prefix_len_passes, prefix_len_stops}
use Rattle.resh_value.specs.declared.value.Value.{Value}
use Rattle.resh_chunks.specs.Chunks.{Chunks}
use Rattle.resh_bag.specs.Bag.{Bag}
use Rattle.resh_bag.specs.Placement.{HasNoClash, IsClash, IsFirstClash}
use Rattle.resh_bag.proofs.shards.ByRecipient.{clashes_by_recipient}
use Rattle.resh_bag.proofs.shards.Owners.{owner_there}
use Rattle.resh_coord.specs.Control.{Control, decided_at, first_clash}
use Rattle.resh_events.specs.Turns.{mark_of}
use Rattle.resh_lane.specs.Lanes.{LaneOf}
use Rattle.resh_model.specs.Orders.{AllowsAll, State, undecided}
use Rattle.resh_oplog.specs.declared.entry.What.{What}
use Rattle.resh_place.specs.Lanes.{held_in}
use Rattle.resh_place.specs.Laws.{NotesDecide}
use Rattle.resh_place.specs.Notes.{AreConsistent, IsLeast, first_note}
use Rattle.resh_place.specs.Parts.{HoldsPart, Waits}
use Rattle.resh_place.proofs.Clashes.{waits_at_clash}
use Rattle.resh_place.proofs.Noting.{notes_least}
use Rattle.resh_place.proofs.Slots.{never_some}
use Rattle.resh_place.proofs.Taken.{whole_part}
use Rattle.resh_setup.specs.declared.setup.Setup.{Setup}

abbrev pub noted : List (Option Value) → ℕ → Option Value
noted clashes r = slice_index_or clashes r None

not_some : (o : Option Value) → not (is_some o) ≡ true → o ≡ None
not_some None h = refl
not_some (Some id) h = cc

-- before the first note there is none
before_first : (clashes : List (Option Value)) (r : ℕ) → r < first_clash clashes → noted clashes r ≡ None
before_first clashes r lt = not_some (noted clashes r) (prefix_len_passes (λ (o : Option Value). not (is_some o)) clashes r None lt)

first_within : (clashes : List (Option Value)) (id : Value) → first_note clashes ≡ Some id → first_clash clashes < length clashes
first_within clashes id e =
    ⊎_elim (λ (lt : first_clash clashes < length clashes). lt)
    (λ (le : length clashes ≤ first_clash clashes). absurd (never_some id (sym (get_or_past clashes (first_clash clashes) None le) ∙ e)))
    (cases_lt (first_clash clashes) (length clashes))

-- where the first note is none, none noted anything
none_noted : (clashes : List (Option Value)) → first_note clashes ≡ None → (r : ℕ) → r < length clashes → noted clashes r ≡ None
none_noted clashes e r lt =
    ⊎_elim (λ (before : r < first_clash clashes). before_first clashes r before)
    (λ (le : first_clash clashes ≤ r). absurd (stopped (prefix_len_stops (λ (o : Option Value). not (is_some o)) clashes None (below (first_clash clashes) r (length clashes) le lt))))
    (cases_lt r (first_clash clashes))
  where
    below : (a b c : ℕ) → a ≤ b → b < c → a < c
    below a b c le lt = omega (arith, le, lt)

    stopped : not (is_some (first_note clashes)) ≡ false → ⊥
    stopped s = let off : true ≡ false = sym (ap (λ o. not (is_some o)) e) ∙ s in cc

module _ (old_map new_map : Chunks) (bag : Bag) (lanes many : ℕ) (feeds : ℕ → ℕ → List What) (all : ℕ → List LaneOf) (clashes : List (Option Value))
    (are : AreConsistent old_map new_map bag lanes many feeds all clashes) where
  abbrev WaitsHere : ℕ → Value → Type 0
  WaitsHere r id = Waits (held_in lanes (all r) id)

  part : (r : ℕ) → r < many → HoldsPart old_map new_map bag r (held_in lanes (all r))
  part r lt = whole_part old_map lanes many (feeds r) (all r) (are.taken r lt) new_map bag r are.placed (are.told r lt)

  least : (r : ℕ) → r < many → IsLeast (WaitsHere r) (noted clashes r)
  least r lt = subst (IsLeast (WaitsHere r)) (sym (are.noted r lt)) (notes_least old_map lanes many (feeds r) (all r) (are.taken r lt))

  clashing : (r : ℕ) → r < many → (id : Value) → WaitsHere r id → IsClash new_map bag r id
  clashing r lt id h = (waits_at_clash old_map new_map bag r (held_in lanes (all r)) (part r lt) id).0 h

  recipient : (r : ℕ) (id : Value) → IsClash new_map bag r id → r < many
  recipient r id c = subst (λ n. r < n) are.shards (subst (λ n. n < new_map.shards) c.one_comes (owner_there new_map are.map c.one))

  waiting : (r : ℕ) (id : Value) → IsClash new_map bag r id → WaitsHere r id
  waiting r id c = (waits_at_clash old_map new_map bag r (held_in lanes (all r)) (part r (recipient r id c)) id).1 c

  -- a recipient that noted nothing has no clash
  unclashed : (r : ℕ) (id : Value) → noted clashes r ≡ None → IsClash new_map bag r id → ⊥
  unclashed r id e c = (least r (recipient r id c)).none e id (waiting r id c)

  within : (r : ℕ) → r < many → r < length clashes
  within r lt = subst (λ n. r < n) (sym are.notes) lt

  first_many : (id : Value) → first_note clashes ≡ Some id → first_clash clashes < many
  first_many id e = subst (λ n. first_clash clashes < n) are.notes (first_within clashes id e)

  first_is_clash : (id : Value) → first_note clashes ≡ Some id → IsClash new_map bag (first_clash clashes) id
  first_is_clash id e = clashing (first_clash clashes) (first_many id e) id ((least (first_clash clashes) (first_many id e)).one id e)

  pub none_clashes : first_note clashes ≡ None → HasNoClash new_map bag
  none_clashes e r id c = unclashed r id (none_noted clashes e r (within r (recipient r id c))) c

  pub none_first : HasNoClash new_map bag → first_note clashes ≡ None
  none_first none = by (first_note clashes) refl
    where
      by : (o : Option Value) → first_note clashes ≡ o → first_note clashes ≡ None
      by None e = e
      by (Some id) e = absurd (none (first_clash clashes) id (first_is_clash id e))

  pub first_clashes : (id : Value) → first_note clashes ≡ Some id → IsFirstClash new_map bag (first_clash clashes) id
  first_clashes id e =
      clashes_by_recipient.first new_map bag (first_clash clashes) id (first_is_clash id e)
      (λ s i lt c. unclashed s i (before_first clashes s lt) c)
      (λ i c. (least (first_clash clashes) (first_many id e)).first id e i (waiting (first_clash clashes) i c))

pub decided_allowed : (setup : Setup) (state : State) (control : Control) → state.fate ≡ undecided → (shard : ℕ) (note : Option Value)
    → (note ≡ None → HasNoClash setup.new_map state.bag) → ((id : Value) → note ≡ Some id → IsFirstClash setup.new_map state.bag shard id)
    → AllowsAll setup state (mark_of None (decided_at shard note control).decision)
decided_allowed setup state control fate shard None none first = ((fate, none refl), tt)
decided_allowed setup state control fate shard (Some id) none first = ((fate, first id refl), tt)

pub notes_decide : NotesDecide
notes_decide = record {
  none = λ old_map new_map bag lanes many feeds all clashes are. (none_clashes old_map new_map bag lanes many feeds all clashes are, none_first old_map new_map bag lanes many feeds all clashes are);
  first = λ old_map new_map bag lanes many feeds all clashes are id e. first_clashes old_map new_map bag lanes many feeds all clashes are id e;
  mark = λ setup state control lanes many feeds all fate are.
      decided_allowed setup state _ fate (first_clash control.clashes) (first_note control.clashes)
      (none_clashes setup.old_map setup.new_map state.bag lanes many feeds all control.clashes are)
      (first_clashes setup.old_map setup.new_map state.bag lanes many feeds all control.clashes are);
}
