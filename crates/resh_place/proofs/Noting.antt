-- What a recipient notes is the least `_id` of which a document waits at it.
use Rattle.std.proofs.Common.{◌≡◌, ◌<◌, ◌≤◌, ◌==◌, ℕ, zero, suc, Bool, true, false, List, [], ◌∷◌, slice_index_or, Some, None, refl, sym, ap, subst, ◌∙◌, ⊎_elim, arith}
use Rattle.std.proofs.lemmas.Bool.{cases_lt, eqb-true}
use Rattle.std.proofs.lemmas.List.{get_or_past}
use Rattle.std.specs.FinMap.{empty, get, get-empty}
use Rattle.resh_value.specs.Order.{compare_of}
use Rattle.resh_value.specs.declared.value.Value.{Value}
use Rattle.resh_chunks.specs.Chunks.{Chunks}
use Rattle.resh_cells.specs.Cells.{no_lane}
use Rattle.resh_events.specs.rows.Report.{first_waiting}
use Rattle.resh_feed.specs.Lanes.{id_lane}
use Rattle.resh_lane.specs.Lanes.{LaneOf}
use Rattle.resh_oplog.specs.declared.entry.What.{What}
use Rattle.resh_place.specs.Lanes.{HaveTakenAll, held_at, held_in}
use Rattle.resh_place.specs.Notes.{IsLeast}
use Rattle.resh_place.specs.Parts.{Waits}
use Rattle.resh_place.proofs.Least.{WaitsIn, lanes_least, least_by}
use Rattle.resh_place.proofs.Slots.{never_some}
use Rattle.resh_place.proofs.Taken.{nothing_else}
use Rattle.resh_rules.specs.Held.{waits}
use Rattle.resh_rules.specs.Pools.{held_of, waiting_of}
use Rattle.resh_stash.specs.Stored.{Stored}

-- what waits is read in the stash
waits_read : (id : Value) (stashes : List Stored) (donor : ℕ) → slice_index_or (waiting_of stashes id) donor None ≡ get (slice_index_or stashes donor empty) id
waits_read id [] donor = sym (get-empty compare_of id)
waits_read id (s ∷ ss) zero = refl
waits_read id (s ∷ ss) (suc donor) = waits_read id ss donor

module _ (old_map : Chunks) (lanes donors : ℕ) (feeds : ℕ → List What) (all : List LaneOf) (taken : HaveTakenAll old_map lanes donors feeds all) where
  there : (id : Value) → WaitsIn all id → Waits (held_in lanes all id)
  there id w = by (id_lane id lanes == w.0) refl
    where
      waiting : waits (held_at all w.0 id) w.1.0 ≡ Some w.1.1
      waiting = waits_read id (slice_index_or all w.0 no_lane).pool.stashes w.1.0 ∙ w.1.2

      inside : w.0 < lanes
      inside =
          ⊎_elim (λ (lt : w.0 < lanes). lt)
          (λ (le : lanes ≤ w.0). let long = taken.many in
          let past : slice_index_or all w.0 no_lane ≡ no_lane = get_or_past all w.0 no_lane (omega (arith, long, le)) in
          absurd (never_some w.1.1 (sym (ap (λ (l : LaneOf). waits (held_of l.pool id) w.1.0) past) ∙ waiting)))
          (cases_lt w.0 lanes)

      by : (b : Bool) → (id_lane id lanes == w.0) ≡ b → Waits (held_in lanes all id)
      by true e = (w.1.0, w.1.1, subst (λ (l : ℕ). waits (held_at all l id) w.1.0 ≡ Some w.1.1) (sym (eqb-true (id_lane id lanes) w.0 e)) waiting)
      by false e = absurd (never_some w.1.1 (sym ((nothing_else old_map lanes donors feeds all taken w.0 id inside e).waiting w.1.0) ∙ waiting))

  pub notes_least : IsLeast (λ id. Waits (held_in lanes all id)) (first_waiting all)
  notes_least =
      least_by (WaitsIn all) (λ id. Waits (held_in lanes all id)) (first_waiting all) there
      (λ id w. (id_lane id lanes, (w.0, w.1, sym (waits_read id (slice_index_or all (id_lane id lanes) no_lane).pool.stashes w.0) ∙ w.2)))
      (lanes_least all)
