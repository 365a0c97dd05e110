-- An apply that goes on leaves less to do.
use Rattle.std.proofs.Common.{◌≡◌, ◌<◌, ◌≤◌, ◌⊎◌, inl, inr, ℕ, zero, suc, ◌+◌, ◌==◌, Bool, true, false, not, ◌&&◌, cond, List, [], ◌∷◌, ◌++◌, length, map, replicate, is_some, Option, Some, None, refl, sym, ap, subst, ◌∙◌, arith, slice_index_or, slice_set}
use Rattle.resh_value.specs.declared.value.ShardId.{ShardId}
use Rattle.resh_oplog.specs.declared.piece.Piece.{Piece}
use Rattle.resh_stamp.specs.declared.stamp.Stamp.{Stamp}
use Rattle.resh_lane.specs.Lanes.{LaneOf, number_of, taken}
use Rattle.resh_luck.specs.Fates.{Told, after_commit, next_fate, no_calls}
use Rattle.resh_luck.specs.declared.fate.Fate.{Fate}
use Rattle.resh_luck.specs.declared.fate.Fate.TheVariants as fate
use Rattle.resh_coord.specs.declared.cause.Cause.{Cause}
use Rattle.resh_coord.specs.declared.cause.Cause.TheVariants as cause
use Rattle.resh_coord.specs.declared.cause.Why.TheVariants.{Commit}
use Rattle.resh_setup.specs.declared.event.Event.{Event}
use Rattle.resh_setup.specs.declared.event.Event.TheVariants.{Apply, Crash, Fail}
use Rattle.resh_setup.specs.declared.plan.Who.{Who}
use Rattle.resh_setup.specs.declared.plan.Who.TheVariants.{Lane}
use Rattle.resh_setup.specs.declared.setup.Setup.{Setup}
use Rattle.resh_setup.specs.declared.trace.Met.{Met}
use Rattle.resh_setup.specs.declared.trace.Met.TheVariants.{Row, CrashedBefore, CrashedAfter, Failed, Lost, NoMemory, NoMemoryInMove}
use Rattle.resh_cells.specs.Cells.{lane_in, lanes_of, link_in, links_of, no_lane, no_link, on_lane}
use Rattle.resh_cells.specs.Cuts.{cut_for, last_cut}
use Rattle.resh_cells.specs.declared.cluster.Cluster.{Cluster}
use Rattle.resh_cells.specs.declared.cluster.LinkCell.{LinkCell}
use Rattle.resh_events.specs.Follows.{failure, only_if}
use Rattle.resh_events.specs.Luck.{commits, may_meet}
use Rattle.resh_events.specs.Lucks.{Lucks, called, lane_place, told_of}
use Rattle.resh_events.specs.Plans.{IsWant, met_of}
use Rattle.resh_events.specs.Runs.{Moment, Owed, Run, after, after_all, cluster_after, owes}
use Rattle.resh_events.specs.Schedules.{IsSchedule}
use Rattle.resh_events.specs.Steps.{IsStep, Line, first_moment, idles, makes, may_step, moments_of, paid, piece_for}
use Rattle.resh_events.specs.Sweep.{goes_on}
use Rattle.resh_events.specs.Table.{change, may}
use Rattle.resh_events.specs.rows.Apply as apply
use Rattle.resh_events.specs.rows.Apply.{is_at, is_given}
use Rattle.resh_ending.specs.Applies.{AppliesEnd, applies_left, left_by, top}
use Rattle.resh_ending.specs.Calls.{FateCalls, calls, greatest}
use Rattle.resh_ending.specs.Shapes.{IsShaped, lane_shape, link_shape, positions}
use Rattle.resh_ending.proofs.Calling.{calls-commit}
use Rattle.resh_ending.proofs.Paying.{AreBacks, Holds, has_failed, owes_if, paid_failed, paid_holds, paid_none, sent_in}
use Rattle.resh_ending.proofs.Places.{length-map, length-replicate, map_at, replicate_at, set_here, set_or_none, within}
use Rattle.resh_ending.proofs.Tops.{found_below, none_left, one_back, one_on}

pub both : (a b : Bool) → (a && b) ≡ true → (a ≡ true) × (b ≡ true)
both true b e = (refl, e)
both false b e = cc

equal : (a b : ℕ) → (a == b) ≡ true → a ≡ b
equal a b e = grind arith

not_true : (b : Bool) → not b ≡ true → b ≡ false
not_true true e = cc
not_true false e = refl

-- the piece that an apply hands over, and that the lane would take
pub record Takes (cluster : Cluster) (r d : ShardId) (l : ℕ) : Type 0 where
  pub piece : Piece
  pub found : piece_for cluster (Apply r d l) ≡ Some piece
  pub started : (lane_in cluster r.0 l).started ≡ true
  pub donor : piece.donor.0 ≡ d.0

pub takes : (setup : Setup) (cluster : Cluster) (r d : ShardId) (l : ℕ) → may_step setup cluster (Apply r d l) ≡ true
    → Takes cluster r d l
unfolding may
takes setup cluster r d l h = by (piece_for cluster (Apply r d l)) refl h
  where
    by : (o : Option Piece) → piece_for cluster (Apply r d l) ≡ o → apply.may cluster r.0 d.0 l o ≡ true → Takes cluster r d l
    by None is may = cc
    by (Some p) is may =
        let one = both (is_given (lane_in cluster r.0 l) d.0 p) (is_at (lane_in cluster r.0 l) p) may in
        let two = both (lane_in cluster r.0 l).started (p.donor.0 == d.0) one.0 in
        record { piece = p; found = is; started = two.0; donor = equal p.donor.0 d.0 two.1 }

-- where its cells stand
pub record StandsIn (setup : Setup) (cluster : Cluster) (r d : ShardId) (l : ℕ) : Type 0 where
  pub lanes : r.0 < length cluster.lanes
  pub lane : l < length (lanes_of cluster r.0)
  pub links : r.0 < length cluster.links
  pub link : d.0 < length (links_of cluster r.0)
  pub at : d.0 < length (lane_in cluster r.0 l).at

pub lt_by : (a b c : ℕ) → b ≡ c → a < b → a < c
lt_by a b c e lt = omega arith

pub in_rows : {X : Type 0} (f : X → Bool) (rows : List (List X)) (r i : ℕ) (d : X) → f d ≡ false
    → f (slice_index_or (slice_index_or rows r []) i d) ≡ true → r < length rows
in_rows f rows r i d none is = within (λ row. f (slice_index_or row i d)) rows r [] none is

pub stands : (setup : Setup) (cluster : Cluster) (r d : ShardId) (l : ℕ) → IsShaped setup cluster → Takes cluster r d l
    → StandsIn setup cluster r d l
stands setup cluster r d l shaped takes =
    let shards : ℕ = length setup.shards in
    let position : ℕ = number_of (lane_in cluster r.0 l).at d.0 in
    let cut : LinkCell → Bool = λ (cell : LinkCell). is_some (last_cut (cut_for cell.sent l) position) in
    let has : cut (link_in cluster r.0 d.0) ≡ true = ap (λ (o : Option Piece). is_some o) takes.found in
    let lanes : r.0 < length cluster.lanes
    = in_rows (λ (lane : LaneOf). lane.started) cluster.lanes r.0 l no_lane refl takes.started in
    let lane : l < length (lanes_of cluster r.0)
    = within (λ (lane : LaneOf). lane.started) (lanes_of cluster r.0) l no_lane refl takes.started in
    let links : r.0 < length cluster.links = in_rows cut cluster.links r.0 d.0 no_link refl has in
    let link : d.0 < length (links_of cluster r.0) = within cut (links_of cluster r.0) d.0 no_link refl has in
    let some_row : r.0 < shards
    = lt_by r.0 _ _ (sym (length-map positions cluster.lanes) ∙ ap length shaped.lanes ∙ length-replicate _ shards) lanes in
    let row : positions (lanes_of cluster r.0) ≡ replicate setup.lanes shards
    = sym (map_at positions cluster.lanes r.0 []) ∙ ap (λ (t : List (List ℕ)). slice_index_or t r.0 []) shaped.lanes
    ∙ replicate_at shards r.0 (replicate setup.lanes shards) [] some_row in
    let some_lane : l < setup.lanes
    = lt_by l _ _ (sym (length-map (λ (x : LaneOf). length x.at) (lanes_of cluster r.0)) ∙ ap length row ∙ length-replicate shards setup.lanes) lane in
    let many : length (lane_in cluster r.0 l).at ≡ shards
    = sym (map_at (λ (x : LaneOf). length x.at) (lanes_of cluster r.0) l no_lane) ∙ ap (λ (t : List ℕ). slice_index_or t l 0) row
    ∙ replicate_at setup.lanes l shards 0 some_lane in
    let donors : length (links_of cluster r.0) ≡ shards
    = sym (map_at (λ (t : List LinkCell). length t) cluster.links r.0 []) ∙ ap (λ (t : List ℕ). slice_index_or t r.0 0) shaped.links
    ∙ replicate_at shards r.0 shards 0 some_row in
    record { lanes = lanes; lane = lane; links = links; link = link; at = lt_by d.0 _ _ (donors ∙ sym many) link }

-- the lane after the row
lane_set : (cluster : Cluster) (r l : ℕ) (f : LaneOf → LaneOf) → r < length cluster.lanes → l < length (lanes_of cluster r)
    → lane_in (on_lane r l f cluster) r l ≡ f (lane_in cluster r l)
lane_set cluster r l f in_rows in_row =
    ap (λ (row : List LaneOf). slice_index_or row l no_lane)
    (set_here cluster.lanes r (slice_set (lanes_of cluster r) l (f (lane_in cluster r l))) [] in_rows)
    ∙ set_here (lanes_of cluster r) l (f (lane_in cluster r l)) no_lane in_row

taken_on : (lane : LaneOf) (piece : Piece) (d : ℕ) → piece.donor.0 ≡ d → d < length lane.at
    → number_of (taken piece lane).at d ≡ number_of lane.at d + 1
taken_on lane piece d is lt =
    subst (λ (k : ℕ). slice_index_or (slice_set lane.at k (number_of lane.at k + 1)) d 0 ≡ number_of lane.at d + 1) (sym is)
    (set_here lane.at d (number_of lane.at d + 1) 0 lt)

moved_on : (setup : Setup) (stamp : Stamp) (cluster : Cluster) (r d : ShardId) (l : ℕ) (t : Takes cluster r d l)
    → StandsIn setup cluster r d l
    → number_of (lane_in (change setup stamp cluster (Apply r d l) (piece_for cluster (Apply r d l))) r.0 l).at d.0
    ≡ number_of (lane_in cluster r.0 l).at d.0 + 1
unfolding change
moved_on setup stamp cluster r d l t s =
    ap (λ (o : Option Piece). number_of (lane_in (apply.change cluster r.0 d.0 l o) r.0 l).at d.0) t.found
    ∙ ap (λ (lane : LaneOf). number_of lane.at d.0) (lane_set cluster r.0 l (taken t.piece) s.lanes s.lane)
    ∙ taken_on (lane_in cluster r.0 l) t.piece d.0 t.donor s.at

links_same : (setup : Setup) (stamp : Stamp) (cluster : Cluster) (r d : ShardId) (l : ℕ) (o : Option Piece)
    → (change setup stamp cluster (Apply r d l) o).links ≡ cluster.links
unfolding change
links_same setup stamp cluster r d l None = refl
links_same setup stamp cluster r d l (Some p) = refl

-- the call of the lane's luck
no_fate : (f : Fate) (m n : ℕ) → FateCalls f 0 m → FateCalls f n n
no_fate fate.Kept m n h = omega arith
no_fate fate.CrashedBefore m n h = absurd (never m h)
  where
    never : (k : ℕ) → k < 0 → ⊥
    never k lt = omega arith
no_fate fate.CrashedAfter m n h = absurd (never m h)
  where
    never : (k : ℕ) → k < 0 → ⊥
    never k lt = omega arith
no_fate fate.Failed m n h = absurd (never m h)
  where
    never : (k : ℕ) → k < 0 → ⊥
    never k lt = omega arith

none_to_come : calls (no_calls []) ≡ 0
unfolding calls greatest
none_to_come = refl

call_of : (setup : Setup) (lucks : Lucks) (r d : ShardId) (l : ℕ)
    → FateCalls (next_fate (told_of setup lucks (Lane r d l))) (calls (told_of setup lucks (Lane r d l)))
    (calls (told_of setup (called setup (commits (Lane r d l)) lucks) (Lane r d l)))
call_of setup lucks r d l = by (set_or_none lucks.lanes place (after_commit told) (no_calls []))
  where
    place : ℕ
    place = lane_place setup r d l

    told : Told
    told = told_of setup lucks (Lane r d l)

    by : (slice_index_or (slice_set lucks.lanes place (after_commit told)) place (no_calls []) ≡ after_commit told)
        ⊎ ((told ≡ no_calls []) × (slice_set lucks.lanes place (after_commit told) ≡ lucks.lanes))
        → FateCalls (next_fate told) (calls told) (calls (slice_index_or (slice_set lucks.lanes place (after_commit told)) place (no_calls [])))
    by (inl e) = subst (λ (t : Told). FateCalls (next_fate told) (calls told) (calls t)) (sym e) (calls-commit told)
    by (inr e) =
        let same : slice_index_or (slice_set lucks.lanes place (after_commit told)) place (no_calls []) ≡ told
        = ap (λ (ts : List Told). slice_index_or ts place (no_calls [])) e.1 in
        let none : FateCalls (next_fate (no_calls [])) 0 (calls (after_commit (no_calls [])))
        = subst (λ (n : ℕ). FateCalls (next_fate (no_calls [])) n (calls (after_commit (no_calls [])))) none_to_come (calls-commit (no_calls [])) in
        subst (λ (t : Told). FateCalls (next_fate told) (calls told) (calls t)) (sym same)
        (subst (λ (t : Told). FateCalls (next_fate t) (calls told) (calls told)) (sym e.0)
        (no_fate (next_fate (no_calls [])) (calls (after_commit (no_calls []))) (calls told) none))

no_more : (f : Fate) (before now : ℕ) → FateCalls f before now → now ≤ before
no_more fate.Kept before now h = h
no_more fate.CrashedBefore before now h = omega arith
no_more fate.CrashedAfter before now h = omega arith
no_more fate.Failed before now h = omega arith

less_before : (f : Fate) (before now : ℕ) → CrashedBefore ≡ met_of f → FateCalls f before now → now < before
less_before fate.Kept before now e h = cc
less_before fate.CrashedBefore before now e h = h
less_before fate.CrashedAfter before now e h = cc
less_before fate.Failed before now e h = cc

less_after : (f : Fate) (before now : ℕ) → CrashedAfter ≡ met_of f → FateCalls f before now → now < before
less_after fate.Kept before now e h = cc
less_after fate.CrashedBefore before now e h = cc
less_after fate.CrashedAfter before now e h = h
less_after fate.Failed before now e h = cc

never_lost : (f : Fate) → Lost ≡ met_of f → ⊥
never_lost fate.Kept e = cc
never_lost fate.CrashedBefore e = cc
never_lost fate.CrashedAfter e = cc
never_lost fate.Failed e = cc

-- an answer that isn't want of memory is luck's
pub by_luck : (met given : Met) → (met ≡ NoMemory → ⊥) → (met ≡ NoMemoryInMove → ⊥) → (met ≡ given) ⊎ IsWant met → met ≡ given
by_luck met given one two (inl e) = e
by_luck met given one two (inr (inl e)) = absurd (one e)
by_luck met given one two (inr (inr e)) = absurd (two e)

ends : (f : Bool) (x y : ℕ) → 0 < y → (f ≡ false → x < y) → cond f 0 x < y
ends true x y some lt = some
ends false x y some lt = lt refl

-- what is left before and after, by its parts
abbrev calls_in : Setup → Run → ShardId → ShardId → ℕ → ℕ
calls_in setup run r d l = calls (told_of setup run.lucks (Lane r d l))

abbrev top_in : Run → ShardId → ShardId → ℕ → ℕ
top_in run r d l = top (cut_for (sent_in run.cluster r.0 d.0) l)

abbrev at_in : Run → ShardId → ShardId → ℕ → ℕ
at_in run r d l = number_of (lane_in run.cluster r.0 l).at d.0

abbrev left_in : Setup → Run → ShardId → ShardId → ℕ → ℕ
left_in setup run r d l = applies_left setup run.cluster run.lucks r d l

falls_by : (setup : Setup) (run other : Run) (r d : ShardId) (l : ℕ) → has_failed run.cluster r.0 d.0 ≡ false
    → sent_in other.cluster r.0 d.0 ≡ sent_in run.cluster r.0 d.0
    → left_by (calls_in setup other r d l) (top_in run r d l) (at_in other r d l)
    < left_by (calls_in setup run r d l) (top_in run r d l) (at_in run r d l)
    → left_in setup other r d l < left_in setup run r d l
falls_by setup run other r d l alive sent lt =
    let whole : ℕ = left_by (calls_in setup run r d l) (top_in run r d l) (at_in run r d l) in
    let later : left_by (calls_in setup other r d l) (top_in other r d l) (at_in other r d l) < whole
    = subst (λ (pieces : List (List Piece)). left_by (calls_in setup other r d l) (top (cut_for pieces l)) (at_in other r d l) < whole)
    (sym sent) lt in
    subst (λ (b : Bool). left_in setup other r d l < cond b 0 whole) (sym alive)
    (ends (has_failed other.cluster r.0 d.0) _ whole (none_left (calls_in setup run r d l) (top_in run r d l) (at_in run r d l)) (λ e. later))

falls_failed : (setup : Setup) (run other : Run) (r d : ShardId) (l : ℕ) → has_failed run.cluster r.0 d.0 ≡ false
    → has_failed other.cluster r.0 d.0 ≡ true → left_in setup other r d l < left_in setup run r d l
falls_failed setup run other r d l alive failed =
    let whole : ℕ = left_by (calls_in setup run r d l) (top_in run r d l) (at_in run r d l) in
    subst (λ (b : Bool). left_in setup other r d l < cond b 0 whole) (sym alive)
    (subst (λ (b : Bool). cond b 0 (left_by (calls_in setup other r d l) (top_in other r d l) (at_in other r d l)) < whole) (sym failed)
    (none_left (calls_in setup run r d l) (top_in run r d l) (at_in run r d l)))

-- the first event of an apply's step
abbrev first : Setup → Run → ShardId → ShardId → ℕ → Met → Moment
first setup run r d l met = first_moment setup run (Apply r d l) met

abbrev next : Setup → Run → ShardId → ShardId → ℕ → Met → Run
next setup run r d l met = after setup run (first setup run r d l met)

next_lucks : (setup : Setup) (run : Run) (r d : ShardId) (l : ℕ) (met : Met)
    → (next setup run r d l met).lucks ≡ called setup (commits (Lane r d l)) run.lucks
unfolding after
next_lucks setup run r d l met = refl

next_links : (setup : Setup) (run : Run) (r d : ShardId) (l : ℕ) (met : Met)
    → (next setup run r d l met).cluster.links ≡ run.cluster.links
unfolding after
next_links setup run r d l Row =
    links_same setup (first setup run r d l Row).made.stamp run.cluster r d l (piece_for run.cluster (Apply r d l))
next_links setup run r d l CrashedBefore = refl
next_links setup run r d l CrashedAfter =
    links_same setup (first setup run r d l CrashedAfter).made.stamp run.cluster r d l (piece_for run.cluster (Apply r d l))
next_links setup run r d l Failed = refl
next_links setup run r d l Lost = refl
next_links setup run r d l NoMemory = refl
next_links setup run r d l NoMemoryInMove = refl

next_sent : (setup : Setup) (run : Run) (r d : ShardId) (l : ℕ) (met : Met)
    → sent_in (next setup run r d l met).cluster r.0 d.0 ≡ sent_in run.cluster r.0 d.0
next_sent setup run r d l met =
    ap (λ (rows : List (List LinkCell)). (slice_index_or (slice_index_or rows r.0 []) d.0 no_link).sent) (next_links setup run r d l met)

next_call : (setup : Setup) (run : Run) (r d : ShardId) (l : ℕ) (met : Met)
    → FateCalls (next_fate (told_of setup run.lucks (Lane r d l))) (calls_in setup run r d l) (calls_in setup (next setup run r d l met) r d l)
next_call setup run r d l met =
    subst (λ (lucks : Lucks). FateCalls (next_fate (told_of setup run.lucks (Lane r d l))) (calls_in setup run r d l)
    (calls (told_of setup lucks (Lane r d l)))) (sym (next_lucks setup run r d l met)) (call_of setup run.lucks r d l)

row_owes : (setup : Setup) (run : Run) (r d : ShardId) (l : ℕ) → run.owed ≡ [] → (next setup run r d l Row).owed ≡ []
unfolding after
row_owes setup run r d l none = ap (λ (owed : List Owed). owed ++ []) none

before_owes : (setup : Setup) (run : Run) (r d : ShardId) (l : ℕ) → run.owed ≡ []
    → AreBacks (next setup run r d l CrashedBefore).owed
unfolding after
before_owes setup run r d l none =
    let m : Moment = first setup run r d l CrashedBefore in
    let alive : Bool = (link_in (cluster_after setup run m) r.0 d.0).link.is_open in
    subst (λ (owed : List Owed). AreBacks (owed ++ owes m.made.stamp.time (only_if alive (Crash r d)))) (sym none)
    (owes_if m.made.stamp.time alive (Crash r d) tt)

after_owes : (setup : Setup) (run : Run) (r d : ShardId) (l : ℕ) → run.owed ≡ []
    → AreBacks (next setup run r d l CrashedAfter).owed
unfolding after
after_owes setup run r d l none =
    let m : Moment = first setup run r d l CrashedAfter in
    let alive : Bool = (link_in (cluster_after setup run m) r.0 d.0).link.is_open in
    subst (λ (owed : List Owed). AreBacks (owed ++ owes m.made.stamp.time (only_if alive (Crash r d)))) (sym none)
    (owes_if m.made.stamp.time alive (Crash r d) tt)

failed_owes : (setup : Setup) (run : Run) (r d : ShardId) (l : ℕ) → run.owed ≡ []
    → (next setup run r d l Failed).owed
    ≡ record { event = failure (Lane r d l) Commit; time = (first setup run r d l Failed).made.stamp.time } ∷ []
unfolding after
failed_owes setup run r d l none =
    ap (λ (owed : List Owed). owed ++ record { event = failure (Lane r d l) Commit; time = (first setup run r d l Failed).made.stamp.time } ∷ []) none

want_owes : (setup : Setup) (run : Run) (r d : ShardId) (l : ℕ) → run.owed ≡ []
    → (next setup run r d l NoMemory).owed
    ≡ record { event = Fail (Some (r, d)) cause.NoMemory; time = (first setup run r d l NoMemory).made.stamp.time } ∷ []
unfolding after
want_owes setup run r d l none =
    ap (λ (owed : List Owed). owed ++ record { event = Fail (Some (r, d)) cause.NoMemory; time = (first setup run r d l NoMemory).made.stamp.time } ∷ []) none

next_at : (setup : Setup) (run : Run) (r d : ShardId) (l : ℕ) (t : Takes run.cluster r d l) → StandsIn setup run.cluster r d l
    → at_in (next setup run r d l Row) r d l ≡ at_in run r d l + 1
unfolding after
next_at setup run r d l t s = moved_on setup (first setup run r d l Row).made.stamp run.cluster r d l t s

-- a step, by what its first event met; so many events may follow it
abbrev last : Setup → Run → ShardId → ShardId → ℕ → Met → Run
last setup run r d l met = after_all setup (next setup run r d l met) (paid setup 2 (next setup run r d l met))

row_falls : (setup : Setup) (run : Run) (r d : ShardId) (l : ℕ) → IsShaped setup run.cluster → run.owed ≡ []
    → may_step setup run.cluster (Apply r d l) ≡ true → has_failed run.cluster r.0 d.0 ≡ false
    → left_in setup (last setup run r d l Row) r d l < left_in setup run r d l
unfolding after_all
row_falls setup run r d l shaped none may alive =
    let t : Takes run.cluster r d l = takes setup run.cluster r d l may in
    let s : StandsIn setup run.cluster r d l = stands setup run.cluster r d l shaped t in
    let to : Run = next setup run r d l Row in
    let below : at_in run r d l < top_in run r d l
    = found_below (cut_for (sent_in run.cluster r.0 d.0) l) (at_in run r d l) t.piece t.found in
    let fewer : calls_in setup to r d l ≤ calls_in setup run r d l
    = no_more (next_fate (told_of setup run.lucks (Lane r d l))) _ _ (next_call setup run r d l Row) in
    let on : left_by (calls_in setup to r d l) (top_in run r d l) (at_in to r d l)
    < left_by (calls_in setup run r d l) (top_in run r d l) (at_in run r d l)
    = subst (λ (n : ℕ). left_by (calls_in setup to r d l) (top_in run r d l) n
    < left_by (calls_in setup run r d l) (top_in run r d l) (at_in run r d l)) (sym (next_at setup run r d l t s))
    (one_on (calls_in setup run r d l) (calls_in setup to r d l) (top_in run r d l) (at_in run r d l) fewer below) in
    subst (λ (ms : List Moment). left_in setup (after_all setup to ms) r d l < left_in setup run r d l)
    (sym (paid_none setup 2 to (row_owes setup run r d l none)))
    (falls_by setup run to r d l alive (next_sent setup run r d l Row) on)

crash_falls : (setup : Setup) (run : Run) (r d : ShardId) (l : ℕ) (met : Met) → has_failed run.cluster r.0 d.0 ≡ false
    → AreBacks (next setup run r d l met).owed
    → calls_in setup (next setup run r d l met) r d l < calls_in setup run r d l
    → left_in setup (last setup run r d l met) r d l < left_in setup run r d l
crash_falls setup run r d l met alive backs lt =
    let to : Run = next setup run r d l met in
    let end : Run = last setup run r d l met in
    let h : Holds to end = paid_holds setup 2 to backs in
    let fewer : calls_in setup end r d l < calls_in setup run r d l
    = subst (λ (lucks : Lucks). calls (told_of setup lucks (Lane r d l)) < calls_in setup run r d l) (sym h.lucks) lt in
    falls_by setup run end r d l alive (h.cluster.sent r.0 d.0 ∙ next_sent setup run r d l met)
    (one_back (calls_in setup run r d l) (calls_in setup end r d l) (top_in run r d l) (at_in run r d l) (at_in end r d l) fewer)

fail_falls : (setup : Setup) (run : Run) (r d : ShardId) (l : ℕ) (met : Met) (o : Owed) (c : Cause) → IsShaped setup run.cluster
    → may_step setup run.cluster (Apply r d l) ≡ true → has_failed run.cluster r.0 d.0 ≡ false
    → (next setup run r d l met).owed ≡ o ∷ [] → o.event ≡ Fail (Some (r, d)) c
    → left_in setup (last setup run r d l met) r d l < left_in setup run r d l
fail_falls setup run r d l met o c shaped may alive is event =
    let s : StandsIn setup run.cluster r d l = stands setup run.cluster r d l shaped (takes setup run.cluster r d l may) in
    let same : run.cluster.links ≡ (next setup run r d l met).cluster.links = sym (next_links setup run r d l met) in
    falls_failed setup run (last setup run r d l met) r d l alive
    (paid_failed setup 1 (next setup run r d l met) o r d c is event
    (subst (λ (rows : List (List LinkCell)). r.0 < length rows) same s.links)
    (subst (λ (rows : List (List LinkCell)). d.0 < length (slice_index_or rows r.0 [])) same s.link))

met_falls : (setup : Setup) (run : Run) (r d : ShardId) (l : ℕ) (met : Met) → IsShaped setup run.cluster → run.owed ≡ []
    → may_step setup run.cluster (Apply r d l) ≡ true → has_failed run.cluster r.0 d.0 ≡ false
    → may_meet setup run.cluster (Apply r d l) (piece_for run.cluster (Apply r d l)) met ≡ true
    → (met ≡ met_of (next_fate (told_of setup run.lucks (Lane r d l)))) ⊎ IsWant met
    → left_in setup (last setup run r d l met) r d l < left_in setup run r d l
met_falls setup run r d l Row shaped none may alive meets answers = row_falls setup run r d l shaped none may alive
met_falls setup run r d l CrashedBefore shaped none may alive meets answers =
    crash_falls setup run r d l CrashedBefore alive (before_owes setup run r d l none)
    (less_before (next_fate (told_of setup run.lucks (Lane r d l))) _ _ (by_luck _ _ (λ e. cc) (λ e. cc) answers)
    (next_call setup run r d l CrashedBefore))
met_falls setup run r d l CrashedAfter shaped none may alive meets answers =
    crash_falls setup run r d l CrashedAfter alive (after_owes setup run r d l none)
    (less_after (next_fate (told_of setup run.lucks (Lane r d l))) _ _ (by_luck _ _ (λ e. cc) (λ e. cc) answers)
    (next_call setup run r d l CrashedAfter))
met_falls setup run r d l Failed shaped none may alive meets answers =
    fail_falls setup run r d l Failed _ _ shaped may alive (failed_owes setup run r d l none) refl
met_falls setup run r d l Lost shaped none may alive meets answers =
    absurd (never_lost (next_fate (told_of setup run.lucks (Lane r d l))) (by_luck _ _ (λ e. cc) (λ e. cc) answers))
met_falls setup run r d l NoMemory shaped none may alive meets answers =
    fail_falls setup run r d l NoMemory _ _ shaped may alive (want_owes setup run r d l none) refl
met_falls setup run r d l NoMemoryInMove shaped none may alive meets answers = cc

pub applies_end : AppliesEnd
unfolding after_all
applies_end setup run r d l moments shaped none goes (lines, step) = by step
  where
    going : (may_step setup run.cluster (Apply r d l) ≡ true) × (not (has_failed run.cluster r.0 d.0) ≡ true)
    going = both (may_step setup run.cluster (Apply r d l)) (not (has_failed run.cluster r.0 d.0)) goes

    by : IsStep setup run (Apply r d l) moments lines → left_in setup (after_all setup run moments) r d l < left_in setup run r d l
    by (idles never nothing shows) = let yes : may_step setup run.cluster (Apply r d l) ≡ true = going.0 in cc
    by (makes met goes_first answers is schedule shows) =
        let whole : IsSchedule setup run (moments_of setup run (Apply r d l) met) = subst (λ (ms : List Moment). IsSchedule setup run ms) is schedule in
        subst (λ (ms : List Moment). left_in setup (after_all setup run ms) r d l < left_in setup run r d l) (sym is)
        (met_falls setup run r d l met shaped none goes_first (not_true _ going.1) whole.0.meets answers)
