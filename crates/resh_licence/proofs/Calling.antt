-- What calls leave of the lucks, and the rows with which each begins.
use Rattle.std.proofs.Common.{◌≡◌, ◌<◌, ◌≤◌, ℕ, ◌+◌, ◌*◌, ◌^◌, Bool, true, false, ◌&&◌, cond, nat_le, List, [], ◌∷◌, length, map, filter, find, Some, None, refl, sym, ap, ◌∙◌, subst, slice_index_or, arith}
use Rattle.std.proofs.lemmas.Nat.{mul-add-lt}
use Rattle.std.specs.List.{flat_map, range_with_len}
use Rattle.std.specs.Option.{option_map_or}
use Rattle.std.specs.Prelude.{⊤}
use Rattle.resh_luck.specs.Fates as luck
use Rattle.resh_luck.specs.Fates.{Told, after_commit, after_tries, has_call, no_calls}
use Rattle.resh_luck.specs.declared.row.Kind.{Kind}
use Rattle.resh_luck.specs.declared.row.Kind.TheVariants.{Commit, Deliver}
use Rattle.resh_luck.specs.declared.row.PlanRow.{PlanRow}
use Rattle.resh_shard.specs.Writes.{shard_id}
use Rattle.resh_setup.specs.declared.plan.Planned.{Planned}
use Rattle.resh_setup.specs.declared.plan.Who.{Who}
use Rattle.resh_setup.specs.declared.plan.Who.TheVariants.{Coordinator, Link, Lane}
use Rattle.resh_setup.specs.declared.setup.Setup.{Setup}
use Rattle.resh_model.specs.Licence as model
use Rattle.resh_model.specs.Licence.{has_step, is_crash, same_who}
use Rattle.resh_events.specs.Follows.{limit}
use Rattle.resh_events.specs.Luck.{Asks, quiet, commits, delivers}
use Rattle.resh_events.specs.Lucks.{Lucks, called, lane_place, link_place, planned, rows_of, told_of, with_told}
use Rattle.resh_licence.proofs.Fated.{Later, commit_counts, commit_later, tries_later}
use Rattle.resh_licence.proofs.Places.{each_at, length-each, length-rows, rows_at, set_by, set_here, within}

later_same : (t : Told) → Later t t
later_same t = record { rows = refl; commits = omega arith }

no_more : (n : ℕ) → 0 + n ≡ n
no_more n = omega arith

times_one : (n : ℕ) → n * 1 ≡ n
times_one n = omega arith

single_place : (n : ℕ) → n ≡ n * 1 + 0
single_place n = omega arith

-- lists of one length, the first of which has number 0
rows_from : {X : Type 0} (f : ℕ → List X) (w many i j : ℕ) (d : X) → ((k : ℕ) → length (f k) ≡ w) → i < many → j < w
    → slice_index_or (flat_map f (range_with_len 0 many)) (i * w + j) d ≡ slice_index_or (f i) j d
rows_from f w many i j d all lt in_row = rows_at f w 0 many i j d all lt in_row ∙ ap (λ n. slice_index_or (f n) j d) (no_more i)

one_at : (n : ℕ) → n < n + 1
one_at n = omega arith

-- a list of one for each number
single_at : {X : Type 0} (f : ℕ → X) (many i : ℕ) (d : X) → i < many
    → slice_index_or (flat_map (λ k. f k ∷ []) (range_with_len 0 many)) i d ≡ f i
single_at f many i d lt =
    ap (λ n. slice_index_or (flat_map (λ k. f k ∷ []) (range_with_len 0 many)) n d) (single_place i)
    ∙ rows_from (λ k. f k ∷ []) 1 many i 0 d (λ k. refl) lt (one_at 0)

place_of_lane : (r d l n m : ℕ) → (r * n + d) * m + l ≡ r * (n * m) + (d * m + l)
place_of_lane r d l n m = omega arith

in_lanes : (d l n m : ℕ) → d < n → l < m → d * m + l < n * m
in_lanes d l n m in_row in_lane = let lt = mul-add-lt d m l n in_row in_lane in omega arith

module _ (setup : Setup) where
  -- the activity is one of the setup's
  abbrev pub IsThere : Who → Type 0
  IsThere Coordinator = ⊤
  IsThere (Link r d) = (r.0 < length setup.shards) × (d.0 < length setup.shards)
  IsThere (Lane r d l) = (r.0 < length setup.shards) × (d.0 < length setup.shards) × (l < setup.lanes)

  abbrev link_told : ℕ → ℕ → Told
  link_told r d = no_calls (rows_of setup (Link (shard_id r) (shard_id d)))

  abbrev lane_told : ℕ → ℕ → ℕ → Told
  lane_told r d l = no_calls (rows_of setup (Lane (shard_id r) (shard_id d) l))

  abbrev links_told : ℕ → List Told
  links_told r = flat_map (λ d. link_told r d ∷ []) (range_with_len 0 (length setup.shards))

  abbrev lanes_told : ℕ → ℕ → List Told
  lanes_told r d = map (lane_told r d) (range_with_len 0 setup.lanes)

  abbrev all_lanes_told : ℕ → List Told
  all_lanes_told r = flat_map (lanes_told r) (range_with_len 0 (length setup.shards))

  -- each activity begins with its rows of the plan, and with no call
  pub planned_told : (who : Who) → IsThere who → told_of setup (planned setup) who ≡ no_calls (rows_of setup who)
  planned_told Coordinator there = refl
  planned_told (Link r d) there =
      rows_from links_told (length setup.shards) (length setup.shards) r.0 d.0 (no_calls [])
      (λ k. length-rows (λ j. link_told k j ∷ []) 1 0 (length setup.shards) (λ j. refl) ∙ times_one (length setup.shards))
      there.0 there.1
      ∙ single_at (link_told r.0) (length setup.shards) d.0 (no_calls []) there.1
  planned_told (Lane r d l) there =
      ap (λ n. slice_index_or (planned setup).lanes n (no_calls [])) (place_of_lane r.0 d.0 l (length setup.shards) setup.lanes)
      ∙ (rows_from all_lanes_told (length setup.shards * setup.lanes) (length setup.shards) r.0 (d.0 * setup.lanes + l) (no_calls [])
      (λ k. length-rows (lanes_told k) setup.lanes 0 (length setup.shards) (λ j. length-each (lane_told k j) 0 setup.lanes))
      there.0 (in_lanes d.0 l (length setup.shards) setup.lanes there.1 there.2)
      ∙ (rows_from (lanes_told r.0) setup.lanes (length setup.shards) d.0 l (no_calls [])
      (λ j. length-each (lane_told r.0 j) 0 setup.lanes) there.1 there.2
      ∙ (each_at (lane_told r.0 d.0) 0 setup.lanes l (no_calls []) there.2 ∙ ap (lane_told r.0 d.0) (no_more l))))

  -- the luck of one activity is set to what is related to it
  told_by : (P : Told → Told → Type 0) (lucks : Lucks) (who other : Who) (t : Told) → ((x : Told) → P x x)
      → P (told_of setup lucks who) t → P (told_of setup lucks other) (told_of setup (with_told setup lucks who t) other)
  told_by P lucks Coordinator Coordinator t same here = here
  told_by P lucks Coordinator (Link s e) t same here = same (told_of setup lucks (Link s e))
  told_by P lucks Coordinator (Lane s e m) t same here = same (told_of setup lucks (Lane s e m))
  told_by P lucks (Link r d) Coordinator t same here = same lucks.coordinator
  told_by P lucks (Link r d) (Link s e) t same here =
      set_by P lucks.links (link_place setup r d) (link_place setup s e) t (no_calls []) same (λ q. here)
  told_by P lucks (Link r d) (Lane s e m) t same here = same (told_of setup lucks (Lane s e m))
  told_by P lucks (Lane r d l) Coordinator t same here = same lucks.coordinator
  told_by P lucks (Lane r d l) (Link s e) t same here = same (told_of setup lucks (Link s e))
  told_by P lucks (Lane r d l) (Lane s e m) t same here =
      set_by P lucks.lanes (lane_place setup r d l) (lane_place setup s e m) t (no_calls []) same (λ q. here)

  pub called_later : (asked : Asks) (lucks : Lucks) (other : Who)
      → Later (told_of setup lucks other) (told_of setup (called setup asked lucks) other)
  called_later quiet lucks other = later_same (told_of setup lucks other)
  called_later (commits who) lucks other =
      told_by Later lucks who other (after_commit (told_of setup lucks who)) later_same (commit_later (told_of setup lucks who))
  called_later (delivers who) lucks other =
      told_by Later lucks who other (after_tries limit (told_of setup lucks who)) later_same
      (tries_later limit (told_of setup lucks who))

  -- what has a property that a luck without rows lacks is set
  told_here : (P : Told → Type 0) (lucks : Lucks) (who : Who) (t : Told) → (P (no_calls []) → ⊥) → P (told_of setup lucks who)
      → told_of setup (with_told setup lucks who t) who ≡ t
  told_here P lucks Coordinator t none is = refl
  told_here P lucks (Link r d) t none is =
      set_here lucks.links (link_place setup r d) t (no_calls []) (within P lucks.links (link_place setup r d) (no_calls []) none is)
  told_here P lucks (Lane r d l) t none is =
      set_here lucks.lanes (lane_place setup r d l) t (no_calls []) (within P lucks.lanes (lane_place setup r d l) (no_calls []) none is)

off : (b : Bool) → b ≡ false → b ≡ true → ⊥
off b e h = cc

no_rows : (k : ℕ) → is_crash (luck.met [] Commit k) ≡ false
unfolding luck.met
no_rows k = refl

-- the commit that crashed is counted
pub crash_counts : (setup : Setup) (lucks : Lucks) (who : Who) (k : ℕ) → is_crash (luck.met (told_of setup lucks who).rows Commit k) ≡ true
    → (told_of setup lucks who).commits < 2 ^ 32
    → (told_of setup lucks who).commits + 1 ≤ (told_of setup (called setup (commits who) lucks) who).commits
crash_counts setup lucks who k crash small =
    subst (λ (t : Told). (told_of setup lucks who).commits + 1 ≤ t.commits)
    (sym (told_here setup (λ t. is_crash (luck.met t.rows Commit k) ≡ true) lucks who (after_commit (told_of setup lucks who))
    (λ h. off _ (no_rows k) h) crash))
    (commit_counts (told_of setup lucks who) small)

kinds : (a b : Kind) → model.same_kind a b ≡ luck.same_kind a b
kinds Commit Commit = refl
kinds Commit Deliver = refl
kinds Deliver Commit = refl
kinds Deliver Deliver = refl

regrouped : (a b c d : Bool) → (a && b && c && d) ≡ (a && (b && c && d))
regrouped true b c d = refl
regrouped false b c d = refl

abbrev planned_of : Who → List Planned → List Planned
planned_of who plan = filter (λ (p : Planned). same_who p.who who) plan

-- an activity's rows say what the plan says of it
pub reads_alike : (plan : List Planned) (who : Who) (kind : Kind) (number : ℕ)
    → luck.met (map (λ p. p.row) (filter (λ p. same_who p.who who) plan)) kind number ≡ model.met plan who kind number
unfolding luck.met
reads_alike [] who kind number = refl
reads_alike (p ∷ plan) who kind number =
    by (same_who p.who who) (reads_alike plan who kind number)
    ∙ ap (λ b. option_map_or (λ (q : Planned). Some q.row.fate) (cond b (Some p) (find (has_step who kind number) plan)) None) (sym says)
  where
    says : has_step who kind number p ≡ (same_who p.who who && has_call kind number p.row)
    says = ap (λ b. same_who p.who who && b && nat_le p.row.first number && nat_le number p.row.last) (kinds p.row.kind kind)
        ∙ regrouped (same_who p.who who) (luck.same_kind p.row.kind kind) (nat_le p.row.first number) (nat_le number p.row.last)

    here : (b : Bool) → option_map_or (λ (r : PlanRow). Some r.fate) (find (has_call kind number) (map (λ q. q.row) (planned_of who plan))) None
        ≡ option_map_or (λ (q : Planned). Some q.row.fate) (find (has_step who kind number) plan) None
        → option_map_or (λ (r : PlanRow). Some r.fate) (cond b (Some p.row) (find (has_call kind number) (map (λ q. q.row) (planned_of who plan)))) None
        ≡ option_map_or (λ (q : Planned). Some q.row.fate) (cond b (Some p) (find (has_step who kind number) plan)) None
    here true ih = refl
    here false ih = ih

    by : (a : Bool) → option_map_or (λ (r : PlanRow). Some r.fate) (find (has_call kind number) (map (λ q. q.row) (planned_of who plan))) None
        ≡ option_map_or (λ (q : Planned). Some q.row.fate) (find (has_step who kind number) plan) None
        → option_map_or (λ (r : PlanRow). Some r.fate) (find (has_call kind number) (map (λ q. q.row) (cond a (p ∷ (planned_of who plan)) (planned_of who plan)))) None
        ≡ option_map_or (λ (q : Planned). Some q.row.fate) (cond (a && has_call kind number p.row) (Some p) (find (has_step who kind number) plan)) None
    by true ih = here (has_call kind number p.row) ih
    by false ih = ih
