-- A round in which each trial rests leaves every link idle.
use Rattle.std.proofs.Common.{◌≡◌, ◌<◌, ◌≤◌, ◌⊎◌, inl, inr, ℕ, zero, suc, ◌+◌, ◌==◌, Bool, true, false, not, ◌&&◌, cond, List, [], ◌∷◌, ◌++◌, length, nat_eq, nat_le, Option, Some, None, refl, sym, ap, subst, ◌∙◌, slice_index_or}
use Rattle.std.specs.Prelude.{⊤}
use Rattle.std.specs.List.{flat_map, range_with_len}
use Rattle.std.proofs.lemmas.Bool.Decides.{nat_tests}
use native.Mathlib.Omega.{arith}
use Rattle.resh_value.specs.declared.value.ShardId.{ShardId}
use Rattle.resh_oplog.specs.declared.piece.Piece.{Piece}
use Rattle.resh_lane.specs.Lanes.{LaneOf, number_of}
use Rattle.resh_fetcher.specs.Conditions.{may_keep}
use Rattle.resh_fetcher.specs.Links.{ends}
use Rattle.resh_shard.specs.Writes.{shard_id}
use Rattle.resh_setup.specs.declared.event.Event.TheVariants.{Clone, Fetch, Cut, Apply, Record}
use Rattle.resh_setup.specs.declared.setup.Setup.{Setup}
use Rattle.resh_cells.specs.Cells.{lane_in, lanes_of, link_in, no_lane, no_link}
use Rattle.resh_cells.specs.Cuts.{cut_for, last_cut}
use Rattle.resh_cells.specs.declared.cluster.Cluster.{Cluster}
use Rattle.resh_cells.specs.declared.cluster.LinkCell.{LinkCell}
use Rattle.resh_cells.specs.declared.cluster.ShardCell.{ShardCell}
use Rattle.resh_events.specs.Steps.{may_step, piece_for}
use Rattle.resh_events.specs.Sweep.{Trial, applying, each, goes_on, link_round, next_reading, reading, step}
use Rattle.resh_events.specs.Table.{may}
use Rattle.resh_events.specs.rows.Apply as apply
use Rattle.resh_events.specs.rows.Clone as clone
use Rattle.resh_events.specs.rows.Cut as cut
use Rattle.resh_events.specs.rows.Fetch as fetch
use Rattle.resh_events.specs.rows.Record as keep
use Rattle.resh_events.specs.rows.Record.{reach}
use Rattle.resh_ready.specs.Laws.{FetchesNothing, IsIdleLink}
use Rattle.resh_sweeps.proofs.Resting.{SameLane}
use Rattle.resh_sweeps.proofs.Sweeping.{IsLed}
use Rattle.resh_sweeps.proofs.Walking.{AllRest, ReadsNothing, TrialRests}
use Rattle.resh_sweeps.proofs.Working.{may_clones, may_fetches}

-- parts of a walk
pub record Halves (setup : Setup) (one last : Cluster) (xs ys : List Trial) : Type 0 where
  pub mid : Cluster
  pub front : AllRest setup xs one mid
  pub back : AllRest setup ys mid last

pub halves : (setup : Setup) (one last : Cluster) (xs ys : List Trial) → AllRest setup (xs ++ ys) one last → Halves setup one last xs ys
halves setup one last [] ys rests = record { mid = one; front = refl; back = rests }
halves setup one last (x ∷ xs) ys (mid, is, rest, more) =
    let h : Halves setup mid last xs ys = halves setup mid last xs ys more in
    record { mid = h.mid; front = (mid, is, rest, h.front); back = h.back }

pub led_after : (setup : Setup) (trials : List Trial) (one last : Cluster) → IsLed setup one → AllRest setup trials one last
    → IsLed setup last
led_after setup [] one last is same = subst (λ (c : Cluster). IsLed setup c) (sym same) is
led_after setup (trial ∷ trials) one last is (mid, led, rest, more) = led_after setup trials mid last led more

-- what every walk keeps
pub record StaysThere (one last : Cluster) : Type 0 where
  pub control : last.control ≡ one.control
  pub links : last.links ≡ one.links

pub stays_there : (setup : Setup) (trials : List Trial) (one last : Cluster) → AllRest setup trials one last → StaysThere one last
stays_there setup [] one last same = record {
  control = ap (λ (c : Cluster). c.control) same;
  links = ap (λ (c : Cluster). c.links) same;
}
stays_there setup (trial ∷ trials) one last (mid, is, rest, more) =
    let others : StaysThere mid last = stays_there setup trials mid last more in
    record { control = others.control ∙ rest.control; links = others.links ∙ rest.links }

-- trials of links
abbrev IsLinkTrial : Trial → Type 0
IsLinkTrial (step (Cut r d)) = ⊤
IsLinkTrial (step (Record r d)) = ⊤
IsLinkTrial (step other) = ⊥
IsLinkTrial (reading r d) = ⊤
IsLinkTrial (applying r d l) = ⊤

abbrev AreLinkTrials : List Trial → Type 0
AreLinkTrials [] = ⊤
AreLinkTrials (trial ∷ trials) = IsLinkTrial trial × AreLinkTrials trials

trial_shards : (setup : Setup) (trial : Trial) (one other : Cluster) → IsLinkTrial trial → TrialRests setup one other trial
    → other.shards ≡ one.shards
trial_shards setup (step (Cut r d)) one other is rest = rest.says.0.0
trial_shards setup (step (Record r d)) one other is rest = rest.says.0.0
trial_shards setup (step event) one other is rest = absurd is
trial_shards setup (reading r d) one other is rest = rest.says.0.0
trial_shards setup (applying r d l) one other is rest = rest.says.0

shards_there : (setup : Setup) (trials : List Trial) (one last : Cluster) → AreLinkTrials trials → AllRest setup trials one last
    → last.shards ≡ one.shards
shards_there setup [] one last are same = ap (λ (c : Cluster). c.shards) same
shards_there setup (trial ∷ trials) one last are (mid, is, rest, more) =
    shards_there setup trials mid last are.1 more ∙ trial_shards setup trial one mid are.0 rest

-- none of them applies a lane's pieces of a donor
abbrev IsApart : ℕ → ℕ → ℕ → Trial → Type 0
IsApart r d l (applying i j k) = r ≡ i.0 → d ≡ j.0 → l ≡ k → ⊥
IsApart r d l other = ⊤

abbrev AreApart : ℕ → ℕ → ℕ → List Trial → Type 0
AreApart r d l [] = ⊤
AreApart r d l (trial ∷ trials) = IsApart r d l trial × AreApart r d l trials

same_lanes : (one other : Cluster) (r d l : ℕ) → other.lanes ≡ one.lanes → SameLane r d l one other
same_lanes one other r d l lanes = (
  ap (λ (rows : List (List LaneOf)). (slice_index_or (slice_index_or rows r []) l no_lane).started) lanes,
  ap (λ (rows : List (List LaneOf)). number_of (slice_index_or (slice_index_or rows r []) l no_lane).at d) lanes,
)

trial_lane : (setup : Setup) (trial : Trial) (one other : Cluster) (r d l : ℕ) → IsLinkTrial trial → IsApart r d l trial
    → TrialRests setup one other trial → SameLane r d l one other
trial_lane setup (step (Cut i j)) one other r d l is apart rest = same_lanes one other r d l rest.says.0.1
trial_lane setup (step (Record i j)) one other r d l is apart rest = same_lanes one other r d l rest.says.0.1
trial_lane setup (step event) one other r d l is apart rest = absurd is
trial_lane setup (reading i j) one other r d l is apart rest = same_lanes one other r d l rest.says.0.1
trial_lane setup (applying i j k) one other r d l is apart rest = rest.says.1 r d l apart

lane_there : (setup : Setup) (trials : List Trial) (one last : Cluster) (r d l : ℕ) → AreLinkTrials trials → AreApart r d l trials
    → AllRest setup trials one last → SameLane r d l one last
lane_there setup [] one last r d l are apart same = same_lanes one last r d l (ap (λ (c : Cluster). c.lanes) same)
lane_there setup (trial ∷ trials) one last r d l are apart (mid, is, rest, more) =
    let here : SameLane r d l one mid = trial_lane setup trial one mid r d l are.0 apart.0 rest in
    let there : SameLane r d l mid last = lane_there setup trials mid last r d l are.1 apart.1 more in
    (there.0 ∙ here.0, there.1 ∙ here.1)

-- of lists of them
links_both : (xs ys : List Trial) → AreLinkTrials xs → AreLinkTrials ys → AreLinkTrials (xs ++ ys)
links_both [] ys h k = k
links_both (x ∷ xs) ys h k = (h.0, links_both xs ys h.1 k)

apart_both : (r d l : ℕ) (xs ys : List Trial) → AreApart r d l xs → AreApart r d l ys → AreApart r d l (xs ++ ys)
apart_both r d l [] ys h k = k
apart_both r d l (x ∷ xs) ys h k = (h.0, apart_both r d l xs ys h.1 k)

next_on : (n k : ℕ) → n + 1 ≤ k → n ≤ k
next_on n k h = omega arith

same_on : (n : ℕ) → n ≤ n
same_on n = omega arith

links_each : (f : ℕ → List Trial) (from many : ℕ) → ((k : ℕ) → AreLinkTrials (f k)) → AreLinkTrials (flat_map f (range_with_len from many))
links_each f from zero all = tt
links_each f from (suc many) all =
    links_both (f from) (flat_map f (range_with_len (from + 1) many)) (all from) (links_each f (from + 1) many all)

apart_each : (r d l : ℕ) (f : ℕ → List Trial) (from many : ℕ) → ((k : ℕ) → from ≤ k → AreApart r d l (f k))
    → AreApart r d l (flat_map f (range_with_len from many))
apart_each r d l f from zero all = tt
apart_each r d l f from (suc many) all =
    apart_both r d l (f from) (flat_map f (range_with_len (from + 1) many)) (all from (same_on from))
    (apart_each r d l f (from + 1) many (λ k le. all k (next_on from k le)))

-- the trials of one number, and those behind them
pub record HasPart (setup : Setup) (f : ℕ → List Trial) (k : ℕ) (one last : Cluster) : Type 0 where
  pub before : Cluster
  pub behind : Cluster
  pub next : ℕ
  pub many : ℕ
  pub passed : k < next
  pub led : IsLed setup before
  pub here : AllRest setup (f k) before behind
  pub more : AllRest setup (flat_map f (range_with_len next many)) behind last

pub part_at : (setup : Setup) (f : ℕ → List Trial) (from many k : ℕ) (one last : Cluster) → from ≤ k → k < from + many → IsLed setup one
    → AllRest setup (flat_map f (range_with_len from many)) one last → HasPart setup f k one last
part_at setup f from zero k one last least most is rests = absurd (never from k least most)
  where
    never : (n k : ℕ) → n ≤ k → k < n + 0 → ⊥
    never n k h lt = omega arith
part_at setup f from (suc many) k one last least most is rests =
    by (nat_eq k from) refl
    (λ from_next. part_at setup f (from + 1) many k half.mid last from_next (within from many k most)
    (led_after setup (f from) one half.mid is half.front) half.back)
  where
    half : Halves setup one last (f from) (flat_map f (range_with_len (from + 1) many))
    half = halves setup one last (f from) (flat_map f (range_with_len (from + 1) many)) rests

    is_at : (a b : ℕ) → nat_eq a b ≡ true → a ≡ b
    is_at a b e = grind (arith, nat_tests)

    passed_by : (n k : ℕ) → k ≡ n → k < n + 1
    passed_by n k e = omega arith

    later : (n k : ℕ) → n ≤ k → nat_eq k n ≡ false → n + 1 ≤ k
    later n k h e = grind (arith, nat_tests)

    within : (n m k : ℕ) → k < n + suc m → k < n + 1 + m
    within n m k lt = omega arith

    by : (t : Bool) → nat_eq k from ≡ t → (from + 1 ≤ k → HasPart setup f k half.mid last) → HasPart setup f k one last
    by true e behind = record {
      before = one;
      behind = half.mid;
      next = from + 1;
      many = many;
      passed = passed_by from k (is_at k from e);
      led = is;
      here = subst (λ (n : ℕ). AllRest setup (f n) one half.mid) (sym (is_at k from e)) half.front;
      more = half.back;
    }
    by false e behind =
        let part : HasPart setup f k half.mid last = behind (later from k least e) in
        record {
          before = part.before;
          behind = part.behind;
          next = part.next;
          many = part.many;
          passed = part.passed;
          led = part.led;
          here = part.here;
          more = part.more;
        }

-- a lane of a link goes on by its own pieces and its position
abbrev takes_by : Bool → ℕ → ℕ → Option Piece → Bool
takes_by started at d None = false
takes_by started at d (Some piece) = (started && (piece.donor.0 == d)) && (piece.position == at)

abbrev goes_by : Bool → ℕ → ℕ → List Piece → Bool → Bool
goes_by started at d pieces failed = takes_by started at d (last_cut pieces at) && not failed

takes_is : (cluster : Cluster) (r d l : ℕ) (piece : Option Piece)
    → apply.may cluster r d l piece ≡ takes_by (lane_in cluster r l).started (number_of (lane_in cluster r l).at d) d piece
takes_is cluster r d l None = refl
takes_is cluster r d l (Some piece) = by (piece.donor.0 == d) refl
  where
    lane : LaneOf
    lane = lane_in cluster r l

    is_at : (a b : ℕ) → (a == b) ≡ true → a ≡ b
    is_at a b e = grind (arith, nat_tests)

    neither : (t x y : Bool) → ((t && false) && x) ≡ ((t && false) && y)
    neither true x y = refl
    neither false x y = refl

    by : (t : Bool) → (piece.donor.0 == d) ≡ t
        → ((lane.started && (piece.donor.0 == d)) && (piece.position == number_of lane.at piece.donor.0))
        ≡ ((lane.started && (piece.donor.0 == d)) && (piece.position == number_of lane.at d))
    by true e =
        ap (λ (n : ℕ). (lane.started && (piece.donor.0 == d)) && (piece.position == number_of lane.at n)) (is_at piece.donor.0 d e)
    by false e =
        subst (λ (t : Bool). ((lane.started && t) && (piece.position == number_of lane.at piece.donor.0))
        ≡ ((lane.started && t) && (piece.position == number_of lane.at d))) (sym e)
        (neither lane.started (piece.position == number_of lane.at piece.donor.0) (piece.position == number_of lane.at d))

goes_is : (setup : Setup) (cluster : Cluster) (r d l : ℕ)
    → goes_on setup cluster (shard_id r) (shard_id d) l
    ≡ goes_by (lane_in cluster r l).started (number_of (lane_in cluster r l).at d) d (cut_for (link_in cluster r d).sent l)
    (link_in cluster r d).link.failed
unfolding may
goes_is setup cluster r d l =
    ap (λ (t : Bool). t && not (link_in cluster r d).link.failed)
    (takes_is cluster r d l (piece_for cluster (Apply (shard_id r) (shard_id d) l)))

goes_same : (setup : Setup) (one last : Cluster) (r d l : ℕ) → last.links ≡ one.links → SameLane r d l one last
    → goes_on setup last (shard_id r) (shard_id d) l ≡ goes_on setup one (shard_id r) (shard_id d) l
goes_same setup one last r d l links lane =
    goes_is setup last r d l
    ∙ ap (λ (rows : List (List LinkCell)). goes_by (lane_in last r l).started (number_of (lane_in last r l).at d) d
    (cut_for (slice_index_or (slice_index_or rows r []) d no_link).sent l)
    (slice_index_or (slice_index_or rows r []) d no_link).link.failed) links
    ∙ ap (λ (t : Bool). goes_by t (number_of (lane_in last r l).at d) d (cut_for (link_in one r d).sent l) (link_in one r d).link.failed) lane.0
    ∙ ap (λ (n : ℕ). goes_by (lane_in one r l).started n d (cut_for (link_in one r d).sent l) (link_in one r d).link.failed) lane.1
    ∙ sym (goes_is setup one r d l)

-- a link records by its lanes' positions
reach_same : (d : ℕ) (xs ys : List LaneOf) (numbers : List ℕ) → length xs ≡ length ys
    → ((k : ℕ) → number_of (slice_index_or xs k no_lane).at d ≡ number_of (slice_index_or ys k no_lane).at d)
    → reach d xs numbers ≡ reach d ys numbers
reach_same d [] [] numbers same all = refl
reach_same d [] (y ∷ ys) numbers same all = absurd (never (length ys) same)
  where
    never : (n : ℕ) → 0 ≡ suc n → ⊥
    never n e = omega arith
reach_same d (x ∷ xs) [] numbers same all = absurd (never (length xs) same)
  where
    never : (n : ℕ) → suc n ≡ 0 → ⊥
    never n e = omega arith
reach_same d (x ∷ xs) (y ∷ ys) [] same all = refl
reach_same d (x ∷ xs) (y ∷ ys) (number ∷ numbers) same all =
    ap (λ (n : ℕ). nat_le number n && reach d xs numbers) (all 0)
    ∙ ap (λ (t : Bool). nat_le number (number_of y.at d) && t)
    (reach_same d xs ys numbers (one_less (length xs) (length ys) same) (λ k. all (suc k)))
  where
    one_less : (a b : ℕ) → suc a ≡ suc b → a ≡ b
    one_less a b e = omega arith

keeps_same : (setup : Setup) (one last : Cluster) (r d : ℕ) → r < length setup.shards → IsLed setup one → IsLed setup last
    → last.links ≡ one.links → ((l : ℕ) → SameLane r d l one last) → keep.may last r d ≡ keep.may one r d
keeps_same setup one last r d in_rows before behind links lanes =
    ap (λ (rows : List (List LinkCell)). ((slice_index_or (slice_index_or rows r []) d no_link).link.is_open
    && may_keep (slice_index_or (slice_index_or rows r []) d no_link).link)
    && reach d (lanes_of last r) (ends (slice_index_or (slice_index_or rows r []) d no_link).link)) links
    ∙ ap (λ (t : Bool). ((link_in one r d).link.is_open && may_keep (link_in one r d).link) && t)
    (reach_same d (lanes_of last r) (lanes_of one r) (ends (link_in one r d).link)
    ((behind.kept.1.recipients r in_rows).lane_count ∙ sym (before.kept.1.recipients r in_rows).lane_count) (λ l. (lanes l).1))

-- what a link reads and cuts, by the links and the shards
module _ (one last : Cluster) (r d : ℕ) (links : last.links ≡ one.links) where
  cuts_same : cut.may last r d ≡ cut.may one r d
  cuts_same = ap (λ (rows : List (List LinkCell)). cut.may (let c : Cluster = record last { links = rows } in c) r d) links

  fetch_may_same : fetch.may last r d ≡ fetch.may one r d
  fetch_may_same = ap (λ (rows : List (List LinkCell)). fetch.may (let c : Cluster = record last { links = rows } in c) r d) links

  near_same : (link_in last r d).link.near ≡ (link_in one r d).link.near
  near_same = ap (λ (rows : List (List LinkCell)). (slice_index_or (slice_index_or rows r []) d no_link).link.near) links

  read_out_same : (link_in last r d).link.read_out ≡ (link_in one r d).link.read_out
  read_out_same = ap (λ (rows : List (List LinkCell)). (slice_index_or (slice_index_or rows r []) d no_link).link.read_out) links

  module _ (shards : last.shards ≡ one.shards) where
    fetch_got_same : fetch.got last r d ≡ fetch.got one r d
    fetch_got_same =
        ap (λ (rows : List (List LinkCell)). fetch.got (let c : Cluster = record last { links = rows } in c) r d) links
        ∙ ap (λ (cells : List ShardCell). fetch.got (let c : Cluster = record one { shards = cells } in c) r d) shards

    clone_may_same : clone.may last r d ≡ clone.may one r d
    clone_may_same =
        ap (λ (rows : List (List LinkCell)). clone.may (let c : Cluster = record last { links = rows } in c) r d) links
        ∙ ap (λ (cells : List ShardCell). clone.may (let c : Cluster = record one { shards = cells } in c) r d) shards

    reads_same : (t : Bool) → ReadsNothing t one r d → ReadsNothing t last r d
    reads_same true (inl e) = inl (fetch_may_same ∙ e)
    reads_same true (inr h) =
        inr (record { may = fetch_may_same ∙ h.may; nothing = fetch_got_same ∙ h.nothing; near = near_same ∙ h.near })
    reads_same false e = clone_may_same ∙ e

    reads_there : ReadsNothing (link_in one r d).link.read_out one r d → ReadsNothing (link_in last r d).link.read_out last r d
    reads_there h =
        subst (λ (t : Bool). ReadsNothing t last r d) (sym read_out_same) (reads_same (link_in one r d).link.read_out h)

idle_reads : (setup : Setup) (cluster : Cluster) (r d : ℕ) → ReadsNothing (link_in cluster r d).link.read_out cluster r d
    → (may_step setup cluster (next_reading setup cluster (shard_id r) (shard_id d)) ≡ false) ⊎ FetchesNothing cluster r d
idle_reads setup cluster r d h = by (link_in cluster r d).link.read_out h
  where
    by : (t : Bool) → ReadsNothing t cluster r d
        → (may_step setup cluster (cond t (Fetch (shard_id r) (shard_id d)) (Clone (shard_id r) (shard_id d))) ≡ false)
        ⊎ FetchesNothing cluster r d
    by true (inl e) = inl (may_fetches setup cluster (shard_id r) (shard_id d) ∙ e)
    by true (inr n) = inr n
    by false e = inl (may_clones setup cluster (shard_id r) (shard_id d) ∙ e)

-- one walk behind another
pub joined : (setup : Setup) (one mid last : Cluster) (xs ys : List Trial) → AllRest setup xs one mid → AllRest setup ys mid last
    → AllRest setup (xs ++ ys) one last
joined setup one mid last [] ys same more = subst (λ (c : Cluster). AllRest setup ys c last) same more
joined setup one mid last (x ∷ xs) ys (next, is, rest, others) more = (next, is, rest, joined setup next mid last xs ys others more)

-- trials of one link
module _ (setup : Setup) where
  abbrev applies : ShardId → ShardId → ℕ → List Trial
  applies r d l = applying r d l ∷ []

  abbrev kept : ShardId → ShardId → List Trial
  kept r d = step (Record r d) ∷ []

  round_links : (r d : ShardId) → AreLinkTrials (link_round setup r d)
  round_links r d = (tt, (tt, links_both (each setup setup.lanes (applies r d)) (kept r d) (links_each (applies r d) 0 setup.lanes (λ l. (tt, tt))) (tt, tt)))

  round_apart : (r d l : ℕ) (i j : ShardId) → (r ≡ i.0 → d ≡ j.0 → ⊥) → AreApart r d l (link_round setup i j)
  round_apart r d l i j apart = (
    tt,
    (
      tt,
      apart_both r d l (each setup setup.lanes (applies i j)) (kept i j)
          (apart_each r d l (applies i j) 0 setup.lanes (λ k le. ((λ e f g. apart e f), tt))) (tt, tt),
    ),
  )

  not_again : (l n k : ℕ) → l < n → n ≤ k → l ≡ k → ⊥
  not_again l n k lt le e = omega arith

  module _ (r d : ℕ) (in_rows : r < length setup.shards) (a b last : Cluster) (led : IsLed setup a)
      (block : AllRest setup (link_round setup (shard_id r) (shard_id d)) a b) (later : List Trial) (are : AreLinkTrials later)
      (apart : (l : ℕ) → AreApart r d l later) (more : AllRest setup later b last) where
    abbrev lanes : List Trial
    lanes = each setup setup.lanes (applies (shard_id r) (shard_id d))

    whole : AllRest setup (link_round setup (shard_id r) (shard_id d) ++ later) a last
    whole = joined setup a b last (link_round setup (shard_id r) (shard_id d)) later block more

    links : last.links ≡ a.links
    links = (stays_there setup (link_round setup (shard_id r) (shard_id d) ++ later) a last whole).links

    shards : last.shards ≡ a.shards
    shards = shards_there setup (link_round setup (shard_id r) (shard_id d) ++ later) a last
        (links_both (link_round setup (shard_id r) (shard_id d)) later (round_links (shard_id r) (shard_id d)) are) whole

    led_last : IsLed setup last
    led_last = led_after setup (link_round setup (shard_id r) (shard_id d) ++ later) a last led whole

    -- after the reading, and after the cut
    abbrev read : Cluster
    read = block.0

    reads : TrialRests setup a read (reading (shard_id r) (shard_id d))
    reads = block.2

    abbrev was_cut : Cluster
    was_cut = block.3.0

    cuts : TrialRests setup read was_cut (step (Cut (shard_id r) (shard_id d)))
    cuts = block.3.2

    abbrev half : Halves setup was_cut b lanes (kept (shard_id r) (shard_id d))
    half = halves setup was_cut b lanes (kept (shard_id r) (shard_id d)) block.3.3

    abbrev applied : Cluster
    applied = half.mid

    led_applied : IsLed setup applied
    led_applied = led_after setup lanes was_cut applied block.3.1 half.front

    back : AllRest setup (kept (shard_id r) (shard_id d) ++ later) applied last
    back = joined setup applied b last (kept (shard_id r) (shard_id d)) later half.back more

    back_links : AreLinkTrials (kept (shard_id r) (shard_id d) ++ later)
    back_links = (tt, are)

    back_apart : (l : ℕ) → AreApart r d l (kept (shard_id r) (shard_id d) ++ later)
    back_apart l = (tt, apart l)

    records : TrialRests setup applied half.back.0 (step (Record (shard_id r) (shard_id d)))
    records = half.back.2

    keeps_idle : keep.may last r d ≡ false
    keeps_idle =
        keeps_same setup applied last r d in_rows led_applied led_last
        (stays_there setup (kept (shard_id r) (shard_id d) ++ later) applied last back).links
        (λ l. lane_there setup (kept (shard_id r) (shard_id d) ++ later) applied last r d l back_links (back_apart l) back)
        ∙ records.says.1

    lane_ends : (l : ℕ) (from to : Cluster) (next many : ℕ) → l < next
        → AllRest setup (applies (shard_id r) (shard_id d) l) from to
        → AllRest setup (flat_map (applies (shard_id r) (shard_id d)) (range_with_len next many)) to applied
        → goes_on setup last (shard_id r) (shard_id d) l ≡ false
    lane_ends l from to next many passed (mid, is, rest, same) rests =
        let trials : List Trial = flat_map (applies (shard_id r) (shard_id d)) (range_with_len next many) in
        let behind : AllRest setup (trials ++ (kept (shard_id r) (shard_id d) ++ later)) mid last
        = joined setup mid applied last trials (kept (shard_id r) (shard_id d) ++ later)
        (subst (λ (c : Cluster). AllRest setup trials c applied) same rests) back in
        goes_same setup mid last r d l
        (stays_there setup (trials ++ (kept (shard_id r) (shard_id d) ++ later)) mid last behind).links
        (lane_there setup (trials ++ (kept (shard_id r) (shard_id d) ++ later)) mid last r d l
        (links_both trials (kept (shard_id r) (shard_id d) ++ later)
        (links_each (applies (shard_id r) (shard_id d)) next many (λ k. (tt, tt))) back_links)
        (apart_both r d l trials (kept (shard_id r) (shard_id d) ++ later)
        (apart_each r d l (applies (shard_id r) (shard_id d)) next many (λ k le. ((λ e f g. not_again l next k passed le g), tt)))
        (back_apart l)) behind)
        ∙ rest.says.2

    applies_idle : (l : ℕ) → l < setup.lanes → goes_on setup last (shard_id r) (shard_id d) l ≡ false
    applies_idle l lt =
        let part : HasPart setup (applies (shard_id r) (shard_id d)) l was_cut applied
        = part_at setup (applies (shard_id r) (shard_id d)) 0 setup.lanes l was_cut applied (least l) (within l setup.lanes lt)
        block.3.1 half.front in
        lane_ends l part.before part.behind part.next part.many part.passed part.here part.more
      where
        least : (l : ℕ) → 0 ≤ l
        least l = omega arith

        within : (l n : ℕ) → l < n → l < 0 + n
        within l n lt = omega arith

    idle_block : IsIdleLink setup last r d
    idle_block = record {
      reads = idle_reads setup last r d (reads_there a last r d links shards reads.says.1);
      cuts = cuts_same read last r d (links ∙ sym reads.links) ∙ cuts.says.1;
      applies = applies_idle;
      keeps = keeps_idle;
    }

  -- all links
  abbrev of_donors : ℕ → ℕ → List Trial
  of_donors r d = link_round setup (shard_id r) (shard_id d)

  abbrev of_links : ℕ → List Trial
  of_links r = each setup (length setup.shards) (of_donors r)

  pub all_idle : (one last : Cluster) → IsLed setup one → AllRest setup (each setup (length setup.shards) of_links) one last
      → (r d : ℕ) → r < length setup.shards → d < length setup.shards → IsIdleLink setup last r d
  all_idle one last led rests r d in_rows in_row =
      idle_block r d in_rows place.before place.behind last place.led place.here (others ++ rows)
      (links_both others rows
      (links_each (of_donors r) place.next place.many (λ j. round_links (shard_id r) (shard_id j)))
      (links_each of_links row.next row.many
      (λ i. links_each (of_donors i) 0 (length setup.shards) (λ j. round_links (shard_id i) (shard_id j)))))
      (λ l. apart_both r d l others rows
      (apart_each r d l (of_donors r) place.next place.many
      (λ j le. round_apart r d l (shard_id r) (shard_id j) (λ e f. not_again d place.next j place.passed le f)))
      (apart_each r d l of_links row.next row.many
      (λ i le. apart_each r d l (of_donors i) 0 (length setup.shards)
      (λ j at. round_apart r d l (shard_id i) (shard_id j) (λ e f. not_again r row.next i row.passed le e)))))
      (joined setup place.behind row.behind last others rows place.more row.more)
    where
      least : (l : ℕ) → 0 ≤ l
      least l = omega arith

      within : (l n : ℕ) → l < n → l < 0 + n
      within l n lt = omega arith

      row : HasPart setup of_links r one last
      row = part_at setup of_links 0 (length setup.shards) r one last (least r) (within r (length setup.shards) in_rows) led rests

      place : HasPart setup (of_donors r) d row.before row.behind
      place = part_at setup (of_donors r) 0 (length setup.shards) d row.before row.behind (least d) (within d (length setup.shards) in_row)
          row.led row.here

      others : List Trial
      others = flat_map (of_donors r) (range_with_len place.next place.many)

      rows : List Trial
      rows = flat_map of_links (range_with_len row.next row.many)
