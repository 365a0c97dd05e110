-- What keeps the invariant, by the kind of cell that changes.
use Rattle.std.proofs.Common.{◌≡◌, ◌≢◌, ◌≤◌, ◌<◌, ◌==◌, ℕ, zero, suc, Bool, true, false, cond, List, [], ◌∷◌, ◌++◌, length, nat_le, slice_index_or, slice_set, None, refl, sym, ap, subst, ◌∙◌, arith, rules}
use Rattle.std.proofs.lemmas.Bool.{eqb-true}
use Rattle.resh_bag.specs.Bag.{Bag}
use Rattle.resh_cells.specs.Cells.{lanes_of, links_of, no_client, no_shard, shard_in}
use Rattle.resh_cells.specs.Clocks.{clock_of}
use Rattle.resh_cells.specs.declared.cell.Cell.TheVariants as cell
use Rattle.resh_cells.specs.declared.cluster.ClientCell.{ClientCell}
use Rattle.resh_cells.specs.declared.cluster.Clocks.{Clocks}
use Rattle.resh_cells.specs.declared.cluster.Cluster.{Cluster}
use Rattle.resh_cells.specs.declared.cluster.LinkCell.{LinkCell}
use Rattle.resh_cells.specs.declared.cluster.ShardCell.{ShardCell}
use Rattle.resh_coord.specs.Control.{is_true_at}
use Rattle.resh_feed.proofs.LaneFeeding.{same_number}
use Rattle.resh_fetcher.specs.Laws.{StandsOn}
use Rattle.resh_keeping.proofs.Places.{length-set, set_all}
use Rattle.resh_lane.specs.Lanes.{LaneOf}
use Rattle.resh_model.specs.Orders.{State, replies_to}
use Rattle.resh_setup.specs.declared.setup.Setup.{Setup}
use Rattle.resh_invariant.specs.Courses.{course_of}
use Rattle.resh_invariant.specs.Donors.{IsDonorKept}
use Rattle.resh_invariant.specs.Frames.{AreLater, Grows, longer, KeepsByCell, KeepsRows, KeepsShard, with_all, with_client, with_lanes, with_links, with_shard}
use Rattle.resh_invariant.specs.Keeping.{HoldsPlace, IsClientKept, IsDecided, Keeps}
use Rattle.resh_invariant.specs.Recipients.{IsRecipientKept}
use Rattle.resh_invariant.specs.Sources.{Clones, Source, clones_after, source_by, sources_of, told_clones}
use Rattle.resh_invariant.proofs.Growing.{recipient_grows}
use Rattle.resh_invariant.proofs.Waiting.{donor_waits}

nothing_more : {X : Type 0} (a : List X) → a ++ [] ≡ a
nothing_more [] = refl
nothing_more (x ∷ a) = ap (λ l. x ∷ l) (nothing_more a)

same_time : (n : ℕ) → n ≤ n
same_time n = omega arith

-- the same entries and documents are no less
pub stays : (before now : Source) → now.donating ≡ before.donating → now.documents ≡ before.documents
    → now.entries ≡ before.entries → Grows before now
stays before now on docs es =
    longer [] (λ off. sym on ∙ off) docs (es ∙ sym (nothing_more before.entries)) (λ ended. refl)

decided_later : (setup : Setup) (state : State) (cluster : Cluster) (time later : ℕ) → time ≤ later
    → IsDecided setup (course_of cluster.control) time state → IsDecided setup (course_of cluster.control) later state
decided_later setup state cluster time later le was =
    record { stage = was.stage; map = was.map; placed = was.placed; whole = was.whole; fetch = let f = was.fetch in omega (arith, f, le) }

module _ (setup : Setup) (state : State) (clones : Clones) (cluster : Cluster) (keeps : Keeps setup state clones cluster) where
  pub clocks_keep : (clocks : Clocks) → AreLater cluster.clocks clocks → Keeps setup state clones (record cluster { clocks = clocks })
  clocks_keep clocks later = record {
    shard_count = keeps.shard_count;
    clock_count = later.count ∙ keeps.clock_count;
    lane_rows = keeps.lane_rows;
    link_rows = keeps.link_rows;
    client_count = keeps.client_count;
    answered = keeps.answered;
    noted = keeps.noted;
    decided = decided_later setup state cluster (clock_of cluster.clocks cell.Coordinator) (clock_of clocks cell.Coordinator) (later.rise cell.Coordinator) keeps.decided;
    clients = keeps.clients;
    donors = λ s lt. donor_waits setup s (course_of cluster.control) (is_true_at cluster.control.told s)
        (clock_of cluster.clocks cell.Coordinator) (clock_of clocks cell.Coordinator) (clones s) (clones s)
        (clock_of cluster.clocks (cell.Shard s)) (clock_of clocks (cell.Shard s)) (shard_in cluster s)
        (later.rise cell.Coordinator) (later.rise (cell.Shard s)) (λ r r_in. refl) (keeps.donors s lt);
    recipients = keeps.recipients;
    contents = keeps.contents;
  }

  pub links_keep : (r : ℕ) (links : List LinkCell)
      → (r < length setup.shards → KeepsRows setup clones cluster r links (lanes_of cluster r))
      → Keeps setup state clones (with_links r links cluster)
  links_keep r links here = record {
    shard_count = keeps.shard_count;
    clock_count = keeps.clock_count;
    lane_rows = keeps.lane_rows;
    link_rows = length-set cluster.links r links ∙ keeps.link_rows;
    client_count = keeps.client_count;
    answered = keeps.answered;
    noted = keeps.noted;
    decided = keeps.decided;
    clients = keeps.clients;
    donors = keeps.donors;
    recipients = λ q lt.
        set_all (λ k row. k < length setup.shards → KeepsRows setup clones cluster k row (lanes_of cluster k)) cluster.links r links []
        (λ l k_in. here k_in) (λ k l k_in. keeps.recipients k k_in) q (subst (λ n. q < n) (sym keeps.link_rows) lt) lt;
    contents = keeps.contents;
  }

  pub lanes_keep : (r : ℕ) (lanes : List LaneOf)
      → (r < length setup.shards → KeepsRows setup clones cluster r (links_of cluster r) lanes)
      → (r < length setup.shards → HoldsPlace setup cluster.control.phase (shard_in cluster r) lanes state.bag r)
      → Keeps setup state clones (with_lanes r lanes cluster)
  lanes_keep r lanes here holds = record {
    shard_count = keeps.shard_count;
    clock_count = keeps.clock_count;
    lane_rows = length-set cluster.lanes r lanes ∙ keeps.lane_rows;
    link_rows = keeps.link_rows;
    client_count = keeps.client_count;
    answered = keeps.answered;
    noted = keeps.noted;
    decided = keeps.decided;
    clients = keeps.clients;
    donors = keeps.donors;
    recipients = λ q lt.
        set_all (λ k row. k < length setup.shards → KeepsRows setup clones cluster k (links_of cluster k) row) cluster.lanes r lanes []
        (λ l k_in. here k_in) (λ k l k_in. keeps.recipients k k_in) q (subst (λ n. q < n) (sym keeps.lane_rows) lt) lt;
    contents = λ q lt.
        set_all (λ k row. k < length setup.shards → HoldsPlace setup cluster.control.phase (shard_in cluster k) row state.bag k) cluster.lanes r lanes []
        (λ l k_in. holds k_in) (λ k l k_in. keeps.contents k k_in) q (subst (λ n. q < n) (sym keeps.lane_rows) lt) lt;
  }

  pub client_keeps : (c : ℕ) (next : ClientCell)
      → (c < length setup.clients → IsClientKept cluster.control.decision (replies_to state c) next)
      → Keeps setup state clones (with_client c next cluster)
  client_keeps c next here = record {
    shard_count = keeps.shard_count;
    clock_count = keeps.clock_count;
    lane_rows = keeps.lane_rows;
    link_rows = keeps.link_rows;
    client_count = length-set cluster.clients c next ∙ keeps.client_count;
    answered = keeps.answered;
    noted = keeps.noted;
    decided = keeps.decided;
    clients = λ q lt.
        set_all (λ k cell. k < length setup.clients → IsClientKept cluster.control.decision (replies_to state k) cell) cluster.clients c next no_client
        (λ l k_in. here k_in) (λ k l k_in. keeps.clients k k_in) q (subst (λ n. q < n) (sym keeps.client_count) lt) lt;
    donors = keeps.donors;
    recipients = keeps.recipients;
    contents = keeps.contents;
  }

-- documents that are told alike
pub same_clones : StandsOn → (setup : Setup) (state : State) (clones later : Clones) (cluster : Cluster)
    → ((d r : ℕ) → d < length setup.shards → r < length setup.shards → later d r ≡ clones d r)
    → Keeps setup state clones cluster → Keeps setup state later cluster
same_clones stands setup state clones later cluster same keeps = record {
  shard_count = keeps.shard_count;
  clock_count = keeps.clock_count;
  lane_rows = keeps.lane_rows;
  link_rows = keeps.link_rows;
  client_count = keeps.client_count;
  answered = keeps.answered;
  noted = keeps.noted;
  decided = keeps.decided;
  clients = keeps.clients;
  donors = λ s lt. donor_waits setup s (course_of cluster.control) (is_true_at cluster.control.told s)
      (clock_of cluster.clocks cell.Coordinator) (clock_of cluster.clocks cell.Coordinator) (clones s) (later s)
      (clock_of cluster.clocks (cell.Shard s)) (clock_of cluster.clocks (cell.Shard s)) (shard_in cluster s)
      (same_time (clock_of cluster.clocks cell.Coordinator)) (same_time (clock_of cluster.clocks (cell.Shard s))) (λ r r_in. same s r lt r_in) (keeps.donors s lt);
  recipients = λ r lt. recipient_grows setup (links_of cluster r) (lanes_of cluster r) (sources_of clones cluster r) (sources_of later cluster r)
      (λ d d_in. stays (sources_of clones cluster r d) (sources_of later cluster r d) refl (same d r d_in lt) refl) stands r (course_of cluster.control)
      (is_true_at cluster.control.reported r) (slice_index_or cluster.control.clashes r None) (shard_in cluster r).donor (keeps.recipients r lt);
  contents = keeps.contents;
}

pub settles : StandsOn → (setup : Setup) (state : State) (clones : Clones) (cluster : Cluster)
    → Keeps setup state clones cluster → Keeps setup state (clones_after cluster clones) cluster
settles stands setup state clones cluster keeps =
    same_clones stands setup state clones (clones_after cluster clones) cluster
    (λ d r d_in r_in. by d r r_in (keeps.donors d d_in) (nat_le (shard_in cluster d).shard.versions.floor cluster.control.fetch_time) refl) keeps
  where
    within : (a b : ℕ) → nat_le a b ≡ true → a ≤ b
    within a b e = search (arith, rules)

    by : (d r : ℕ) → r < length setup.shards
        → IsDonorKept setup d (course_of cluster.control) (is_true_at cluster.control.told d) (clock_of cluster.clocks cell.Coordinator) (clones d)
        (clock_of cluster.clocks (cell.Shard d)) (shard_in cluster d)
        → (t : Bool) → nat_le (shard_in cluster d).shard.versions.floor cluster.control.fetch_time ≡ t
        → cond t (told_clones cluster d r) (clones d r) ≡ clones d r
    by d r r_in kept true e = sym (kept.cloned (within (shard_in cluster d).shard.versions.floor cluster.control.fetch_time e) r r_in)
    by d r r_in kept false e = refl

-- a place that is set, and the others
pub there_set : {X : Type 0} (xs : List X) (i : ℕ) (x other : X) → i < length xs → slice_index_or (slice_set xs i x) i other ≡ x
there_set [] i x other lt = absurd (none i lt)
  where
    none : (i : ℕ) → i < 0 → ⊥
    none i lt = omega arith
there_set (y ∷ ys) zero x other lt = refl
there_set (y ∷ ys) (suc i) x other lt = there_set ys i x other (omega (arith, lt))

elsewhere : {X : Type 0} (xs : List X) (i j : ℕ) (x other : X) → j ≢ i
    → slice_index_or (slice_set xs i x) j other ≡ slice_index_or xs j other
elsewhere [] i j x other ne = refl
elsewhere (y ∷ ys) zero zero x other ne = absurd (ne refl)
elsewhere (y ∷ ys) zero (suc j) x other ne = refl
elsewhere (y ∷ ys) (suc i) zero x other ne = refl
elsewhere (y ∷ ys) (suc i) (suc j) x other ne = elsewhere ys i j x other (λ e. ne (ap suc e))

same_set : {X : Type 0} (xs : List X) (i : ℕ) (other : X) → slice_set xs i (slice_index_or xs i other) ≡ xs
same_set [] i other = refl
same_set (y ∷ ys) zero other = refl
same_set (y ∷ ys) (suc i) other = ap (λ l. y ∷ l) (same_set ys i other)

apart : (k s : ℕ) → (k == s) ≡ false → k ≢ s
apart k s e same = absurd (split (sym (same_number k) ∙ ap (λ n. k == n) same ∙ e))
  where
    split : true ≡ false → ⊥
    split e = cc

-- a shard with its links and lanes
module _ (stands : StandsOn) (setup : Setup) (state : State) (clones later : Clones) (cluster : Cluster) (s : ℕ)
    (told : List Bool) (next : ShardCell) (links : List LinkCell) (lanes : List LaneOf) (clocks : Clocks) (bag : Bag)
    (keeps : Keeps setup state clones cluster) (rise : AreLater cluster.clocks clocks) (s_in : s < length setup.shards)
    (new : KeepsShard setup state clones later cluster s told next links lanes clocks bag) where
  abbrev after : Cluster
  after = with_all s told next links lanes clocks cluster

  -- what holds at each shard holds at each after
  at_each : (P : ℕ → Bool → ShardCell → List LinkCell → List LaneOf → Type 0) → P s (is_true_at told s) next links lanes
      → ((k : ℕ) → k ≢ s → k < length setup.shards → P k (is_true_at cluster.control.told k) (shard_in cluster k) (links_of cluster k) (lanes_of cluster k))
      → (k : ℕ) → k < length setup.shards → P k (is_true_at told k) (shard_in after k) (links_of after k) (lanes_of after k)
  at_each P here there k lt = by (k == s) refl
    where
      inside : (n : ℕ) → n ≡ length setup.shards → s < n
      inside n e = subst (λ m. s < m) (sym e) s_in

      by : (t : Bool) → (k == s) ≡ t → P k (is_true_at told k) (shard_in after k) (links_of after k) (lanes_of after k)
      by true e =
          subst (λ n. P n (is_true_at told n) (shard_in after n) (links_of after n) (lanes_of after n)) (sym (eqb-true k s e))
          (subst (λ x. P s (is_true_at told s) x (links_of after s) (lanes_of after s)) (sym (there_set cluster.shards s next no_shard (inside (length cluster.shards) keeps.shard_count)))
          (subst (λ x. P s (is_true_at told s) next x (lanes_of after s)) (sym (there_set cluster.links s links [] (inside (length cluster.links) keeps.link_rows)))
          (subst (λ x. P s (is_true_at told s) next links x) (sym (there_set cluster.lanes s lanes [] (inside (length cluster.lanes) keeps.lane_rows))) here)))
      by false e =
          let ne = apart k s e in
          subst (λ t. P k t (shard_in after k) (links_of after k) (lanes_of after k)) (sym (new.marks k ne))
          (subst (λ x. P k (is_true_at cluster.control.told k) x (links_of after k) (lanes_of after k)) (sym (elsewhere cluster.shards s k next no_shard ne))
          (subst (λ x. P k (is_true_at cluster.control.told k) (shard_in cluster k) x (lanes_of after k)) (sym (elsewhere cluster.links s k links [] ne))
          (subst (λ x. P k (is_true_at cluster.control.told k) (shard_in cluster k) (links_of cluster k) x) (sym (elsewhere cluster.lanes s k lanes [] ne)) (there k ne lt))))

  grows : (r : ℕ) → r < length setup.shards → (d : ℕ) → d < length setup.shards
      → Grows (sources_of clones cluster r d) (sources_of later after r d)
  grows r r_in d d_in =
      at_each (λ k mark x ks ls. Grows (sources_of clones cluster r k) (source_by cluster.control.fetch_time x (later k r) r))
      (new.grows r r_in)
      (λ k ne k_in. stays (sources_of clones cluster r k) (source_by cluster.control.fetch_time (shard_in cluster k) (later k r) r) refl (new.others k r ne) refl) d d_in

  pub shards_keep : Keeps setup (record state { bag = bag }) later (with_all s told next links lanes clocks cluster)
  shards_keep = record {
    shard_count = length-set cluster.shards s next ∙ keeps.shard_count;
    clock_count = rise.count ∙ keeps.clock_count;
    lane_rows = length-set cluster.lanes s lanes ∙ keeps.lane_rows;
    link_rows = length-set cluster.links s links ∙ keeps.link_rows;
    client_count = keeps.client_count;
    answered = keeps.answered;
    noted = record { told = new.count; reported = keeps.noted.reported; clashes = keeps.noted.clashes };
    decided = record {
      stage = keeps.decided.stage;
      map = keeps.decided.map;
      placed = new.placed;
      whole = new.whole;
      fetch = let f = keeps.decided.fetch in let le = rise.rise cell.Coordinator in omega (arith, f, le);
    };
    clients = keeps.clients;
    donors =
        at_each (λ k mark x ks ls. IsDonorKept setup k (course_of cluster.control) mark (clock_of clocks cell.Coordinator) (later k) (clock_of clocks (cell.Shard k)) x)
        new.donor
        (λ k ne k_in. donor_waits setup k (course_of cluster.control) (is_true_at cluster.control.told k)
        (clock_of cluster.clocks cell.Coordinator) (clock_of clocks cell.Coordinator) (clones k) (later k)
        (clock_of cluster.clocks (cell.Shard k)) (clock_of clocks (cell.Shard k)) (shard_in cluster k)
        (rise.rise cell.Coordinator) (rise.rise (cell.Shard k)) (λ r r_in. new.others k r ne) (keeps.donors k k_in));
    recipients = λ k k_in.
        recipient_grows setup (links_of after k) (lanes_of after k) (sources_of clones cluster k) (sources_of later after k) (grows k k_in) stands k
        (course_of cluster.control) (is_true_at cluster.control.reported k) (slice_index_or cluster.control.clashes k None) (shard_in after k).donor
        (at_each (λ k mark x ks ls. IsRecipientKept setup k (course_of cluster.control) (is_true_at cluster.control.reported k) (slice_index_or cluster.control.clashes k None) x.donor
        (sources_of clones cluster k) ks ls) new.own (λ k ne k_in. keeps.recipients k k_in) k k_in);
    contents =
        at_each (λ k mark x ks ls. HoldsPlace setup cluster.control.phase x ls bag k) new.contents
        (λ k ne k_in id. keeps.contents k k_in id ∙ sym (new.elsewhere k ne id));
  }

-- or a shard alone
pub shard_keeps : StandsOn → (setup : Setup) (state : State) (clones later : Clones) (cluster : Cluster) (s : ℕ) (next : ShardCell)
    (clocks : Clocks) (bag : Bag) → Keeps setup state clones cluster → AreLater cluster.clocks clocks → s < length setup.shards
    → KeepsShard setup state clones later cluster s cluster.control.told next (links_of cluster s) (lanes_of cluster s) clocks bag
    → Keeps setup (record state { bag = bag }) later (with_shard s next clocks cluster)
shard_keeps stands setup state clones later cluster s next clocks bag keeps rise s_in new =
    subst (λ (ks : List (List LinkCell)). Keeps setup (record state { bag = bag }) later (record cluster { shards = slice_set cluster.shards s next; links = ks; clocks = clocks }))
    (same_set cluster.links s [])
    (subst (λ (ls : List (List LaneOf)). Keeps setup (record state { bag = bag }) later
    (record cluster { shards = slice_set cluster.shards s next; links = slice_set cluster.links s (links_of cluster s); lanes = ls; clocks = clocks }))
    (same_set cluster.lanes s [])
    (shards_keep stands setup state clones later cluster s cluster.control.told next (links_of cluster s) (lanes_of cluster s) clocks bag keeps rise s_in new))

pub keeps_by_cell : StandsOn → KeepsByCell
keeps_by_cell stands = record {
  waits = λ setup state clones cluster clocks keeps. clocks_keep setup state clones cluster keeps clocks;
  links = λ setup state clones cluster r links keeps. links_keep setup state clones cluster keeps r links;
  lanes = λ setup state clones cluster r lanes keeps. lanes_keep setup state clones cluster keeps r lanes;
  clients = λ setup state clones cluster c next keeps. client_keeps setup state clones cluster keeps c next;
  shards = shards_keep stands;
  shard = shard_keeps stands;
  settles = settles stands;
}
