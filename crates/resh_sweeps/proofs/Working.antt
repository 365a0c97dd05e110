-- Each row of a link takes of the work of all links, but for a fetch of nothing by a link that is near, which leaves the
-- links as they are.
use Rattle.std.proofs.Common.{◌≡◌, ◌<◌, ◌≤◌, ◌⊎◌, inl, inr, ℕ, zero, suc, ◌+◌, Bool, true, false, not, ◌&&◌, List, [], ◌∷◌, ◌++◌, append-nil, length, length-append, map, nat_lt, refl, sym, ap, subst, ◌∙◌, slice_index_or, slice_set}
use Rattle.std.proofs.lemmas.Bool.Decides.{nat_tests}
use native.Mathlib.Omega.{arith}
use Rattle.resh_value.specs.declared.value.ShardId.{ShardId}
use Rattle.resh_oplog.specs.declared.entry.Entry.{Entry}
use Rattle.resh_feed.specs.Items.{Document, cloned_item, fetched_item}
use Rattle.resh_feed.specs.declared.item.Item.{Item}
use Rattle.resh_fetcher.specs.Conditions.{may_clone, may_cut, may_fetch, may_keep}
use Rattle.resh_fetcher.specs.Links.{LinkOf, batch_kept, out_end, with_cloned, with_fetched}
use Rattle.resh_split.specs.Parts.{ends_behind}
use Rattle.resh_setup.specs.Validity.{IsValid}
use Rattle.resh_setup.specs.declared.event.Event.{Event}
use Rattle.resh_setup.specs.declared.event.Event.TheVariants.{Clone, Fetch, Cut, Record}
use Rattle.resh_setup.specs.declared.setup.Setup.{Setup}
use Rattle.resh_setup.specs.declared.trace.Met.TheVariants.{Row}
use Rattle.resh_cells.specs.Cells.{link_in, links_of, no_link, set_in, with_link}
use Rattle.resh_cells.specs.declared.cluster.Cluster.{Cluster}
use Rattle.resh_cells.specs.declared.cluster.LinkCell.{LinkCell}
use Rattle.resh_events.specs.Runs.{Run, after}
use Rattle.resh_events.specs.Steps.{first_moment, may_step}
use Rattle.resh_events.specs.Table.{change, may}
use Rattle.resh_events.specs.rows.Clone as clone
use Rattle.resh_events.specs.rows.Cut as cut
use Rattle.resh_events.specs.rows.Cut.{cut_at}
use Rattle.resh_events.specs.rows.Fetch as fetch
use Rattle.resh_events.specs.rows.Record as keep
use Rattle.resh_ending.proofs.Applying.{both, lt_by}
use Rattle.resh_ending.proofs.Places.{length-map, set_here}
use Rattle.resh_rounds.specs.Sums.{upto}
use Rattle.resh_rounds.specs.Working.{got, work}
use Rattle.resh_rounds.proofs.Sums.{set_most, upto_less, upto_most}
use Rattle.resh_rounds.proofs.Working.{link_rows_pay}
use Rattle.resh_leading.specs.Laws.{FeedsAreFew, most_items}
use Rattle.resh_ready.specs.Laws.{FetchesNothing}
use Rattle.resh_sweeps.specs.Laws.{has_work, work_left}
use Rattle.resh_sweeps.proofs.Numbers.{got_most}
use Rattle.resh_sweeps.proofs.Sweeping.{IsLed}

-- one cell is set to what has less work
pub cell_pays : (setup : Setup) (one other : Cluster) (r d : ℕ) (cell : LinkCell) → other.links ≡ set_in one.links r d cell
    → r < length setup.shards → d < length setup.shards → link_in other r d ≡ cell
    → work (most_items setup) cell.link < work (most_items setup) (link_in one r d).link
    → work_left setup other < work_left setup one
cell_pays setup one other r d cell links in_rows in_row here lt =
    upto_less n (λ i. upto n (λ j. now i j)) (λ i. upto n (λ j. before i j)) r in_rows
    (λ i. upto_most n (λ j. now i j) (λ j. before i j) (λ j. most i j))
    (upto_less n (λ j. now r j) (λ j. before r j) d in_row (λ j. most r j)
    (subst (λ (c : LinkCell). work total c.link < before r d) (sym here) lt))
  where
    n : ℕ
    n = length setup.shards

    total : ℕ
    total = most_items setup

    before : ℕ → ℕ → ℕ
    before i j = work total (link_in one i j).link

    now : ℕ → ℕ → ℕ
    now i j = work total (link_in other i j).link

    less : (a b : ℕ) → a < b → a ≤ b
    less a b lt = omega arith

    most : (i j : ℕ) → now i j ≤ before i j
    most i j =
        subst (λ (rows : List (List LinkCell)). work total (slice_index_or (slice_index_or rows i []) j no_link).link ≤ before i j) (sym links)
        (set_most (λ (row : List LinkCell). work total (slice_index_or row j no_link).link) one.links r i
        (slice_set (links_of one r) d cell) []
        (set_most (λ (c : LinkCell). work total c.link) (links_of one r) d j cell no_link
        (less (work total cell.link) (work total (link_in one r d).link) lt)))

-- where a link stands
pub record IsIn (setup : Setup) (cluster : Cluster) (r d : ℕ) : Type 0 where
  pub rows : r < length cluster.links
  pub row : d < length (links_of cluster r)
  pub some : 0 < (link_in cluster r d).link.batch

pub stands_in : (setup : Setup) → IsValid setup → (cluster : Cluster) → IsLed setup cluster → (r d : ℕ) → r < length setup.shards
    → d < length setup.shards → IsIn setup cluster r d
stands_in setup valid cluster is r d in_rows in_row =
    let keeps = is.kept.1 in
    let recipient = keeps.recipients r in_rows in
    record {
      rows = lt_by r (length setup.shards) (length cluster.links) (sym keeps.link_rows) in_rows;
      row = lt_by d (length setup.shards) (length (links_of cluster r)) (sym recipient.link_count) in_row;
      some = subst (λ (n : ℕ). 0 < n) (sym (recipient.each_link d in_row).owned.batch) (some_of setup.batch valid.sizes.some_entries);
    }
  where
    some_of : (n : ℕ) → 1 ≤ n → 0 < n
    some_of n h = omega arith

pub cell_here : (setup : Setup) (one other : Cluster) (r d : ℕ) (cell : LinkCell) → IsIn setup one r d
    → other.links ≡ set_in one.links r d cell → link_in other r d ≡ cell
cell_here setup one other r d cell is links =
    ap (λ (rows : List (List LinkCell)). slice_index_or (slice_index_or rows r []) d no_link) links
    ∙ ap (λ (row : List LinkCell). slice_index_or row d no_link) (set_here one.links r (slice_set (links_of one r) d cell) [] is.rows)
    ∙ set_here (links_of one r) d cell no_link is.row

-- how many items are got with some more
more_got : {X : Type 0} (f : X → Item) (end : ℕ) (buffer : List Item) (xs : List X)
    → end + length (buffer ++ map f xs) ≡ end + length buffer + length xs
more_got f end buffer xs = sum end (length buffer) (length xs) _ (length-append buffer (map f xs) ∙ ap (λ (n : ℕ). length buffer + n) (length-map f xs))
  where
    sum : (e a b c : ℕ) → c ≡ a + b → e + c ≡ e + a + b
    sum e a b c h = omega arith

-- the links after each row
clone_links : (setup : Setup) (run : Run) (r d : ShardId)
    → (after setup run (first_moment setup run (Clone r d) Row)).cluster.links
    ≡ set_in run.cluster.links r.0 d.0 (with_link (λ (l : LinkOf). with_cloned l (clone.got run.cluster r.0 d.0)
    (nat_lt (length (clone.got run.cluster r.0 d.0)) l.batch)) (link_in run.cluster r.0 d.0))
unfolding after change
clone_links setup run r d = refl

fetch_links : (setup : Setup) (run : Run) (r d : ShardId)
    → (after setup run (first_moment setup run (Fetch r d) Row)).cluster.links
    ≡ set_in run.cluster.links r.0 d.0 (with_link (λ (l : LinkOf). with_fetched l (fetch.got run.cluster r.0 d.0)) (link_in run.cluster r.0 d.0))
unfolding after change
fetch_links setup run r d = refl

abbrev cut_time : Setup → Run → ShardId → ShardId → ℕ
cut_time setup run r d = (first_moment setup run (Cut r d) Row).made.stamp.time

cut_links : (setup : Setup) (run : Run) (r d : ShardId)
    → (after setup run (first_moment setup run (Cut r d) Row)).cluster.links
    ≡ set_in run.cluster.links r.0 d.0 (cut_at (cut_time setup run r d) (link_in run.cluster r.0 d.0))
unfolding after change
cut_links setup run r d = refl

keep_links : (setup : Setup) (run : Run) (r d : ShardId)
    → (after setup run (first_moment setup run (Record r d) Row)).cluster.links
    ≡ set_in run.cluster.links r.0 d.0 (with_link batch_kept (link_in run.cluster r.0 d.0))
unfolding after change
keep_links setup run r d = refl

-- a place is set to what stands there
set_same : {X : Type 0} (xs : List X) (i : ℕ) (d : X) → slice_set xs i (slice_index_or xs i d) ≡ xs
set_same [] i d = refl
set_same (x ∷ xs) zero d = refl
set_same (x ∷ xs) (suc i) d = ap (λ (t : List _). x ∷ t) (set_same xs i d)

same_cell : (rows : List (List LinkCell)) (r d : ℕ) (cell : LinkCell) → cell ≡ slice_index_or (slice_index_or rows r []) d no_link
    → set_in rows r d cell ≡ rows
same_cell rows r d cell is =
    ap (λ (c : LinkCell). set_in rows r d c) is
    ∙ ap (λ (row : List LinkCell). slice_set rows r row) (set_same (slice_index_or rows r []) d no_link) ∙ set_same rows r []

-- a link that fetches nothing and is near
abbrev fetched_by : LinkOf → List Item → Bool → Bool → LinkOf
fetched_by l buffer finished near =
    record l { buffer = buffer; reading = record l.reading { finished = finished }; near = near }

fetched_same : (l : LinkOf) → nat_lt 0 l.batch ≡ l.near → l.reading.finished ≡ false → with_fetched l [] ≡ l
fetched_same l near going =
    ap (λ (b : List Item). fetched_by l b false (nat_lt 0 l.batch)) (append-nil l.buffer)
    ∙ ap (λ (f : Bool). fetched_by l l.buffer f (nat_lt 0 l.batch)) (sym going)
    ∙ ap (λ (n : Bool). fetched_by l l.buffer l.reading.finished n) near

not_true : (t : Bool) → not t ≡ true → t ≡ false
not_true true e = cc
not_true false e = refl

is_below : (a b : ℕ) → a < b → nat_lt a b ≡ true
is_below a b lt = grind (arith, nat_tests)

-- what a row may do is what its event may
pub may_clones : (setup : Setup) (cluster : Cluster) (r d : ShardId) → may_step setup cluster (Clone r d) ≡ clone.may cluster r.0 d.0
unfolding may
may_clones setup cluster r d = refl

pub may_fetches : (setup : Setup) (cluster : Cluster) (r d : ShardId) → may_step setup cluster (Fetch r d) ≡ fetch.may cluster r.0 d.0
unfolding may
may_fetches setup cluster r d = refl

pub may_cuts : (setup : Setup) (cluster : Cluster) (r d : ShardId) → may_step setup cluster (Cut r d) ≡ cut.may cluster r.0 d.0
unfolding may
may_cuts setup cluster r d = refl

pub may_keeps : (setup : Setup) (cluster : Cluster) (r d : ShardId) → may_step setup cluster (Record r d) ≡ keep.may cluster r.0 d.0
unfolding may
may_keeps setup cluster r d = refl

module _ (few : FeedsAreFew) (setup : Setup) (valid : IsValid setup) (run : Run) (before : IsLed setup run.cluster) (r d : ShardId)
    (in_rows : r.0 < length setup.shards) (in_row : d.0 < length setup.shards) where
  abbrev cell : LinkCell
  cell = link_in run.cluster r.0 d.0

  is_in : IsIn setup run.cluster r.0 d.0
  is_in = stands_in setup valid run.cluster before r.0 d.0 in_rows in_row

  abbrev made : Event → Cluster
  made event = (after setup run (first_moment setup run event Row)).cluster

  within : (other : Cluster) (next : LinkCell) → IsLed setup other → has_work other.control.phase ≡ true
      → other.links ≡ set_in run.cluster.links r.0 d.0 next → got next.link ≤ most_items setup
  within other next behind works links =
      subst (λ (c : LinkCell). got c.link ≤ most_items setup)
      (cell_here setup run.cluster other r.0 d.0 next is_in links) (got_most few setup other behind works r.0 d.0 in_rows in_row)

  pays : (other : Cluster) (next : LinkCell) → other.links ≡ set_in run.cluster.links r.0 d.0 next
      → work (most_items setup) next.link < work (most_items setup) cell.link
      → work_left setup other < work_left setup run.cluster
  pays other next links lt =
      cell_pays setup run.cluster other r.0 d.0 next links in_rows in_row (cell_here setup run.cluster other r.0 d.0 next is_in links) lt

  pub clone_pays : IsLed setup (made (Clone r d)) → has_work (made (Clone r d)).control.phase ≡ true
      → may_step setup run.cluster (Clone r d) ≡ true → work_left setup (made (Clone r d)) < work_left setup run.cluster
  clone_pays behind works goes =
      let docs : List Document = clone.got run.cluster r.0 d.0 in
      let next : LinkCell = with_link (λ (l : LinkOf). with_cloned l docs (nat_lt (length docs) l.batch)) cell in
      let links : (made (Clone r d)).links ≡ set_in run.cluster.links r.0 d.0 next = clone_links setup run r d in
      let may : (may_clone cell.link && _) ≡ true = (both (may_clone cell.link && _) (clone.has_room cell.link) (sym (may_clones setup run.cluster r d) ∙ goes)).0 in
      pays (made (Clone r d)) next links
      (link_rows_pay.clones (most_items setup) cell.link docs is_in.some (both (may_clone cell.link) _ may).0
      (subst (λ (n : ℕ). n ≤ most_items setup) (more_got cloned_item (out_end cell.link.kept cell.link.out) cell.link.buffer docs)
      (within (made (Clone r d)) next behind works links)))

  pub fetch_pays : IsLed setup (made (Fetch r d)) → has_work (made (Fetch r d)).control.phase ≡ true
      → may_step setup run.cluster (Fetch r d) ≡ true
      → (work_left setup (made (Fetch r d)) < work_left setup run.cluster)
      ⊎ (((made (Fetch r d)).links ≡ run.cluster.links) × FetchesNothing run.cluster r.0 d.0)
  fetch_pays behind works goes =
      by (link_rows_pay.fetches (most_items setup) cell.link entries is_in.some
      (subst (λ (n : ℕ). n ≤ most_items setup) (more_got fetched_item (out_end cell.link.kept cell.link.out) cell.link.buffer entries)
      (within (made (Fetch r d)) next behind works links)))
    where
      entries : List Entry
      entries = fetch.got run.cluster r.0 d.0

      next : LinkCell
      next = with_link (λ (l : LinkOf). with_fetched l entries) cell

      links : (made (Fetch r d)).links ≡ set_in run.cluster.links r.0 d.0 next
      links = fetch_links setup run r d

      is : fetch.may run.cluster r.0 d.0 ≡ true
      is = sym (may_fetches setup run.cluster r d) ∙ goes

      parts : (cell.link.read_out && not cell.link.reading.finished) ≡ true
      parts = (both cell.link.is_open _ (both (may_fetch cell.link) _ is).0).1

      going : cell.link.reading.finished ≡ false
      going = not_true cell.link.reading.finished (both cell.link.read_out _ parts).1

      same : entries ≡ [] → cell.link.near ≡ true → next ≡ cell
      same none near =
          ap (λ (es : List Entry). with_link (λ (l : LinkOf). with_fetched l es) cell) none
          ∙ ap (λ (l : LinkOf). with_link (λ (k : LinkOf). l) cell)
          (fetched_same cell.link (is_below 0 cell.link.batch is_in.some ∙ sym near) going)

      by : (work (most_items setup) (with_fetched cell.link entries) < work (most_items setup) cell.link)
          ⊎ ((entries ≡ []) × (cell.link.near ≡ true))
          → (work_left setup (made (Fetch r d)) < work_left setup run.cluster)
          ⊎ (((made (Fetch r d)).links ≡ run.cluster.links) × FetchesNothing run.cluster r.0 d.0)
      by (inl lt) = inl (pays (made (Fetch r d)) next links lt)
      by (inr e) =
          inr (
            links ∙ same_cell run.cluster.links r.0 d.0 next (same e.0 e.1),
            record { may = is; nothing = e.0; near = e.1 },
          )

  pub cut_pays : may_step setup run.cluster (Cut r d) ≡ true → work_left setup (made (Cut r d)) < work_left setup run.cluster
  cut_pays goes =
      let next : LinkCell = cut_at (cut_time setup run r d) cell in
      let may : may_cut cell.link ≡ true = (both cell.link.is_open _ (sym (may_cuts setup run.cluster r d) ∙ goes)).1 in
      pays (made (Cut r d)) next (cut_links setup run r d)
      (link_rows_pay.cuts (most_items setup) cell.link (ends_behind cell.link cell.link.batch) is_in.some may)

  pub keep_pays : may_step setup run.cluster (Record r d) ≡ true → work_left setup (made (Record r d)) < work_left setup run.cluster
  keep_pays goes =
      let may : (cell.link.is_open && may_keep cell.link) ≡ true
      = (both (cell.link.is_open && may_keep cell.link) _ (sym (may_keeps setup run.cluster r d) ∙ goes)).0 in
      pays (made (Record r d)) (with_link batch_kept cell) (keep_links setup run r d)
      (link_rows_pay.keeps (most_items setup) cell.link (both cell.link.is_open (may_keep cell.link) may).1)
