-- How much is left at most of the work of all links, and what less is left of rounds by it.
use Rattle.std.proofs.Common.{◌≡◌, ◌<◌, ◌≤◌, ℕ, zero, suc, ◌+◌, ◌*◌, Bool, true, false, not, cond, List, ◌++◌, length, length-append, Option, Some, None, is_some, refl, sym, ap, subst, ◌∙◌}
use Rattle.std.proofs.Math.Nat.{mul-le-mul_right}
use native.Mathlib.Omega.{arith}
use Rattle.resh_oplog.specs.declared.entry.Entry.{Entry}
use Rattle.resh_progress.specs.declared.kept.Kept.{Kept}
use Rattle.resh_progress.specs.Kinds.{ToDonate}
use Rattle.resh_progress.specs.Tellings.{has}
use Rattle.resh_feed.specs.Feeds.{items_of}
use Rattle.resh_feed.specs.Items.{Document}
use Rattle.resh_feed.specs.declared.item.Item.{Item}
use Rattle.resh_fetcher.specs.Links.{LinkOf, out_end}
use Rattle.resh_fetcher.specs.Standing.{LinkFits, OutStands}
use Rattle.resh_fetcher.specs.declared.state.Out.{Out}
use Rattle.resh_coord.specs.Control.{Control}
use Rattle.resh_coord.specs.declared.cause.End.{End}
use Rattle.resh_coord.specs.declared.phase.Phase.{Phase}
use Rattle.resh_coord.specs.declared.phase.Phase.TheVariants.{Initializing, PreparingToDonate, Cloning, Applying, BlockingWrites, Committing, Aborting, Done}
use Rattle.resh_model.specs.Orders.{Fate}
use Rattle.resh_setup.specs.declared.setup.Setup.{Setup}
use Rattle.resh_cells.specs.Cells.{link_in, shard_in}
use Rattle.resh_cells.specs.declared.cluster.Cluster.{Cluster}
use Rattle.resh_cells.specs.declared.cluster.LinkCell.{LinkCell}
use Rattle.resh_events.specs.Runs.{Run}
use Rattle.resh_ending.proofs.Places.{length-map}
use Rattle.resh_rounds.specs.Rounds.{left_in}
use Rattle.resh_rounds.specs.Sums.{upto}
use Rattle.resh_rounds.specs.Working.{got, one, work, work_of}
use Rattle.resh_invariant.specs.Courses.{IsStage, course_of}
use Rattle.resh_invariant.specs.Keeping.{Keeps}
use Rattle.resh_invariant.specs.Recipients.{IsLinkKept}
use Rattle.resh_invariant.specs.Sources.{Clones, Source, sources_of}
use Rattle.resh_leading.specs.Laws.{FeedsAreFew, most_items}
use Rattle.resh_sweeps.specs.Laws.{has_work, most_work, rounds_left, work_left}
use Rattle.resh_sweeps.proofs.Sweeping.{IsLed}

-- what a link has got stands in its feed
ended : (n : ℕ) (kept : Kept) (o : Option Out) (front sent : List Item) → kept.place ≡ length front
    → OutStands n kept o front sent → out_end kept o ≡ length front + length sent
ended n kept None front sent place is = sum kept.place (length front) (length sent) place (ap (λ (xs : List Item). length xs) is)
  where
    sum : (a b c : ℕ) → a ≡ b → c ≡ 0 → a ≡ b + c
    sum a b c e f = omega arith
ended n kept (Some out) front sent place is = is.place ∙ length-append front sent

four_parts : (a b c d : List Item) → length (a ++ (b ++ (c ++ d))) ≡ length a + (length b + (length c + length d))
four_parts a b c d =
    length-append a (b ++ (c ++ d))
    ∙ ap (λ (n : ℕ). length a + n) (length-append b (c ++ d) ∙ ap (λ (n : ℕ). length b + n) (length-append c d))

got_fits : (n : ℕ) (docs : List Document) (entries : List Entry) (l : LinkOf) → LinkFits n docs entries l
    → got l ≤ length (items_of docs entries)
got_fits n docs entries l fits =
    sum (out_end l.kept l.out) (length fits.front) (length fits.out) (length l.buffer) (length fits.rest)
    (length (items_of docs entries)) (ended n l.kept l.out fits.front fits.out fits.kept.place fits.sent)
    (ap (λ (xs : List Item). length xs) fits.parts ∙ four_parts fits.front fits.out l.buffer fits.rest)
  where
    sum : (e a b c d n : ℕ) → e ≡ a + b → n ≡ a + (b + (c + d)) → e + c ≤ n
    sum e a b c d n h k = omega arith

-- the phases in which links have work are undecided
pub works_in : (p q : Phase) → has_work p ≡ true → has_work q ≡ false → p ≡ q → ⊥
works_in p q h k e = let same : has_work p ≡ has_work q = ap has_work e in cc

pub none_decided : (p : Phase) (decision : Option End) (fate : Fate) → IsStage p decision fate → has_work p ≡ true → decision ≡ None
none_decided Initializing decision fate is h = is.0
none_decided PreparingToDonate decision fate is h = is.0
none_decided Cloning decision fate is h = is.0
none_decided Applying decision fate is h = is.0
none_decided BlockingWrites decision fate is h = is.0
none_decided Committing decision fate is h = cc
none_decided Aborting decision fate is h = cc
none_decided Done decision fate is h = cc

nothing : (n : ℕ) → 0 ≤ n
nothing n = omega arith

at_most : (a b c : ℕ) → a ≤ b → b ≤ c → a ≤ c
at_most a b c h k = omega arith

module _ (few : FeedsAreFew) (setup : Setup) where
  pub undecided_in : (cluster : Cluster) → IsLed setup cluster → has_work cluster.control.phase ≡ true
      → cluster.control.decision ≡ None
  undecided_in cluster is works =
      none_decided cluster.control.phase cluster.control.decision is.state.fate is.kept.1.decided.stage works

  -- no link has got more than the most that a feed comes to
  pub got_most : (cluster : Cluster) → IsLed setup cluster → has_work cluster.control.phase ≡ true
      → (r d : ℕ) → r < length setup.shards → d < length setup.shards
      → got (link_in cluster r d).link ≤ most_items setup
  got_most cluster is works r d in_rows in_row = by (has (shard_in cluster r).donor.told ToDonate) refl
    where
      clones : Clones
      clones = is.kept.0

      keeps : Keeps setup is.state clones cluster
      keeps = is.kept.1

      source : Source
      source = sources_of clones cluster r d

      link : IsLinkKept setup r d (course_of cluster.control) (shard_in cluster r).donor source (link_in cluster r d)
      link = (keeps.recipients r in_rows).each_link d in_row

      least : length (items_of source.documents source.entries) ≤ most_items setup
      least = subst (λ (n : ℕ). n ≤ most_items setup) (length-map (λ (item : Item). item.what) (items_of source.documents source.entries))
          (few setup is.state clones cluster r d keeps is.leads in_rows in_row
          (works_in cluster.control.phase Committing works refl) (works_in cluster.control.phase Aborting works refl)
          (works_in cluster.control.phase Done works refl))

      by : (t : Bool) → has (shard_in cluster r).donor.told ToDonate ≡ t → got (link_in cluster r d).link ≤ most_items setup
      by true told =
          at_most (got (link_in cluster r d).link) (length (items_of source.documents source.entries)) (most_items setup)
          (got_fits setup.lanes source.documents source.entries (link_in cluster r d).link (link.reads told).fits) least
      by false told =
          subst (λ (cell : LinkCell). got cell.link ≤ most_items setup) (sym (link.unused (undecided_in cluster is works) told))
          (nothing (most_items setup))

-- a link's work
one_small : (t : Bool) → one t ≤ 1
one_small true = most
  where
    most : 1 ≤ 1
    most = omega arith
one_small false = least
  where
    least : 0 ≤ 1
    least = omega arith

work_small : (total e b o r n : ℕ) → e + b ≤ total → o ≤ 1 → r ≤ 1 → n ≤ 1 → work_of total e b o r n ≤ 4 * total + 3
work_small total e b o r n h i j k = omega arith

work_most : (total : ℕ) (l : LinkOf) → got l ≤ total → work total l ≤ 4 * total + 3
work_most total l h =
    work_small total (out_end l.kept l.out) (length l.buffer) (one (is_some l.out)) (one (not l.read_out)) (one (not l.near)) h
    (one_small (is_some l.out)) (one_small (not l.read_out)) (one_small (not l.near))

below_suc : (n : ℕ) → n < suc n
below_suc n = omega arith

sooner : (k n : ℕ) → k < n → k < suc n
sooner k n lt = omega arith

pub upto_within : (n b : ℕ) (f : ℕ → ℕ) → ((k : ℕ) → k < n → f k ≤ b) → upto n f ≤ n * b
unfolding upto
upto_within zero b f all = nothing (0 * b)
upto_within (suc n) b f all =
    sum (f n) (upto n f) n b (all n (below_suc n)) (upto_within n b f (λ k lt. all k (sooner k n lt)))
  where
    sum : (x y n b : ℕ) → x ≤ b → y ≤ n * b → x + y ≤ suc n * b
    sum x y n b h k = grind (arith, h, k)

pub work_left_most : FeedsAreFew → (setup : Setup) (cluster : Cluster) → IsLed setup cluster
    → has_work cluster.control.phase ≡ true → work_left setup cluster ≤ most_work setup
work_left_most few setup cluster is works =
    let n : ℕ = length setup.shards in
    let f : ℕ → ℕ → ℕ = λ r d. work (most_items setup) (link_in cluster r d).link in
    upto_within n (n * (4 * most_items setup + 3)) (λ r. upto n (λ d. f r d))
    (λ r in_rows. upto_within n (4 * most_items setup + 3) (λ d. f r d)
    (λ d in_row. work_most (most_items setup) (link_in cluster r d).link
    (got_most few setup cluster is works r d in_rows in_row)))

-- what is left of rounds
within : (t : Bool) (w most : ℕ) → (t ≡ true → w ≤ most) → cond t w 0 ≤ most
within true w most h = h refl
within false w most h = nothing most

ahead : (s t k m n : ℕ) → t < s → n ≤ k → t * (k + 1) + n < s * (k + 1) + m
ahead s t k m n lt small =
    let scaled : suc t * (k + 1) ≤ s * (k + 1) = mul-le-mul_right (k + 1) lt in
    sum (t * (k + 1)) (s * (k + 1)) k m n (ranged t (k + 1) (s * (k + 1)) scaled) small
  where
    ranged : (t k x : ℕ) → suc t * k ≤ x → t * k + k ≤ x
    ranged t k x q = grind (arith, q)

    sum : (a b k m n : ℕ) → a + (k + 1) ≤ b → n ≤ k → a + n < b + m
    sum a b k m n h lt = omega arith

level : (s t k m n : ℕ) → t ≤ s → n ≤ m → t * k + n ≤ s * k + m
level s t k m n le lt = sum (t * k) (s * k) m n (mul-le-mul_right k le) lt
  where
    sum : (a b m n : ℕ) → a ≤ b → n ≤ m → a + n ≤ b + m
    sum a b m n h q = omega arith

lower : (s t k m n : ℕ) → t ≤ s → n < m → t * k + n < s * k + m
lower s t k m n le lt = sum (t * k) (s * k) m n (mul-le-mul_right k le) lt
  where
    sum : (a b m n : ℕ) → a ≤ b → n < m → a + n < b + m
    sum a b m n h q = omega arith

alike : (n : ℕ) → n ≤ n
alike n = omega arith

-- less is left in it
pub left_falls : FeedsAreFew → (setup : Setup) (run other : Run) → IsLed setup other.cluster → left_in setup other < left_in setup run
    → rounds_left setup other < rounds_left setup run
unfolding rounds_left
left_falls few setup run other is lt =
    ahead (left_in setup run) (left_in setup other) (most_work setup) (cond (has_work run.cluster.control.phase) (work_left setup run.cluster) 0)
    (cond (has_work other.cluster.control.phase) (work_left setup other.cluster) 0) lt
    (within (has_work other.cluster.control.phase) (work_left setup other.cluster) (most_work setup)
    (λ works. work_left_most few setup other.cluster is works))

-- or no more of the work of links, where the coordinator stays as it is
pub work_stays : (setup : Setup) (run other : Run) → other.cluster.control ≡ run.cluster.control
    → left_in setup other ≤ left_in setup run
    → (has_work run.cluster.control.phase ≡ true → work_left setup other.cluster ≤ work_left setup run.cluster)
    → rounds_left setup other ≤ rounds_left setup run
unfolding rounds_left
work_stays setup run other same le work =
    level (left_in setup run) (left_in setup other) (most_work setup + 1) (cond (has_work run.cluster.control.phase) (work_left setup run.cluster) 0)
    (cond (has_work other.cluster.control.phase) (work_left setup other.cluster) 0) le
    (subst (λ (c : Control). cond (has_work c.phase) (work_left setup other.cluster) 0
    ≤ cond (has_work run.cluster.control.phase) (work_left setup run.cluster) 0) (sym same)
    (by (has_work run.cluster.control.phase) work))
  where
    by : (t : Bool) → (t ≡ true → work_left setup other.cluster ≤ work_left setup run.cluster)
        → cond t (work_left setup other.cluster) 0 ≤ cond t (work_left setup run.cluster) 0
    by true h = h refl
    by false h = alike 0

-- or less of it
pub work_falls : (setup : Setup) (run other : Run) → other.cluster.control ≡ run.cluster.control
    → left_in setup other ≤ left_in setup run → has_work run.cluster.control.phase ≡ true
    → work_left setup other.cluster < work_left setup run.cluster
    → rounds_left setup other < rounds_left setup run
unfolding rounds_left
work_falls setup run other same le works lt =
    lower (left_in setup run) (left_in setup other) (most_work setup + 1) (cond (has_work run.cluster.control.phase) (work_left setup run.cluster) 0)
    (cond (has_work other.cluster.control.phase) (work_left setup other.cluster) 0) le
    (subst (λ (c : Control). cond (has_work c.phase) (work_left setup other.cluster) 0
    < cond (has_work run.cluster.control.phase) (work_left setup run.cluster) 0) (sym same)
    (subst (λ (t : Bool). cond t (work_left setup other.cluster) 0 < cond t (work_left setup run.cluster) 0) (sym works) lt))
