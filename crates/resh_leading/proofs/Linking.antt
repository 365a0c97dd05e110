-- What an event leaves of the links, and of what is decided.
use Rattle.std.proofs.Common.{◌≡◌, ◌<◌, ⊎_elim, ℕ, Bool, true, false, cond, List, [], length, map, Option, Some, None, is_some, refl, sym, ap, subst, ◌∙◌, slice_index_or, slice_set}
use Rattle.std.specs.Option.{option_map_or}
use Rattle.resh_value.specs.declared.value.Value.{Value}
use Rattle.resh_cells.specs.Cells.{link_in, links_of, no_link, no_shard, set_in, shard_in, with_link}
use Rattle.resh_cells.specs.declared.cluster.Cluster.{Cluster}
use Rattle.resh_cells.specs.declared.cluster.LinkCell.{LinkCell}
use Rattle.resh_cells.specs.declared.cluster.ShardCell.{ShardCell}
use Rattle.resh_coord.specs.Control.{Control, advanced, begins, begun, decided_at, first_clash, left, may_advance, unless_decided, with_phase, aborted}
use Rattle.resh_coord.specs.declared.cause.Cause.{Cause}
use Rattle.resh_coord.specs.declared.cause.End.{End}
use Rattle.resh_coord.specs.declared.phase.Phase.{Phase}
use Rattle.resh_coord.specs.declared.phase.Phase.TheVariants.{Initializing, PreparingToDonate, Cloning, Applying, BlockingWrites, Committing, Aborting, Done}
use Rattle.resh_ending.proofs.Places.{set_here}
use Rattle.resh_fetcher.specs.Links as link
use Rattle.resh_fetcher.specs.Links.{LinkOf}
use Rattle.resh_fetcher.specs.declared.state.Out.{Out}
use Rattle.resh_invariant.proofs.Ones.{at_set}
use Rattle.resh_progress.specs.Kinds.{ToDonate}
use Rattle.resh_progress.specs.Tellings.{has}
use Rattle.resh_setup.specs.declared.setup.Setup.{Setup}
use Rattle.resh_leading.specs.Leading.{AreAllCut, LeadsOn}
use Rattle.resh_leading.proofs.Counting.{Counts, counted_on}
use Rattle.resh_leading.proofs.Places.{map_links, mapped_at, set_link}

abbrev pub donates_at : Cluster → ℕ → Bool
donates_at cluster s = has (shard_in cluster s).donor.told ToDonate

-- the links before and after, by what is decided after and who was told the fetch time
pub record Links (setup : Setup) (one other : Cluster) : Type 0 where
  pub opened : (r d : ℕ) → r < length setup.shards → d < length setup.shards → other.control.decision ≡ None
      → (donates_at one r ≡ true → (link_in one r d).link.is_open ≡ true)
      → donates_at other r ≡ true → (link_in other r d).link.is_open ≡ true
  pub alive : (r d : ℕ) → other.control.decision ≡ None → (link_in one r d).link.failed ≡ false → (link_in other r d).link.failed ≡ false
  pub cut : (r d : ℕ) → r < length setup.shards → d < length setup.shards
      → AreAllCut setup.lanes (link_in one r d) (link_in one r d).link.out
      → AreAllCut setup.lanes (link_in other r d) (link_in other r d).link.out

-- what an event leaves
pub record Leads (setup : Setup) (one other : Cluster) : Type 0 where
  pub counts : Counts setup one other
  pub undecided : other.control.decision ≡ None → one.control.decision ≡ None
  pub links : Links setup one other

pub leads_then : (setup : Setup) (one other : Cluster) → Leads setup one other → LeadsOn setup one → LeadsOn setup other
leads_then setup one other leads is = record {
  counted = counted_on setup one other leads.counts is.counted;
  opened = λ r d r_in d_in none told. leads.links.opened r d r_in d_in none (is.opened r d r_in d_in (leads.undecided none)) told;
  alive = λ r d none. leads.links.alive r d none (is.alive r d (leads.undecided none));
  cut = λ r d r_in d_in. leads.links.cut r d r_in d_in (is.cut r d r_in d_in);
}

-- a change that none of it sees
pub leads_on_control : (setup : Setup) (f : Control → Control) (one other : Cluster)
    → ((f other.control).decision ≡ None → other.control.decision ≡ None) → Leads setup one other
    → Leads setup one (record other { control = f other.control })
leads_on_control setup f one other keeps leads = record {
  counts = record { more = leads.counts.more; cells = leads.counts.cells; answered = leads.counts.answered; answers = leads.counts.answers };
  undecided = λ none. leads.undecided (keeps none);
  links = record {
    opened = λ r d r_in d_in none. leads.links.opened r d r_in d_in (keeps none);
    alive = λ r d none. leads.links.alive r d (keeps none);
    cut = leads.links.cut;
  };
}

module _ (setup : Setup) where
  -- the links are the same, and nobody else was told the fetch time
  pub links_same : (one other : Cluster) → other.links ≡ one.links
      → ((s : ℕ) → donates_at other s ≡ true → donates_at one s ≡ true) → Links setup one other
  links_same one other same told = record {
    opened = λ r d r_in d_in none was on. subst (λ (l : List (List LinkCell)). (slice_index_or (slice_index_or l r []) d no_link).link.is_open ≡ true)
        (sym same) (was (told r on));
    alive = λ r d none was. subst (λ (l : List (List LinkCell)). (slice_index_or (slice_index_or l r []) d no_link).link.failed ≡ false) (sym same) was;
    cut = λ r d r_in d_in was. subst
        (λ (l : List (List LinkCell)). AreAllCut setup.lanes (slice_index_or (slice_index_or l r []) d no_link)
        (slice_index_or (slice_index_or l r []) d no_link).link.out) (sym same) was;
  }

  -- a link changed
  pub record Cell (r d : ℕ) (before later : LinkCell) : Type 0 where
    pub is_open : before.link.is_open ≡ true → later.link.is_open ≡ true
    pub failed : before.link.failed ≡ false → later.link.failed ≡ false
    pub cut : r < length setup.shards → d < length setup.shards → AreAllCut setup.lanes before before.link.out
        → AreAllCut setup.lanes later later.link.out

  pub cell_links : (r d : ℕ) (cell : LinkCell) (one other : Cluster) → Cell r d (link_in one r d) cell
      → other.links ≡ set_in one.links r d cell → other.shards ≡ one.shards → Links setup one other
  cell_links r d cell one other keeps links shards = record {
    opened = λ i j i_in j_in none was on.
        subst (λ (l : List (List LinkCell)). (slice_index_or (slice_index_or l i []) j no_link).link.is_open ≡ true) (sym links)
        (set_link (λ i j (x y : LinkCell). x.link.is_open ≡ true → y.link.is_open ≡ true) one.links r d cell (λ i j c h. h) keeps.is_open i j
        (was (ap (λ (l : List ShardCell). has (slice_index_or l i no_shard).donor.told ToDonate) (sym shards) ∙ on)));
    alive = λ i j none was.
        subst (λ (l : List (List LinkCell)). (slice_index_or (slice_index_or l i []) j no_link).link.failed ≡ false) (sym links)
        (set_link (λ i j (x y : LinkCell). x.link.failed ≡ false → y.link.failed ≡ false) one.links r d cell (λ i j c h. h) keeps.failed i j was);
    cut = λ i j i_in j_in was.
        subst
        (λ (l : List (List LinkCell)). AreAllCut setup.lanes (slice_index_or (slice_index_or l i []) j no_link)
        (slice_index_or (slice_index_or l i []) j no_link).link.out) (sym links)
        (set_link
        (λ i j (x y : LinkCell). i < length setup.shards → j < length setup.shards → AreAllCut setup.lanes x x.link.out
        → AreAllCut setup.lanes y y.link.out) one.links r d cell (λ i j c i_in j_in h. h) keeps.cut i j i_in j_in was);
  }

  -- once it is decided, only the batches count
  pub cut_links : (one other : Cluster) → (other.control.decision ≡ None → ⊥)
      → ((r d : ℕ) → AreAllCut setup.lanes (link_in one r d) (link_in one r d).link.out
      → AreAllCut setup.lanes (link_in other r d) (link_in other r d).link.out) → Links setup one other
  cut_links one other decided cut = record {
    opened = λ r d r_in d_in none. absurd (decided none);
    alive = λ r d none. absurd (decided none);
    cut = λ r d r_in d_in. cut r d;
  }

  -- all links of a recipient changed, each keeping its batch
  pub cut_mapped : (f : LinkOf → LinkOf) (links : List (List LinkCell)) (s : ℕ)
      → ((cell : LinkCell) → AreAllCut setup.lanes cell cell.link.out → AreAllCut setup.lanes (with_link f cell) (f cell.link).out)
      → (i j : ℕ)
      → AreAllCut setup.lanes (slice_index_or (slice_index_or links i []) j no_link) (slice_index_or (slice_index_or links i []) j no_link).link.out
      → AreAllCut setup.lanes
      (slice_index_or (slice_index_or (slice_set links s (map (with_link f) (slice_index_or links s []))) i []) j no_link)
      (slice_index_or (slice_index_or (slice_set links s (map (with_link f) (slice_index_or links s []))) i []) j no_link).link.out
  cut_mapped f links s keeps =
      map_links (λ (x y : LinkCell). AreAllCut setup.lanes x x.link.out → AreAllCut setup.lanes y y.link.out) (with_link f) links s (λ c h. h) keeps

  -- the links of a recipient that is told the fetch time start
  pub started_links : (s time : ℕ) (f : ShardCell → ShardCell) (one other : Cluster)
      → other.links ≡ slice_set one.links s (map (with_link (λ l. link.started l time)) (links_of one s))
      → other.shards ≡ slice_set one.shards s (f (shard_in one s))
      → length one.links ≡ length setup.shards → (s < length setup.shards → length (links_of one s) ≡ length setup.shards) → Links setup one other
  started_links s time f one other links shards rows many = record {
    opened = λ r d r_in d_in none was on.
        subst (λ (l : List (List LinkCell)). (slice_index_or (slice_index_or l r []) d no_link).link.is_open ≡ true) (sym links)
        (⊎_elim
        (λ same. map_links (λ (x y : LinkCell). x.link.is_open ≡ true → y.link.is_open ≡ true) start one.links s (λ c h. h) (λ c h. refl) r d
        (was (ap (λ (c : ShardCell). has c.donor.told ToDonate) (sym same) ∙ told r on)))
        (λ there. subst (λ k. (slice_index_or (slice_index_or row k []) d no_link).link.is_open ≡ true) (sym there.0)
        (at_own d (subst (λ k. k < length setup.shards) there.0 r_in) d_in))
        (at_set one.shards s r (f (shard_in one s)) no_shard));
    alive = λ r d none was.
        subst (λ (l : List (List LinkCell)). (slice_index_or (slice_index_or l r []) d no_link).link.failed ≡ false) (sym links)
        (map_links (λ (x y : LinkCell). x.link.failed ≡ false → y.link.failed ≡ false) start one.links s (λ c h. h) (λ c h. h) r d was);
    cut = λ r d r_in d_in was.
        subst
        (λ (l : List (List LinkCell)). AreAllCut setup.lanes (slice_index_or (slice_index_or l r []) d no_link)
        (slice_index_or (slice_index_or l r []) d no_link).link.out) (sym links)
        (cut_mapped (λ l. link.started l time) one.links s (λ cell h. h) r d was);
  }
    where
      start : LinkCell → LinkCell
      start = with_link (λ l. link.started l time)

      row : List (List LinkCell)
      row = slice_set one.links s (map start (links_of one s))

      told : (r : ℕ) → donates_at other r ≡ true → has (slice_index_or (slice_set one.shards s (f (shard_in one s))) r no_shard).donor.told ToDonate ≡ true
      told r on = subst (λ (l : List ShardCell). has (slice_index_or l r no_shard).donor.told ToDonate ≡ true) shards on

      at_own : (d : ℕ) → s < length setup.shards → d < length setup.shards → (slice_index_or (slice_index_or row s []) d no_link).link.is_open ≡ true
      at_own d s_in d_in =
          subst (λ (l : List LinkCell). (slice_index_or l d no_link).link.is_open ≡ true)
          (sym (set_here one.links s (map start (links_of one s)) [] (subst (λ n. s < n) (sym rows) s_in)))
          (subst (λ (c : LinkCell). c.link.is_open ≡ true) (sym (mapped_at start (links_of one s) d no_link (subst (λ n. d < n) (sym (many s_in)) d_in))) refl)

-- a batch that is kept, or gone
pub kept_cut : (lanes : ℕ) (cell : LinkCell) → AreAllCut lanes cell cell.link.out
    → AreAllCut lanes (with_link link.batch_kept cell) (link.batch_kept cell.link).out
kept_cut lanes cell h = by cell.link.out
  where
    by : (o : Option Out)
        → AreAllCut lanes (record cell { link = option_map_or (λ (out : Out). let k : LinkOf = record cell.link { kept = link.kept_at cell.link out; out = None } in k) o cell.link })
        (option_map_or (λ (out : Out). let k : LinkOf = record cell.link { kept = link.kept_at cell.link out; out = None } in k) o cell.link).out
    by None = h
    by (Some out) = tt

-- what is decided stays so
pub begun_undecided : (c : Control) → (begun c).decision ≡ None → c.decision ≡ None
begun_undecided c = by (begins c.phase)
  where
    by : (t : Bool) → (cond t (with_phase PreparingToDonate c) c).decision ≡ None → c.decision ≡ None
    by true e = e
    by false e = e

left_undecided : (p : Phase) (time : ℕ) (c : Control) → (left p time c).decision ≡ None → c.decision ≡ None
left_undecided Initializing time c e = e
left_undecided PreparingToDonate time c e = e
left_undecided Cloning time c e = e
left_undecided Applying time c e = e
left_undecided BlockingWrites time c e = by (slice_index_or c.clashes (first_clash c.clashes) None) e
  where
    by : (o : Option Value) → (decided_at (first_clash c.clashes) o (record c { clashes = slice_set c.clashes (first_clash c.clashes) None })).decision ≡ None
        → c.decision ≡ None
    by None e = cc
    by (Some id) e = cc
left_undecided Committing time c e = e
left_undecided Aborting time c e = e
left_undecided Done time c e = e

pub advanced_undecided : (time : ℕ) (c : Control) → (advanced time c).decision ≡ None → c.decision ≡ None
advanced_undecided time c = by (may_advance c)
  where
    by : (t : Bool) → (cond t (left c.phase time c) c).decision ≡ None → c.decision ≡ None
    by true e = left_undecided c.phase time c e
    by false e = e

-- after a failure, or an abort that was asked, it is decided
pub unless_undecided : (cause : Cause) (c : Control) → (unless_decided cause c).decision ≡ None → ⊥
unless_undecided cause c = by (is_some c.decision) refl
  where
    some : (e : Option End) → is_some e ≡ true → e ≡ None → ⊥
    some e is none = cc

    by : (t : Bool) → is_some c.decision ≡ t → (cond t c (aborted cause c)).decision ≡ None → ⊥
    by true is e = some c.decision is e
    by false is e = cc
