-- When a link may do what, as tests and as what the tests say.
use Rattle.std.specs.Prelude.{◌≡◌, ◌<◌, ◌≤◌, ◌==◌, ◌↔◌, ℕ, Bool, true, false, not, ◌&&◌, List, length, None, is_some, nat_le, nat_lt}
use Rattle.std.specs.List.{All, list_all}
use Rattle.resh_value.specs.Whole as value
use Rattle.resh_oplog.specs.Logs.{is_whole, AreWhole}
use Rattle.resh_oplog.specs.declared.entry.Entry.{Entry}
use Rattle.resh_feed.specs.Items.{Document, up_to_final}
use Rattle.resh_fetcher.specs.Links.{LinkOf}

-- clone items may be got: it is open and not read out
abbrev pub may_clone : LinkOf → Bool
may_clone l = l.is_open && not l.read_out

-- log entries may be got: it is open and read out, and hasn't got the feed's last entry
abbrev pub may_fetch : LinkOf → Bool
may_fetch l = l.is_open && (l.read_out && not l.reading.finished)

-- a batch may be cut: none is out, and the buffer isn't empty
abbrev pub may_cut : LinkOf → Bool
may_cut l = not (is_some l.out) && nat_lt 0 (length l.buffer)

-- a batch is out, so that it may be kept
abbrev pub may_keep : LinkOf → Bool
may_keep l = is_some l.out

-- at most a batch of whole documents
abbrev pub fits_clone : LinkOf → List Document → Bool
fits_clone l documents = nat_le (length documents) l.batch && list_all value.is_whole documents

-- at most a batch of whole entries, of which only the last one may be final
abbrev pub fits_fetch : LinkOf → List Entry → Bool
fits_fetch l entries =
    nat_le (length entries) l.batch
    && (list_all (λ entry. is_whole entry.what) entries && (length (up_to_final entries) == length entries))

-- some items, and one position for each lane
abbrev pub fits_cut : LinkOf → ℕ → List ℕ → Bool
fits_cut l most ends = nat_lt 0 most && (length ends == l.lanes)

pub record MayClone (l : LinkOf) : Type 0 where
  pub is_open : l.is_open ≡ true
  pub reading : l.read_out ≡ false

pub record MayFetch (l : LinkOf) : Type 0 where
  pub is_open : l.is_open ≡ true
  pub read_out : l.read_out ≡ true
  pub going : l.reading.finished ≡ false

pub record MayCut (l : LinkOf) : Type 0 where
  pub none_out : l.out ≡ None
  pub filled : 0 < length l.buffer

pub record FitsClone (l : LinkOf) (documents : List Document) : Type 0 where
  pub most : length documents ≤ l.batch
  pub whole : All (λ document. value.is_whole document ≡ true) documents

pub record FitsFetch (l : LinkOf) (entries : List Entry) : Type 0 where
  pub most : length entries ≤ l.batch
  pub whole : AreWhole entries
  pub last : up_to_final entries ≡ entries

pub record FitsCut (l : LinkOf) (most : ℕ) (ends : List ℕ) : Type 0 where
  pub some_item : 0 < most
  pub each_lane : length ends ≡ l.lanes

-- the tests say so
pub record MayByTest : Type 0 where
  pub clone : (l : LinkOf) → (may_clone l ≡ true) ↔ MayClone l
  pub fetch : (l : LinkOf) → (may_fetch l ≡ true) ↔ MayFetch l
  pub cut : (l : LinkOf) → (may_cut l ≡ true) ↔ MayCut l

pub record FitsByTest : Type 0 where
  pub clone : (l : LinkOf) (documents : List Document) → (fits_clone l documents ≡ true) ↔ FitsClone l documents
  pub fetch : (l : LinkOf) (entries : List Entry) → (fits_fetch l entries ≡ true) ↔ FitsFetch l entries
  pub cut : (l : LinkOf) (most : ℕ) (ends : List ℕ) → (fits_cut l most ends ≡ true) ↔ FitsCut l most ends
