-- What is left of a link's work, of so many items of its feed.
use Rattle.std.specs.Prelude.{◌≡◌, ◌<◌, ◌≤◌, ◌⊎◌, ℕ, ◌+◌, ◌-◌, ◌*◌, Bool, true, false, not, List, [], length, is_some, nat_lt}
use Rattle.resh_feed.specs.Items.{Document}
use Rattle.resh_oplog.specs.declared.entry.Entry.{Entry}
use Rattle.resh_fetcher.specs.Conditions.{may_clone, may_cut, may_fetch, may_keep}
use Rattle.resh_fetcher.specs.Links.{LinkOf, batch_kept, out_end, sent_out, with_cloned, with_fetched}

abbrev pub one : Bool → ℕ
one true = 1
one false = 0

-- of so many items: those that it hasn't got count four, those in the buffer two, and one each a batch that is out, a
-- clone part that isn't read out, and a link that isn't near
abbrev pub work_of : ℕ → ℕ → ℕ → ℕ → ℕ → ℕ → ℕ
work_of total end buffer out unread far = 4 * (total - (end + buffer)) + (2 * buffer + (out + (unread + far)))

abbrev pub work : ℕ → LinkOf → ℕ
work total l =
    work_of total (out_end l.kept l.out) (length l.buffer) (one (is_some l.out)) (one (not l.read_out)) (one (not l.near))

-- how many items it has got
abbrev pub got : LinkOf → ℕ
got l = out_end l.kept l.out + length l.buffer

-- each row of a link takes of it, as long as what it gets stands in the feed; but for a fetch of nothing by a link that is
-- near
pub record LinkRowsPay : Type 0 where
  pub clones : (total : ℕ) (l : LinkOf) (docs : List Document) → 0 < l.batch → may_clone l ≡ true → got l + length docs ≤ total
      → work total (with_cloned l docs (nat_lt (length docs) l.batch)) < work total l
  pub fetches : (total : ℕ) (l : LinkOf) (entries : List Entry) → 0 < l.batch → got l + length entries ≤ total
      → (work total (with_fetched l entries) < work total l) ⊎ ((entries ≡ []) × (l.near ≡ true))
  pub cuts : (total : ℕ) (l : LinkOf) (ends : List ℕ) → 0 < l.batch → may_cut l ≡ true
      → work total (sent_out l l.batch ends) < work total l
  pub keeps : (total : ℕ) (l : LinkOf) → may_keep l ≡ true → work total (batch_kept l) < work total l
