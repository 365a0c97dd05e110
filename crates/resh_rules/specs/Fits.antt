-- What may be given to a pool as an entry of a donor.
use Rattle.std.specs.Prelude.{◌≡◌, ◌<◌, ◌==◌, ◌&&◌, ℕ, Bool, true, false, not, nat_lt, List, length, codes}
use Rattle.std.specs.List.{list_all}
use Rattle.resh_value.specs.Change.{is_named}
use Rattle.resh_value.specs.Lookup.{id_of}
use Rattle.resh_value.specs.Names.{HasRisingNames}
use Rattle.resh_value.specs.Order.{is_same}
use Rattle.resh_value.specs.Whole.{IsWhole, has_rising_names, is_whole}
use Rattle.resh_value.specs.declared.change.Change.{Change}
use Rattle.resh_value.specs.declared.value.Value.{Value}
use Rattle.resh_chunks.specs.Chunks.{Chunks, owner_of}
use Rattle.resh_oplog.specs.declared.entry.What.{What}
use Rattle.resh_oplog.specs.declared.entry.What.TheVariants.{Insert, Update, Delete, Final}
use Rattle.resh_stash.specs.Stored.{Document}
use Rattle.resh_rules.specs.Laws.{NamesOthers}
use Rattle.resh_rules.specs.Pools.{PoolOf}

-- an inserted document is whole, has the `_id` and is owned by the donor; an update of the `_id` names neither it nor
-- the old key, and the names that it assigns rise; a delete is of the `_id`; a final entry is given to no pool
abbrev pub FitsAt : PoolOf → ℕ → Value → What → Type 0
FitsAt pool donor id (Insert document) =
    IsWhole document × (id_of document ≡ id) × (owner_of pool.chunks document ≡ donor)
FitsAt pool donor id (Update own change) =
    (own ≡ id) × HasRisingNames change.assign × NamesOthers pool.chunks change.assign change.unset
FitsAt pool donor id (Delete own) = own ≡ id
FitsAt pool donor id Final = ⊥

abbrev pub Fits : PoolOf → ℕ → Value → What → Type 0
Fits pool donor id what = (donor < length pool.stashes) × FitsAt pool donor id what

-- the same as tests
abbrev pub may_insert : Chunks → ℕ → Value → Document → Bool
may_insert old donor id document = is_whole document && is_same (id_of document) id && (owner_of old document == donor)

abbrev pub names_others : Chunks → Change → Bool
names_others old change =
    not (is_named change.assign change.unset (codes "_id"))
    && list_all (λ name. not (is_named change.assign change.unset name)) old.pattern

abbrev pub fits_at : Chunks → ℕ → Value → What → Bool
fits_at old donor id (Insert document) = may_insert old donor id document
fits_at old donor id (Update own change) = is_same own id && has_rising_names change.assign && names_others old change
fits_at old donor id (Delete own) = is_same own id
fits_at old donor id Final = false

abbrev pub fits : PoolOf → ℕ → Value → What → Bool
fits pool donor id what = nat_lt donor (length pool.stashes) && fits_at pool.chunks donor id what
