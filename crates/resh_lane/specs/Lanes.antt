-- A lane: its pool, and for each donor the position of the next piece of that donor's feed.
use Rattle.std.specs.Prelude.{◌≡◌, ℕ, ◌+◌, ◌-◌, ◌<◌, ◌≤◌, ◌&&◌, max, min, true, nat_lt, Bool, false, List, length, replicate, slice_index_or, slice_set, is_some, refl}
use Rattle.std.specs.Coded.{Coded, code_by, coded×, coded_bool, coded_list, coded_ℕ}
use Rattle.resh_value.specs.Limits.{end_of_places}
use Rattle.resh_value.specs.declared.value.Value.{Value}
use Rattle.resh_oplog.specs.declared.entry.What.{What}
use Rattle.resh_oplog.specs.declared.entry.What.TheVariants.{Insert, Update, Delete, Final}
use Rattle.resh_oplog.specs.declared.piece.Piece.{Piece}
use Rattle.resh_rules.specs.Fits as pools
use Rattle.resh_rules.specs.Pools.{PoolOf, Roomy, cleared, given, pool_code, slot_of}

-- the state of a lane: its pool, whether it is started, and of each donor the position of the next piece and the
-- greatest ever reached
pub record LaneOf : Type 0 where
  pub pool : PoolOf
  pub started : Bool
  pub at : List ℕ
  pub high : List ℕ

-- a state is stored as the tuple of its parts
abbrev pub lane_code : Coded LaneOf
lane_code =
    code_by (PoolOf × (Bool × (List ℕ × List ℕ)))
    (coded× pool_code (coded× coded_bool (coded× (coded_list coded_ℕ) (coded_list coded_ℕ))))
    (λ l. (l.pool, (l.started, (l.at, l.high))))
    (λ t. record { pool = t.0; started = t.1.0; at = t.1.1.0; high = t.1.1.1 }) (λ _. refl)

-- a lane with the room of its pool
abbrev pub lane_of : Roomy PoolOf → Bool → List ℕ → List ℕ → Roomy LaneOf
lane_of pool started at high =
    record { state = record { pool = pool.state; started = started; at = at; high = high }; spare = pool.spare }

abbrev pub number_of : List ℕ → ℕ → ℕ
number_of numbers donor = slice_index_or numbers donor 0

-- what a lane keeps: one number per donor, and no position above the greatest
pub record IsLane (lane : LaneOf) : Type 0 where
  pub ats : length lane.at ≡ length lane.pool.stashes
  pub highs : length lane.high ≡ length lane.pool.stashes
  pub reached : (donor : ℕ) → number_of lane.at donor ≤ number_of lane.high donor
  pub small : (donor : ℕ) → number_of lane.high donor < end_of_places

-- a lane over a pool, at the first position of each of so many donors' feeds
abbrev pub fresh : PoolOf → ℕ → LaneOf
fresh pool donors = record { pool = pool; started = false; at = replicate donors 0; high = replicate donors 0 }

-- no piece stands at this position or above
abbrev pub end_of_positions : ℕ
end_of_positions = end_of_places - 1

-- a piece may be given to a lane
abbrev pub Fits : LaneOf → Piece → Type 0
Fits lane piece = (piece.position < end_of_positions) × pools.Fits lane.pool piece.donor.0 piece.id piece.what

abbrev pub fits : LaneOf → Piece → Bool
fits lane piece = nat_lt piece.position end_of_positions && pools.fits lane.pool piece.donor.0 piece.id piece.what

-- the room that an entry uses
abbrev pub room_for : What → ℕ
room_for (Insert document) = 1
room_for (Update id change) = 0
room_for (Delete id) = 0
room_for Final = 0

-- an insert without room, and an update of a document that the donor has, may want memory
abbrev pub MayWant : ℕ → Value → What → Roomy PoolOf → Type 0
MayWant donor id (Insert document) pool = pool.spare ≡ 0
MayWant donor id (Update own change) pool = is_some (slot_of donor id pool.state) ≡ true
MayWant donor id (Delete own) pool = ⊥
MayWant donor id Final pool = ⊥

-- an entry wasn't given to a pool, for want of memory
pub record WantsMemory (donor : ℕ) (id : Value) (what : What) (before after : Roomy PoolOf) : Type 0 where
  pub may : MayWant donor id what before
  pub kept : after.state ≡ before.state
  pub spare : before.spare ≤ after.spare

-- the donor's position rises by one
abbrev pub advanced : ℕ → PoolOf → LaneOf → LaneOf
advanced donor pool lane =
    let next = number_of lane.at donor + 1 in
    record {
      pool = pool;
      started = lane.started;
      at = slice_set lane.at donor next;
      high = slice_set lane.high donor (max (number_of lane.high donor) next);
    }

-- the lane that has taken the piece at its donor's position
abbrev pub taken : Piece → LaneOf → LaneOf
taken piece lane = advanced piece.donor.0 (given piece.donor.0 piece.id piece.what lane.pool) lane

-- the donor's position goes back
abbrev pub gone_back : ℕ → ℕ → LaneOf → LaneOf
gone_back donor position lane =
    record lane { at = slice_set lane.at donor (min (number_of lane.at donor) position) }

abbrev pub with_started : Bool → LaneOf → LaneOf
with_started started lane = record lane { started = started }

-- a lane that holds nothing and isn't started keeps its positions
abbrev pub emptied : LaneOf → LaneOf
emptied lane = record lane { pool = cleared lane.pool; started = false }
