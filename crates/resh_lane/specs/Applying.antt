-- What comes of a piece.
use Rattle.std.specs.Prelude.{◌≡◌, ◌<◌, ◌≤◌, ◌+◌, ⊤}
use Rattle.resh_oplog.specs.declared.piece.Piece.{Piece}
use Rattle.resh_rules.specs.Pools.{Roomy, rule_in}
use Rattle.resh_lane.specs.Lanes.{LaneOf, MayWant, number_of, room_for, taken}
use Rattle.resh_lane.specs.declared.lane.Applying.{Applying}
use Rattle.resh_lane.specs.declared.lane.Applying.TheVariants.{Applied, Repeated, Ahead, NoMemory}

-- a piece at its donor's position is given to the pool, and the position rises; one below or above it changes nothing,
-- and want of memory changes nothing
abbrev pub Comes : Piece → LaneOf → Applying → LaneOf → Type 0
Comes piece before (Applied rule) after =
    (piece.position ≡ number_of before.at piece.donor.0)
    × (rule ≡ rule_in piece.donor.0 piece.id piece.what before.pool) × (after ≡ taken piece before)
Comes piece before (Repeated at) after =
    (at ≡ number_of before.at piece.donor.0) × (piece.position < at) × (after ≡ before)
Comes piece before (Ahead at got) after =
    (at ≡ number_of before.at piece.donor.0) × (got ≡ piece.position) × (at < piece.position) × (after ≡ before)
Comes piece before NoMemory after = (piece.position ≡ number_of before.at piece.donor.0) × (after ≡ before)

-- what comes of the room: an insert uses one, and what is wanted was wanted for a cause
abbrev pub LeavesRoom : Piece → Roomy LaneOf → Applying → Roomy LaneOf → Type 0
LeavesRoom piece before (Applied rule) after = before.spare ≤ after.spare + room_for piece.what
LeavesRoom piece before (Repeated at) after = after.spare ≡ before.spare
LeavesRoom piece before (Ahead at got) after = after.spare ≡ before.spare
LeavesRoom piece before NoMemory after =
    MayWant piece.donor.0 piece.id piece.what (record { state = before.state.pool; spare = before.spare })
    × (before.spare ≤ after.spare)
