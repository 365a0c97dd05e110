-- A lane as it opens, by the number of donors.
use Rattle.std.specs.Prelude.{ℕ}
use Rattle.resh_rules.specs.Pools.{empty_pool}
use Rattle.resh_lane.specs.Lanes as lane
use Rattle.resh_setup.specs.declared.setup.Setup.{Setup}

abbrev pub opening_lane_of : Setup → ℕ → lane.LaneOf
opening_lane_of setup donors = lane.fresh (empty_pool setup.old_map donors) donors
