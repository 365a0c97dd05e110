-- The steps and the plan's rows that a file may have, over so many shards, lanes and clients.
use Rattle.std.specs.Prelude.{ℕ, ◌^◌, Bool, true, false, ◌&&◌, nat_lt, nat_le}
use Rattle.resh_value.specs.declared.value.ShardId.{ShardId}
use Rattle.resh_luck.specs.declared.row.Kind.{Kind}
use Rattle.resh_luck.specs.declared.row.Kind.TheVariants.{Commit, Deliver}
use Rattle.resh_luck.specs.declared.row.PlanFate.{PlanFate}
use Rattle.resh_luck.specs.declared.row.PlanFate.TheVariants.{CrashedBefore, CrashedAfter, Failed, Lost, Twice}
use Rattle.resh_luck.specs.declared.row.PlanRow.{PlanRow}
use Rattle.resh_setup.specs.declared.event.Event.{Event}
use Rattle.resh_setup.specs.declared.event.Event.TheVariants.{Client, Begin, Tell, Retell, Advance, Clone, Fetch, Cut, Apply, Again, Record, Crash, Report, Fail}
use Rattle.resh_setup.specs.declared.plan.Who.{Who}
use Rattle.resh_setup.specs.declared.plan.Who.TheVariants.{Coordinator, Link, Lane}
use Rattle.resh_setup.specs.declared.plan.Planned.{Planned}

-- a fate is one of its kind
abbrev pub is_of_kind : Kind → PlanFate → Bool
is_of_kind Commit CrashedBefore = true
is_of_kind Commit CrashedAfter = true
is_of_kind Commit Failed = true
is_of_kind Commit Lost = false
is_of_kind Commit Twice = false
is_of_kind Deliver CrashedBefore = false
is_of_kind Deliver CrashedAfter = false
is_of_kind Deliver Failed = false
is_of_kind Deliver Lost = true
is_of_kind Deliver Twice = true

-- numbers from 1 to 100,000
abbrev pub is_row : PlanRow → Bool
is_row row = nat_lt 0 row.first && nat_le row.first row.last && nat_le row.last 100000 && is_of_kind row.kind row.fate

module _ (shards : ℕ) where
  abbrev pub is_shard : ShardId → Bool
  is_shard shard = nat_lt shard.0 shards

  abbrev pub is_link : ShardId → ShardId → Bool
  is_link recipient donor = is_shard recipient && is_shard donor

  module _ (lanes : ℕ) where
    abbrev pub is_lane : ShardId → ShardId → ℕ → Bool
    is_lane recipient donor lane = is_link recipient donor && nat_lt lane lanes

    abbrev pub is_who : Who → Bool
    is_who Coordinator = true
    is_who (Link recipient donor) = is_link recipient donor
    is_who (Lane recipient donor lane) = is_lane recipient donor lane

    abbrev pub is_planned : Planned → Bool
    is_planned planned = is_who planned.who && is_row planned.row

    -- a step names what is there, and is no failure
    module _ (clients : ℕ) where
      abbrev pub is_step : Event → Bool
      is_step (Client client) = nat_lt client clients
      is_step Begin = true
      is_step (Tell shard) = is_shard shard
      is_step (Retell shard message) = is_shard shard
      is_step Advance = true
      is_step (Clone recipient donor) = is_link recipient donor
      is_step (Fetch recipient donor) = is_link recipient donor
      is_step (Cut recipient donor) = is_link recipient donor
      is_step (Apply recipient donor lane) = is_lane recipient donor lane
      is_step (Again recipient donor lane position) = is_lane recipient donor lane && nat_lt position (10 ^ 9)
      is_step (Record recipient donor) = is_link recipient donor
      is_step (Crash recipient donor) = is_link recipient donor
      is_step (Report recipient) = is_shard recipient
      is_step (Fail link cause) = false
