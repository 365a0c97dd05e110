-- What one more item makes of a batch that is being split.
use Rattle.std.specs.Prelude.{◌≡◌, ◌<◌, Option, length}
use Rattle.std.specs.Option.{option_map}
use Rattle.resh_value.specs.declared.value.Value.{Value}
use Rattle.resh_oplog.specs.declared.entry.What.{What}
use Rattle.resh_feed.specs.Lanes.{counted, id_lane}
use Rattle.resh_split.specs.Parts.{pieces_of, put_all}
use Rattle.resh_split.specs.declared.splitting.Deal.{Deal}
use Rattle.resh_split.specs.declared.splitting.Origin.{Origin}

-- there is a lane, and each has a position and a part
pub record IsDeal (deal : Deal) : Type 0 where
  pub some_lane : 0 < deal.lanes
  pub counts : length deal.counts.items ≡ deal.lanes
  pub parts : length deal.parts.items ≡ deal.lanes

-- one more item is put at the end of its lane's part and counted, where it writes an `_id`
pub record HasMore (before : Deal) (origin : Origin) (what : What) (id : Option Value) (after : Deal) : Type 0 where
  pub lanes : after.lanes ≡ before.lanes
  pub counts : after.counts.items ≡ counted before.counts.items (option_map (λ id. id_lane id before.lanes) id)
  pub parts :
      after.parts.items
      ≡ put_all before.lanes before.parts.items
      (pieces_of before.lanes origin.donor origin.time origin.place before.counts.items what id)
