use Rattle.std.proofs.Common.{◌≡◌, take}
use Rattle.std.specs.List.{All}
use Rattle.resh_lane.specs.Lanes.{emptied}
use Rattle.resh_versions.specs.Chains.{IsStored}
use Rattle.resh_events.specs.rows.Tell.{outputs}
use Rattle.resh_telling.proofs.Changing.{partly}
use Rattle.resh_telling.proofs.lanes.finish_all.Given as goal

abbrev pub invariant-loop-place : goal.invariant-loop-place
invariant-loop-place l = record {
  lanes : l.lanes ≡ partly emptied l.place l.fn.lanes;
  documents : l.documents.items ≡ outputs (take l.place l.fn.lanes);
  whole : All IsStored l.documents.items;
}
