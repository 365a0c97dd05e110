-- The rows of links.
use Rattle.std.proofs.Common.{◌<◌, arith}
use Rattle.resh_fetcher.specs.Laws.{StandsOn}
use Rattle.resh_setup.specs.Validity.{IsValid}
use Rattle.resh_setup.specs.declared.setup.Setup.{Setup}
use Rattle.resh_link_rows.specs.Laws.{LinkRowsKeep}
use Rattle.resh_link_rows.proofs.Cloning.{clone_keeps}
use Rattle.resh_link_rows.proofs.Cutting.{cut_keeps}
use Rattle.resh_link_rows.proofs.Fetching.{fetch_keeps}
use Rattle.resh_link_rows.proofs.Recording.{record_keeps}

some_lane : (setup : Setup) → IsValid setup → 0 < setup.lanes
some_lane setup valid = let some = valid.sizes.some_lanes in omega (arith, some)

pub link_rows_keep : StandsOn → LinkRowsKeep
link_rows_keep stands = record {
  clone = λ setup state clones cluster r d keeps is. clone_keeps stands setup state clones cluster keeps r d is;
  fetch = λ setup state clones cluster r d keeps is. fetch_keeps stands setup state clones cluster keeps r d is;
  cut = λ setup state clones cluster r d stamp valid keeps is below. cut_keeps stands setup (some_lane setup valid) state clones cluster keeps r d is stamp below;
  record_kept = λ setup state clones cluster r d keeps is. record_keeps stands setup state clones cluster keeps r d is;
}
