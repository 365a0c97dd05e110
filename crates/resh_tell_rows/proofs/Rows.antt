-- The rows in which a shard is told something.
use Rattle.resh_fetcher.specs.Laws.{StandsOn}
use Rattle.resh_tell_rows.specs.Laws.{TellRowsKeep}
use Rattle.resh_tell_rows.proofs.Blocking.{block_keeps}
use Rattle.resh_tell_rows.proofs.Donating.{donate_keeps}
use Rattle.resh_tell_rows.proofs.Installing.{install_keeps}
use Rattle.resh_tell_rows.proofs.Preparing.{prepare_keeps}
use Rattle.resh_tell_rows.proofs.Releasing.{release_keeps}

pub tell_rows_keep : StandsOn → TellRowsKeep
tell_rows_keep stands = record {
  prepare = λ setup state clones cluster s stamp keeps preparing is past. prepare_keeps stands setup state clones cluster keeps s preparing is past stamp;
  donate = λ setup state clones cluster s stamp keeps cloning is past. donate_keeps stands setup state clones cluster keeps s cloning is past stamp;
  block = λ setup state clones cluster s stamp clocks valid keeps blocking is rise control own set node.
      block_keeps stands setup valid state clones cluster keeps s blocking is stamp clocks rise control own set node;
  install = λ setup state clones cluster s stamp valid keeps committing is set later.
      install_keeps stands setup valid state clones cluster keeps s committing is stamp set later;
  release = λ setup state clones cluster s stamp keeps aborting is set. release_keeps stands setup state clones cluster keeps s aborting is stamp set;
  retell = λ setup state clones cluster keeps. keeps;
}
