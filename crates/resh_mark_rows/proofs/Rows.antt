-- The rows that decide the fetch time and the mark.
use Rattle.resh_mark_rows.specs.Laws.{MarkRowsKeep}
use Rattle.resh_mark_rows.proofs.Deciding.{mark_comes, mark_keeps}
use Rattle.resh_mark_rows.proofs.FetchTimes.{preparing_keeps}

pub mark_rows_keep : MarkRowsKeep
mark_rows_keep = record {
  fetch_time = λ setup state clones cluster stamp keeps is preparing set. preparing_keeps setup state clones cluster keeps preparing is stamp set;
  mark = λ setup state clones cluster stamp valid keeps is blocking.
      (mark_comes setup valid state clones cluster keeps blocking is, mark_keeps setup valid state clones cluster keeps blocking is stamp);
}
