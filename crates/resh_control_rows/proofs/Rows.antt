-- The rows of the coordinator.
use Rattle.resh_fetcher.specs.Laws.{StandsOn}
use Rattle.resh_control_rows.specs.Laws.{ControlRowsKeep}
use Rattle.resh_control_rows.proofs.Advancing.{advance_keeps}
use Rattle.resh_control_rows.proofs.Beginning.{begin_keeps}
use Rattle.resh_control_rows.proofs.Dropping.{drop_keeps, fail_keeps}
use Rattle.resh_control_rows.proofs.Reporting.{report_keeps}

pub control_rows_keep : StandsOn → ControlRowsKeep
control_rows_keep stands = record {
  begin = λ setup state clones cluster keeps is. begin_keeps setup state clones cluster keeps is;
  advance = λ setup state clones cluster stamp keeps is plain. advance_keeps setup state clones cluster keeps is stamp plain;
  report = λ setup state clones cluster r keeps is. report_keeps stands setup state clones cluster keeps r is;
  fail = λ setup state clones cluster named cause keeps. fail_keeps setup state clones cluster keeps cause named;
  drop = λ setup state clones cluster cause keeps none. drop_keeps setup state clones cluster keeps cause none;
}
