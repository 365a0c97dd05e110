use Rattle.std.proofs.Common.{◌≡◌, ◌+◌, ◌++◌, length}
use Rattle.resh_report.specs.Page.{holdings_lines}
use Rattle.resh_report.proofs.pages.append_holdings.Given as goal

abbrev pub invariant-loop-rest : goal.invariant-loop-rest
invariant-loop-rest l = record {
  written : l.out.items ++ holdings_lines l.names l.place l.rest ≡ l.initial.out.items ++ holdings_lines l.names 0 l.holdings;
  count : l.place + length l.rest ≡ length l.holdings;
}

abbrev pub decreases-loop-rest : goal.decreases-loop-rest
decreases-loop-rest l = length l.rest
