use Rattle.std.proofs.Common.{◌≡◌, ◌+◌, length}
use Rattle.resh_feed.specs.Lanes.{counts_after}
use Rattle.resh_split.specs.Parts.{parts_of, pieces_from}
use Rattle.resh_split.proofs.splitting.split.Given as goal

abbrev pub invariant-loop-what : goal.invariant-loop-what
invariant-loop-what l =
    record {
      lanes : l.deal.lanes ≡ l.fn.lanes;
      place : l.place ≡ l.fn.batch.place + length l.yielded;
      counts : l.deal.counts.items ≡ counts_after l.fn.lanes l.fn.batch.starts l.yielded;
      many : length l.deal.counts.items ≡ l.fn.lanes;
      each : length l.deal.parts.items ≡ l.fn.lanes;
      parts : l.deal.parts.items ≡ parts_of l.fn.lanes (pieces_from l.fn.lanes l.fn.batch.donor l.fn.batch.time l.fn.batch.place l.fn.batch.starts l.yielded);
    }
