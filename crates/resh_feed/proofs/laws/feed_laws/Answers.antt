use Rattle.std.proofs.Common.{arith}
use Rattle.resh_oplog.specs.declared.entry.What.{What}
use Rattle.resh_feed.proofs.Absorbing.{absorbed}
use Rattle.resh_feed.proofs.Fitting.{fits_back, fits_at_end, fits_empty, fits_longer, fits_next, formed_at}
use Rattle.resh_feed.proofs.LaneFeeding.{all_formed, own_effects, other_effects}
use Rattle.resh_feed.proofs.Positions.{count_is, item_there}
use Rattle.resh_feed.proofs.GoingOn.{documents_on, entries_on}
use Rattle.resh_feed.proofs.laws.feed_laws.Goals as goal

pub returns-clause-absorbs : goal.returns-clause-absorbs
returns-clause-absorbs c id items place item slot formed is there = absorbed id item (formed_at items formed place item there) items formed place there slot is

pub returns-clause-fits : goal.returns-clause-fits
returns-clause-fits c = record {
  empty = fits_empty;
  next = λ id feed at high slot item formed reached within here fits. fits_next id feed formed at high slot item fits reached within here;
  back = fits_back;
  longer = fits_longer;
  ended = fits_at_end;
}

pub returns-clause-formed : goal.returns-clause-formed
returns-clause-formed c = all_formed

pub returns-clause-lanes : goal.returns-clause-lanes
returns-clause-lanes c = record {
  own = λ id lanes whats slot whole. own_effects id lanes whats whole slot;
  others = λ id lanes lane whats slot whole apart. other_effects id lanes lane apart whats whole slot;
  counts = λ lanes lane whats starts long within. count_is lanes whats starts long lane within;
  place = λ id lanes front what rest is. item_there lanes front what rest id is;
}

pub returns-clause-reads : goal.returns-clause-reads
returns-clause-reads c = record { documents = documents_on; entries = entries_on }
