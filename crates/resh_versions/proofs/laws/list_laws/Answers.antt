use Rattle.resh_versions.proofs.GoingOn.{lists_go_on}
use Rattle.resh_versions.proofs.KeptLists.{keeps_lists}
use Rattle.resh_versions.proofs.Listing.{stands_by_reading, stands_now}
use Rattle.resh_versions.proofs.laws.list_laws.Goals as goal

pub returns-clause-stands : goal.returns-clause-stands
returns-clause-stands c = stands_by_reading

pub returns-clause-stands_now : goal.returns-clause-stands_now
returns-clause-stands_now c = stands_now

pub returns-clause-keeps : goal.returns-clause-keeps
returns-clause-keeps c = keeps_lists

pub returns-clause-goes_on : goal.returns-clause-goes_on
returns-clause-goes_on c = lists_go_on
