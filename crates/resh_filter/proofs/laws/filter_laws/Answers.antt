use Rattle.resh_filter.proofs.MatchLemmas.{matches_by_name, matches_own_fields, matches_itself, null_is_missing, empty_matches_all}
use Rattle.resh_filter.proofs.laws.filter_laws.Goals as goal

pub returns-clause-by_name : goal.returns-clause-by_name
returns-clause-by_name c = matches_by_name

pub returns-clause-own_fields : goal.returns-clause-own_fields
returns-clause-own_fields c = matches_own_fields

pub returns-clause-itself : goal.returns-clause-itself
returns-clause-itself c = matches_itself

pub returns-clause-null : goal.returns-clause-null
returns-clause-null c = null_is_missing

pub returns-clause-empty : goal.returns-clause-empty
returns-clause-empty c = empty_matches_all
