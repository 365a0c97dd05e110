use Rattle.resh_licence.proofs.Calm.{calm_files_license_none, calm_files_never_fail, calm_links_fail_for_memory, calm_never_fails, empty_plan_never_fails, licensed_by_none}
use Rattle.resh_licence.proofs.laws.calm_runs_never_fail.Goals as goal

pub returns-clause-none : goal.returns-clause-none
returns-clause-none c = licensed_by_none

pub returns-clause-none_of_file : goal.returns-clause-none_of_file
returns-clause-none_of_file c = calm_files_license_none

pub returns-clause-ends : goal.returns-clause-ends
returns-clause-ends c = calm_never_fails

pub returns-clause-schedules : goal.returns-clause-schedules
returns-clause-schedules c = empty_plan_never_fails

pub returns-clause-files : goal.returns-clause-files
returns-clause-files c = calm_files_never_fail

pub returns-clause-links : goal.returns-clause-links
returns-clause-links c = calm_links_fail_for_memory
