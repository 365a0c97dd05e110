-- Failures in schedules: each has its cause, and in one that keeps the plan its licence.
use Rattle.std.specs.Prelude.{◌≡◌, ◌⊎◌, Bool, true, false, List, [], ◌++◌, Option, Some}
use Rattle.std.specs.List.{list_any}
use Rattle.resh_value.specs.declared.value.ShardId.{ShardId}
use Rattle.resh_coord.specs.declared.cause.Cause.TheVariants as cause
use Rattle.resh_coord.specs.declared.cause.End.{End}
use Rattle.resh_coord.specs.declared.cause.End.TheVariants.{Aborted}
use Rattle.resh_coord.specs.declared.cause.Node.{Node}
use Rattle.resh_coord.specs.declared.cause.Node.TheVariants.{Shard}
use Rattle.resh_coord.specs.declared.cause.Why.{Why}
use Rattle.resh_setup.specs.declared.event.Event.{Event}
use Rattle.resh_setup.specs.declared.event.Event.TheVariants.{Crash}
use Rattle.resh_setup.specs.declared.setup.Setup.{Setup}
use Rattle.resh_setup.specs.declared.trace.Made.{Made}
use Rattle.resh_model.specs.Licence.{HasLicence, IsLicensed, LicensesNone, crash_steps}
use Rattle.resh_cells.specs.Cells.{link_in}
use Rattle.resh_events.specs.Plans.{Free}
use Rattle.resh_events.specs.Runs.{Moment, Run, after_all, opening_run}
use Rattle.resh_events.specs.Schedules.{IsTrace, trace_of}
use Rattle.resh_events.specs.Sweep.{Makes, Sweeps}
use Rattle.resh_licence.specs.Causes.{HasHappened, HasWanted}
use Rattle.resh_licence.specs.Keeping.{HasFree, IsPaid, IsPlannedTrace, Keep, MakeAll}

-- the coordinator's end
abbrev pub end_of : Run → Option End
end_of run = run.cluster.control.decision

abbrev pub has_failed : Run → ShardId → ShardId → Bool
has_failed run r d = (link_in run.cluster r.0 d.0).link.failed

-- a failure has happened, in every schedule
abbrev pub EndsHaveCauses : Type 0
EndsHaveCauses = (setup : Setup) (trace : List Made) (last : Run) (n : Node) (w : Why) → IsTrace setup trace last
    → end_of last ≡ Some (Aborted (cause.Failed n w)) → HasHappened trace n w

-- a link fails by what happened at its recipient, or for want of memory
abbrev pub LinksHaveCauses : Type 0
LinksHaveCauses = (setup : Setup) (trace : List Made) (last : Run) (r d : ShardId) → IsTrace setup trace last
    → has_failed last r d ≡ true → ((w : Why) × HasHappened trace (Shard r) w) ⊎ HasWanted trace r d

-- where the plan is kept, an end has a licence
abbrev pub EndsAreLicensed : Type 0
EndsAreLicensed = (setup : Setup) (free : Free) (trace : List Made) (last : Run) (end : End)
    → IsPlannedTrace setup free trace last → end_of last ≡ Some end → HasLicence setup.plan free end

-- and a link that has failed, but for want of memory
abbrev pub LinksAreLicensed : Type 0
LinksAreLicensed = (setup : Setup) (free : Free) (trace : List Made) (last : Run) (r d : ShardId)
    → IsPlannedTrace setup free trace last → has_failed last r d ≡ true
    → ((w : Why) × IsLicensed setup.plan free (Shard r) w) ⊎ HasWanted trace r d

-- no crash is free
abbrev pub none_free : Free
none_free = λ who. 0

-- an empty plan without crashes licenses no failure
abbrev pub LicensedByNone : Type 0
LicensedByNone = LicensesNone [] none_free

abbrev pub is_crash : Event → Bool
is_crash (Crash r d) = true
is_crash other = false

-- nor does a file that has no plan and no step that crashes a link
abbrev pub CalmFilesLicenseNone : Type 0
CalmFilesLicenseNone = (setup : Setup) → setup.plan ≡ [] → list_any is_crash setup.steps ≡ false
    → LicensesNone setup.plan (crash_steps setup)

-- where nothing is licensed, no failure is the end
abbrev pub CalmNeverFails : Type 0
CalmNeverFails = (setup : Setup) (free : Free) (trace : List Made) (last : Run) (n : Node) (w : Why)
    → LicensesNone setup.plan free → IsPlannedTrace setup free trace last
    → end_of last ≡ Some (Aborted (cause.Failed n w)) → ⊥

-- with an empty plan and no free crash
abbrev pub EmptyPlanNeverFails : Type 0
EmptyPlanNeverFails = (setup : Setup) (trace : List Made) (last : Run) (n : Node) (w : Why) → setup.plan ≡ []
    → IsPlannedTrace setup none_free trace last → end_of last ≡ Some (Aborted (cause.Failed n w)) → ⊥

-- and what a file makes that has no plan and no step that crashes a link
abbrev pub CalmFilesNeverFail : Type 0
CalmFilesNeverFail = (setup : Setup) (steps swept : List Moment) (n : Node) (w : Why) → setup.plan ≡ []
    → list_any is_crash setup.steps ≡ false → MakeAll setup (opening_run setup) setup.steps steps
    → Sweeps setup (after_all setup (opening_run setup) steps) swept
    → end_of (after_all setup (opening_run setup) (steps ++ swept)) ≡ Some (Aborted (cause.Failed n w)) → ⊥

-- a link then fails for want of memory alone
abbrev pub CalmLinksFailForMemory : Type 0
CalmLinksFailForMemory = (setup : Setup) (free : Free) (trace : List Made) (last : Run) (r d : ShardId)
    → LicensesNone setup.plan free → IsPlannedTrace setup free trace last → has_failed last r d ≡ true
    → HasWanted trace r d

-- what a step makes
abbrev pub StepsKeepPlans : Type 0
StepsKeepPlans = (setup : Setup) (free : Free) (run : Run) (event : Event) (moments : List Moment) → IsPaid run
    → HasFree free event → Makes setup run event moments → Keep setup free run moments

-- what a sweep makes
abbrev pub SweepsKeepPlans : Type 0
SweepsKeepPlans = (setup : Setup) (free : Free) (run : Run) (moments : List Moment) → IsPaid run
    → Sweeps setup run moments → Keep setup free run moments

-- what a file's steps and the sweep make from the opening state, with the lucks that the plan says
abbrev pub FilesKeepPlans : Type 0
FilesKeepPlans = (setup : Setup) (steps swept : List Moment) → MakeAll setup (opening_run setup) setup.steps steps
    → Sweeps setup (after_all setup (opening_run setup) steps) swept
    → IsPlannedTrace setup (crash_steps setup) (trace_of (steps ++ swept))
    (after_all setup (opening_run setup) (steps ++ swept))

-- so its end has a licence
abbrev pub FilesAreLicensed : Type 0
FilesAreLicensed = (setup : Setup) (steps swept : List Moment) (end : End)
    → MakeAll setup (opening_run setup) setup.steps steps
    → Sweeps setup (after_all setup (opening_run setup) steps) swept
    → end_of (after_all setup (opening_run setup) (steps ++ swept)) ≡ Some end
    → HasLicence setup.plan (crash_steps setup) end
