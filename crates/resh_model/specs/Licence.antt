-- Which failures a plan and the file's crashes give leave to.
use Rattle.std.specs.Prelude.{◌≡◌, ⊤, ℕ, ◌+◌, ◌<◌, ◌≤◌, Bool, true, false, ◌&&◌, ◌==◌, nat_le, List, length, filter, find, Option, Some, None}
use Rattle.std.specs.List.{All, AllPairs, Contains}
use Rattle.std.specs.Option.{option_map_or}
use Rattle.resh_luck.specs.declared.row.Kind.{Kind}
use Rattle.resh_luck.specs.declared.row.Kind.TheVariants.{Commit as ToCommit, Deliver}
use Rattle.resh_luck.specs.declared.row.PlanFate.{PlanFate}
use Rattle.resh_luck.specs.declared.row.PlanFate.TheVariants as fate
use Rattle.resh_luck.specs.declared.row.PlanRow.{PlanRow}
use Rattle.resh_coord.specs.declared.cause.Cause.{Cause}
use Rattle.resh_coord.specs.declared.cause.Cause.TheVariants as cause
use Rattle.resh_coord.specs.declared.cause.End.{End}
use Rattle.resh_coord.specs.declared.cause.End.TheVariants.{Committed, Aborted}
use Rattle.resh_coord.specs.declared.cause.Node.{Node}
use Rattle.resh_coord.specs.declared.cause.Node.TheVariants as node
use Rattle.resh_coord.specs.declared.cause.Why.{Why}
use Rattle.resh_coord.specs.declared.cause.Why.TheVariants as why
use Rattle.resh_setup.specs.declared.plan.Planned.{Planned}
use Rattle.resh_setup.specs.declared.plan.Who.{Who}
use Rattle.resh_setup.specs.declared.setup.Setup.{Setup}
use Rattle.resh_setup.specs.declared.event.Event.{Event}
use Rattle.resh_setup.specs.declared.event.Event.TheVariants.{Crash}
use Rattle.resh_setup.specs.declared.plan.Who.TheVariants.{Coordinator, Link, Lane}

abbrev pub same_kind : Kind → Kind → Bool
same_kind ToCommit ToCommit = true
same_kind ToCommit Deliver = false
same_kind Deliver ToCommit = false
same_kind Deliver Deliver = true

abbrev pub same_who : Who → Who → Bool
same_who Coordinator Coordinator = true
same_who (Link r d) (Link s e) = (r.0 == s.0) && (d.0 == e.0)
same_who (Lane r d l) (Lane s e m) = (r.0 == s.0) && (d.0 == e.0) && (l == m)
same_who who other = false

-- the row speaks of the step of this activity, kind and number, counted from 1
abbrev pub has_step : Who → Kind → ℕ → Planned → Bool
has_step who kind number p = same_who p.who who && same_kind p.row.kind kind && nat_le p.row.first number
    && nat_le number p.row.last

-- what a step meets: the first row that has it says so, and without one nothing happens to it
abbrev pub met : List Planned → Who → Kind → ℕ → Option PlanFate
met plan who kind number = option_map_or (λ p. Some p.row.fate) (find (has_step who kind number) plan) None

-- the activities of a node: a shard has those whose recipient it is
abbrev pub is_of : Node → Who → Bool
is_of node.Coordinator Coordinator = true
is_of (node.Shard s) (Link recipient donor) = s.0 == recipient.0
is_of (node.Shard s) (Lane recipient donor lane) = s.0 == recipient.0
is_of n who = false

-- the activities of one link, or the coordinator's
abbrev pub is_beside : Who → Who → Bool
is_beside Coordinator Coordinator = true
is_beside (Link r d) (Link s e) = (r.0 == s.0) && (d.0 == e.0)
is_beside (Link r d) (Lane s e lane) = (r.0 == s.0) && (d.0 == e.0)
is_beside who other = false

abbrev pub is_crash : Option PlanFate → Bool
is_crash (Some fate.CrashedBefore) = true
is_crash (Some fate.CrashedAfter) = true
is_crash other = false

-- a commit at which the plan has an activity of a link, or the coordinator, crash
pub record Crashes (plan : List Planned) (who : Who) (commit : Who × ℕ) : Type 0 where
  pub beside : is_beside who commit.0 ≡ true
  pub crashes : is_crash (met plan commit.0 ToCommit commit.1) ≡ true

abbrev pub AreApart : Who × ℕ → Who × ℕ → Type 0
AreApart a b = (same_who a.0 b.0 && (a.1 == b.1)) ≡ false

-- a row of the node gives a commit that fails; 64 deliveries of one of its activities in a row are lost; or the commits
-- at which one of its links crashes, or the coordinator, are together with the file's crashes of it at least 64
pub record FailsToCommit (plan : List Planned) (n : Node) : Type 0 where
  pub planned : Planned
  pub there : Contains plan planned
  pub of_node : is_of n planned.who ≡ true
  pub fails : planned.row.fate ≡ fate.Failed

pub record LosesLink (plan : List Planned) (n : Node) : Type 0 where
  pub who : Who
  pub of_node : is_of n who ≡ true
  pub first : ℕ
  pub lost : (number : ℕ) → first ≤ number → number < first + 64 → met plan who Deliver number ≡ Some fate.Lost

pub record CrashesOften (plan : List Planned) (crash_steps : Who → ℕ) (n : Node) : Type 0 where
  pub who : Who
  pub of_node : is_of n who ≡ true
  pub commits : List (Who × ℕ)
  pub apart : AllPairs AreApart commits
  pub crash : All (Crashes plan who) commits
  pub enough : 64 ≤ length commits + crash_steps who

abbrev pub IsLicensed : List Planned → (Who → ℕ) → Node → Why → Type 0
IsLicensed plan crash_steps n why.Commit = FailsToCommit plan n
IsLicensed plan crash_steps n why.Link = LosesLink plan n
IsLicensed plan crash_steps n why.Crashes = CrashesOften plan crash_steps n

-- no failure is licensed
abbrev pub LicensesNone : List Planned → (Who → ℕ) → Type 0
LicensesNone plan crash_steps = (n : Node) (w : Why) → IsLicensed plan crash_steps n w → ⊥

-- the step crashes the link
abbrev pub is_crash_of : Who → Event → Bool
is_crash_of (Link r d) (Crash s e) = (r.0 == s.0) && (d.0 == e.0)
is_crash_of who event = false

-- how many steps of a file crash each link
abbrev pub crash_steps : Setup → Who → ℕ
crash_steps setup who = length (filter (is_crash_of who) setup.steps)

-- an end names a failure only where it is licensed
abbrev pub HasLicence : List Planned → (Who → ℕ) → End → Type 0
HasLicence plan crash_steps Committed = ⊤
HasLicence plan crash_steps (Aborted (cause.Clash shard id)) = ⊤
HasLicence plan crash_steps (Aborted (cause.Asked client number)) = ⊤
HasLicence plan crash_steps (Aborted (cause.Failed n w)) = IsLicensed plan crash_steps n w
HasLicence plan crash_steps (Aborted cause.NoMemory) = ⊤
