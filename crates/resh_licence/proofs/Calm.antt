-- Without a plan and without crashes nothing is licensed.
use Rattle.std.proofs.Common.{◌≡◌, ◌<◌, ◌≤◌, ℕ, suc, ◌+◌, Bool, true, false, ◌||◌, cond, inl, inr, List, [], ◌∷◌, length, filter, Some, None, refl, sym, subst, arith}
use Rattle.std.specs.List.{All, Contains, list_any}
use Rattle.resh_coord.specs.declared.cause.Cause.TheVariants as cause
use Rattle.resh_coord.specs.declared.cause.End.TheVariants.{Aborted}
use Rattle.resh_coord.specs.declared.cause.Node.TheVariants.{Shard}
use Rattle.resh_coord.specs.declared.cause.Why.TheVariants as why
use Rattle.resh_luck.specs.declared.row.PlanFate.TheVariants as fate
use Rattle.resh_luck.specs.declared.row.PlanFate.{PlanFate}
use Rattle.resh_setup.specs.declared.event.Event.{Event}
use Rattle.resh_setup.specs.declared.event.Event.TheVariants.{Crash}
use Rattle.resh_setup.specs.declared.plan.Planned.{Planned}
use Rattle.resh_setup.specs.declared.plan.Who.{Who}
use Rattle.resh_setup.specs.declared.plan.Who.TheVariants.{Coordinator, Link, Lane}
use Rattle.resh_model.specs.Licence.{Crashes, LicensesNone, crash_steps, is_crash_of}
use Rattle.resh_events.specs.Plans.{Free}
use Rattle.resh_licence.specs.Laws.{CalmFilesLicenseNone, CalmFilesNeverFail, CalmLinksFailForMemory, CalmNeverFails, EmptyPlanNeverFails, LicensedByNone, is_crash, none_free}
use Rattle.resh_licence.specs.Causes.{HasWanted}
use Rattle.resh_licence.proofs.Licensed.{ends_are_licensed, links_are_licensed}
use Rattle.resh_licence.proofs.Stepping.{files_are_licensed}

nowhere : {X : Type 0} (x : X) → Contains [] x → ⊥
nowhere x c = let lt = c.1 in omega arith

no_fate : (f : PlanFate) → None ≡ Some f → ⊥
no_fate f e = cc

no_crash : false ≡ true → ⊥
no_crash e = cc

-- no commit crashes by an empty plan
none_crash : (who : Who) (commits : List (Who × ℕ)) → All (Crashes [] who) commits → length commits ≡ 0
none_crash who [] all = refl
none_crash who (commit ∷ commits) all = absurd (no_crash (all 0 commit (some (length commits))).crashes)
  where
    some : (n : ℕ) → 0 < suc n
    some n = omega arith

too_few : (a b : ℕ) → a ≡ 0 → b ≡ 0 → 64 ≤ a + b → ⊥
too_few a b e q le = omega arith

empty_licenses : (free : Free) → ((who : Who) → free who ≡ 0) → LicensesNone [] free
empty_licenses free none n why.Commit l = nowhere l.planned l.there
empty_licenses free none n why.Link l = no_fate fate.Lost (l.lost l.first (omega arith) (omega arith))
empty_licenses free none n why.Crashes l = too_few (length l.commits) (free l.who) (none_crash l.who l.commits l.crash) (none l.who) l.enough

pub licensed_by_none : LicensedByNone
licensed_by_none = empty_licenses (λ who. 0) (λ who. refl)

neither : (a b : Bool) → (a || b) ≡ false → (a ≡ false) × (b ≡ false)
neither true b e = cc
neither false b e = (refl, e)

-- no step of the list crashes a link
not_of : (who : Who) (event : Event) → is_crash event ≡ false → is_crash_of who event ≡ false
not_of Coordinator event e = refl
not_of (Lane r d l) event e = refl
not_of (Link r d) (Crash s f) e = cc
not_of (Link r d) other e = refl

none_of : (who : Who) (events : List Event) → list_any is_crash events ≡ false → length (filter (is_crash_of who) events) ≡ 0
none_of who [] e = refl
none_of who (event ∷ events) e =
    let two = neither (is_crash event) (list_any is_crash events) e in
    by (is_crash_of who event) (not_of who event two.0) (none_of who events two.1)
  where
    by : (b : Bool) → b ≡ false → length (filter (is_crash_of who) events) ≡ 0
        → length (cond b (event ∷ filter (is_crash_of who) events) (filter (is_crash_of who) events)) ≡ 0
    by true q ih = cc
    by false q ih = ih

pub calm_files_license_none : CalmFilesLicenseNone
calm_files_license_none setup plan steps =
    subst (λ (rows : List Planned). LicensesNone rows (crash_steps setup)) (sym plan)
    (empty_licenses (crash_steps setup) (λ who. none_of who setup.steps steps))

pub calm_never_fails : CalmNeverFails
calm_never_fails setup free trace last n w none is e =
    none n w (ends_are_licensed setup free trace last (Aborted (cause.Failed n w)) is e)

pub empty_plan_never_fails : EmptyPlanNeverFails
empty_plan_never_fails setup trace last n w plan is e =
    calm_never_fails setup none_free trace last n w
    (subst (λ (rows : List Planned). LicensesNone rows none_free) (sym plan) licensed_by_none) is e

pub calm_files_never_fail : CalmFilesNeverFail
calm_files_never_fail setup steps swept n w plan calm made sweeps e =
    calm_files_license_none setup plan calm n w
    (files_are_licensed setup steps swept (Aborted (cause.Failed n w)) made sweeps e)

pub calm_links_fail_for_memory : CalmLinksFailForMemory
calm_links_fail_for_memory setup free trace last r d none is h =
    elim (links_are_licensed setup free trace last r d is h) as (λ z. HasWanted trace r d) [
      | inl licensed ↦ absurd (none (Shard r) licensed.0 licensed.1)
      | inr wanted ↦ wanted
    ]
