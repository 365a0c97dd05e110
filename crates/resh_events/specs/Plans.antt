-- Schedules that keep a plan: each event met what the calls of its activity give, and each link goes back after a
-- crash of its own.
use Rattle.std.specs.Prelude.{◌≡◌, ◌<◌, ◌⊎◌, ⊤, ℕ, ◌-◌, Bool, true, false, cond, List, [], ◌∷◌, Option, None}
use Rattle.resh_luck.specs.Fates.{loses, next_fate}
use Rattle.resh_luck.specs.declared.fate.Fate.{Fate}
use Rattle.resh_luck.specs.declared.fate.Fate.TheVariants as fate
use Rattle.resh_setup.specs.declared.event.Event.{Event}
use Rattle.resh_setup.specs.declared.event.Event.TheVariants.{Crash}
use Rattle.resh_setup.specs.declared.plan.Who.{Who}
use Rattle.resh_setup.specs.declared.plan.Who.TheVariants.{Link}
use Rattle.resh_setup.specs.declared.setup.Setup.{Setup}
use Rattle.resh_model.specs.Licence.{same_who}
use Rattle.resh_events.specs.Follows.{limit}
use Rattle.resh_events.specs.Luck.{Asks, quiet, commits, delivers}
use Rattle.resh_events.specs.Lucks.{Lucks, told_of}
use Rattle.resh_events.specs.Runs.{Moment, Run, after, asked_by}
use Rattle.resh_setup.specs.declared.trace.Met.{Met}
use Rattle.resh_setup.specs.declared.trace.Met.TheVariants.{Row, CrashedBefore, CrashedAfter, Failed, Lost, NoMemory, NoMemoryInMove}

abbrev pub met_of : Fate → Met
met_of fate.Kept = Row
met_of fate.CrashedBefore = CrashedBefore
met_of fate.CrashedAfter = CrashedAfter
met_of fate.Failed = Failed

-- a repeat and fewer losses than the limit give the row
abbrev pub tried : Bool → Met
tried true = Lost
tried false = Row

-- what the calls give
abbrev pub given_by : Setup → Lucks → Asks → Met
given_by setup lucks quiet = Row
given_by setup lucks (commits who) = met_of (next_fate (told_of setup lucks who))
given_by setup lucks (delivers who) = tried (loses limit (told_of setup lucks who))

abbrev pub IsWant : Met → Type 0
IsWant met = (met ≡ NoMemory) ⊎ (met ≡ NoMemoryInMove)

-- it met what the calls give, or want of memory
abbrev pub Answers : Setup → Run → Moment → Type 0
Answers setup run m = (m.made.met ≡ given_by setup run.lucks (asked_by run m)) ⊎ IsWant m.made.met

-- how many crashes of each link are free: the steps of a file that crash it
abbrev pub Free : Type 0
Free = Who → ℕ

-- a crash that follows no other event is one of the free ones
abbrev pub MayCrash : Free → Event → Option ℕ → Type 0
MayCrash free (Crash r d) None = 0 < free (Link r d)
MayCrash free other place = ⊤

abbrev pub one_less : Who → Free → Free
one_less who free = λ w. cond (same_who w who) (free w - 1) (free w)

abbrev pub free_after : Free → Event → Option ℕ → Free
free_after free (Crash r d) None = one_less (Link r d) free
free_after free other place = free

abbrev pub KeepsPlan : Setup → Free → Run → List Moment → Type 0
KeepsPlan setup free run [] = ⊤
KeepsPlan setup free run (m ∷ ms) =
    Answers setup run m × MayCrash free m.made.event m.given.place
    × KeepsPlan setup (free_after free m.made.event m.given.place) (after setup run m) ms
