-- What is known of a run whose schedule keeps the plan: its crashes are those of commits that the plan crashes, and the
-- free ones.
use Rattle.std.proofs.Common.{◌≡◌, ◌<◌, ◌≤◌, ◌⊎◌, inl, inr, ℕ, zero, suc, ◌+◌, ◌-◌, ◌==◌, remove, get_or, Bool, true, false, ◌&&◌, cond, List, [], ◌∷◌, ◌++◌, length, Option, Some, None, refl, sym, ap, ◌∙◌, subst, arith}
use Rattle.std.proofs.lemmas.Bool.Decides.{nat_tests}
use Rattle.std.proofs.lemmas.List.Elements.{All-cons}
use Rattle.std.proofs.lemmas.List.Kept.{AllPairs-cons}
use Rattle.std.specs.List.{All, AllPairs}
use Rattle.std.specs.Option.{option_map}
use Rattle.std.specs.Prelude.{⊤, slice_get}
use Rattle.resh_value.specs.declared.value.ShardId.{ShardId}
use Rattle.resh_luck.specs.Fates as luck
use Rattle.resh_luck.specs.Fates.{Told, next_fate}
use Rattle.resh_luck.specs.declared.fate.Fate.{Fate}
use Rattle.resh_luck.specs.declared.fate.Fate.TheVariants as fate
use Rattle.resh_luck.specs.declared.row.Kind.TheVariants.{Commit}
use Rattle.resh_luck.specs.declared.row.PlanRow.{PlanRow}
use Rattle.resh_coord.specs.declared.cause.Cause.{Cause}
use Rattle.resh_coord.specs.declared.cause.Cause.TheVariants as cause
use Rattle.resh_coord.specs.declared.cause.Node.{Node}
use Rattle.resh_coord.specs.declared.cause.Why.{Why}
use Rattle.resh_coord.specs.declared.cause.Why.TheVariants as why
use Rattle.resh_setup.specs.declared.event.Event.{Event}
use Rattle.resh_setup.specs.declared.event.Event.TheVariants.{Crash, Fail}
use Rattle.resh_setup.specs.declared.plan.Who.{Who}
use Rattle.resh_setup.specs.declared.plan.Who.TheVariants.{Coordinator, Link, Lane}
use Rattle.resh_setup.specs.declared.setup.Setup.{Setup}
use Rattle.resh_setup.specs.declared.trace.Met.{Met}
use Rattle.resh_setup.specs.declared.trace.Met.TheVariants.{Row, CrashedBefore, CrashedAfter, Failed, Lost, NoMemory, NoMemoryInMove}
use Rattle.resh_model.specs.Licence.{AreApart, Crashes, is_beside, is_crash, is_crash_of, same_who}
use Rattle.resh_cells.specs.Cells.{link_in}
use Rattle.resh_cells.specs.declared.cluster.Cluster.{Cluster}
use Rattle.resh_events.specs.Follows.{after_failing, after_fate, after_losses, after_row, failure, follows, limit, only_if, own_link, wanted}
use Rattle.resh_events.specs.Luck.{Asks, quiet, commits, delivers}
use Rattle.resh_events.specs.Lucks.{Lucks, called, rows_of, told_of}
use Rattle.resh_events.specs.Plans.{Answers, Free, IsWant, MayCrash, free_after, given_by, met_of}
use Rattle.resh_events.specs.Runs.{Moment, Owed, Run, after, asked_by, cluster_after, owed_at, owes, without}
use Rattle.resh_events.specs.Schedules.{Follows, Stands}
use Rattle.resh_licence.specs.Causes.{is_crash_met}
use Rattle.resh_licence.proofs.Calling.{IsThere, called_later, crash_counts, reads_alike}
use Rattle.resh_licence.proofs.Controls.{FitCause, FitCauseOf, event_holds, is_counted}
use Rattle.resh_licence.proofs.Fated.{crash_known, crashes}
use Rattle.resh_licence.proofs.Happening.{asked_is, whose}
use Rattle.resh_licence.proofs.Links.{event_moves}
use Rattle.resh_licence.proofs.Numbers.{both, one, same_number, same_shard}
use Rattle.resh_licence.proofs.Shapes.{IsShaped, activity_there, shaped_after}

abbrev pub Call : Type 0
Call = Who × ℕ

-- how many crashes of a link are owed
abbrev pub owed_crashes : Who → List Owed → ℕ
owed_crashes who [] = 0
owed_crashes who (o ∷ os) = one (is_crash_of who o.event) + owed_crashes who os

owed_both : (who : Who) (xs ys : List Owed) → owed_crashes who (xs ++ ys) ≡ owed_crashes who xs + owed_crashes who ys
owed_both who [] ys = omega arith
owed_both who (x ∷ xs) ys = let e = owed_both who xs ys in omega arith

owed_without : (who : Who) (owed : List Owed) (place : ℕ) (o : Owed) → slice_get owed place ≡ Some o
    → one (is_crash_of who o.event) + owed_crashes who (remove owed place) ≡ owed_crashes who owed
owed_without who [] place o e = cc
owed_without who (x ∷ xs) zero o e =
    let same : x ≡ o = cc in
    subst (λ (y : Owed). one (is_crash_of who y.event) + owed_crashes who xs ≡ one (is_crash_of who x.event) + owed_crashes who xs) same refl
owed_without who (x ∷ xs) (suc place) o e = let h = owed_without who xs place o e in omega arith

-- a crash pays one that is owed, or else one that is free
spent : (b : Bool) (owed free : ℕ) → (b ≡ true → 0 < free) → one b + owed + cond b (free - 1) free ≤ owed + free
spent true owed free some = let h = some refl in omega arith
spent false owed free some = omega arith

pub kept_free : (free : Free) (event : Event) (place : ℕ) → free_after free event (Some place) ≡ free
kept_free free (Crash r d) place = refl
kept_free free other place = refl

some_free : (free : Free) (r d s e : ShardId) → 0 < free (Link s e) → ((r.0 == s.0) && (d.0 == e.0)) ≡ true → 0 < free (Link r d)
some_free free r d s e some h =
    let two = both (r.0 == s.0) (d.0 == e.0) h in
    subst (λ (x : ShardId). 0 < free (Link x d)) (sym (same_shard r s two.0))
    (subst (λ (x : ShardId). 0 < free (Link s x)) (sym (same_shard d e two.1)) some)

spend_free : (r d : ShardId) (event : Event) (owed : List Owed) (free : Free) → MayCrash free event None
    → one (is_crash_of (Link r d) event) + owed_crashes (Link r d) owed + free_after free event None (Link r d)
    ≤ owed_crashes (Link r d) owed + free (Link r d)
spend_free r d (Crash s e) owed free may =
    spent ((r.0 == s.0) && (d.0 == e.0)) (owed_crashes (Link r d) owed) (free (Link r d)) (some_free free r d s e may)
spend_free r d other owed free may = spent false (owed_crashes (Link r d) owed) (free (Link r d)) (λ h. absurd (not_true h))
  where
    not_true : false ≡ true → ⊥
    not_true h = cc

spend_owed : (r d : ShardId) (event : Event) (place : ℕ) (owed : List Owed) (free : Free) (found : Option Owed)
    → slice_get owed place ≡ found → Follows event (Some place) found
    → one (is_crash_of (Link r d) event) + owed_crashes (Link r d) (remove owed place) + free_after free event (Some place) (Link r d)
    ≤ owed_crashes (Link r d) owed + free (Link r d)
spend_owed r d event place owed free None e h = absurd h
spend_owed r d event place owed free (Some o) e h =
    let left = owed_without (Link r d) owed place o e in
    let same : one (is_crash_of (Link r d) event) ≡ one (is_crash_of (Link r d) o.event) = ap (λ (x : Event). one (is_crash_of (Link r d) x)) h in
    let kept : free_after free event (Some place) (Link r d) ≡ free (Link r d) = ap (λ (f : Free). f (Link r d)) (kept_free free event place) in
    omega arith

spend : (r d : ShardId) (event : Event) (place : Option ℕ) (owed : List Owed) (free : Free) → Follows event place (owed_at owed place)
    → MayCrash free event place
    → one (is_crash_of (Link r d) event) + owed_crashes (Link r d) (without owed place) + free_after free event place (Link r d)
    ≤ owed_crashes (Link r d) owed + free (Link r d)
spend r d event None owed free h may = spend_free r d event owed free may
spend r d event (Some place) owed free h may = spend_owed r d event place owed free (slice_get owed place) refl h

-- a commit that met a crash, of a link's activities or of the coordinator
abbrev pub crash_now : Asks → Met → Who → Bool
crash_now (commits a) met who = is_crash_met met && is_beside who a
crash_now other met who = false

least : (n : ℕ) → 0 ≤ n
least n = omega arith

zero_owes : (who : Who) (time : ℕ) (t : Bool) (event : Event) (n : ℕ) → is_crash_of who event ≡ false
    → owed_crashes who (owes time (only_if t event)) ≤ n
zero_owes who time true event n e = by (is_crash_of who event) e
  where
    by : (b : Bool) → b ≡ false → one b + 0 ≤ n
    by true q = cc
    by false q = omega arith
zero_owes who time false event n e = omega arith

new_row : (r d : ShardId) (time : ℕ) (next : Cluster) (event : Event) (n : ℕ)
    → owed_crashes (Link r d) (owes time (after_row next event)) ≤ n
new_row r d time next (Crash s e) n =
    zero_owes (Link r d) time ((link_in next s.0 e.0).link.crashes == limit) (failure (Link s e) why.Crashes) n refl
new_row r d time next other n = least n

only_owes : (who : Who) (time : ℕ) (t : Bool) (event : Event) → owed_crashes who (owes time (only_if t event)) ≤ one (is_crash_of who event)
only_owes who time true event = omega arith
only_owes who time false event = omega arith

new_fate : (r d : ShardId) (time : ℕ) (next : Cluster) (asked : Asks) (met : Met) → is_crash_met met ≡ true
    → owed_crashes (Link r d) (owes time (after_fate next asked)) ≤ one (crash_now asked met (Link r d))
new_fate r d time next quiet met crash = least _
new_fate r d time next (commits Coordinator) met crash =
    zero_owes (Link r d) time (next.control.crashes == limit) (failure Coordinator why.Crashes) _ refl
new_fate r d time next (commits (Link s e)) met crash =
    crashed (is_crash_met met) crash ((r.0 == s.0) && (d.0 == e.0)) _ (only_owes (Link r d) time (link_in next s.0 e.0).link.is_open (Crash s e))
  where
    crashed : (c : Bool) → c ≡ true → (b : Bool) (n : ℕ) → n ≤ one b → n ≤ one (c && b)
    crashed true h b n le = le
    crashed false h b n le = cc
new_fate r d time next (commits (Lane s e l)) met crash =
    crashed (is_crash_met met) crash ((r.0 == s.0) && (d.0 == e.0)) _ (only_owes (Link r d) time (link_in next s.0 e.0).link.is_open (Crash s e))
  where
    crashed : (c : Bool) → c ≡ true → (b : Bool) (n : ℕ) → n ≤ one b → n ≤ one (c && b)
    crashed true h b n le = le
    crashed false h b n le = cc
new_fate r d time next (delivers who) met crash = least _

one_failure : (who other : Who) (time : ℕ) (w : Why) (n : ℕ) → owed_crashes who (owes time (Some (failure other w))) ≤ n
one_failure Coordinator other time w n = omega arith
one_failure (Link r d) other time w n = omega arith
one_failure (Lane r d l) other time w n = omega arith

new_failing : (r d : ShardId) (time : ℕ) (asked : Asks) (n : ℕ) → owed_crashes (Link r d) (owes time (after_failing asked)) ≤ n
new_failing r d time quiet n = least n
new_failing r d time (commits who) n = one_failure (Link r d) who time why.Commit n
new_failing r d time (delivers who) n = least n

new_losses : (r d : ShardId) (time : ℕ) (asked : Asks) (n : ℕ) → owed_crashes (Link r d) (owes time (after_losses asked)) ≤ n
new_losses r d time quiet n = least n
new_losses r d time (commits who) n = least n
new_losses r d time (delivers who) n = one_failure (Link r d) who time why.Link n

new_want : (r d : ShardId) (time : ℕ) (named : Option (ShardId × ShardId)) (n : ℕ)
    → owed_crashes (Link r d) (owes time (option_map wanted named)) ≤ n
new_want r d time None n = least n
new_want r d time (Some named) n = omega arith

-- a crash is owed only for a commit that crashed
new_owed : (r d : ShardId) (time : ℕ) (next : Cluster) (event : Event) (asked : Asks) (met : Met)
    → owed_crashes (Link r d) (owes time (follows next event asked met)) ≤ one (crash_now asked met (Link r d))
new_owed r d time next event asked Row = new_row r d time next event _
new_owed r d time next event asked CrashedBefore = new_fate r d time next asked CrashedBefore refl
new_owed r d time next event asked CrashedAfter = new_fate r d time next asked CrashedAfter refl
new_owed r d time next event asked Failed = new_failing r d time asked _
new_owed r d time next event asked Lost = new_losses r d time asked _
new_owed r d time next event asked NoMemory = new_want r d time (own_link event) _
new_owed r d time next event asked NoMemoryInMove = least _

-- the commit that an event may add to those that crashed
abbrev entry : Setup → Asks → Lucks → Call
entry setup (commits a) lucks = (a, (told_of setup lucks a).commits + 1)
entry setup other lucks = (Coordinator, 0)

abbrev grown : Bool → Call → List Call → List Call
grown true x xs = x ∷ xs
grown false x xs = xs

length_grown : (b : Bool) (x : Call) (xs : List Call) → length (grown b x xs) ≡ length xs + one b
length_grown true x xs = omega arith
length_grown false x xs = omega arith

all_grown : (P : Call → Type 0) (b : Bool) (x : Call) (xs : List Call) → (b ≡ true → P x) → All P xs → All P (grown b x xs)
all_grown P true x xs here all = All-cons P x xs (here refl) all
all_grown P false x xs here all = all

pairs_grown : (b : Bool) (x : Call) (xs : List Call) → (b ≡ true → All (AreApart x) xs) → AllPairs AreApart xs → AllPairs AreApart (grown b x xs)
pairs_grown true x xs here all = AllPairs-cons AreApart x xs (here refl) all
pairs_grown false x xs here all = all

fate_crash : (f : Fate) → is_crash_met (met_of f) ≡ crashes f
fate_crash fate.Kept = refl
fate_crash fate.CrashedBefore = refl
fate_crash fate.CrashedAfter = refl
fate_crash fate.Failed = refl

want_crash : (met : Met) → IsWant met → is_crash_met met ≡ false
want_crash met (inl e) = ap is_crash_met e
want_crash met (inr e) = ap is_crash_met e

-- what a commit that met a crash says of the luck
crash_met : (t : Told) (met : Met) → (met ≡ met_of (next_fate t)) ⊎ IsWant met → is_crash_met met ≡ true → crashes (next_fate t) ≡ true
crash_met t met (inl e) c = sym (fate_crash (next_fate t)) ∙ (sym (ap is_crash_met e) ∙ c)
crash_met t met (inr w) c = let n = want_crash met w in cc

unequal : (n m : ℕ) → m ≤ n → ((n + 1) == m) ≡ false
unequal n m h = grind (arith, nat_tests)

and_false : (a b : Bool) → b ≡ false → (a && b) ≡ false
and_false true b e = e
and_false false b e = refl

never_true : (a : Bool) → a ≡ false → a ≡ true → ⊥
never_true a e h = cc

same_activity : (a b : Who) → same_who a b ≡ true → a ≡ b
same_activity Coordinator Coordinator e = refl
same_activity Coordinator (Link s f) e = cc
same_activity Coordinator (Lane s f m) e = cc
same_activity (Link r d) Coordinator e = cc
same_activity (Link r d) (Link s f) e =
    let two = both (r.0 == s.0) (d.0 == f.0) e in
    ap (λ x. Link x d) (same_shard r s two.0) ∙ ap (λ x. Link s x) (same_shard d f two.1)
same_activity (Link r d) (Lane s f m) e = cc
same_activity (Lane r d l) Coordinator e = cc
same_activity (Lane r d l) (Link s f) e = cc
same_activity (Lane r d l) (Lane s f m) e =
    let two = both ((r.0 == s.0) && (d.0 == f.0)) (l == m) e in
    let more = both (r.0 == s.0) (d.0 == f.0) two.0 in
    ap (λ x. Lane x d l) (same_shard r s more.0)
    ∙ (ap (λ x. Lane s x l) (same_shard d f more.1) ∙ ap (λ x. Lane s f x) (same_number l m two.1))

-- any failure has leave, where crashes alone are counted
abbrev any : Node → Why → Type 0
any n w = ⊤

no_cause : (c : Cause) → FitCause any c
no_cause (cause.Failed n w) = tt
no_cause other = tt

no_matter : (event : Event) → FitCauseOf any event
no_matter (Fail named c) = no_cause c
no_matter other = tt

module _ (setup : Setup) (free : Free) where
  pub record Known (now : Free) (run : Run) : Type 0 where
    pub shaped : IsShaped setup run.cluster
    pub rows : (who : Who) → IsThere setup who → (told_of setup run.lucks who).rows ≡ rows_of setup who
    pub crashing : Who → List Call
    pub known : (who : Who) → All (Crashes setup.plan who) (crashing who)
    pub past : (who : Who) → All (λ x. x.1 ≤ (told_of setup run.lucks x.0).commits) (crashing who)
    pub apart : (who : Who) → AllPairs AreApart (crashing who)
    pub links : (r d : ShardId)
        → (link_in run.cluster r.0 d.0).link.crashes + owed_crashes (Link r d) run.owed + now (Link r d)
        ≤ length (crashing (Link r d)) + free (Link r d)
    pub control : run.cluster.control.crashes ≤ length (crashing Coordinator)

  -- the plan's rows say what a luck's rows say
  pub by_plan : (now : Free) (run : Run) (m : Moment) (who : Who) → Known now run → Stands setup run m
      → whose (asked_by run m) ≡ Some who → (told_of setup run.lucks who).rows ≡ rows_of setup who
  by_plan now run m who s stands e =
      s.rows who (activity_there setup run.cluster m.made.event m.given.piece who s.shaped stands.may stands.delivers
      (asked_is run.cluster m.made.event m.given.piece who e))

  known_entry : (lucks : Lucks) (asked : Asks) (met : Met) (who : Who)
      → ((a : Who) → whose asked ≡ Some a → (told_of setup lucks a).rows ≡ rows_of setup a)
      → (met ≡ given_by setup lucks asked) ⊎ IsWant met → crash_now asked met who ≡ true
      → Crashes setup.plan who (entry setup asked lucks)
  known_entry lucks quiet met who rows h e = absurd (never_true false refl e)
  known_entry lucks (commits a) met who rows h e =
      let two = both (is_crash_met met) (is_beside who a) e in
      let told : Told = told_of setup lucks a in
      record {
        beside = two.1;
        crashes = ap is_crash (sym (reads_alike setup.plan a Commit (told.commits + 1)))
            ∙ subst (λ (rows : List PlanRow). is_crash (luck.met rows Commit (told.commits + 1)) ≡ true) (rows a refl)
            (crash_known told (crash_met told met h two.0)).0;
      }
  known_entry lucks (delivers a) met who rows h e = absurd (never_true false refl e)

  past_entry : (lucks : Lucks) (asked : Asks) (met : Met) (who : Who) → (met ≡ given_by setup lucks asked) ⊎ IsWant met
      → crash_now asked met who ≡ true
      → (entry setup asked lucks).1 ≤ (told_of setup (called setup asked lucks) (entry setup asked lucks).0).commits
  past_entry lucks quiet met who h e = absurd (never_true false refl e)
  past_entry lucks (commits a) met who h e =
      let told : Told = told_of setup lucks a in
      let known = crash_known told (crash_met told met h (both (is_crash_met met) (is_beside who a) e).0) in
      crash_counts setup lucks a (told.commits + 1) known.0 known.1
  past_entry lucks (delivers a) met who h e = absurd (never_true false refl e)

  apart_entry : (lucks : Lucks) (asked : Asks) (met : Met) (who : Who) (xs : List Call) → crash_now asked met who ≡ true
      → All (λ x. x.1 ≤ (told_of setup lucks x.0).commits) xs → All (AreApart (entry setup asked lucks)) xs
  apart_entry lucks quiet met who xs e all = absurd (never_true false refl e)
  apart_entry lucks (commits a) met who xs e all = λ k d h. differ (get_or xs k d) (same_who a (get_or xs k d).0) refl (all k d h)
    where
      differ : (x : Call) (b : Bool) → same_who a x.0 ≡ b → x.1 ≤ (told_of setup lucks x.0).commits
          → (same_who a x.0 && (((told_of setup lucks a).commits + 1) == x.1)) ≡ false
      differ x true e le =
          let le2 : x.1 ≤ (told_of setup lucks a).commits = subst (λ (i : Who). x.1 ≤ (told_of setup lucks i).commits) (sym (same_activity a x.0 e)) le in
          and_false (same_who a x.0) _ (unequal (told_of setup lucks a).commits x.1 le2)
      differ x false e le = rw e refl
  apart_entry lucks (delivers a) met who xs e all = absurd (never_true false refl e)

  most : (asked : Asks) (met : Met) → one (is_counted asked met) ≤ one (crash_now asked met Coordinator)
  most quiet met = omega arith
  most (commits Coordinator) met = by (is_crash_met met)
    where
      by : (b : Bool) → one b ≤ one (b && true)
      by true = omega arith
      by false = omega arith
  most (commits (Link r d)) met = least _
  most (commits (Lane r d l)) met = least _
  most (delivers who) met = least _

  pub known_after : (now : Free) (run : Run) (m : Moment) → Stands setup run m → Answers setup run m
      → MayCrash now m.made.event m.given.place → Known now run → Known (free_after now m.made.event m.given.place) (after setup run m)
  unfolding after
  known_after now run m stands answers may s =
      let asked : Asks = asked_by run m in
      let met : Met = m.made.met in
      let lucks : Lucks = run.lucks in
      let more : Who → List Call = λ who. grown (crash_now asked met who) (entry setup asked lucks) (s.crashing who) in
      let rows : (a : Who) → whose asked ≡ Some a → (told_of setup lucks a).rows ≡ rows_of setup a = λ a e. by_plan now run m a s stands e in
      let moves = event_moves setup m.made.stamp run.cluster m.made.event m.given.piece met in
      record {
        shaped = shaped_after setup run m s.shaped;
        rows = λ who there. (called_later setup asked lucks who).rows ∙ s.rows who there;
        crashing = more;
        known = λ who. all_grown (Crashes setup.plan who) (crash_now asked met who) (entry setup asked lucks) (s.crashing who)
            (known_entry lucks asked met who rows answers) (s.known who);
        past = λ who. all_grown (λ z. z.1 ≤ (told_of setup (called setup asked lucks) z.0).commits) (crash_now asked met who)
            (entry setup asked lucks) (s.crashing who) (past_entry lucks asked met who answers)
            (λ k d h. let a = s.past who k d h in let b = (called_later setup asked lucks (get_or (s.crashing who) k d).0).commits in omega arith);
        apart = λ who. pairs_grown (crash_now asked met who) (entry setup asked lucks) (s.crashing who)
            (λ b. apart_entry lucks asked met who (s.crashing who) b (s.past who)) (s.apart who);
        links = λ r d.
            let a = s.links r d in
            let b = (moves.link r.0 d.0).crashes in
            let c = spend r d m.made.event m.given.place run.owed now stands.follows may in
            let e = new_owed r d m.made.stamp.time (cluster_after setup run m) m.made.event asked met in
            let f = length_grown (crash_now asked met (Link r d)) (entry setup asked lucks) (s.crashing (Link r d)) in
            let g = owed_both (Link r d) (without run.owed m.given.place)
            (owes m.made.stamp.time (follows (cluster_after setup run m) m.made.event asked met)) in
            omega arith;
        control =
            let a = s.control in
            let b = (event_holds any setup m.made.stamp run.cluster m.made.event m.given.piece met (no_matter m.made.event)).crashes in
            let c = most asked met in
            let f = length_grown (crash_now asked met Coordinator) (entry setup asked lucks) (s.crashing Coordinator) in
            omega arith;
      }
