-- From what the code says to what is meant, and from an outcome to each promise.
use Rattle.std.proofs.Common.{◌≡◌, ◌≢◌, ℕ, ◌+◌, ◌<◌, ◌≤◌, ◌⊎◌, inl, inr, ⊎_elim, Bool, true, false, List, [], length, Option, Some, None, String, refl, sym, ap, ◌∙◌, subst, arith}
use Rattle.std.specs.declared.alloc.Global.{Global}
use Rattle.resh_io.specs.Causes.{Rose}
use Rattle.resh_io.specs.Reading.{GivesFirst}
use Rattle.resh_coord.specs.declared.cause.Cause.TheVariants.{Clash, Asked as AskedFor, Failed, NoMemory as Wanting}
use Rattle.resh_coord.specs.declared.cause.End.{End}
use Rattle.resh_coord.specs.declared.cause.End.TheVariants.{Committed, Aborted}
use Rattle.resh_setup.specs.declared.setup.Setup.{Setup}
use Rattle.resh_setup.specs.declared.fault.SetupFault.{SetupFault}
use Rattle.resh_setup.specs.declared.fault.SetupFault.TheVariants as InSetup
use Rattle.resh_setup.specs.declared.plan.Planned.{Planned}
use Rattle.resh_setup.specs.declared.plan.Who.{Who}
use Rattle.resh_model.specs.Licence.{HasLicence, LicensesNone, crash_steps}
use Rattle.resh_model.specs.MarkLaws.{is_failure}
use Rattle.resh_model.specs.Orders.{IsLawful}
use Rattle.resh_model.proofs.orders.MarkCauses.{commits_else, one_mark_without_clients}
use Rattle.resh_config.specs.ClusterFile.{IsSetup, IsRefused}
use Rattle.resh_report.specs.Checked.{checked_text}
use Rattle.resh_report.specs.Refusals.{refusal_text}
use Rattle.resh_gen.specs.Generated.{generated}
use Rattle.resh_gen.specs.SetupText.{setup_text}
use Rattle.resh_run.specs.Answer.{said}
use Rattle.resh_run.specs.Promises.{IsAskedFor, Feeds, FeedsSetup, Headline, RunsCluster, RunsPlaced, Says, TellsUsage, RefusesFaults, RefusesLong, Checks, Prints, Sums, Completes, Commits, RunsOneMark, RunsNothing, FailsToWrite}
use Rattle.resh_run.specs.Said.{IsSaid, wrong, wanting, ran as for_run, checked as for_check, numbered, BytesSay, CheckSays, FaultSays, FileSays, PrintSays, SumSays}
use Rattle.resh_run.specs.Seen.{Seen}
use Rattle.resh_run.specs.Top.{Saying, alone, said_in, IsRunOf, IsWhole, Means, usage, read_fault, too_long, refused, ran, no_memory, checked, summed, printed, IsClusterRunOf, IsPlacement, IsSummaryOf, RunsTo, placed, clustered, Asks, is_fed, is_running, is_served, IsSent, whole, cut, IsOutcome, input_limit, needs_cluster, status_of, too_long_text}
use Rattle.resh_run.specs.Words.{asked_by}
use Rattle.resh_run.specs.declared.words.Asked.{Asked}
use Rattle.resh_run.specs.declared.words.Asked.TheVariants.{Plain, Check, Run, Generate}
use Rattle.resh_run.specs.declared.decision.Purpose.{Purpose}
use Rattle.resh_run.specs.declared.decision.Purpose.TheVariants.{ToRun, ToCheck}
use Rattle.resh_run.specs.declared.decision.Said.{Said}
use Rattle.resh_run.specs.declared.decision.Said.TheVariants.{Usage, ReadFault, TooLong, NoMemory, Refused, Ran, Checked, Printed}
use Rattle.resh_run.specs.declared.plain.Outcome.{Outcome}
use Rattle.resh_core.specs.Cores.{opening_core}
use Rattle.resh_events.specs.Lucks.{planned}
use Rattle.resh_run.proofs.Steps.{stepped_many}
use Rattle.resh_run.proofs.Outcomes.{one_setup, one_fault, not_both, given_told}
use Rattle.resh_run.proofs.Pages.{without_clients}
use Rattle.resh_run.proofs.WordLemmas.{none_asked}

pub fault_bytes : (purpose : Purpose) (bytes : List ℕ) (fault : SetupFault) (s : Said) → (fault ≢ InSetup.NoMemory → IsRefused bytes fault) → FaultSays fault s
    → BytesSay purpose bytes s
fault_bytes purpose bytes fault Usage is h = h
fault_bytes purpose bytes fault ReadFault is h = h
fault_bytes purpose bytes fault TooLong is h = h
fault_bytes purpose bytes fault NoMemory is h = tt
fault_bytes purpose bytes fault (Refused text) is h = (fault, is h.0, h.1)
fault_bytes purpose bytes fault (Ran order end page trace) is h = absurd h
fault_bytes purpose bytes fault (Checked text) is h = absurd h
fault_bytes purpose bytes fault (Printed text) is h = h

pub check_bytes : (purpose : Purpose) (bytes : List ℕ) (setup : Setup) (s : Said) → purpose ≡ ToCheck → IsSetup bytes setup → CheckSays setup s → BytesSay purpose bytes s
check_bytes purpose bytes setup Usage to is h = absurd h
check_bytes purpose bytes setup ReadFault to is h = absurd h
check_bytes purpose bytes setup TooLong to is h = absurd h
check_bytes purpose bytes setup NoMemory to is h = tt
check_bytes purpose bytes setup (Refused text) to is h = absurd h
check_bytes purpose bytes setup (Ran order end page trace) to is h = absurd h
check_bytes purpose bytes setup (Checked text) to is h = (to, (setup, is, h))
check_bytes purpose bytes setup (Printed text) to is h = absurd h

-- what isn't a failure wants no licence
pub licensed : (plan : List Planned) (steps : Who → ℕ) (end : End) → is_failure end ≡ false → HasLicence plan steps end
licensed plan steps Committed well = tt
licensed plan steps (Aborted (Clash shard id)) well = tt
licensed plan steps (Aborted (AskedFor client number)) well = tt
licensed plan steps (Aborted (Failed node why)) well = cc
licensed plan steps (Aborted Wanting) well = tt

-- where no failure is licensed, none is the end
well_or_wanting : (plan : List Planned) (steps : Who → ℕ) (end : End) → HasLicence plan steps end → LicensesNone plan steps
    → (is_failure end ≡ false) ⊎ (end ≡ Aborted Wanting)
well_or_wanting plan steps Committed leave none = inl refl
well_or_wanting plan steps (Aborted (Clash shard id)) leave none = inl refl
well_or_wanting plan steps (Aborted (AskedFor client number)) leave none = inl refl
well_or_wanting plan steps (Aborted (Failed node why)) leave none = absurd (none node why leave)
well_or_wanting plan steps (Aborted Wanting) leave none = inr refl

low_status : (end : End) → status_of end ≤ 1
low_status Committed = omega arith
low_status (Aborted cause) = omega arith

-- one byte more than the limit isn't there
not_short : (old new : Option (List ℕ)) (bytes : List ℕ) → old ≡ Some bytes → length bytes ≤ input_limit → GivesFirst old new (input_limit + 1) → ⊥
not_short None new bytes told short g = let clash : None ≡ Some bytes = told in cc
not_short (Some left) None bytes told short g = g
not_short (Some left) (Some rest) bytes told short g =
    let same : left ≡ bytes = cc in let fits = subst (λ l. input_limit + 1 ≤ length l) same g.0 in omega arith

-- what is said with a status alone is said with no other
other_status : (s : Saying) (n m : ℕ) (t : List ℕ) → s ≡ alone n t → s.meant ≡ m → n ≢ m → ⊥
other_status s n m t is at apart = apart (sym (ap (λ x. x.meant) is) ∙ at)

not_low : (s : Saying) (n : ℕ) (t : List ℕ) → s ≡ alone n t → 1 < n → s.meant ≤ 1 → ⊥
not_low s n t is high low = let same : s.meant ≡ n = ap (λ x. x.meant) is in omega (arith, same, high, low)

-- the status of a run is that of its end
runs_low : (setup : Setup) (s : Saying) → RunsTo setup s → s.meant ≤ 1
runs_low setup s (placed p) = let low = low_status p.run.ended in let is = p.run.meant_is in omega (arith, low, is)
runs_low setup s (clustered needs c) = let low = low_status c.ended in let is = c.ends.meant_is in omega (arith, low, is)

-- and a run without a cluster is a placement
runs_placed : (setup : Setup) (s : Saying) → needs_cluster setup ≡ false → RunsTo setup s → IsPlacement setup s
runs_placed setup s fails (placed p) = p
runs_placed setup s fails (clustered needs c) = let clash : true ≡ false = sym needs ∙ fails in absurd (cc)

runs_clustered : (setup : Setup) (s : Saying) → needs_cluster setup ≡ true → RunsTo setup s → IsClusterRunOf setup s
runs_clustered setup s holds (placed p) = let clash : true ≡ false = sym holds ∙ p.needs in absurd (cc)
runs_clustered setup s holds (clustered needs c) = c

-- either is a run of the setup
run_said : (setup : Setup) (s : Saying) → RunsTo setup s → IsRunOf setup s
run_said setup s (placed p) = p.run
run_said setup s (clustered needs c) = record {
  ended = c.ended;
  shown = c.shown;
  each_step = stepped_many setup.steps (opening_core setup) (planned setup) c.shown c.run.middle c.run.told c.run.stepped;
  lawful = c.lawful;
  licensed = c.licensed;
  end_is = c.ends.end_is;
  meant_is = c.ends.meant_is;
  page_is = c.page_of_order;
}

summed_low : (number : ℕ) (s : Saying) → IsSummaryOf number s → s.meant ≤ 1
summed_low number s is = let low = low_status is.ended in let at = is.ends.meant_is in omega (arith, low, at)

-- what is fed is served
served_if_fed : (o : Option Asked) → is_fed o ≡ true → is_served o ≡ true
served_if_fed None e = e
served_if_fed (Some Plain) e = refl
served_if_fed (Some Check) e = refl
served_if_fed (Some (Run workers)) e = e
served_if_fed (Some (Generate number print)) e = refl

module _ (words : List (String Global)) (source : Seen) where
  -- one test of what is asked isn't true and false
  unlike : {A : Type 0} (test : Option Asked → Bool) → test (asked_by words) ≡ true → test (asked_by words) ≡ false → A
  unlike test holds fails = absurd (let clash : true ≡ false = sym holds ∙ fails in cc)

  -- where something is done there are words
  some_words : is_served (asked_by words) ≡ true → words ≢ []
  some_words holds none = unlike is_served holds (ap (λ w. is_served (asked_by w)) none ∙ ap is_served none_asked)

  file_means : (purpose : Purpose) (s : Said) → is_fed (asked_by words) ≡ true → (purpose ≡ ToRun → Asks words Plain) → (purpose ≡ ToCheck → Asks words Check)
      → FileSays purpose source s → Means words source (said s)
  file_means purpose Usage fed run check h = absurd h
  file_means purpose ReadFault fed run check h = read_fault fed h refl
  file_means purpose TooLong fed run check h = too_long fed h refl
  file_means purpose NoMemory fed run check h = no_memory (some_words (served_if_fed (asked_by words) fed)) (λ fails. unlike is_fed fed fails) refl
  file_means purpose (Refused text) fed run check h = refused h.bytes h.says.0 fed h.whole h.says.1 (ap (alone 3) h.says.2)
  file_means purpose (Ran order end page trace) fed run check h = ran h.bytes h.says.1.0 (run h.says.0) h.whole h.says.1.1 h.says.1.2
  file_means purpose (Checked text) fed run check h = checked h.bytes h.says.1.0 (check h.says.0) h.whole h.says.1.1 (ap (alone 0) h.says.1.2)
  file_means purpose (Printed text) fed run check h = absurd h

  print_means : (number : ℕ) (s : Said) → Asks words (Generate number true) → source.new ≡ source.old → PrintSays number s → Means words source (said s)
  print_means number Usage asks same h = absurd h
  print_means number ReadFault asks same h = absurd h
  print_means number TooLong asks same h = absurd h
  print_means number NoMemory asks same h = no_memory (some_words (ap is_served asks)) (λ fails. same) refl
  print_means number (Refused text) asks same h = absurd h
  print_means number (Ran order end page trace) asks same h = absurd h
  print_means number (Checked text) asks same h = absurd h
  print_means number (Printed text) asks same h = printed number asks same (ap (alone 0) h)

  sum_means : (number : ℕ) (s : Said) → Asks words (Generate number false) → source.new ≡ source.old → SumSays number s → Means words source (said s)
  sum_means number Usage asks same h = absurd h
  sum_means number ReadFault asks same h = absurd h
  sum_means number TooLong asks same h = absurd h
  sum_means number NoMemory asks same h = no_memory (some_words (ap is_served asks)) (λ fails. same) refl
  sum_means number (Refused text) asks same h = absurd h
  sum_means number (Ran order end page trace) asks same h = summed number asks same h
  sum_means number (Checked text) asks same h = absurd h
  sum_means number (Printed text) asks same h = absurd h

  pub means : (s : Said) → IsSaid words source s → Means words source (said s)
  means s (wrong fails same e) = usage fails same (ap said e)
  means s (wanting some same e) = no_memory some (λ fails. same) (ap said e)
  means s (for_run asks h) = file_means ToRun s (ap is_fed asks) (λ e. asks) (λ e. cc) h
  means s (for_check asks h) = file_means ToCheck s (ap is_fed asks) (λ e. cc) (λ e. asks) h
  means s (numbered number true asks same h) = print_means number s asks same h
  means s (numbered number false asks same h) = sum_means number s asks same h

  module _ (s : Saying) where
    -- a whole input is the one that was told
    same_setup : (bytes b : List ℕ) (setup t : Setup) → source.old.bytes ≡ Some bytes → IsWhole source b → IsSetup b t → IsSetup bytes setup → t ≡ setup
    same_setup bytes b setup t told w i is =
        let same = given_told source.old.bytes source.new.bytes bytes b told w.all in
        one_setup bytes t setup (subst (λ x. IsSetup x t) same i) is

    not_refused : (bytes b : List ℕ) (setup : Setup) (fault : SetupFault) → source.old.bytes ≡ Some bytes → IsWhole source b → IsRefused b fault → IsSetup bytes setup → ⊥
    not_refused bytes b setup fault told w r is =
        let same = given_told source.old.bytes source.new.bytes bytes b told w.all in
        not_both bytes setup fault is (subst (λ x. IsRefused x fault) same r)

    not_setup : (bytes b : List ℕ) (setup : Setup) (fault : SetupFault) → source.old.bytes ≡ Some bytes → IsWhole source b → IsSetup b setup → IsRefused bytes fault → ⊥
    not_setup bytes b setup fault told w i is =
        let same = given_told source.old.bytes source.new.bytes bytes b told w.all in
        not_both bytes setup fault (subst (λ x. IsSetup x setup) same i) is

    -- a status of at most 1 is that of the setup's own run
    runs : (setup : Setup) → IsAskedFor words source setup → s.meant ≤ 1 → Means words source s → RunsTo setup s
    runs setup asked low (usage p same e) = absurd (not_low s 2 _ e (omega arith) low)
    runs setup asked low (read_fault p r e) = absurd (not_low s 4 _ e (omega arith) low)
    runs setup asked low (too_long p g e) = absurd (not_low s 3 _ e (omega arith) low)
    runs setup asked low (refused b f p w r e) = absurd (not_low s 3 _ e (omega arith) low)
    runs setup asked low (ran b t p w i run) = subst (λ x. RunsTo x s) (same_setup asked.bytes b setup t asked.told w i asked.is) run
    runs setup asked low (checked b t p w i e) = unlike is_running (ap is_running asked.plain) (ap is_running p)
    runs setup asked low (summed n p same is) = unlike is_fed (ap is_fed asked.plain) (ap is_fed p)
    runs setup asked low (printed n p same e) = unlike is_fed (ap is_fed asked.plain) (ap is_fed p)
    runs setup asked low (no_memory some same e) = absurd (not_low s 6 _ e (omega arith) low)

    refuses_fault : (bytes : List ℕ) (fault : SetupFault) → is_fed (asked_by words) ≡ true → Feeds source bytes → IsRefused bytes fault → Means words source s → (s.meant ≡ 6) ⊎ (s ≡ alone 3 (refusal_text fault))
    refuses_fault bytes fault holds fed is (usage p same e) = unlike is_served (served_if_fed (asked_by words) holds) p
    refuses_fault bytes fault holds fed is (read_fault p r e) = absurd (fed.calm r)
    refuses_fault bytes fault holds fed is (too_long p g e) = absurd (not_short source.old.bytes source.new.bytes bytes fed.told fed.short g)
    refuses_fault bytes fault holds fed is (refused b f p w r e) =
        let same = given_told source.old.bytes source.new.bytes bytes b fed.told w.all in
        inr (e ∙ ap (λ x. alone 3 (refusal_text x)) (one_fault bytes f fault (subst (λ x. IsRefused x f) same r) is))
    refuses_fault bytes fault holds fed is (ran b t p w i run) = absurd (not_setup bytes b t fault fed.told w i is)
    refuses_fault bytes fault holds fed is (checked b t p w i e) = absurd (not_setup bytes b t fault fed.told w i is)
    refuses_fault bytes fault holds fed is (summed n p same sum) = unlike is_fed holds (ap is_fed p)
    refuses_fault bytes fault holds fed is (printed n p same e) = unlike is_fed holds (ap is_fed p)
    refuses_fault bytes fault holds fed is (no_memory some same e) = inl (ap (λ x. x.meant) e)

    -- more bytes than the limit aren't a whole input
    not_whole : (bytes b : List ℕ) → source.old.bytes ≡ Some bytes → input_limit < length bytes → IsWhole source b → ⊥
    not_whole bytes b told long w =
        let same = given_told source.old.bytes source.new.bytes bytes b told w.all in let fits = subst (λ l. length l ≤ input_limit) same w.within in omega (arith, long, fits)

    refuses_long : (bytes : List ℕ) → is_fed (asked_by words) ≡ true → source.old.bytes ≡ Some bytes → input_limit < length bytes → ¬ Rose source.old.faults source.new.faults
        → Means words source s → (s.meant ≡ 6) ⊎ (s ≡ alone 3 too_long_text)
    refuses_long bytes holds told long calm (usage p same e) = unlike is_served (served_if_fed (asked_by words) holds) p
    refuses_long bytes holds told long calm (read_fault p r e) = absurd (calm r)
    refuses_long bytes holds told long calm (too_long p g e) = inr e
    refuses_long bytes holds told long calm (refused b f p w r e) = absurd (not_whole bytes b told long w)
    refuses_long bytes holds told long calm (ran b t p w i run) = absurd (not_whole bytes b told long w)
    refuses_long bytes holds told long calm (checked b t p w i e) = absurd (not_whole bytes b told long w)
    refuses_long bytes holds told long calm (summed n p same sum) = unlike is_fed holds (ap is_fed p)
    refuses_long bytes holds told long calm (printed n p same e) = unlike is_fed holds (ap is_fed p)
    refuses_long bytes holds told long calm (no_memory some same e) = inl (ap (λ x. x.meant) e)

    -- a setup runs
    runs_fed : (setup : Setup) → Asks words Plain → FeedsSetup source setup → Means words source s → RunsTo setup s ⊎ (s.meant ≡ 6)
    runs_fed setup asks fed (usage p same e) = unlike is_served (ap is_served asks) p
    runs_fed setup asks fed (read_fault p r e) = absurd (fed.fed.calm r)
    runs_fed setup asks fed (too_long p g e) = absurd (not_short source.old.bytes source.new.bytes fed.bytes fed.fed.told fed.fed.short g)
    runs_fed setup asks fed (refused b f p w r e) = absurd (not_refused fed.bytes b setup f fed.fed.told w r fed.is)
    runs_fed setup asks fed (ran b t p w i run) = inl (subst (λ x. RunsTo x s) (same_setup fed.bytes b setup t fed.fed.told w i fed.is) run)
    runs_fed setup asks fed (checked b t p w i e) = unlike is_running (ap is_running asks) (ap is_running p)
    runs_fed setup asks fed (summed n p same sum) = unlike is_fed (ap is_fed asks) (ap is_fed p)
    runs_fed setup asks fed (printed n p same e) = unlike is_fed (ap is_fed asks) (ap is_fed p)
    runs_fed setup asks fed (no_memory some same e) = inr (ap (λ x. x.meant) e)

    -- a setup that is only read is counted
    counts : (setup : Setup) → Asks words Check → FeedsSetup source setup → Means words source s → (s.meant ≡ 6) ⊎ (s ≡ alone 0 (checked_text setup))
    counts setup asks fed (usage p same e) = unlike is_served (ap is_served asks) p
    counts setup asks fed (read_fault p r e) = absurd (fed.fed.calm r)
    counts setup asks fed (too_long p g e) = absurd (not_short source.old.bytes source.new.bytes fed.bytes fed.fed.told fed.fed.short g)
    counts setup asks fed (refused b f p w r e) = absurd (not_refused fed.bytes b setup f fed.fed.told w r fed.is)
    counts setup asks fed (ran b t p w i run) = unlike is_running (ap is_running p) (ap is_running asks)
    counts setup asks fed (checked b t p w i e) = inr (e ∙ ap (λ x. alone 0 (checked_text x)) (same_setup fed.bytes b setup t fed.fed.told w i fed.is))
    counts setup asks fed (summed n p same sum) = unlike is_fed (ap is_fed asks) (ap is_fed p)
    counts setup asks fed (printed n p same e) = unlike is_fed (ap is_fed asks) (ap is_fed p)
    counts setup asks fed (no_memory some same e) = inl (ap (λ x. x.meant) e)

    one_number : (n m : ℕ) (print : Bool) → Asks words (Generate n print) → Asks words (Generate m print) → n ≡ m
    one_number n m print a b = let same : Some (Generate n print) ≡ Some (Generate m print) = sym a ∙ b in cc

    -- a generated setup is printed
    prints : (number : ℕ) → Asks words (Generate number true) → Means words source s → (s.meant ≡ 6) ⊎ (s ≡ alone 0 (setup_text (generated number)))
    prints number asks (usage p same e) = unlike is_served (ap is_served asks) p
    prints number asks (read_fault p r e) = unlike is_fed p (ap is_fed asks)
    prints number asks (too_long p g e) = unlike is_fed p (ap is_fed asks)
    prints number asks (refused b f p w r e) = unlike is_fed p (ap is_fed asks)
    prints number asks (ran b t p w i run) = unlike is_fed (ap is_fed p) (ap is_fed asks)
    prints number asks (checked b t p w i e) = unlike is_fed (ap is_fed p) (ap is_fed asks)
    prints number asks (summed n p same sum) = unlike is_running (ap is_running p) (ap is_running asks)
    prints number asks (printed n p same e) = inr (e ∙ ap (λ x. alone 0 (setup_text (generated x))) (one_number n number true p asks))
    prints number asks (no_memory some same e) = inl (ap (λ x. x.meant) e)

    -- or runs, in short
    sums : (number : ℕ) → Asks words (Generate number false) → Means words source s → (s.meant ≡ 6) ⊎ IsSummaryOf number s
    sums number asks (usage p same e) = unlike is_served (ap is_served asks) p
    sums number asks (read_fault p r e) = unlike is_fed p (ap is_fed asks)
    sums number asks (too_long p g e) = unlike is_fed p (ap is_fed asks)
    sums number asks (refused b f p w r e) = unlike is_fed p (ap is_fed asks)
    sums number asks (ran b t p w i run) = unlike is_fed (ap is_fed p) (ap is_fed asks)
    sums number asks (checked b t p w i e) = unlike is_fed (ap is_fed p) (ap is_fed asks)
    sums number asks (summed n p same sum) = inr (subst (λ x. IsSummaryOf x s) (one_number n number false p asks) sum)
    sums number asks (printed n p same e) = unlike is_running (ap is_running asks) (ap is_running p)
    sums number asks (no_memory some same e) = inl (ap (λ x. x.meant) e)

    only_wrong : s.meant ≡ 2 → Means words source s → is_served (asked_by words) ≡ false
    only_wrong m (usage p same e) = p
    only_wrong m (read_fault p r e) = absurd (other_status s 4 2 _ e m (λ fails. cc))
    only_wrong m (too_long p g e) = absurd (other_status s 3 2 _ e m (λ fails. cc))
    only_wrong m (refused b f p w r e) = absurd (other_status s 3 2 _ e m (λ fails. cc))
    only_wrong m (ran b t p w i run) = absurd (let low = runs_low t s run in omega (arith, low, m))
    only_wrong m (checked b t p w i e) = absurd (other_status s 0 2 _ e m (λ fails. cc))
    only_wrong m (summed n p same sum) = absurd (let low = summed_low n s sum in omega (arith, low, m))
    only_wrong m (printed n p same e) = absurd (other_status s 0 2 _ e m (λ fails. cc))
    only_wrong m (no_memory some same e) = absurd (other_status s 6 2 _ e m (λ fails. cc))

    always_wrong : is_served (asked_by words) ≡ false → Means words source s → (s.meant ≡ 2) ⊎ (s.meant ≡ 6)
    always_wrong fails (usage p same e) = inl (ap (λ x. x.meant) e)
    always_wrong fails (read_fault p r e) = unlike is_served (served_if_fed (asked_by words) p) fails
    always_wrong fails (too_long p g e) = unlike is_served (served_if_fed (asked_by words) p) fails
    always_wrong fails (refused b f p w r e) = unlike is_served (served_if_fed (asked_by words) p) fails
    always_wrong fails (ran b t p w i run) = unlike is_served (ap is_served p) fails
    always_wrong fails (checked b t p w i e) = unlike is_served (ap is_served p) fails
    always_wrong fails (summed n p same sum) = unlike is_served (ap is_served p) fails
    always_wrong fails (printed n p same e) = unlike is_served (ap is_served p) fails
    always_wrong fails (no_memory some same e) = inr (ap (λ x. x.meant) e)

    without_words : words ≡ [] → Means words source s → s.meant ≡ 2
    without_words none (usage p same e) = ap (λ x. x.meant) e
    without_words none (read_fault p r e) = absurd (some_words (served_if_fed (asked_by words) p) none)
    without_words none (too_long p g e) = absurd (some_words (served_if_fed (asked_by words) p) none)
    without_words none (refused b f p w r e) = absurd (some_words (served_if_fed (asked_by words) p) none)
    without_words none (ran b t p w i run) = absurd (some_words (ap is_served p) none)
    without_words none (checked b t p w i e) = absurd (some_words (ap is_served p) none)
    without_words none (summed n p same sum) = absurd (some_words (ap is_served p) none)
    without_words none (printed n p same e) = absurd (some_words (ap is_served p) none)
    without_words none (no_memory some same e) = absurd (some none)

    untouched : is_fed (asked_by words) ≡ false → Means words source s → source.new ≡ source.old
    untouched fails (usage p same e) = same
    untouched fails (read_fault p r e) = unlike is_fed p fails
    untouched fails (too_long p g e) = unlike is_fed p fails
    untouched fails (refused b f p w r e) = unlike is_fed p fails
    untouched fails (ran b t p w i run) = unlike is_fed (ap is_fed p) fails
    untouched fails (checked b t p w i e) = unlike is_fed (ap is_fed p) fails
    untouched fails (summed n p same sum) = same
    untouched fails (printed n p same e) = same
    untouched fails (no_memory some same e) = same fails

    fault_rose : s.meant ≡ 4 → Means words source s → Rose source.old.faults source.new.faults
    fault_rose m (usage p same e) = absurd (other_status s 2 4 _ e m (λ fails. cc))
    fault_rose m (read_fault p r e) = r
    fault_rose m (too_long p g e) = absurd (other_status s 3 4 _ e m (λ fails. cc))
    fault_rose m (refused b f p w r e) = absurd (other_status s 3 4 _ e m (λ fails. cc))
    fault_rose m (ran b t p w i run) = absurd (let low = runs_low t s run in omega (arith, low, m))
    fault_rose m (checked b t p w i e) = absurd (other_status s 0 4 _ e m (λ fails. cc))
    fault_rose m (summed n p same sum) = absurd (let low = summed_low n s sum in omega (arith, low, m))
    fault_rose m (printed n p same e) = absurd (other_status s 0 4 _ e m (λ fails. cc))
    fault_rose m (no_memory some same e) = absurd (other_status s 6 4 _ e m (λ fails. cc))

    beside : (n : ℕ) (t : List ℕ) → s ≡ alone n t → (s.order ≡ []) × (s.end ≡ None) × (s.trace ≡ None)
    beside n t e = (ap (λ x. x.order) e, ap (λ x. x.end) e, ap (λ x. x.trace) e)

    nothing : (is_running (asked_by words) ≡ false) ⊎ (1 < s.meant) → Means words source s → (s.order ≡ []) × (s.end ≡ None) × (s.trace ≡ None)
    nothing idle (usage p same e) = beside 2 _ e
    nothing idle (read_fault p r e) = beside 4 _ e
    nothing idle (too_long p g e) = beside 3 _ e
    nothing idle (refused b f p w r e) = beside 3 _ e
    nothing idle (ran b t p w i run) =
        ⊎_elim (λ fails. unlike is_running (ap is_running p) fails) (λ high. absurd (let low = runs_low t s run in omega (arith, low, high))) idle
    nothing idle (checked b t p w i e) = beside 0 _ e
    nothing idle (summed n p same sum) =
        ⊎_elim (λ fails. unlike is_running (ap is_running p) fails) (λ high. absurd (let low = summed_low n s sum in omega (arith, low, high))) idle
    nothing idle (printed n p same e) = beside 0 _ e
    nothing idle (no_memory some same e) = beside 6 _ e

    -- an end comes with a status of at most 1
    ended_low : (ended : End) → s.end ≡ Some ended → Means words source s → s.meant ≤ 1
    ended_low ended is (usage p same e) = absurd (let clash : None ≡ Some ended = sym (beside 2 _ e).1 ∙ is in cc)
    ended_low ended is (read_fault p r e) = absurd (let clash : None ≡ Some ended = sym (beside 4 _ e).1 ∙ is in cc)
    ended_low ended is (too_long p g e) = absurd (let clash : None ≡ Some ended = sym (beside 3 _ e).1 ∙ is in cc)
    ended_low ended is (refused b f p w r e) = absurd (let clash : None ≡ Some ended = sym (beside 3 _ e).1 ∙ is in cc)
    ended_low ended is (ran b t p w i run) = runs_low t s run
    ended_low ended is (checked b t p w i e) = absurd (let clash : None ≡ Some ended = sym (beside 0 _ e).1 ∙ is in cc)
    ended_low ended is (summed n p same sum) = summed_low n s sum
    ended_low ended is (printed n p same e) = absurd (let clash : None ≡ Some ended = sym (beside 0 _ e).1 ∙ is in cc)
    ended_low ended is (no_memory some same e) = absurd (let clash : None ≡ Some ended = sym (beside 6 _ e).1 ∙ is in cc)

status_sent : (sink : Seen) (text : List ℕ) (o : Outcome) → ¬ Rose sink.old.faults sink.new.faults → IsSent sink text o → o.status ≡ o.meant
status_sent sink text o calm (whole w s n) = s
status_sent sink text o calm (cut r l w s) = absurd (calm r)

pub outcome_of : (words : List (String Global)) (source sink : Seen) (s : Said) (o : Outcome) → said_in o (said s).text ≡ said s → IsSaid words source s → IsSent sink (said s).text o → IsOutcome words source sink o
outcome_of words source sink s o same h sent = record { text = (said s).text; means = subst (Means words source) (sym same) (means words source s h); sent = sent }

-- each promise
module _ (words : List (String Global)) (source sink : Seen) (o : Outcome) (is : IsOutcome words source sink o) where
  abbrev says : Saying
  says = said_in o is.text

  said_by : (n : ℕ) (t : List ℕ) → (o.meant ≡ 6) ⊎ (said_in o is.text ≡ alone n t) → Says n sink t o
  said_by n t h = ⊎_elim (λ m. inl m) (λ e. inr (ap (λ (x : Saying). x.meant) e, subst (λ x. IsSent sink x o) (ap (λ (x : Saying). x.text) e) is.sent)) h

  pub headline : Headline words source sink o
  headline setup asked low = (is.text, run_said setup says (runs words source says setup asked low is.means), is.sent)

  pub runs_placing : RunsPlaced words source sink o
  runs_placing setup to low = (is.text, runs_placed setup says to.needs (runs words source says setup to.asked low is.means), is.sent)

  pub runs_cluster : RunsCluster words source sink o
  runs_cluster setup asked needs low = (is.text, runs_clustered setup says needs (runs words source says setup asked low is.means), is.sent)

  pub tells_usage : TellsUsage words o
  tells_usage = record {
    only = λ m. only_wrong words source says m is.means;
    always = λ fails. always_wrong words source says fails is.means;
    no_words = λ none. without_words words source says none is.means;
  }

  pub leaves : is_fed (asked_by words) ≡ false → source.new ≡ source.old
  leaves fails = untouched words source says fails is.means

  pub refuses_faults : RefusesFaults words source sink o
  refuses_faults bytes fault holds fed r = said_by 3 (refusal_text fault) (refuses_fault words source says bytes fault holds fed r is.means)

  pub refuses_long_ones : RefusesLong words source sink o
  refuses_long_ones bytes holds told long calm = said_by 3 too_long_text (refuses_long words source says bytes holds told long calm is.means)

  pub checks : Checks words source sink o
  checks setup asks fed = said_by 0 (checked_text setup) (counts words source says setup asks fed is.means)

  pub prints_ones : Prints words sink o
  prints_ones number asks = said_by 0 (setup_text (generated number)) (prints words source says number asks is.means)

  pub sums_ones : Sums words sink o
  sums_ones number asks = ⊎_elim (λ m. inl m) (λ sum. inr (is.text, sum, is.sent)) (sums words source says number asks is.means)

  pub read_failed : o.meant ≡ 4 → Rose source.old.faults source.new.faults
  read_failed m = fault_rose words source says m is.means

  pub write_failed : FailsToWrite sink o
  write_failed apart = by is.sent
    where
      by : IsSent sink is.text o → (o.status ≡ 5) × Rose sink.old.faults sink.new.faults
      by (whole w s n) = absurd (apart s)
      by (cut r l w s) = (s, r)

  pub runs_nothing : RunsNothing words o
  runs_nothing idle = nothing words source says idle is.means

  pub completes : Completes words source o
  completes setup asks fed = ⊎_elim (λ r. inl (runs_low setup says r)) (λ m. inr m) (runs_fed words source says setup asks fed is.means)

  pub commits : Commits words source sink o
  commits setup asks fed free none unlicensed calm =
      let status = status_sent sink is.text o calm is.sent in
      ⊎_elim
      (λ r. let p = run_said setup says r in
      ⊎_elim
      (λ well. inl (status ∙ p.meant_is ∙ ap status_of (commits_else setup o.order p.ended p.lawful free none well)))
      (λ wants. inr (inr (p.end_is ∙ ap Some wants)))
      (well_or_wanting setup.plan (crash_steps setup) p.ended p.licensed unlicensed))
      (λ m. inr (inl (status ∙ m)))
      (runs_fed words source says setup asks fed is.means)

  pub runs_one_mark : RunsOneMark words source o
  runs_one_mark setup ended to at =
      let p = runs_placed setup says to.needs (runs words source says setup to.asked (ended_low words source says ended at is.means) is.means) in
      let same : p.run.ended ≡ ended = let both : Some p.run.ended ≡ Some ended = sym p.run.end_is ∙ at in cc in
      let well = p.well ended at in
      (well, one_mark_without_clients setup o.order ended (without_clients setup to.needs) (subst (λ x. IsLawful setup o.order x) same p.run.lawful) well)
