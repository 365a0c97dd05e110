-- What an event that is no client's meets, changes, shows and holds.
use Rattle.std.proofs.Common.{◌≡◌, Bool, true, false, Option, refl, ◌∙◌, ap}
use Rattle.resh_luck.specs.Fates.{loses, next_fate}
use Rattle.resh_luck.specs.declared.fate.Fate.{Fate}
use Rattle.resh_luck.specs.declared.fate.Fate.TheVariants as fate
use Rattle.resh_oplog.specs.declared.piece.Piece.{Piece}
use Rattle.resh_stamp.specs.declared.stamp.Stamp.{Stamp}
use Rattle.resh_setup.specs.declared.event.Event.{Event}
use Rattle.resh_setup.specs.declared.event.Event.TheVariants.{Client, Begin, Tell, Retell, Advance, Clone, Fetch, Cut, Apply, Again, Record, Crash, Report, Fail}
use Rattle.resh_setup.specs.declared.plan.Who.TheVariants as who
use Rattle.resh_setup.specs.declared.seen.Seen.TheVariants as shown
use Rattle.resh_setup.specs.declared.setup.Setup.{Setup}
use Rattle.resh_setup.specs.declared.trace.Met.{Met}
use Rattle.resh_setup.specs.declared.trace.Met.TheVariants.{Row, CrashedBefore, CrashedAfter, Failed, Lost, NoMemory, NoMemoryInMove}
use Rattle.resh_cells.specs.declared.cluster.Cluster.{Cluster}
use Rattle.resh_events.specs.Follows.{limit}
use Rattle.resh_events.specs.Luck.{Asks, quiet, commits, delivers, asks, change, counted, holds, is_commit, is_delivery, may_meet, want_holds, want_seen, wanting}
use Rattle.resh_events.specs.Lucks.{Lucks, told_of}
use Rattle.resh_events.specs.Plans.{given_by, met_of, tried}
use Rattle.resh_events.specs.Steps.{piece_for}
use Rattle.resh_events.specs.Table as table
use Rattle.resh_core.specs.Making.{IsGiven, asked, counted_by, is_client, is_counted, may_come_to_commit, may_come_to_delivery, uncounted}

-- what the calls give may come to what is asked
fate-comes : (f : Fate) → may_come_to_commit (met_of f) ≡ true
fate-comes fate.Kept = refl
fate-comes fate.CrashedBefore = refl
fate-comes fate.CrashedAfter = refl
fate-comes fate.Failed = refl

try-comes : (b : Bool) → may_come_to_delivery (tried b) ≡ true
try-comes true = refl
try-comes false = refl

pub given_comes : (setup : Setup) (lucks : Lucks) (a : Asks) → IsGiven a (given_by setup lucks a)
given_comes setup lucks quiet = refl
given_comes setup lucks (commits w) = fate-comes (next_fate (told_of setup lucks w))
given_comes setup lucks (delivers w) = try-comes (loses limit (told_of setup lucks w))

-- an event that is no client's wants memory as its own, and holds the same cells whatever it meets
pub want_seen_row : (setup : Setup) (cluster : Cluster) (e : Event) → is_client e ≡ false
    → want_seen setup cluster e ≡ shown.NoMemory
want_seen_row setup cluster (Client c) h = cc
want_seen_row setup cluster Begin h = refl
want_seen_row setup cluster (Tell s) h = refl
want_seen_row setup cluster (Retell s m) h = refl
want_seen_row setup cluster Advance h = refl
want_seen_row setup cluster (Clone r d) h = refl
want_seen_row setup cluster (Fetch r d) h = refl
want_seen_row setup cluster (Cut r d) h = refl
want_seen_row setup cluster (Apply r d l) h = refl
want_seen_row setup cluster (Again r d l n) h = refl
want_seen_row setup cluster (Record r d) h = refl
want_seen_row setup cluster (Crash r d) h = refl
want_seen_row setup cluster (Report r) h = refl
want_seen_row setup cluster (Fail link cause) h = refl

want_holds_row : (setup : Setup) (cluster : Cluster) (e : Event) → is_client e ≡ false
    → want_holds setup cluster e ≡ table.holds setup cluster e
want_holds_row setup cluster (Client c) h = cc
want_holds_row setup cluster Begin h = refl
want_holds_row setup cluster (Tell s) h = refl
want_holds_row setup cluster (Retell s m) h = refl
want_holds_row setup cluster Advance h = refl
want_holds_row setup cluster (Clone r d) h = refl
want_holds_row setup cluster (Fetch r d) h = refl
want_holds_row setup cluster (Cut r d) h = refl
want_holds_row setup cluster (Apply r d l) h = refl
want_holds_row setup cluster (Again r d l n) h = refl
want_holds_row setup cluster (Record r d) h = refl
want_holds_row setup cluster (Crash r d) h = refl
want_holds_row setup cluster (Report r) h = refl
want_holds_row setup cluster (Fail link cause) h = refl

pub holds_row : (setup : Setup) (cluster : Cluster) (e : Event) (met : Met) → is_client e ≡ false
    → holds setup cluster e met ≡ table.holds setup cluster e
holds_row setup cluster e Row h = refl
holds_row setup cluster e CrashedBefore h = refl
holds_row setup cluster e CrashedAfter h = refl
holds_row setup cluster e Failed h = refl
holds_row setup cluster e Lost h = refl
holds_row setup cluster e NoMemory h = want_holds_row setup cluster e h
holds_row setup cluster e NoMemoryInMove h = refl

-- what is counted
counted_is : (setup : Setup) (a : Asks) (met : Met) (cluster : Cluster) → is_counted a met ≡ is_counted a CrashedBefore
    → counted setup a cluster ≡ counted_by a met cluster
counted_is setup quiet met cluster h = refl
counted_is setup (delivers w) met cluster h = refl
counted_is setup (commits who.Coordinator) met cluster h = rw h refl
counted_is setup (commits (who.Link r d)) met cluster h = refl
counted_is setup (commits (who.Lane r d l)) met cluster h = refl

same-count : (a : Asks) → is_counted a CrashedAfter ≡ is_counted a CrashedBefore
same-count quiet = refl
same-count (delivers w) = refl
same-count (commits who.Coordinator) = refl
same-count (commits (who.Link r d)) = refl
same-count (commits (who.Lane r d l)) = refl

no-count : (a : Asks) (met : Met) (cluster : Cluster) → is_counted a met ≡ false → cluster ≡ counted_by a met cluster
no-count a met cluster h = rw h refl

never_row : (a : Asks) → is_counted a Row ≡ false
never_row quiet = refl
never_row (delivers w) = refl
never_row (commits who.Coordinator) = refl
never_row (commits (who.Link r d)) = refl
never_row (commits (who.Lane r d l)) = refl

never-failed : (a : Asks) → is_counted a Failed ≡ false
never-failed quiet = refl
never-failed (delivers w) = refl
never-failed (commits who.Coordinator) = refl
never-failed (commits (who.Link r d)) = refl
never-failed (commits (who.Lane r d l)) = refl

never-lost : (a : Asks) → is_counted a Lost ≡ false
never-lost quiet = refl
never-lost (delivers w) = refl
never-lost (commits who.Coordinator) = refl
never-lost (commits (who.Link r d)) = refl
never-lost (commits (who.Lane r d l)) = refl

never-nomemory : (a : Asks) → is_counted a NoMemory ≡ false
never-nomemory quiet = refl
never-nomemory (delivers w) = refl
never-nomemory (commits who.Coordinator) = refl
never-nomemory (commits (who.Link r d)) = refl
never-nomemory (commits (who.Lane r d l)) = refl

never-nomemoryinmove : (a : Asks) → is_counted a NoMemoryInMove ≡ false
never-nomemoryinmove quiet = refl
never-nomemoryinmove (delivers w) = refl
never-nomemoryinmove (commits who.Coordinator) = refl
never-nomemoryinmove (commits (who.Link r d)) = refl
never-nomemoryinmove (commits (who.Lane r d l)) = refl

wanting_row : (setup : Setup) (cluster : Cluster) (e : Event) → is_client e ≡ false → wanting setup e cluster ≡ cluster
wanting_row setup cluster (Client c) h = cc
wanting_row setup cluster Begin h = refl
wanting_row setup cluster (Tell s) h = refl
wanting_row setup cluster (Retell s m) h = refl
wanting_row setup cluster Advance h = refl
wanting_row setup cluster (Clone r d) h = refl
wanting_row setup cluster (Fetch r d) h = refl
wanting_row setup cluster (Cut r d) h = refl
wanting_row setup cluster (Apply r d l) h = refl
wanting_row setup cluster (Again r d l n) h = refl
wanting_row setup cluster (Record r d) h = refl
wanting_row setup cluster (Crash r d) h = refl
wanting_row setup cluster (Report r) h = refl
wanting_row setup cluster (Fail link cause) h = refl

-- the change is the row's, with the coordinator's crash counted behind it
pub change_row : (setup : Setup) (stamp : Stamp) (cluster : Cluster) (e : Event) (met : Met) → is_client e ≡ false
    → change setup stamp cluster e (piece_for cluster e) met
    ≡ counted_by (asked cluster e) met (uncounted setup stamp cluster e met)
change_row setup stamp cluster e Row h = no-count _ Row _ (never_row (asked cluster e))
change_row setup stamp cluster e CrashedBefore h = counted_is setup (asked cluster e) CrashedBefore cluster refl
change_row setup stamp cluster e CrashedAfter h = counted_is setup (asked cluster e) CrashedAfter _ (same-count (asked cluster e))
change_row setup stamp cluster e Failed h = no-count _ Failed _ (never-failed (asked cluster e))
change_row setup stamp cluster e Lost h = no-count _ Lost _ (never-lost (asked cluster e))
change_row setup stamp cluster e NoMemory h =
    wanting_row setup cluster e h ∙ no-count _ NoMemory _ (never-nomemory (asked cluster e))
change_row setup stamp cluster e NoMemoryInMove h =
    wanting_row setup cluster e h ∙ no-count _ NoMemoryInMove _ (never-nomemoryinmove (asked cluster e))

-- what luck gives may be met
meets-commit : (setup : Setup) (cluster : Cluster) (e : Event) (piece : Option Piece) (met : Met)
    → is_commit (asks cluster e piece) ≡ true → may_come_to_commit met ≡ true → may_meet setup cluster e piece met ≡ true
meets-commit setup cluster e piece Row h k = refl
meets-commit setup cluster e piece CrashedBefore h k = h
meets-commit setup cluster e piece CrashedAfter h k = h
meets-commit setup cluster e piece Failed h k = h
meets-commit setup cluster e piece Lost h k = cc
meets-commit setup cluster e piece NoMemory h k = cc
meets-commit setup cluster e piece NoMemoryInMove h k = cc

meets-delivery : (setup : Setup) (cluster : Cluster) (e : Event) (piece : Option Piece) (met : Met)
    → is_delivery (asks cluster e piece) ≡ true → may_come_to_delivery met ≡ true → may_meet setup cluster e piece met ≡ true
meets-delivery setup cluster e piece Row h k = refl
meets-delivery setup cluster e piece CrashedBefore h k = cc
meets-delivery setup cluster e piece CrashedAfter h k = cc
meets-delivery setup cluster e piece Failed h k = cc
meets-delivery setup cluster e piece Lost h k = h
meets-delivery setup cluster e piece NoMemory h k = cc
meets-delivery setup cluster e piece NoMemoryInMove h k = cc

meets-by : (setup : Setup) (cluster : Cluster) (e : Event) (piece : Option Piece) (met : Met) (a : Asks)
    → asks cluster e piece ≡ a → IsGiven a met → may_meet setup cluster e piece met ≡ true
meets-by setup cluster e piece met quiet q k = rw k refl
meets-by setup cluster e piece met (commits w) q k = meets-commit setup cluster e piece met (ap is_commit q) k
meets-by setup cluster e piece met (delivers w) q k = meets-delivery setup cluster e piece met (ap is_delivery q) k

pub given_meets : (setup : Setup) (cluster : Cluster) (e : Event) (met : Met) → IsGiven (asked cluster e) met
    → may_meet setup cluster e (piece_for cluster e) met ≡ true
given_meets setup cluster e met h = meets-by setup cluster e (piece_for cluster e) met (asked cluster e) refl h
