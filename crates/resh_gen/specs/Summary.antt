-- What a generated setup's run comes to, in short.
use Rattle.std.specs.Prelude.{ℕ, ◌+◌, List, [], ◌∷◌}
use Rattle.resh_command.specs.declared.reply.Reply.{Reply}
use Rattle.resh_command.specs.declared.reply.Reply.TheVariants.{Inserted, Matched, Deleted}
use Rattle.resh_coord.specs.declared.cause.End.{End}
use Rattle.resh_setup.specs.declared.setup.Setup.{Setup}
use Rattle.resh_report.specs.Summaries.{summary_text}
use Rattle.resh_report.specs.declared.summaries.Tally.{Tally}

-- a tally with one reply more
abbrev pub counted_with : Tally → Reply → Tally
counted_with tally Inserted = record tally { inserted = tally.inserted + 1 }
counted_with tally (Matched changed) = record tally { matched = tally.matched + 1 }
counted_with tally Deleted = record tally { deleted = tally.deleted + 1 }
counted_with tally _ = record tally { other = tally.other + 1 }

-- a tally with these replies
abbrev pub tally_of : Tally → List Reply → Tally
tally_of tally [] = tally
tally_of tally (reply ∷ more) = tally_of (counted_with tally reply) more

-- a tally with those of these clients
abbrev pub tally_from : Tally → List (List Reply) → Tally
tally_from tally [] = tally
tally_from tally (replies ∷ more) = tally_from (tally_of tally replies) more

-- how many commands of all clients were answered in each way
abbrev pub tally_in : List (List Reply) → Tally
tally_in answers = tally_from (record { inserted = 0; matched = 0; deleted = 0; other = 0 }) answers

abbrev pub summary_of : ℕ → Setup → End → List (List Reply) → List ℕ → List ℕ
summary_of number setup end answers held = summary_text number setup end (tally_in answers) held
