-- What the line of a step's event says: the step's number, its words, and what the event showed.
use Rattle.std.specs.Prelude.{ℕ, Bool, true, false, List, [], ◌++◌, codes, decimal}
use Rattle.resh_value.specs.Text.{text_of}
use Rattle.resh_setup.specs.declared.event.Event.{Event}
use Rattle.resh_setup.specs.declared.event.Event.TheVariants as event
use Rattle.resh_setup.specs.declared.event.MessageKind.{MessageKind}
use Rattle.resh_setup.specs.declared.event.MessageKind.TheVariants.{Prepare, Donate, Block, Install, Release}
use Rattle.resh_setup.specs.declared.seen.Seen.{Seen}
use Rattle.resh_setup.specs.declared.seen.Seen.TheVariants as seen
use Rattle.resh_setup.specs.declared.seen.WriteKind.{WriteKind}
use Rattle.resh_setup.specs.declared.seen.WriteKind.TheVariants.{Insert, Update, Delete}
use Rattle.resh_report.specs.Lines.{name_at}
use Rattle.resh_report.specs.Ends.{node_text, why_text}

abbrev pub message_text : MessageKind → List ℕ
message_text Prepare = codes "prepare"
message_text Donate = codes "donate"
message_text Block = codes "block"
message_text Install = codes "install"
message_text Release = codes "release"

-- a step of a link: its word, the recipient and the donor
abbrev pub link_words : List (List ℕ) → List ℕ → ℕ → ℕ → List ℕ
link_words shards word recipient donor =
    word ++ codes " " ++ name_at shards recipient ++ codes " " ++ name_at shards donor

-- a step of a link's lane
abbrev pub lane_words : List (List ℕ) → List ℕ → ℕ → ℕ → ℕ → List ℕ
lane_words shards word recipient donor lane = link_words shards word recipient donor ++ codes " " ++ decimal lane

-- a step's words; a failure is no step and has none
abbrev pub step_words : List (List ℕ) → List (List ℕ) → Event → List ℕ
step_words shards clients (event.Client client) = codes "client " ++ name_at clients client
step_words shards clients event.Begin = codes "begin"
step_words shards clients (event.Tell shard) = codes "tell " ++ name_at shards shard.0
step_words shards clients (event.Retell shard message) =
    codes "retell " ++ name_at shards shard.0 ++ codes " " ++ message_text message
step_words shards clients event.Advance = codes "advance"
step_words shards clients (event.Clone recipient donor) = link_words shards (codes "clone") recipient.0 donor.0
step_words shards clients (event.Fetch recipient donor) = link_words shards (codes "fetch") recipient.0 donor.0
step_words shards clients (event.Cut recipient donor) = link_words shards (codes "cut") recipient.0 donor.0
step_words shards clients (event.Apply recipient donor lane) =
    lane_words shards (codes "apply") recipient.0 donor.0 lane
step_words shards clients (event.Again recipient donor lane position) =
    lane_words shards (codes "again") recipient.0 donor.0 lane ++ codes " " ++ decimal position
step_words shards clients (event.Record recipient donor) = link_words shards (codes "record") recipient.0 donor.0
step_words shards clients (event.Crash recipient donor) = link_words shards (codes "crash") recipient.0 donor.0
step_words shards clients (event.Report recipient) = codes "report " ++ name_at shards recipient.0
step_words shards clients (event.Fail link cause) = []

-- what stands between a step's words and what was seen
abbrev pub after_words : Event → List ℕ
after_words (event.Fail link cause) = []
after_words _ = codes ": "

abbrev pub write_text : WriteKind → List ℕ
write_text Insert = codes "insert"
write_text Update = codes "update"
write_text Delete = codes "delete"

-- where a piece stood in its feed, and how many documents wait after it
abbrev pub applied_at : ℕ → ℕ → List ℕ
applied_at place stash = codes ", place " ++ decimal place ++ codes ", stash " ++ decimal stash

abbrev pub late_mark : Bool → List ℕ
late_mark true = codes ": too late"
late_mark false = []

-- texts that are the same at each event
abbrev pub fixed_text : Seen → List ℕ
fixed_text seen.Idle = codes "idle"
fixed_text seen.Blocked = codes "blocked"
fixed_text seen.Refreshed = codes "refreshed"
fixed_text seen.PreparingToDonate = codes "preparing to donate"
fixed_text seen.Prepared = codes "prepared"
fixed_text seen.Donating = codes "donating"
fixed_text seen.Released = codes "released"
fixed_text seen.NothingNew = codes "nothing new"
fixed_text seen.Cloning = codes "cloning"
fixed_text seen.Applying = codes "applying"
fixed_text seen.BlockingWrites = codes "blocking writes"
fixed_text seen.Committing = codes "committing"
fixed_text seen.Aborting = codes "aborting"
fixed_text seen.Done = codes "done"
fixed_text seen.GotNothing = codes "nothing"
fixed_text seen.Cloned = codes "cloned"
fixed_text seen.Near = codes "near"
fixed_text seen.Consistent = codes "consistent"
fixed_text seen.Lost = codes "lost 64 times"
fixed_text seen.CrashedBefore = codes "crashed before"
fixed_text seen.Failed = codes "failed"
fixed_text seen.NoMemory = codes "no memory"
fixed_text _ = []

-- what a lane showed of a piece
abbrev pub piece_text : List (List ℕ) → Seen → List ℕ
piece_text shards (seen.Applied write rule place stash) =
    write_text write ++ codes " rule " ++ decimal rule ++ applied_at place stash
piece_text shards (seen.Took write donor place stash) =
    write_text write ++ codes " rule 4 took " ++ name_at shards donor.0 ++ applied_at place stash
piece_text shards (seen.Repeated at) = codes "repeated, at " ++ decimal at
piece_text shards (seen.Ahead at) = codes "ahead, at " ++ decimal at
piece_text shards other = fixed_text other

-- what an event showed
abbrev pub seen_text : List (List ℕ) → Seen → List ℕ
seen_text shards (seen.Command number) = codes "command " ++ decimal number
seen_text shards (seen.Installed documents) = codes "installed " ++ decimal documents
seen_text shards (seen.GotEnd count) = codes "got " ++ decimal count ++ codes ", end"
seen_text shards (seen.GotMore count) = codes "got " ++ decimal count ++ codes ", more"
seen_text shards (seen.Got count) = codes "got " ++ decimal count
seen_text shards (seen.GotFinal count) = codes "got " ++ decimal count ++ codes ", final"
seen_text shards (seen.Batch from to) = codes "batch " ++ decimal from ++ codes " to " ++ decimal to
seen_text shards (seen.Kept place) = codes "place " ++ decimal place
seen_text shards (seen.KeptLast place) = codes "place " ++ decimal place ++ codes ", finished"
seen_text shards (seen.Back place) = codes "back to place " ++ decimal place
seen_text shards (seen.Clash id) = codes "clash " ++ text_of id
seen_text shards (seen.Fails node cause late) =
    codes "fail " ++ node_text shards node ++ codes " " ++ why_text cause ++ late_mark late
seen_text shards (seen.FailsForMemory recipient late) =
    codes "fail " ++ name_at shards recipient.0 ++ codes " no memory" ++ late_mark late
seen_text shards other = piece_text shards other

-- the line of one event of the step of this number, without its line feed
abbrev pub step_line : List (List ℕ) → List (List ℕ) → ℕ → Event → Seen → List ℕ
step_line shards clients number event seen =
    decimal number ++ codes " " ++ step_words shards clients event ++ after_words event ++ seen_text shards seen
