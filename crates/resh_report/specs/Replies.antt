-- What each client was answered, line by line.
use Rattle.std.specs.Prelude.{ℕ, ◌+◌, true, false, List, [], ◌∷◌, ◌++◌, flat_map, codes, decimal}
use Rattle.resh_value.specs.Text.{document_text}
use Rattle.resh_value.specs.declared.value.Value.{Value}
use Rattle.resh_ops.specs.declared.faults.ChangeFault.{ChangeFault}
use Rattle.resh_ops.specs.declared.faults.ChangeFault.TheVariants as change
use Rattle.resh_command.specs.declared.reply.Reply.{Reply}
use Rattle.resh_command.specs.declared.reply.Reply.TheVariants.{Inserted, Duplicate, Matched, NotFound, Deleted, Found, Counted, NoKey, Refused, AbortAccepted, AbortTooLate, NoMemory}
use Rattle.resh_report.specs.Lines.{line, name_at}
use Rattle.resh_report.specs.Refusals.{at_path}

-- why an update was refused
abbrev pub change_fault_text : ChangeFault → List ℕ
change_fault_text (change.NotNumber path) = at_path (codes "not number") path
change_fault_text (change.OutOfRange path) = at_path (codes "out of range") path
change_fault_text (change.NotArray path) = at_path (codes "not array") path
change_fault_text (change.ThroughScalar path) = at_path (codes "through scalar") path
change_fault_text change.TooLarge = codes "too large"
change_fault_text change.TooDeep = codes "too deep"
change_fault_text change.NoMemory = codes "no memory"

abbrev pub found_line : List (List ℕ × Value) → List ℕ
found_line document = line (codes "  " ++ document_text document)

-- a reply's line, and a find's documents under it
abbrev pub reply_lines : Reply → List ℕ
reply_lines Inserted = line (codes "inserted")
reply_lines Duplicate = line (codes "duplicate id")
reply_lines (Matched true) = line (codes "matched 1 changed 1")
reply_lines (Matched false) = line (codes "matched 1 changed 0")
reply_lines NotFound = line (codes "not found")
reply_lines Deleted = line (codes "deleted")
reply_lines (Found count first) = line (codes "found " ++ decimal count) ++ flat_map found_line first
reply_lines (Counted count) = line (codes "count " ++ decimal count)
reply_lines NoKey = line (codes "no key")
reply_lines (Refused fault) = line (codes "refused: " ++ change_fault_text fault)
reply_lines AbortAccepted = line (codes "abort accepted")
reply_lines AbortTooLate = line (codes "abort too late")
reply_lines NoMemory = line (codes "no memory")

-- replies, numbered from this number on
abbrev pub replies_lines : ℕ → List Reply → List ℕ
replies_lines number [] = []
replies_lines number (reply ∷ more) =
    decimal number ++ codes " " ++ reply_lines reply ++ replies_lines (number + 1) more

-- a client's name, and its replies
abbrev pub client_lines : List ℕ → List Reply → List ℕ
client_lines name replies = line (codes "client " ++ name) ++ replies_lines 1 replies

-- the clients from a place on
abbrev pub answers_lines : List (List ℕ) → ℕ → List (List Reply) → List ℕ
answers_lines clients place [] = []
answers_lines clients place (replies ∷ more) =
    client_lines (name_at clients place) replies ++ answers_lines clients (place + 1) more
