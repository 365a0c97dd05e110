-- The rules for an entry of a donor, by where the donor finds its `_id`: what each makes of what is held of it.
use Rattle.std.specs.Prelude.{ℕ, Option, Some, None, is_some, position}
use Rattle.std.specs.Option.{option_map}
use Rattle.resh_value.specs.declared.change.Change.{Change}
use Rattle.resh_value.specs.declared.value.ShardId.{ShardId}
use Rattle.resh_chunks.specs.Chunks.{Chunks}
use Rattle.resh_oplog.specs.declared.entry.What.{What}
use Rattle.resh_oplog.specs.declared.entry.What.TheVariants.{Insert, Update, Delete, Final}
use Rattle.resh_stash.specs.Stored.{Document, changed_to}
use Rattle.resh_rules.specs.Finding.{found, pick}
use Rattle.resh_rules.specs.Held.{Held, waits, with_output, with_waiting}
use Rattle.resh_rules.specs.declared.rule.Rule.{Rule}

-- an insert goes to the donor's stash where the donor's document waits there or the output has another donor's; else it
-- goes to the output
abbrev pub inserted : Chunks → ℕ → Document → Held → Held
inserted old donor document held =
    pick (with_waiting held donor (Some document)) (with_output held (Some document)) (with_output held (Some document))
    (with_waiting held donor (Some document)) (found old donor held)

-- the output's document, or the donor's that waits, as a change makes it
abbrev pub output_changed : Change → Held → Held
output_changed change held = with_output held (option_map (changed_to change) held.output)

abbrev pub waiting_changed : ℕ → Change → Held → Held
waiting_changed donor change held = with_waiting held donor (option_map (changed_to change) (waits held donor))

-- an update changes the donor's own document where it is
abbrev pub updated : Chunks → ℕ → Change → Held → Held
updated old donor change held =
    pick (waiting_changed donor change held) held (output_changed change held) held (found old donor held)

-- the least donor in whose stash a document waits
abbrev pub first_waiting : Held → Option ℕ
first_waiting held = position is_some held.waiting

-- the output's document goes, and one that waits comes in its place
abbrev pub refilled : Held → Option ℕ → Held
refilled held None = with_output held None
refilled held (Some donor) = with_waiting (with_output held (waits held donor)) donor None

-- a delete empties the donor's own place
abbrev pub deleted : Chunks → ℕ → Held → Held
deleted old donor held =
    pick (with_waiting held donor None) held (refilled held (first_waiting held)) held (found old donor held)

-- the donor from whose stash a delete takes
abbrev pub took : Chunks → ℕ → Held → Option ℕ
took old donor held = pick None None (first_waiting held) None (found old donor held)

-- the number of the rule
abbrev pub insert_rule : Chunks → ℕ → Held → ℕ
insert_rule old donor held = pick 1 2 3 4 (found old donor held)

abbrev pub change_rule : Chunks → ℕ → Held → ℕ
change_rule old donor held = pick 1 2 4 3 (found old donor held)

-- what an entry of a donor makes of what is held of its `_id`
abbrev pub step_of : Chunks → ℕ → What → Held → Held
step_of old donor (Insert document) held = inserted old donor document held
step_of old donor (Update id change) held = updated old donor change held
step_of old donor (Delete id) held = deleted old donor held
step_of old donor Final held = held

abbrev pub donor_by : ℕ → ShardId
donor_by donor = record { 0 = donor }

-- a rule by its number, and the donor from whose stash a document was taken
abbrev pub rule_by : ℕ → Option ℕ → Rule
rule_by number taken = record { number = number; took = option_map donor_by taken }

-- the rule that it meets
abbrev pub rule_of : Chunks → ℕ → What → Held → Rule
rule_of old donor (Insert document) held = rule_by (insert_rule old donor held) None
rule_of old donor (Update id change) held = rule_by (change_rule old donor held) None
rule_of old donor (Delete id) held = rule_by (change_rule old donor held) (took old donor held)
rule_of old donor Final held = rule_by 0 None
