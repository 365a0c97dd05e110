-- The page of a run, line by line.
use Rattle.std.specs.Prelude.{ℕ, ◌+◌, Bool, true, false, ◌==◌, List, [], ◌∷◌, ◌++◌, length, count_by, flat_map, codes, decimal}
use Rattle.resh_value.specs.Text.{document_text}
use Rattle.resh_value.specs.declared.value.Value.{Value}
use Rattle.resh_coord.specs.declared.cause.End.{End}
use Rattle.resh_command.specs.declared.reply.Reply.{Reply}
use Rattle.resh_setup.specs.declared.turn.Turn.{Turn}
use Rattle.resh_setup.specs.declared.turn.Turn.TheVariants.{Command, Switch, Drop}
use Rattle.resh_report.specs.Lines.{line, name_at}
use Rattle.resh_report.specs.Ends.{end_line}
use Rattle.resh_report.specs.Replies.{answers_lines}

-- a turn of this client
abbrev pub is_turn_of : ℕ → Turn → Bool
is_turn_of client (Command other refused) = client == other
is_turn_of client Switch = false
is_turn_of client (Drop cause) = false

-- how many turns of a client stand there
abbrev pub turns_of : ℕ → List Turn → ℕ
turns_of client turns = count_by (is_turn_of client) turns

abbrev pub refused_mark : Bool → List ℕ
refused_mark true = codes " no memory"
refused_mark false = []

-- a turn after the turns before it: a client's name and the number of its command, or the mark
abbrev pub turn_text : List (List ℕ) → List Turn → Turn → List ℕ
turn_text clients before (Command client refused) =
    name_at clients client ++ codes " " ++ decimal (turns_of client before + 1) ++ refused_mark refused
turn_text clients before Switch = codes "switch"
turn_text clients before (Drop cause) = codes "drop"

abbrev pub turn_lines : List (List ℕ) → List Turn → List Turn → List ℕ
turn_lines clients before [] = []
turn_lines clients before (turn ∷ more) =
    line (turn_text clients before turn) ++ turn_lines clients (before ++ turn ∷ []) more

abbrev pub document_line : List (List ℕ × Value) → List ℕ
document_line document = line (document_text document)

-- a shard's name and number of documents, and its documents
abbrev pub shard_lines : List ℕ → List (List (List ℕ × Value)) → List ℕ
shard_lines name held =
    line (codes "shard " ++ name ++ codes " " ++ decimal (length held)) ++ flat_map document_line held

-- the shards from a place on
abbrev pub holdings_lines : List (List ℕ) → ℕ → List (List (List (List ℕ × Value))) → List ℕ
holdings_lines shards place [] = []
holdings_lines shards place (held ∷ more) =
    shard_lines (name_at shards place) held ++ holdings_lines shards (place + 1) more

-- the page from the order on
abbrev pub run_text : List (List ℕ) → List (List ℕ) → List Turn → End → List (List Reply)
    → List (List (List (List ℕ × Value))) → List ℕ
run_text shards clients order end answers holdings =
    line (codes "order") ++ turn_lines clients [] order ++ answers_lines clients 0 answers
    ++ holdings_lines shards 0 holdings ++ end_line shards clients end

abbrev pub page_text : List (List ℕ) → List (List ℕ) → List Turn → End → List (List Reply)
    → List (List (List (List ℕ × Value))) → List ℕ
page_text shards clients order end answers holdings =
    line (codes "steps") ++ run_text shards clients order end answers holdings

-- the page with the lines of a file's steps
abbrev pub page_with_lines_text : List (List ℕ) → List (List ℕ) → List (List ℕ) → List Turn → End
    → List (List Reply) → List (List (List (List ℕ × Value))) → List ℕ
page_with_lines_text lines shards clients order end answers holdings =
    line (codes "steps") ++ flat_map line lines ++ run_text shards clients order end answers holdings
