-- What a generated setup's run came to, in short.
use Rattle.std.specs.Prelude.{ℕ, ◌+◌, List, [], ◌∷◌, ◌++◌, codes, decimal, length}
use Rattle.resh_coord.specs.declared.cause.End.{End}
use Rattle.resh_setup.specs.Validity.{command_count}
use Rattle.resh_setup.specs.declared.setup.Setup.{Setup}
use Rattle.resh_report.specs.Ends.{end_line}
use Rattle.resh_report.specs.Lines.{line, name_at, names_of}
use Rattle.resh_report.specs.declared.summaries.Tally.{Tally}

-- a word and a number
abbrev pub counted_line : List ℕ → ℕ → List ℕ
counted_line what number = line (what ++ decimal number)

-- the number that a setup was made from, and how much it has
abbrev pub made_lines : ℕ → Setup → List ℕ
made_lines number setup =
    counted_line (codes "generated ") number ++ counted_line (codes "documents ") (length setup.documents)
    ++ counted_line (codes "commands ") (command_count setup.clients)

-- how many commands were answered in each way
abbrev pub tally_lines : Tally → List ℕ
tally_lines tally =
    counted_line (codes "inserted ") tally.inserted ++ counted_line (codes "matched ") tally.matched
    ++ counted_line (codes "deleted ") tally.deleted ++ counted_line (codes "other ") tally.other

abbrev pub held_line : List ℕ → ℕ → List ℕ
held_line name count = line (codes "shard " ++ name ++ codes " " ++ decimal count)

-- how many documents each shard holds, from a place on
abbrev pub held_lines : List (List ℕ) → ℕ → List ℕ → List ℕ
held_lines names place [] = []
held_lines names place (count ∷ more) = held_line (name_at names place) count ++ held_lines names (place + 1) more

abbrev pub summary_text : ℕ → Setup → End → Tally → List ℕ → List ℕ
summary_text number setup end tally held =
    made_lines number setup ++ end_line setup.shards (names_of setup.clients) end ++ tally_lines tally
    ++ held_lines setup.shards 0 held
