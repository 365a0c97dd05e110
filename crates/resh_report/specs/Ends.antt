-- How a run ended, in words.
use Rattle.std.specs.Prelude.{ℕ, List, ◌++◌, codes, decimal}
use Rattle.resh_value.specs.Text.{text_of}
use Rattle.resh_coord.specs.declared.cause.Cause.{Cause}
use Rattle.resh_coord.specs.declared.cause.Cause.TheVariants.{Clash, Asked, Failed, NoMemory}
use Rattle.resh_coord.specs.declared.cause.End.{End}
use Rattle.resh_coord.specs.declared.cause.End.TheVariants.{Committed, Aborted}
use Rattle.resh_coord.specs.declared.cause.Node.{Node}
use Rattle.resh_coord.specs.declared.cause.Node.TheVariants.{Coordinator, Shard}
use Rattle.resh_coord.specs.declared.cause.Why.{Why}
use Rattle.resh_coord.specs.declared.cause.Why.TheVariants.{Commit, Link, Crashes}
use Rattle.resh_report.specs.Lines.{line, name_at}

abbrev pub why_text : Why → List ℕ
why_text Commit = codes "commit"
why_text Link = codes "link"
why_text Crashes = codes "crashes"

abbrev pub node_text : List (List ℕ) → Node → List ℕ
node_text shards Coordinator = codes "coordinator"
node_text shards (Shard s) = name_at shards s.0

abbrev pub cause_text : List (List ℕ) → List (List ℕ) → Cause → List ℕ
cause_text shards clients (Clash s id) = codes "clash " ++ name_at shards s.0 ++ codes " " ++ text_of id
cause_text shards clients (Asked client number) =
    codes "asked " ++ name_at clients client ++ codes " " ++ decimal number
cause_text shards clients (Failed node why) = codes "failed " ++ node_text shards node ++ codes " " ++ why_text why
cause_text shards clients NoMemory = codes "no memory"

abbrev pub end_text : List (List ℕ) → List (List ℕ) → End → List ℕ
end_text shards clients Committed = codes "committed"
end_text shards clients (Aborted cause) = codes "aborted: " ++ cause_text shards clients cause

abbrev pub end_line : List (List ℕ) → List (List ℕ) → End → List ℕ
end_line shards clients end = line (codes "end " ++ end_text shards clients end)
