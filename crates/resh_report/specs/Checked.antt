-- What is said of a setup that was only read: how much of each part it has.
use Rattle.std.specs.Prelude.{ℕ, List, ◌++◌, codes, decimal, length}
use Rattle.resh_setup.specs.Validity.{command_count}
use Rattle.resh_setup.specs.declared.setup.Setup.{Setup}
use Rattle.resh_report.specs.Lines.{line}

-- how many there are of something
abbrev pub counted : ℕ → List ℕ → List ℕ
counted number what = decimal number ++ what

abbrev pub data_counts : Setup → List ℕ
data_counts setup = counted (length setup.shards) (codes " shards, ") ++ counted (length setup.documents) (codes " documents, ")

abbrev pub client_counts : Setup → List ℕ
client_counts setup =
    counted (length setup.clients) (codes " clients, ") ++ counted (command_count setup.clients) (codes " commands, ")

abbrev pub step_counts : Setup → List ℕ
step_counts setup = counted (length setup.steps) (codes " steps, ") ++ counted (length setup.plan) (codes " plan rows")

abbrev pub checked_text : Setup → List ℕ
checked_text setup = line (codes "checked: " ++ data_counts setup ++ client_counts setup ++ step_counts setup)
