-- The text of a refusal.
use Rattle.std.specs.Prelude.{ℕ, List, ◌++◌, codes, decimal}
use Rattle.json.specs.Print.{quoted}
use Rattle.resh_value.specs.declared.fault.ValueFault.{ValueFault}
use Rattle.resh_value.specs.declared.fault.ValueFault.TheVariants as value
use Rattle.resh_chunks.specs.declared.faults.ChunkFault.{ChunkFault}
use Rattle.resh_chunks.specs.declared.faults.ChunkFault.TheVariants.{FirstNotMin, LastNotMax, EmptyRange, Gap, Overlap, UnknownShard, WrongLength}
use Rattle.resh_ops.specs.declared.faults.UpdateFault.{UpdateFault}
use Rattle.resh_ops.specs.declared.faults.UpdateFault.TheVariants as update
use Rattle.resh_filter.specs.declared.fault.FilterFault.{FilterFault}
use Rattle.resh_filter.specs.declared.fault.FilterFault.TheVariants as filter
use Rattle.resh_setup.specs.declared.fault.SetupFault.{SetupFault}
use Rattle.resh_setup.specs.declared.fault.SetupFault.TheVariants.{NotJson, Missing, WrongKind, UnknownName, Value, Chunks, Update, Filter, SameId, NoId, OverLimit, NoMemory}
use Rattle.resh_report.specs.Lines.{line}

-- `WHAT PATH`, with the path as a JSON string
abbrev pub at_path : List ℕ → List ℕ → List ℕ
at_path what path = what ++ codes " " ++ quoted path

-- `WHAT row I`
abbrev pub of_row : List ℕ → ℕ → List ℕ
of_row what row = what ++ codes " row " ++ decimal row

-- `over limit LIMIT PATH`
abbrev pub over_limit : ℕ → List ℕ → List ℕ
over_limit limit path = at_path (codes "over limit " ++ decimal limit) path

abbrev pub value_fault_text : ValueFault → List ℕ
value_fault_text (value.NotWhole path) = at_path (codes "not whole") path
value_fault_text (value.BadTag path) = at_path (codes "bad tag") path
value_fault_text (value.TooDeep path) = at_path (codes "too deep") path
value_fault_text (value.DollarName path) = at_path (codes "dollar name") path
value_fault_text (value.NotDocument path) = at_path (codes "wrong kind") path
value_fault_text value.NoMemory = codes "no memory"

abbrev pub chunk_fault_text : List ℕ → ChunkFault → List ℕ
chunk_fault_text path FirstNotMin = at_path (codes "first not min") path
chunk_fault_text path LastNotMax = at_path (codes "last not max") path
chunk_fault_text path (EmptyRange row) = at_path (of_row (codes "empty range") row) path
chunk_fault_text path (Gap row) = at_path (of_row (codes "gap") row) path
chunk_fault_text path (Overlap row) = at_path (of_row (codes "overlap") row) path
chunk_fault_text path (UnknownShard row) = at_path (of_row (codes "unknown shard") row) path
chunk_fault_text path (WrongLength row) = at_path (of_row (codes "wrong length") row) path

-- `WHAT INSIDE PATH`: the operator's name or the path in the update, and then the update's place
abbrev pub in_update : List ℕ → List ℕ → List ℕ → List ℕ
in_update what inside path = at_path (at_path what inside) path

abbrev pub update_fault_text : List ℕ → UpdateFault → List ℕ
update_fault_text path (update.UnknownOperator name) = in_update (codes "unknown operator") name path
update_fault_text path (update.Conflict inside) = in_update (codes "conflict") inside path
update_fault_text path update.IdPath = at_path (codes "id path") path
update_fault_text path (update.BadOperand inside) = in_update (codes "bad operand") inside path
update_fault_text path (update.Value fault) = value_fault_text fault
update_fault_text path update.NoMemory = codes "no memory"

abbrev pub filter_fault_text : FilterFault → List ℕ
filter_fault_text (filter.DottedName path) = at_path (codes "dotted name") path
filter_fault_text (filter.Value fault) = value_fault_text fault
filter_fault_text filter.NoMemory = codes "no memory"

abbrev pub fault_text : SetupFault → List ℕ
fault_text NotJson = codes "not JSON"
fault_text (Missing path) = at_path (codes "missing") path
fault_text (WrongKind path) = at_path (codes "wrong kind") path
fault_text (UnknownName path) = at_path (codes "unknown name") path
fault_text (Value fault) = value_fault_text fault
fault_text (Chunks path fault) = chunk_fault_text path fault
fault_text (Update path fault) = update_fault_text path fault
fault_text (Filter fault) = filter_fault_text fault
fault_text (SameId row) = of_row (codes "same id") row
fault_text (NoId path) = at_path (codes "no id") path
fault_text (OverLimit path limit) = over_limit limit path
fault_text NoMemory = codes "no memory"

abbrev pub refusal_text : SetupFault → List ℕ
refusal_text fault = line (codes "refused: " ++ fault_text fault)
