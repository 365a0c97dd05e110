-- What the code's sayings say.
use Rattle.std.specs.Prelude.{Some}
use Rattle.resh_run.specs.Top.{Saying, alone, status_of, usage_text, too_long_text, read_fault_text, no_memory_text}
use Rattle.resh_run.specs.declared.decision.Said.{Said}
use Rattle.resh_run.specs.declared.decision.Said.TheVariants.{Usage, ReadFault, TooLong, NoMemory, Refused, Ran}
use Rattle.resh_run.specs.declared.decision.Said.TheVariants.{Checked, Printed}

abbrev pub said : Said → Saying
said Usage = alone 2 usage_text
said ReadFault = alone 4 read_fault_text
said TooLong = alone 3 too_long_text
said NoMemory = alone 6 no_memory_text
said (Refused text) = alone 3 text.items
said (Ran order end page trace) =
    record { meant = status_of end; order = order; end = Some end; trace = trace; text = page.items }
said (Checked text) = alone 0 text.items
said (Printed text) = alone 0 text.items
