-- The parts of the ends over std's readers and writers.
use Rattle.std.specs.Prelude.{ℕ}
use Rattle.resh_io.specs.declared.std_source.StdSource.{StdSource}
use Rattle.resh_io.specs.declared.std_sink.StdSink.{StdSink}

abbrev pub source_reader : {R : Type 0} → StdSource R → R
source_reader s = s.reader

abbrev pub source_faults : {R : Type 0} → StdSource R → ℕ
source_faults s = s.faults

abbrev pub sink_writer : {W : Type 0} → StdSink W → W
sink_writer s = s.writer

abbrev pub sink_faults : {W : Type 0} → StdSink W → ℕ
sink_faults s = s.faults
