-- The ends in memory, as contracts see them.
use Rattle.std.specs.Prelude.{ℕ, List, ◌++◌, drop}
use Rattle.resh_io.specs.Causes.{next_count}

-- the bytes left, the calls that fail, the most bytes in a call, the calls so far and those that failed
pub record SourceState : Type 0 where
  pub left : List ℕ
  pub failing : List ℕ
  pub most : ℕ
  pub calls : ℕ
  pub faults : ℕ

-- the source after a call that gave n bytes
abbrev pub after_read : SourceState → ℕ → SourceState
after_read s n = record s { left = drop n s.left; calls = next_count s.calls }

-- the source after a call that failed
abbrev pub after_failed_read : SourceState → SourceState
after_failed_read s = record s { calls = next_count s.calls; faults = next_count s.faults }

-- the bytes written, the calls that fail, the most bytes in a call, the calls so far and those that failed
pub record SinkState : Type 0 where
  pub bytes : List ℕ
  pub failing : List ℕ
  pub most : ℕ
  pub calls : ℕ
  pub faults : ℕ

-- the sink after a call that took these bytes
abbrev pub after_write : SinkState → List ℕ → SinkState
after_write s taken = record s { bytes = s.bytes ++ taken; calls = next_count s.calls }

-- the sink after a call that failed
abbrev pub after_failed_write : SinkState → SinkState
after_failed_write s = record s { calls = next_count s.calls; faults = next_count s.faults }
