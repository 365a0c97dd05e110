-- What writing puts behind the bytes that were written. Of a sink that doesn't tell its bytes, nothing is said of them.
use Rattle.std.specs.Prelude.{ℕ, ◌<◌, List, length, take, Ok, Err, Result, IfOk}
use Rattle.std.specs.declared.option.Option.{Option}
use Rattle.std.specs.Io.KnownBytes.{Appends}
use Rattle.resh_io.specs.declared.writing.Cut.{Cut}

-- of a piece that isn't empty at least one byte was taken
abbrev pub TakesSome : {E : Type 0} → Result ℕ E → List ℕ → Type 0
TakesSome result piece = IfOk result (λ n. 0 < length piece → 0 < n)

-- What each answer of `write_all` says: all the bytes are written, or only the first, and not all.
abbrev pub WritesAll : Option (List ℕ) → Option (List ℕ) → List ℕ → Result (Unit {0}) Cut → Type 0
WritesAll old new bytes (Ok _) = Appends old new bytes
WritesAll old new bytes (Err cut) = (cut.sent < length bytes) × Appends old new (take cut.sent bytes)
