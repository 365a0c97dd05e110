-- What reading takes from a source. Of a source that doesn't tell its bytes, nothing is said of them.
use Rattle.std.specs.Prelude.{◌≡◌, ℕ, ◌+◌, ◌≤◌, List, [], ◌++◌, length, drop, ⊤, None, Some, Ok, Err, Result, Vec, vec_len}
use Rattle.std.specs.declared.option.Option.{Option}
use Rattle.std.specs.declared.alloc.Global.{Global}
use Rattle.std.specs.Io.KnownBytes.{Keeps, Consumes, IsAtEnd}
use Rattle.resh_io.specs.declared.reading.ReadAllFault.{ReadAllFault}
use Rattle.resh_io.specs.declared.reading.ReadAllFault.TheVariants.{Read, TooLong, NoMemory}

-- these are all the bytes that were left, and none is left now
abbrev pub GivesAll : Option (List ℕ) → Option (List ℕ) → List ℕ → Type 0
GivesAll None new bytes = ⊤
GivesAll (Some left) None bytes = ⊥
GivesAll (Some left) (Some rest) bytes = (bytes ≡ left) × (rest ≡ [])

-- the first n bytes were there and are gone
abbrev pub GivesFirst : Option (List ℕ) → Option (List ℕ) → ℕ → Type 0
GivesFirst None new n = ⊤
GivesFirst (Some left) None n = ⊥
GivesFirst (Some left) (Some rest) n = (n ≤ length left) × (rest ≡ drop n left)

-- some first bytes are gone, and no more than this
abbrev pub GivesAtMost : Option (List ℕ) → Option (List ℕ) → ℕ → Type 0
GivesAtMost old new most = (n : ℕ) × (n ≤ most) × GivesFirst old new n

-- What each answer of `read_all` says: all the bytes, within the limit; one byte more than the limit is gone;
-- or some bytes are gone.
abbrev pub ReadsAll : Option (List ℕ) → Option (List ℕ) → ℕ → Result (Vec ℕ Global) ReadAllFault → Type 0
ReadsAll old new limit (Ok bytes) = (vec_len bytes ≤ limit) × GivesAll old new bytes.items
ReadsAll old new limit (Err (TooLong most)) = (most ≡ limit) × GivesFirst old new (limit + 1)
ReadsAll old new limit (Err Read) = GivesAtMost old new limit
ReadsAll old new limit (Err NoMemory) = GivesAtMost old new (limit + 1)

-- One read put what it took behind the bytes before. It took no more than this, and none only at the end.
-- What was taken before memory ran out is lost.
abbrev pub ReadsSome : Option (List ℕ) → Option (List ℕ) → ℕ → List ℕ → List ℕ → Result ℕ ReadAllFault → Type 0
ReadsSome old new most before after (Ok n) =
    (taken : List ℕ) × (length taken ≡ n) × (n ≤ most) × (after ≡ before ++ taken)
    × Consumes old new taken × (n ≡ 0 → IsAtEnd new)
ReadsSome old new most before after (Err Read) = Keeps old new
ReadsSome old new most before after (Err NoMemory) = (taken : List ℕ) × (length taken ≤ most) × Consumes old new taken
ReadsSome old new most before after (Err (TooLong n)) = ⊥
