-- What a source or a sink shows: its bytes, where it tells them, and its count of faults.
use Rattle.std.specs.Prelude.{ℕ, List, Option}

pub record Shown : Type 0 where
  pub bytes : Option (List ℕ)
  pub faults : ℕ

-- before a call and after it
pub record Seen : Type 0 where
  pub old : Shown
  pub new : Shown

-- by the two things that a source or a sink means
abbrev pub seen : {S : Type 0} → (S → Option (List ℕ)) → (S → ℕ) → S → S → Seen
seen bytes faults old new = record {
  old = record { bytes = bytes old; faults = faults old };
  new = record { bytes = bytes new; faults = faults new };
}
