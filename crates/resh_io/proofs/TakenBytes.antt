-- What one more read adds to a whole reading.
use Rattle.std.proofs.Common.{◌≡◌, ℕ, ◌+◌, ◌≤◌, List, ◌++◌, length, drop, None, Some, Err, sym, ap, ◌∙◌, arith, length-append}
use Rattle.std.proofs.Math.Seq.{drop-append_seam}
use Rattle.std.specs.declared.option.Option.{Option}
use Rattle.std.specs.Io.KnownBytes.{Consumes}
use Rattle.std.proofs.KnownBytes.{Consumes-trans, Consumes-kept}
use Rattle.resh_io.specs.Reading.{GivesFirst, ReadsAll, ReadsSome}
use Rattle.resh_io.specs.declared.reading.ReadAllFault.{ReadAllFault}
use Rattle.resh_io.specs.declared.reading.ReadAllFault.TheVariants.{Read, TooLong, NoMemory}

-- bytes that were taken are the first, and are gone
pub GivesFirst-from_consumes : (old new : Option (List ℕ)) (bytes : List ℕ) → Consumes old new bytes → GivesFirst old new (length bytes)
GivesFirst-from_consumes None new bytes p = tt
GivesFirst-from_consumes (Some left) None bytes p = absurd p
GivesFirst-from_consumes (Some left) (Some rest) bytes p =
    (omega (arith, ap length p, length-append bytes rest), sym (ap (drop (length bytes)) p ∙ drop-append_seam bytes rest))

-- a read that fails ends the reading
pub ReadsAll-from_fault : (old mid new : Option (List ℕ)) (limit room : ℕ) (before after : List ℕ) (fault : ReadAllFault) → length before ≤ limit
    → length before + room ≡ limit + 1 → Consumes old mid before → ReadsSome mid new room before after (Err fault) → ReadsAll old new limit (Err fault)
ReadsAll-from_fault old mid new limit room before after Read within e p kept =
    (length before, within, GivesFirst-from_consumes old new before (Consumes-kept old mid new before p kept))
ReadsAll-from_fault old mid new limit room before after NoMemory within e p (taken, few, q) =
    (length (before ++ taken), omega (arith, length-append before taken), GivesFirst-from_consumes old new (before ++ taken) (Consumes-trans old mid new before taken p q))
ReadsAll-from_fault old mid new limit room before after (TooLong n) within e p none = absurd none
