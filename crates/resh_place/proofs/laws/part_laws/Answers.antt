use Rattle.resh_place.proofs.Clashes.{parts_stand}
use Rattle.resh_place.proofs.Outputs.{outputs_are_parts}
use Rattle.resh_place.proofs.Taken.{take_their_parts}
use Rattle.resh_place.proofs.laws.part_laws.Goals as goal

pub returns-clause-taken : goal.returns-clause-taken
returns-clause-taken c = take_their_parts

pub returns-clause-stands : goal.returns-clause-stands
returns-clause-stands c = parts_stand

pub returns-clause-outputs : goal.returns-clause-outputs
returns-clause-outputs c = outputs_are_parts
