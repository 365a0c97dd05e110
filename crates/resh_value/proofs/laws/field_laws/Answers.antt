use Rattle.resh_value.proofs.Names.{apart_from_unlike}
use Rattle.resh_value.proofs.FieldLaws.{field_of-with_field_same, field_of-with_field_other, field_of-without_field_same, field_of-without_field_other, HasRisingNames-with_field, HasRisingNames-without_field, same_fields}
use Rattle.resh_value.proofs.ChangeLaws.{field_of-changed}
use Rattle.resh_value.proofs.laws.field_laws.Goals as goal

pub returns-clause-puts : goal.returns-clause-puts
returns-clause-puts c = record {
  there = field_of-with_field_same;
  elsewhere = λ fs n o v d. field_of-with_field_other fs n o v (apart_from_unlike o n d);
  rises = HasRisingNames-with_field;
}

pub returns-clause-removes : goal.returns-clause-removes
returns-clause-removes c = record {
  there = field_of-without_field_same;
  elsewhere = λ fs n o d. field_of-without_field_other fs n o (apart_from_unlike o n d);
  rises = HasRisingNames-without_field;
}

pub returns-clause-same : goal.returns-clause-same
returns-clause-same c = same_fields

pub returns-clause-changes : goal.returns-clause-changes
returns-clause-changes c = λ a fs u q s t. field_of-changed a u fs q s t
