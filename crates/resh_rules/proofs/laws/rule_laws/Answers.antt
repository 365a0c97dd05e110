use Rattle.resh_value.proofs.WholeLaws.{whole_changed}
use Rattle.resh_rules.proofs.Giving.{fits_by_test, gives_by_rule}
use Rattle.resh_rules.proofs.Interleaved.{all_sound, all_slots, alike_slots}
use Rattle.resh_rules.proofs.Ruling.{empty_sound, inserted_sound, inserted_effect, updated_sound, updated_effect, deleted_sound, deleted_effect, stands}
use Rattle.resh_rules.proofs.Unnamed.{id_stays, owner_stays}
use Rattle.resh_rules.proofs.laws.rule_laws.Goals as goal

pub returns-clause-empty : goal.returns-clause-empty
returns-clause-empty c = empty_sound

pub returns-clause-stands : goal.returns-clause-stands
returns-clause-stands c = stands

pub returns-clause-inserts : goal.returns-clause-inserts
returns-clause-inserts c = record { sound = inserted_sound; effect = inserted_effect }

pub returns-clause-updates : goal.returns-clause-updates
returns-clause-updates c = record {
  sound = λ old id held donor change s rising n. updated_sound old id held donor change s (λ d is. whole_changed d change.assign change.unset rising n.id is)
      (λ d. id_stays change.assign change.unset d n.id) (λ d. owner_stays old change.assign change.unset d n.key);
  effect = λ old id held donor change s n. updated_effect old id held donor change s (λ d. owner_stays old change.assign change.unset d n.key);
}

pub returns-clause-deletes : goal.returns-clause-deletes
returns-clause-deletes c = record { sound = deleted_sound; effect = deleted_effect }

pub returns-clause-interleaves : goal.returns-clause-interleaves
returns-clause-interleaves c = record { sound = all_sound; slots = all_slots; alike = alike_slots }

pub returns-clause-fits : goal.returns-clause-fits
returns-clause-fits c = fits_by_test

pub returns-clause-gives : goal.returns-clause-gives
returns-clause-gives c = gives_by_rule
