use Rattle.resh_value.proofs.WholeLaws.{rising_decides, whole_decides, whole_put, whole_removed, whole_changed, whole_with_id, field_of-unnamed}
use Rattle.resh_value.proofs.laws.whole_laws.Goals as goal

pub returns-clause-rising : goal.returns-clause-rising
returns-clause-rising c = rising_decides

pub returns-clause-whole : goal.returns-clause-whole
returns-clause-whole c = whole_decides

pub returns-clause-stays : goal.returns-clause-stays
returns-clause-stays c = record { put = whole_put; removed = whole_removed; changed = whole_changed }

pub returns-clause-with_id : goal.returns-clause-with_id
returns-clause-with_id c = whole_with_id

pub returns-clause-unnamed : goal.returns-clause-unnamed
returns-clause-unnamed c = field_of-unnamed
