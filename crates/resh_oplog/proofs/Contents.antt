-- Which contents are whole, in the words of documents and changes.
use Rattle.std.proofs.Common.{◌≡◌, ◌⊎◌, inl, inr, Bool, true, false, ◌&&◌, refl}
use Rattle.resh_value.specs.Lookup.{has_id}
use Rattle.resh_value.specs.Whole.{has_rising_names}
use Rattle.resh_value.proofs.WholeLaws.{rising_decides, whole_decides}
use Rattle.resh_oplog.specs.Laws.{SaysWhole}
use Rattle.resh_oplog.specs.Logs.{id_written, is_whole}
use Rattle.resh_oplog.specs.declared.entry.What.{What}
use Rattle.resh_oplog.specs.declared.entry.What.TheVariants.{Insert, Update, Delete, Final}
use Rattle.std.proofs.Common.{is_some}

last_true : (a b : Bool) → (a && b) ≡ true → b ≡ true
last_true true b e = e
last_true false b e = cc

pub says_whole : SaysWhole
says_whole = record {
  inserts = λ document. whole_decides document;
  updates = λ id change. rising_decides change.assign;
  named = has_one;
}
  where
    has_one : (what : What) → is_whole what ≡ true → (what ≡ Final) ⊎ (is_some (id_written what) ≡ true)
    has_one (Insert document) e = inr (last_true (has_rising_names document) (has_id document) e)
    has_one (Update id change) e = inr refl
    has_one (Delete id) e = inr refl
    has_one Final e = inl refl
