-- What is read past the last mark of a time is of a later time.
use Rattle.std.proofs.Common.{cond, ◌&&◌, nat_lt, [], ◌∷◌, Some, refl, ap, ◌∙◌}
use Rattle.std.proofs.lemmas.List.Elements.{All-head, All-tail}
use Rattle.resh_stamp.specs.Laws.{IsMark}
use Rattle.resh_stamp.specs.Times.{last_mark_of}
use Rattle.resh_stamp.proofs.Orders.{times_end}
use Rattle.resh_oplog.specs.Laws.{ReadsLater}
use Rattle.resh_oplog.specs.Logs.{entries_after, is_for, mark_of}
use Rattle.resh_oplog.specs.declared.entry.Entry.{Entry}

pub reads_later : ReadsLater
reads_later time recipient [] marked = refl
reads_later time recipient (e ∷ es) marked =
    ap (λ b. cond (b && is_for recipient e.to) (e ∷ entries_after (Some (last_mark_of time)) recipient es) (entries_after (Some (last_mark_of time)) recipient es))
    (times_end time (mark_of e) (All-head (λ (x : Entry). IsMark (mark_of x)) e es marked))
    ∙ ap (λ rest. cond (nat_lt time e.stamp.time && is_for recipient e.to) (e ∷ rest) rest)
    (reads_later time recipient es (All-tail (λ (x : Entry). IsMark (mark_of x)) e es marked))
