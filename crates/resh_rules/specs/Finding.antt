-- Where a donor finds an `_id`, and a choice by that.
use Rattle.std.specs.Prelude.{ℕ, cond, is_some, is_none}
use Rattle.resh_chunks.specs.Chunks.{Chunks}
use Rattle.resh_rules.specs.Held.{Held, waits, is_owned}
use Rattle.resh_rules.specs.declared.rule.Found.{Found}
use Rattle.resh_rules.specs.declared.rule.Found.TheVariants.{Waiting, Nothing, Own, Others}

-- the first of these that holds: the donor's stash has the `_id`; the output hasn't; the output's document is the
-- donor's; it is another donor's
abbrev pub found : Chunks → ℕ → Held → Found
found old donor held =
    cond (is_some (waits held donor)) Waiting
    (cond (is_none held.output) Nothing (cond (is_owned old donor held.output) Own Others))

abbrev pub pick : {X : Type 0} → X → X → X → X → Found → X
pick waiting nothing own others Waiting = waiting
pick waiting nothing own others Nothing = nothing
pick waiting nothing own others Own = own
pick waiting nothing own others Others = others
