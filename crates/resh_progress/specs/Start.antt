-- What a link starts from.
use Rattle.std.specs.Prelude.{ℕ, false, None, replicate}
use Rattle.resh_progress.specs.declared.kept.Kept.{Kept}

-- nothing is kept: each lane stands at 0
abbrev pub start : ℕ → Kept
start lanes =
    record { place = 0; lanes = replicate lanes 0; last_id = None; mark = None; read_out = false; finished = false }
