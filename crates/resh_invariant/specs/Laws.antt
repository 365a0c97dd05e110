-- The invariant at the opening state, and by cells.
use Rattle.resh_events.specs.Opening.{opening}
use Rattle.resh_model.specs.Orders as orders
use Rattle.resh_setup.specs.Validity.{IsValid}
use Rattle.resh_setup.specs.declared.setup.Setup.{Setup}
use Rattle.resh_invariant.specs.Keeping.{Keeps}
use Rattle.resh_invariant.specs.Sources.{told_clones}

-- the opening state of a valid setup keeps it, with the order's own
abbrev pub OpensKept : Type 0
OpensKept = (setup : Setup) → IsValid setup
    → Keeps setup (orders.opening setup) (told_clones (opening setup)) (opening setup)
