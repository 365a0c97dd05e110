-- How many turns each client has had.
use Rattle.std.specs.Prelude.{◌≡◌, ℕ, ◌^◌, ◌<◌, List, nat_eq}
use Rattle.std.specs.HashMap.{get, HashMap}
use Rattle.std.specs.Option.{unwrap_or}
use Rattle.resh_setup.specs.declared.turn.Turn.{Turn}
use Rattle.resh_report.specs.Page.{turns_of}

module _ {S : Type 0} where
  abbrev pub count_of : HashMap ℕ ℕ S → ℕ → ℕ
  count_of counts client = unwrap_or (get nat_eq counts client) 0

  -- the counts are those of these turns
  abbrev pub HasCounts : List Turn → HashMap ℕ ℕ S → Type 0
  HasCounts turns counts = (client : ℕ) → count_of counts client ≡ turns_of client turns

  -- one turn more can be counted
  abbrev pub HasRoom : HashMap ℕ ℕ S → Type 0
  HasRoom counts = (client : ℕ) → count_of counts client < 2 ^ 63
