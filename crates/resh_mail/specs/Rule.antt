-- The rule of a mailbox, over the pieces in it and over what each pass knows.
use Rattle.std.specs.Prelude.{◌≡◌, ℕ, Bool, true, List, ◌++◌}
use mathlib.Core.Option.{some}
use lib.ListN.{get_elem?}
use Rattle.resh_oplog.specs.declared.piece.Piece.{Piece}
use Rattle.resh_mail.specs.declared.rule.Known.{Known}

-- the second list begins with the first
abbrev pub IsFront : List Piece → List Piece → Type 0
IsFront front whole = (rest : List Piece) × (whole ≡ front ++ rest)

-- both begin one list, so one begins the other
abbrev pub AlongOneList : List Piece → List Piece → Type 0
AlongOneList some_pieces others = (whole : List Piece) × IsFront some_pieces whole × IsFront others whole

abbrev pub known : Bool → Bool → List Piece → List Piece → Known
known sends receives sent received = record { sends = sends; receives = receives; sent = sent; received = received }

-- The one pass that sends knows all that was sent, and a front of what was received. The one that receives knows all
-- that was received, and a front of what was sent.
abbrev pub Fits : ℕ → ℕ → List Piece → List Piece → ℕ → Known → Type 0
Fits sender receiver sent received port v =
    (v.sends ≡ true → (port ≡ sender) × (v.sent ≡ sent) × IsFront v.received received)
    × (v.receives ≡ true → (port ≡ receiver) × (v.received ≡ received) × IsFront v.sent sent)

-- what was sent is what was received, and then what the mailbox holds
abbrev pub Kept : List Piece → List Known → Type 0
Kept items views =
    (sender : ℕ) × (receiver : ℕ) × (sent : List Piece) × (received : List Piece) × (sent ≡ received ++ items)
    × ((port : ℕ) (v : Known) → get_elem? views port ≡ some v → Fits sender receiver sent received port v)
