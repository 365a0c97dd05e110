-- What contracts see of a mailbox and of its passes, and what its calls answer.
use Rattle.std.specs.Prelude.{◌≡◌, ℕ, true, List, [], ◌∷◌, ◌++◌, length, Option, Some, None, refl}
use Rattle.std.specs.Coded.{Coded, code_by, coded×, coded_ℕ, coded_list}
use Rattle.atomic_table.specs.Seated.{TableId, table_id_coded}
use Rattle.crossbeam_queue.specs.Passes.{Pass, view}
use Rattle.resh_oplog.specs.declared.piece.Piece.{Piece}
use Rattle.resh_oplog.specs.contracts.piece.Piece as piece
use Rattle.resh_mail.specs.declared.mailbox.Sending.{Sending}
use Rattle.resh_mail.specs.declared.mailbox.Sending.TheVariants.{Sent, Full}
use Rattle.resh_mail.specs.declared.rule.Known.{Known}
pub use Rattle.resh_mail.specs.Rule.{IsFront, AlongOneList}

-- which mailbox it is, and for how many pieces it has room
pub record MailboxOf : Type 0 where
  pub name : TableId
  pub capacity : ℕ

abbrev pub mailbox_code : Coded MailboxOf
mailbox_code =
    code_by (TableId × ℕ) (coded× table_id_coded coded_ℕ)
    (λ b. (b.name, b.capacity)) (λ p. record { name = p.0; capacity = p.1 }) (λ _. refl)

-- Whose pass it is, and what it knows. A pass that sends knows all that was sent, and the first of what was received;
-- a pass that receives, the other way round.
pub record Seen : Type 0 where
  pub mailbox : TableId
  pub sent : List Piece
  pub received : List Piece

abbrev pub seen_code : Coded Seen
seen_code =
    code_by (TableId × (List Piece × List Piece))
    (coded× table_id_coded (coded× (coded_list piece.the_row.coded) (coded_list piece.the_row.coded)))
    (λ s. (s.mailbox, (s.sent, s.received)))
    (λ p. record { mailbox = p.0; sent = p.1.0; received = p.1.1 }) (λ _. refl)

abbrev pub seen : Pass Piece Known → Seen
seen pass = record { mailbox = pass.table_id; sent = (view pass).sent; received = (view pass).received }

-- it is the pass that sends, or the one that receives, and no slot of the queue is out with it
abbrev pub MaySend : Pass Piece Known → Type 0
MaySend pass = ((view pass).sends ≡ true) × (pass.me.1 ≡ [])

abbrev pub MayReceive : Pass Piece Known → Type 0
MayReceive pass = ((view pass).receives ≡ true) × (pass.me.1 ≡ [])

-- a pass that has done nothing yet
abbrev pub unused : TableId → Seen
unused mailbox = record { mailbox = mailbox; sent = []; received = [] }

-- At one moment, when what is known to have been received was received, so many pieces that were sent had not been.
abbrev pub WasFull : ℕ → Seen → Type 0
WasFull capacity pass =
    (received : List Piece) × (waiting : List Piece) × IsFront pass.received received
    × (pass.sent ≡ received ++ waiting) × (length waiting ≡ capacity)

-- what an answer to sending says of the pass before and after
abbrev pub Sends : ℕ → Seen → Piece → Sending → Seen → Type 0
Sends capacity before piece Sent after = after ≡ record before { sent = before.sent ++ piece ∷ [] }
Sends capacity before piece (Full back) after = (back ≡ piece) × (after ≡ before) × WasFull capacity before

-- What an answer to receiving says of the pass before and after: the piece is the next one of those that were sent;
-- or nothing is known to have been sent beyond what was received.
abbrev pub Receives : Seen → Option Piece → Seen → Type 0
Receives before (Some piece) after =
    (after ≡ record before { received = before.received ++ piece ∷ [] }) × AlongOneList after.sent after.received
Receives before None after = (after ≡ before) × IsFront before.sent before.received
