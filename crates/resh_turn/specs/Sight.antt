-- What contracts see of a pass.
use Rattle.std.specs.Prelude.{◌≡◌, ℕ, true, false, List, [], Option, refl}
use Rattle.std.specs.Coded.{Coded, code_by, coded×, coded_ℕ, coded_list, coded_option}
use Rattle.atomic_table.specs.Seated.{TableId, table_id_coded}
use Rattle.atomic_table.specs.declared.shared.Seat.{Seat}
use Rattle.resh_turn.specs.declared.story.Made.{Made}
use Rattle.resh_turn.specs.declared.rule.View.{View}

-- Which cell it is of, and with what that began; its number, from 0; what it has seen of the journal, and which steps
-- of it are its own.
pub record Sight (T G : Type 0) : Type 0 where
  pub cell : TableId
  pub begun : Option G
  pub number : ℕ
  pub seen : List (Made T)
  pub own : List (Made T)

abbrev pub made_code : {T : Type 0} → Coded T → Coded (Made T)
made_code {T} code =
    code_by (ℕ × T) (coded× coded_ℕ code)
    (λ e. (e.by, e.step)) (λ p. record { by = p.0; step = p.1 }) (λ _. refl)

abbrev pub journal_code : {T : Type 0} → Coded T → Coded (List (Made T))
journal_code code = coded_list (made_code code)

abbrev pub sight_code : {T G : Type 0} → Coded T → Coded G → Coded (Sight T G)
sight_code {T} {G} t g =
    code_by (TableId × (Option G × (ℕ × (List (Made T) × List (Made T)))))
    (coded× table_id_coded (coded× (coded_option g) (coded× coded_ℕ (coded× (journal_code t) (journal_code t)))))
    (λ s. (s.cell, (s.begun, (s.number, (s.seen, s.own)))))
    (λ p. record { cell = p.0; begun = p.1.0; number = p.1.1.0; seen = p.1.1.1.0; own = p.1.1.1.1 }) (λ _. refl)

abbrev pub sight : {S T G : Type 0} → ℕ → Seat (Option S) (View T G) → Sight T G
sight number seat = record {
  cell = seat.table_id;
  begun = seat.me.0.begun;
  number = number;
  seen = seat.me.0.known.seen;
  own = seat.me.0.known.own;
}

-- the seat of a pass that doesn't hold the turn
abbrev pub Waits : {S T G : Type 0} → ℕ → Seat (Option S) (View T G) → Type 0
Waits number seat =
    (seat.me.0.live ≡ true) × (seat.me.0.holds ≡ false) × (seat.me.1 ≡ []) × (seat.me.0.known.number ≡ number)
    × (seat.me.0.gathered ≡ [])
