-- What contracts see of a cell and of a hold.
use Rattle.std.specs.Prelude.{◌≡◌, ℕ, zero, suc, ◌<◌, Bool, true, ◌==◌, ◌&&◌, ◌⊎◌, refl}
use Rattle.std.specs.Prelude.{List, [], ◌∷◌, Option, Some, None}
use Rattle.std.specs.List.{list_any}
use Rattle.std.specs.Coded.{Coded, code_by, coded×, coded_ℕ}
use Rattle.atomic_table.specs.Seated.{TableId, table_id_coded}
use Rattle.atomic_table.specs.Table.{Me}
use Rattle.resh_turn.specs.declared.story.Made.{Made}
use Rattle.resh_turn.specs.declared.rule.Known.{Known}
use Rattle.resh_turn.specs.declared.rule.View.{View}
use Rattle.resh_turn.specs.Replay.{Each, Grows, IsFront, own_of}
use Rattle.resh_turn.specs.Sight.{Sight}

-- which cell it is, with what its value began, and how many passes it has
pub record Cell (G : Type 0) : Type 0 where
  pub cell : TableId
  pub start : G
  pub passes : ℕ

abbrev pub cell_code : {G : Type 0} → Coded G → Coded (Cell G)
cell_code {G} code =
    code_by (TableId × (G × ℕ)) (coded× table_id_coded (coded× code coded_ℕ))
    (λ c. (c.cell, (c.start, c.passes))) (λ p. record { cell = p.0; start = p.1.0; passes = p.1.1 }) (λ _. refl)

abbrev pub cell_of : {G : Type 0} → TableId → G → ℕ → Cell G
cell_of cell start passes = record { cell = cell; start = start; passes = passes }

-- the cell whose turn it is, the number of the pass that holds it, and the value
pub record Held (S : Type 0) : Type 0 where
  pub cell : TableId
  pub number : ℕ
  pub story : S

abbrev pub held_code : {S : Type 0} → Coded S → Coded (Held S)
held_code {S} code =
    code_by (TableId × (ℕ × S)) (coded× table_id_coded (coded× coded_ℕ code))
    (λ h. (h.cell, (h.number, h.story))) (λ p. record { cell = p.0; number = p.1.0; story = p.1.1 }) (λ _. refl)

-- the seat of the pass that holds the turn: the slot is out with it, and the value has only its own steps behind the
-- journal that it found
abbrev pub IsHeld : {S T G : Type 0} → (S → G) → (S → List (Made T)) → ℕ → Me (Option S) (View T G) → S → Type 0
IsHeld start journal number me story =
    (me.0.live ≡ true) × (me.0.holds ≡ true) × (me.1 ≡ (0, None) ∷ []) × (me.0.known.number ≡ number)
    × (Some (start story) ≡ me.0.begun) × Grows number me.0.known.seen (journal story)
    × (me.0.gathered ≡ [])

-- the pass once the turn is given back: it has seen all of the journal
abbrev pub given_back : {S T G : Type 0} → (S → G) → (S → List (Made T)) → Held S → Sight T G
given_back start journal hold = record {
  cell = hold.cell;
  begun = Some (start hold.story);
  number = hold.number;
  seen = journal hold.story;
  own = own_of hold.number (journal hold.story);
}

-- a pass of a cell that has seen and done nothing yet
abbrev pub unused : {T G : Type 0} → Cell G → ℕ → Sight T G
unused cell number = record { cell = cell.cell; begun = Some cell.start; number = number; seen = []; own = [] }

-- so many passes, by number, from this number on
abbrev pub numbered : {T G : Type 0} → Cell G → ℕ → ℕ → List (Sight T G)
numbered cell first zero = []
numbered cell first (suc count) = unused cell first ∷ numbered cell (suc first) count

module _ {T G : Type 0} where
  -- whether a pass of this number is among them
  abbrev pub has : ℕ → List (Sight T G) → Bool
  has number passes = list_any (λ p. p.number == number) passes

  -- whether there is one of each number below
  abbrev pub has_all : ℕ → List (Sight T G) → Bool
  has_all zero passes = true
  has_all (suc n) passes = has n passes && has_all n passes

  -- the part of what contracts see of a pass that is of the journal
  abbrev pub known_of : Sight T G → Known T
  known_of pass = record { number = pass.number; seen = pass.seen; own = pass.own }

  -- what a pass knows of the whole journal: it has seen its beginning, and which steps of it are its own
  abbrev pub IsKnownOf : List (Made T) → Sight T G → Type 0
  IsKnownOf journal pass = IsFront pass.seen journal × (own_of pass.number journal ≡ pass.own)

  -- of any two passes, one has seen the beginning of what the other has
  abbrev pub AreAlong : List (Sight T G) → Type 0
  AreAlong passes = Each (λ p. Each (λ q. IsFront p.seen q.seen ⊎ IsFront q.seen p.seen) passes) passes

  -- the value that a cell ends with
  pub record IsEnd {S : Type 0} (start : S → G) (journal : S → List (Made T))
      (cell : Cell G) (passes : List (Sight T G)) (story : S) : Type 0 where
    pub start_stays : start story ≡ cell.start
    pub known : Each (IsKnownOf (journal story)) passes
    pub along : AreAlong passes
    pub below : Each (λ e. e.by < cell.passes) (journal story)
