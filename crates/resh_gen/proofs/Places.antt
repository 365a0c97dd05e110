-- From place to place: states, and lists by index.
use Rattle.std.proofs.Common.{◌≡◌, ℕ, suc, ◌+◌, ◌*◌, ◌/◌, ◌%◌, ◌^◌, List, [], ◌∷◌, ◌++◌, codes, refl, ap, sym, ◌∙◌, arith}
use Rattle.std.proofs.lemmas.List.FromFn.{map-range_with_len_more}
use Rattle.resh_command.specs.declared.command.Command.{Command}
use Rattle.resh_gen.specs.Draws.{next, state_at, drawn}
use Rattle.resh_gen.specs.Documents.{Document, document, document_at, x_of, y_of, first_documents}
use Rattle.resh_gen.specs.Commands.{chosen, command_at, first_commands}
use Rattle.resh_gen.specs.Streams.{AreAsked, Stands}
use Rattle.resh_gen.specs.Generated.{clients}
use Rattle.resh_gen.specs.declared.commands.Asked.{Asked}
use Rattle.resh_gen.specs.declared.commands.Streams.{Streams}

one_more : (n : ℕ) → n + 1 ≡ suc n
one_more n = omega arith

pub state_first : (number : ℕ) → number ≡ state_at number 0
unfolding state_at
state_first number = refl

state_next : (number place : ℕ) → state_at number (place + 1) ≡ next (state_at number place)
unfolding state_at
state_next number place = ap (state_at number) (one_more place)

module _ (number place s : ℕ) (was : s ≡ state_at number place) where
  -- the state behind one that stands at a place
  pub state_after : (t : ℕ) → t ≡ next s → t ≡ state_at number (place + 1)
  state_after t is = is ∙ ap next was ∙ sym (state_next number place)

  -- what is drawn there, counted again from 0 after each n
  pub drawn_there : (n d : ℕ) → d ≡ next s / 2 ^ 33 % n → d ≡ drawn number place % n
  drawn_there n d is = is ∙ ap (λ t. next t / 2 ^ 33 % n) was ∙ sym (ap (λ t. t / 2 ^ 33 % n) (state_next number place))

pub documents_none : (number : ℕ) → [] ≡ first_documents number 0
unfolding first_documents
documents_none number = refl

documents_more : (number count : ℕ) → first_documents number (count + 1) ≡ first_documents number count ++ document_at number count ∷ []
unfolding first_documents
documents_more number count = map-range_with_len_more (document_at number) 0 count count (omega arith)

module _ (number index s : ℕ) (was : s ≡ state_at number (2 * index)) (t : ℕ) (next_is : t ≡ next s) where
  -- two numbers behind the state of an index stands that of the next
  pub state_two_after : (u : ℕ) → u ≡ next t → u ≡ state_at number (2 * (index + 1))
  state_two_after u is =
      state_after number (2 * index + 1) t (state_after number (2 * index) s was t next_is) u is
      ∙ ap (state_at number) (omega arith)

  pub document_drawn : (x y : ℕ) → x ≡ next s / 2 ^ 33 % 1000 → y ≡ next t / 2 ^ 33 % 1000 → document index x y ≡ document_at number index
  document_drawn x y x_is y_is =
      ap (λ x. document index x y) (drawn_there number (2 * index) s was 1000 x x_is)
      ∙ ap (λ y. document index (x_of number index) y)
      (drawn_there number (2 * index + 1) t (state_after number (2 * index) s was t next_is) 1000 y y_is)

pub documents_pushed : (number index : ℕ) (before after : List Document) (d : Document) → before ≡ first_documents number index
    → d ≡ document_at number index → after ≡ before ++ d ∷ [] → after ≡ first_documents number (index + 1)
documents_pushed number index before after d was d_is is =
    is ∙ ap (λ ds. ds ++ d ∷ []) was ∙ ap (λ d. first_documents number index ++ d ∷ []) d_is
    ∙ sym (documents_more number index)

-- the numbers of a command, from where the streams stand
module _ (number : ℕ) (streams : Streams) (stands : Stands number streams) where
  module _ (k c : ℕ) (k_is : k ≡ next streams.keys.state) (c_is : c ≡ next streams.choices.state) where
    abbrev index : ℕ
    index = streams.index

    pub command_drawn : (x y choice z : ℕ) → x ≡ next streams.keys.state / 2 ^ 33 % 1000 → y ≡ next k / 2 ^ 33 % 1000
        → choice ≡ next streams.choices.state / 2 ^ 33 % 4 → z ≡ next c / 2 ^ 33 % 1000
        → chosen choice index x y z ≡ command_at number index
    command_drawn x y choice z x_is y_is choice_is z_is =
        ap (λ x. chosen choice index x y z) (drawn_there number (2 * index) _ stands.keys 1000 x x_is)
        ∙ ap (λ y. chosen choice index (x_of number index) y z)
        (drawn_there number (2 * index + 1) k (state_after number (2 * index) _ stands.keys k k_is) 1000 y y_is)
        ∙ ap (λ choice. chosen choice index (x_of number index) (y_of number index) z)
        (drawn_there number (100000 + 2 * index) _ stands.choices 4 choice choice_is)
        ∙ ap (chosen (drawn number (100000 + 2 * index) % 4) index (x_of number index) (y_of number index))
        (drawn_there number (100000 + 2 * index + 1) c (state_after number (100000 + 2 * index) _ stands.choices c c_is) 1000 z z_is
        ∙ ap (λ place. drawn number place % 1000) (omega arith))

    pub stands_after : (after : Streams) → after.index ≡ index + 1 → after.keys.state ≡ next k → after.choices.state ≡ next c
        → Stands number after
    stands_after after is keys_is choices_is = record {
      keys = state_two_after number index _ stands.keys k k_is _ keys_is ∙ ap (λ index. state_at number (2 * index)) (sym is);
      choices =
          state_after number (100000 + 2 * index + 1) c (state_after number (100000 + 2 * index) _ stands.choices c c_is) _ choices_is
          ∙ ap (state_at number) (omega (arith, is));
    }

commands_more : (number client turns : ℕ) → first_commands number client (turns + 1)
    ≡ first_commands number client turns ++ command_at number (4 * turns + client) ∷ []
unfolding first_commands
commands_more number client turns = map-range_with_len_more (λ turn. command_at number (4 * turn + client)) 0 turns turns (omega arith)

pub commands_none : (number client : ℕ) → [] ≡ first_commands number client 0
unfolding first_commands
commands_none number client = refl

pub commands_pushed : (number client turns index : ℕ) (before after : List Command) → before ≡ first_commands number client turns
    → index ≡ 4 * turns + client → after ≡ before ++ command_at number index ∷ [] → after ≡ first_commands number client (turns + 1)
commands_pushed number client turns index before after was at is =
    is ∙ ap (λ cs. cs ++ command_at number index ∷ []) was
    ∙ ap (λ i. first_commands number client turns ++ command_at number i ∷ []) at
    ∙ sym (commands_more number client turns)

pub clients_are : (number : ℕ) (asked : Asked) → AreAsked number 5000 asked
    → record { name = codes "c0"; commands = asked.first } ∷ record { name = codes "c1"; commands = asked.second }
    ∷ record { name = codes "c2"; commands = asked.third } ∷ record { name = codes "c3"; commands = asked.fourth } ∷ []
    ≡ clients number
clients_are number asked are = λ i.
    record { name = codes "c0"; commands = are.first i } ∷ record { name = codes "c1"; commands = are.second i }
    ∷ record { name = codes "c2"; commands = are.third i } ∷ record { name = codes "c3"; commands = are.fourth i } ∷ []
