-- What a valid setup gives: its documents and what its clients bring are whole.
use Rattle.std.proofs.Common.{◌≡◌, ℕ, zero, suc, List, [], ◌∷◌, Option, Some, None, refl, sym, ap, subst, ◌∙◌}
use Rattle.std.specs.List.{AllByRecursion, slice_get}
use Rattle.resh_value.specs.Whole.{IsWhole}
use Rattle.resh_command.specs.declared.command.Command.{Command}
use Rattle.resh_setup.specs.declared.client.Client.{Client}
use Rattle.resh_setup.specs.declared.setup.Setup.{Setup}
use Rattle.resh_setup.specs.Documents.{IsStored, IsCommand}
use Rattle.resh_setup.specs.Validity.{IsValid}
use Rattle.resh_bag.specs.Bag.{Document}
use Rattle.resh_model.specs.Orders.{commands_of}
use Rattle.resh_bag.specs.WholeLaws.{BringsWhole}
use Rattle.resh_model.specs.WholeLaws.{IsWholeSetup, ValidIsWhole}

some_same : {X : Type 0} (x y : X) → Some x ≡ Some y → x ≡ y
some_same x y e = cc

all_get : {X : Type 0} (P : X → Type 0) (xs : List X) (i : ℕ) (x : X) → AllByRecursion P xs → slice_get xs i ≡ Some x → P x
all_get P [] zero x all is = cc
all_get P [] (suc i) x all is = cc
all_get P (y ∷ ys) zero x all is = subst P (some_same y x is) all.0
all_get P (y ∷ ys) (suc i) x all is = all_get P ys i x all.1 is

all_whole : (ds : List Document) → AllByRecursion IsStored ds → AllByRecursion IsWhole ds
all_whole [] all = tt
all_whole (d ∷ ds) all = (all.0.whole, all_whole ds all.1)

brings : (command : Command) → IsCommand command → BringsWhole command
brings command (IsCommand.inserts document stored) = stored.whole
brings command (IsCommand.updates filter update named is) = is
brings command (IsCommand.deletes filter named) = tt
brings command (IsCommand.finds filter named) = tt
brings command (IsCommand.counts filter named) = tt
brings command IsCommand.aborts = tt

asked : (client : Option Client) → ((c : Client) → client ≡ Some c → AllByRecursion IsCommand c.commands) → (number : ℕ) (command : Command)
    → slice_get (commands_of client) number ≡ Some command → BringsWhole command
asked None each zero command is = cc
asked None each (suc number) command is = cc
asked (Some c) each number command is = brings command (all_get IsCommand c.commands number command (each c refl) is)

pub valid_is_whole : ValidIsWhole
valid_is_whole setup valid = record {
  documents = all_whole setup.documents valid.documents.stored;
  commands = λ client number command is.
      asked (slice_get setup.clients client) (λ c there. all_get (λ (x : Client). AllByRecursion IsCommand x.commands) setup.clients client c valid.clients.commands there) number command is;
}
