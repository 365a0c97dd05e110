-- A collection of whole documents stays so.
use Rattle.std.specs.Prelude.{◌≡◌, ⊤, ℕ, List, Some}
use Rattle.std.specs.List.{AllByRecursion}
use Rattle.resh_value.specs.Lookup.{id_of}
use Rattle.resh_value.specs.Whole.{IsWhole}
use Rattle.resh_value.specs.declared.value.Value.{Value}
use Rattle.resh_chunks.specs.Chunks.{Chunks}
use Rattle.resh_ops.specs.Updates.{IsUpdate}
use Rattle.resh_ops.specs.declared.operator.Action.{Action}
use Rattle.resh_command.specs.declared.command.Command.{Command}
use Rattle.resh_command.specs.declared.command.Command.TheVariants.{Insert, Update, Delete, Find, Count, Abort}
use Rattle.resh_bag.specs.Answer.{replaces, bag_after, doing}
use Rattle.resh_bag.specs.Bag.{Bag, Document, held, opening_bag}

-- each held document has an `_id`, and its names rise
abbrev pub HoldsWhole : Bag → Type 0
HoldsWhole bag = (shard : ℕ) (id : Value) (document : Document) → held bag shard id ≡ Some document → IsWhole document

-- what a command brings is whole: an inserted document, and an update that names no `_id`
abbrev pub BringsWhole : Command → Type 0
BringsWhole (Insert document) = IsWhole document
BringsWhole (Update filter update) = IsUpdate update
BringsWhole (Delete filter) = ⊤
BringsWhole (Find filter) = ⊤
BringsWhole (Count filter) = ⊤
BringsWhole Abort = ⊤

-- a collection of whole documents stays so
pub record StaysWhole : Type 0 where
  pub opens : (map : Chunks) (ds : List Document) → AllByRecursion IsWhole ds → HoldsWhole (opening_bag map ds)
  pub does : (chunks : Chunks) (bag : Bag) (command : Command) → HoldsWhole bag → BringsWhole command
      → HoldsWhole (bag_after bag (doing chunks bag command))

-- an update leaves the `_id`
abbrev pub UpdateKeepsId : Type 0
UpdateKeepsId = (chunks : Chunks) (bag : Bag) (filter : Document) (update : List Action) (shard : ℕ)
    (document : Document)
    (target : ℕ) (result : Document) → IsUpdate update
    → doing chunks bag (Update filter update) ≡ replaces shard document target result → id_of result ≡ id_of document
