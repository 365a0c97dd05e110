-- The commands that the four clients of a generated setup ask, in turn.
use Rattle.std.specs.Prelude.{ℕ, zero, suc, pos, ◌+◌, ◌-◌, ◌*◌, ◌%◌, List, [], ◌∷◌, map, codes}
use Rattle.std.specs.List.{range_with_len}
use Rattle.resh_value.specs.declared.value.Value.TheVariants.{Int}
use Rattle.resh_ops.specs.declared.operator.Action.{Action}
use Rattle.resh_ops.specs.declared.operator.Operator.{Operator}
use Rattle.resh_ops.specs.declared.operator.Operator.TheVariants.{Inc, Set}
use Rattle.resh_command.specs.declared.command.Command.{Command}
use Rattle.resh_command.specs.declared.command.Command.TheVariants.{Insert, Update, Delete}
use Rattle.resh_gen.specs.Draws.{drawn}
use Rattle.resh_gen.specs.Documents.{Document, document, field, x_of, y_of}

-- the `_id` and the key of a document
abbrev pub filter : ℕ → ℕ → ℕ → Document
filter id x y = field (codes "_id") id ∷ field (codes "x") x ∷ field (codes "y") y ∷ []

-- an update by one operator at one top-level field
abbrev pub update : Operator → List ℕ → List Action
update operator name = record { path = name ∷ []; operator = operator } ∷ []

-- by a number below 4: an insert of a new document, a sum at `n`, another `y`, or a delete
abbrev pub chosen : ℕ → ℕ → ℕ → ℕ → ℕ → Command
chosen zero index x y z = Insert (document (50000 + index) z (999 - z))
chosen (suc zero) index x y z = Update (filter index x y) (update (Inc (pos 1)) (codes "n"))
chosen (suc (suc zero)) index x y z = Update (filter index x y) (update (Set (Int (pos z))) (codes "y"))
chosen (suc (suc (suc more))) index x y z = Delete (filter index x y)

-- the command of an index
abbrev pub command_at : ℕ → ℕ → Command
command_at number index =
    chosen (drawn number (100000 + 2 * index) % 4) index (x_of number index) (y_of number index)
    (drawn number (100001 + 2 * index) % 1000)

-- the first so many commands of a client, which has each fourth
unfoldable pub first_commands : ℕ → ℕ → ℕ → List Command
first_commands number client count = map (λ turn. command_at number (4 * turn + client)) (range_with_len 0 count)
