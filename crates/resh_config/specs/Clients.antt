-- Clients and their commands.
use Rattle.std.specs.Prelude.{ℕ, ◌+◌, Bool, false, cond, ◌&&◌, nat_lt, List, [], ◌∷◌, codes, Option, Some, None, is_none, is_some, option_and_then, unwrap_or, Ok}
use Rattle.std.specs.List.{list_all}
use Rattle.serde_json.specs.Data.{Data, null, boolean, number, string, array, object, Members}
use Rattle.serde_json.specs.Find.{get_member, as_bool}
use Rattle.resh_value.specs.Outcome.{in_err}
use Rattle.resh_filter.specs.Filters.{walked_filter}
use Rattle.resh_ops.specs.Reading.{walked_update}
use Rattle.resh_ops.specs.declared.operator.Action.{Action}
use Rattle.resh_command.specs.declared.command.Command.{Command}
use Rattle.resh_command.specs.declared.command.Command.TheVariants.{Insert, Update, Delete, Find, Count, Abort}
use Rattle.resh_setup.specs.Documents.{Document}
use Rattle.resh_setup.specs.Validity.{command_count, is_new_name}
use Rattle.resh_setup.specs.declared.client.Client.{Client}
use Rattle.resh_config.specs.declared.form.Form.{Form}
use Rattle.resh_config.specs.declared.form.Form.TheVariants.{Insert as ToInsert, Update as ToUpdate, Delete as ToDelete, Find as ToFind, Count as ToCount, Abort as ToAbort}
use Rattle.resh_value.specs.Walk.{ends, as_kind}
use Rattle.resh_config.specs.Faults.{Read, in_update}
use Rattle.resh_config.specs.declared.faults.FaultKind.TheVariants.{WrongKind, OverLimit, Filter as InFilter}
use Rattle.resh_config.specs.Walk.{◌>>=◌, unlisted, field, row_with, text_in, count, items_from, list_in, accept}
use Rattle.resh_config.specs.Documents.{document_in}

-- an object has these names and no others
abbrev pub has_names : List (List ℕ) → Members → Bool
has_names names ds = is_none (unlisted names ds) && list_all (λ name. is_some (get_member name ds)) names

-- a command's form, told by its names alone
abbrev pub form_of : Members → Option Form
form_of ds =
    cond (has_names (codes "insert" ∷ []) ds) (Some ToInsert)
    (cond (has_names (codes "update" ∷ codes "with" ∷ []) ds) (Some ToUpdate)
    (cond (has_names (codes "delete" ∷ []) ds) (Some ToDelete)
    (cond (has_names (codes "find" ∷ []) ds) (Some ToFind)
    (cond (has_names (codes "count" ∷ []) ds) (Some ToCount)
    (cond (has_names (codes "abort" ∷ []) ds) (Some ToAbort) None)))))

abbrev pub filter_in : Data → Read Document
filter_in d = in_err (as_kind InFilter) (walked_filter d)

abbrev pub update_in : Data → Read (List Action)
update_in d = in_err in_update (walked_update d)

abbrev pub says_true : Option Data → Bool
says_true content = unwrap_or (option_and_then as_bool content) false

-- the command of a form, from the members of its object
abbrev pub command_of : Members → Option Form → Read Command
command_of ds (Some ToInsert) = field ds (codes "insert") (document_in []) >>= λ document. Ok (Insert document)
command_of ds (Some ToUpdate) =
    field ds (codes "update") filter_in >>= λ filter.
    field ds (codes "with") update_in >>= λ update.
    Ok (Update filter update)
command_of ds (Some ToDelete) = field ds (codes "delete") filter_in >>= λ filter. Ok (Delete filter)
command_of ds (Some ToFind) = field ds (codes "find") filter_in >>= λ filter. Ok (Find filter)
command_of ds (Some ToCount) = field ds (codes "count") filter_in >>= λ filter. Ok (Count filter)
command_of ds (Some ToAbort) = accept (says_true (get_member (codes "abort") ds)) Abort
command_of ds None = ends WrongKind

abbrev pub command_in : List Command → Data → Read Command
command_in before (object ds) = command_of ds (form_of ds)
command_in before null = ends WrongKind
command_in before (boolean b) = ends WrongKind
command_in before (number n) = ends WrongKind
command_in before (string text) = ends WrongKind
command_in before (array items) = ends WrongKind

-- a client's commands; with those of the clients before it there are at most 20,000
abbrev pub commands_in : List Client → Data → Read (List Command)
commands_in before (array ds) =
    cond (nat_lt 20000 (command_count before + count ds)) (ends (OverLimit 20000)) (items_from command_in [] ds)
commands_in before null = ends WrongKind
commands_in before (boolean b) = ends WrongKind
commands_in before (number n) = ends WrongKind
commands_in before (string text) = ends WrongKind
commands_in before (object ds) = ends WrongKind

-- a client's name, which no client before it has
abbrev pub client_name_in : List Client → Data → Read (List ℕ)
client_name_in before d = text_in d >>= λ name. accept (is_new_name before name) name

abbrev pub client_of : List Client → Members → Read Client
client_of before ds =
    field ds (codes "name") (client_name_in before) >>= λ name.
    field ds (codes "commands") (commands_in before) >>= λ commands.
    Ok (record { name = name; commands = commands })

abbrev pub client_in : List Client → Data → Read Client
client_in before d = row_with (codes "name" ∷ codes "commands" ∷ []) d >>= client_of before

abbrev pub clients_in : Data → Read (List Client)
clients_in d = list_in 16 client_in d
