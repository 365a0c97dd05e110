-- What clients that were read have kept.
use Rattle.std.proofs.Common.{◌≡◌, ℕ, ◌+◌, ◌≤◌, true, ltb, List, [], ◌∷◌, ◌++◌, length, Option, Some, None, Ok, refl, subst, arith}
use Rattle.std.specs.Prelude.{codes}
use Rattle.std.specs.List.{AllByRecursion}
use Rattle.std.proofs.lemmas.Bool.{ltb-false}
use Rattle.serde_json.specs.Data.{Data, null, boolean, number, string, array, object, Items, no_items, item, Members}
use Rattle.serde_json.specs.Find.{get_member}
use Rattle.resh_ops.specs.Reading.{walked_update}
use Rattle.resh_ops.specs.Updates.{IsUpdate}
use Rattle.resh_ops.specs.declared.operator.Action.{Action}
use Rattle.resh_ops.proofs.ReadPaths.{update_has_paths}
use Rattle.resh_command.specs.declared.command.Command.{Command}
use Rattle.resh_command.specs.declared.command.Command.TheVariants.{Insert, Update, Delete, Find, Count, Abort}
use Rattle.resh_setup.specs.Documents.{Document, IsFilter, IsCommand, inserts, updates, deletes, finds, counts, aborts}
use Rattle.resh_setup.specs.Validity.{AreClients, command_count, is_new_name, is_named_apart}
use Rattle.resh_setup.specs.declared.client.Client.{Client}
use Rattle.resh_value.specs.declared.walk_fault.WalkFault.TheVariants.{At}
use Rattle.resh_config.specs.declared.faults.FaultKind.TheVariants.{OverLimit}
use Rattle.resh_config.specs.declared.form.Form.{Form}
use Rattle.resh_config.specs.declared.form.Form.TheVariants.{Insert as ToInsert, Update as ToUpdate, Delete as ToDelete, Find as ToFind, Count as ToCount, Abort as ToAbort}
use Rattle.resh_value.specs.Outcome.{and_then}
use Rattle.resh_config.specs.Faults.{Read, in_update}
use Rattle.resh_config.specs.Walk.{field, field_or, row_with, text_in, count, items_from, accept}
use Rattle.resh_config.specs.Documents.{document_in}
use Rattle.resh_config.specs.Clients.{filter_in, update_in, says_true, form_of, command_of, command_in, commands_in, client_name_in, client_of, client_in, clients_in}
use Rattle.resh_config.proofs.Outcomes.{Ok-and_then, Ok-in_err, Ok-required, Ok-field, Ok-row_with, Ok-cond, Ok-accept, optional_keeps, same_in_Ok}
use Rattle.resh_config.proofs.ListLemmas.{Ok-items_from, Ok-list_in, items_keep, list_keeps, list_apart, length-items_from, within_limit}
use Rattle.resh_config.proofs.DocumentLemmas.{document_stored, filter_kept}
use Rattle.resh_config.proofs.SortedMembers.{IsTidy, HasTidy}

-- a command that a filter alone makes
filter_command : (f : Document → Command) (name : List ℕ) (ds : Members) (c : Command) → ((filter : Document) → IsFilter filter → IsCommand (f filter)) → HasTidy ds
    → and_then (λ filter. Ok (f filter)) (field ds name filter_in) ≡ Ok c → IsCommand c
filter_command f name ds c made tidy is =
    let s = Ok-and_then (λ (filter : Document). let made : Read Command = Ok (f filter) in made) (field ds name filter_in) c is in
    let t = Ok-field ds name filter_in s.0 tidy s.1 in
    subst IsCommand (same_in_Ok (f s.0) c s.2) (made s.0 (filter_kept t.0 s.0 t.1 t.2))

update_kept : (d : Data) (update : List Action) → update_in d ≡ Ok update → IsUpdate update
update_kept d update is = update_has_paths d update (Ok-in_err in_update (walked_update d) update is)

form_kept : (ds : Members) (form : Option Form) (c : Command) → HasTidy ds → command_of ds form ≡ Ok c → IsCommand c
form_kept ds (Some ToInsert) c tidy is =
    let s = Ok-and_then (λ (document : Document). let made : Read Command = Ok (Insert document) in made) (field ds (codes "insert") (document_in [])) c is in
    let t = Ok-field ds (codes "insert") (document_in []) s.0 tidy s.1 in
    subst IsCommand (same_in_Ok (Insert s.0) c s.2) (inserts s.0 (document_stored [] t.0 s.0 t.1 t.2))
form_kept ds (Some ToUpdate) c tidy is =
    let last = λ (filter : Document) (update : List Action). let made : Read Command = Ok (Update filter update) in made in
    let s = Ok-and_then (λ (filter : Document). and_then (last filter) (field ds (codes "with") update_in)) (field ds (codes "update") filter_in) c is in
    let t = Ok-and_then (last s.0) (field ds (codes "with") update_in) c s.2 in
    let filter = Ok-field ds (codes "update") filter_in s.0 tidy s.1 in
    let update = Ok-field ds (codes "with") update_in t.0 tidy t.1 in
    subst IsCommand (same_in_Ok (Update s.0 t.0) c t.2) (updates s.0 t.0 (filter_kept filter.0 s.0 filter.1 filter.2) (update_kept update.0 t.0 update.2))
form_kept ds (Some ToDelete) c tidy is = filter_command Delete (codes "delete") ds c deletes tidy is
form_kept ds (Some ToFind) c tidy is = filter_command Find (codes "find") ds c finds tidy is
form_kept ds (Some ToCount) c tidy is = filter_command Count (codes "count") ds c counts tidy is
form_kept ds (Some ToAbort) c tidy is = subst IsCommand (Ok-accept (says_true (get_member (codes "abort") ds)) Abort c is).1 aborts
form_kept ds None c tidy is = cc

command_kept : (before : List Command) (d : Data) (c : Command) → IsTidy d → command_in before d ≡ Ok c → IsCommand c
command_kept before (object ds) c tidy is = form_kept ds (form_of ds) c tidy.1 is
command_kept before null c tidy is = cc
command_kept before (boolean b) c tidy is = cc
command_kept before (number n) c tidy is = cc
command_kept before (string text) c tidy is = cc
command_kept before (array items) c tidy is = cc

commands_few : (before : List Client) (d : Data) (commands : List Command) → commands_in before d ≡ Ok commands → command_count before + length commands ≤ 20000
commands_few before (array ds) commands is =
    let s = Ok-cond (ltb 20000 (command_count before + count ds)) (At [] (OverLimit 20000)) (items_from command_in [] ds) commands is in
    let e = length-items_from command_in [] ds commands s.1 in
    omega (arith, ltb-false 20000 (command_count before + count ds) s.0)
commands_few before null commands is = cc
commands_few before (boolean b) commands is = cc
commands_few before (number n) commands is = cc
commands_few before (string text) commands is = cc
commands_few before (object ds) commands is = cc

commands_kept : (before : List Client) (d : Data) (commands : List Command) → IsTidy d → commands_in before d ≡ Ok commands → AllByRecursion IsCommand commands
commands_kept before (array ds) commands tidy is =
    let s = Ok-cond (ltb 20000 (command_count before + count ds)) (At [] (OverLimit 20000)) (items_from command_in [] ds) commands is in
    items_keep command_in IsCommand command_kept [] ds commands tidy tt s.1
commands_kept before null commands tidy is = cc
commands_kept before (boolean b) commands tidy is = cc
commands_kept before (number n) commands tidy is = cc
commands_kept before (string text) commands tidy is = cc
commands_kept before (object ds) commands tidy is = cc

name_is_new : (before : List Client) (d : Data) (name : List ℕ) → client_name_in before d ≡ Ok name → is_new_name before name ≡ true
name_is_new before d name is =
    let s = Ok-and_then (λ (n : List ℕ). accept (is_new_name before n) n) (text_in d) name is in
    let t = Ok-accept (is_new_name before s.0) s.0 name s.2 in
    subst (λ (n : List ℕ). is_new_name before n ≡ true) t.1 t.0

abbrev client_made : List ℕ → List Command → Read Client
client_made name commands = Ok (record { name = name; commands = commands })

-- a client that was read, from the contents of its fields
record IsReadAs (before : List Client) (d : Data) (client : Client) : Type 0 where
  named : is_new_name before client.name ≡ true
  few : command_count before + length client.commands ≤ 20000
  commands : IsTidy d → AllByRecursion IsCommand client.commands

client_parts : (before : List Client) (d : Data) (client : Client) → client_in before d ≡ Ok client → IsReadAs before d client
client_parts before d client is =
    let row = Ok-and_then (client_of before) (row_with (codes "name" ∷ codes "commands" ∷ []) d) client is in
    let name = Ok-and_then (λ (n : List ℕ). and_then (client_made n) (field row.0 (codes "commands") (commands_in before))) (field row.0 (codes "name") (client_name_in before)) client row.2 in
    let commands = Ok-and_then (client_made name.0) (field row.0 (codes "commands") (commands_in before)) client name.2 in
    let name_at = Ok-required (codes "name") (client_name_in before) (get_member (codes "name") row.0) name.0 name.1 in
    let commands_at = Ok-required (codes "commands") (commands_in before) (get_member (codes "commands") row.0) commands.0 commands.1 in
    let found : Client = record { name = name.0; commands = commands.0 } in
    let parts : IsReadAs before d found = record {
      named = name_is_new before name_at.0 name.0 name_at.1;
      few = commands_few before commands_at.0 commands.0 commands_at.1;
      commands = λ tidy.
          let inside = Ok-field row.0 (codes "commands") (commands_in before) commands.0 (Ok-row_with (codes "name" ∷ codes "commands" ∷ []) d row.0 tidy row.1) commands.1 in
          commands_kept before inside.0 commands.0 inside.1 inside.2;
    } in
    subst (IsReadAs before d) (same_in_Ok found client commands.2) parts

command_count-last : (clients : List Client) (client : Client) → command_count (clients ++ client ∷ []) ≡ command_count clients + length client.commands
command_count-last [] client = omega arith
command_count-last (c ∷ clients) client = let e = command_count-last clients client in omega arith

few_commands : (before : List Client) (ds : Items) (all : List Client) → command_count before ≤ 20000 → items_from client_in before ds ≡ Ok all → command_count all ≤ 20000
few_commands before no_items all few is = let same : before ≡ all = cc in subst (λ (clients : List Client). command_count clients ≤ 20000) same few
few_commands before (item d ds) all few is =
    let s = Ok-items_from client_in before d ds all is in
    let next = client_parts before d s.0 s.1 in
    let e = command_count-last before s.0 in
    let more : command_count (before ++ s.0 ∷ []) ≤ 20000 = omega (arith, next.few) in
    few_commands (before ++ s.0 ∷ []) ds all more s.2

pub clients_kept : (d : Data) (clients : List Client) → IsTidy d → clients_in d ≡ Ok clients → AreClients clients
clients_kept d clients tidy is =
    let items = Ok-list_in client_in 16 d clients is in
    record {
      few = within_limit client_in 16 d clients is;
      names = list_apart client_in is_named_apart (λ before x client e. (client_parts before x client e).named) 16 d clients is;
      few_commands = few_commands [] items.0 clients (omega arith) items.2;
      commands = list_keeps client_in (λ client. AllByRecursion IsCommand client.commands)
          (λ before x client t e. (client_parts before x client e).commands t) 16 d clients tidy is;
    }

pub none_kept : AreClients []
none_kept = record { few = omega arith; names = refl; few_commands = omega arith; commands = tt }

-- at most sixteen clients are read
pub few_clients : (ds : Members) (clients : List Client) → field_or [] ds (codes "clients") clients_in ≡ Ok clients → length clients ≤ 16
few_clients ds clients is =
    optional_keeps (λ (cs : List Client). length cs ≤ 16) [] (codes "clients") clients_in (omega arith) (within_limit client_in 16) (get_member (codes "clients") ds) clients is
