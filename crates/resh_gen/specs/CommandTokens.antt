-- The text of a command: its JSON, with names in byte order.
use Rattle.std.specs.Prelude.{ℕ, pos, neg_ℤ, Bool, true, cond, List, [], ◌∷◌, ◌++◌, flat_map, filter, codes}
use Rattle.std.specs.List.{list_any}
use Rattle.std.specs.Fmt.{signed_decimal}
use Rattle.json.specs.Token.{Token, begin_object, end_object, key, string, number, boolean}
use Rattle.resh_value.specs.Names.{same_name}
use Rattle.resh_value.specs.Text.{tokens_of, document_tokens, object_tokens}
use Rattle.resh_ops.specs.Paths.{dotted}
use Rattle.resh_ops.specs.declared.operator.Action.{Action}
use Rattle.resh_ops.specs.declared.operator.Operator.{Operator}
use Rattle.resh_ops.specs.declared.operator.Operator.TheVariants.{AddToSet, Inc, Max, Min, Mul, Pop, Push, Rename, Set}
use Rattle.resh_ops.specs.declared.operator.Operator.TheVariants.{Unset}
use Rattle.resh_ops.specs.declared.operator.Side.{Side}
use Rattle.resh_ops.specs.declared.operator.Side.TheVariants.{First, Last}
use Rattle.resh_command.specs.declared.command.Command.{Command}
use Rattle.resh_command.specs.declared.command.Command.TheVariants as ask

abbrev pub operator_name : Operator → List ℕ
operator_name (AddToSet value) = codes "$addToSet"
operator_name (Inc n) = codes "$inc"
operator_name (Max value) = codes "$max"
operator_name (Min value) = codes "$min"
operator_name (Mul n) = codes "$mul"
operator_name (Pop side) = codes "$pop"
operator_name (Push value) = codes "$push"
operator_name (Rename target) = codes "$rename"
operator_name (Set value) = codes "$set"
operator_name Unset = codes "$unset"

-- the operators' names in byte order
abbrev pub operator_names : List (List ℕ)
operator_names =
    codes "$addToSet" ∷ codes "$inc" ∷ codes "$max" ∷ codes "$min" ∷ codes "$mul" ∷ codes "$pop" ∷ codes "$push"
    ∷ codes "$rename" ∷ codes "$set" ∷ codes "$unset" ∷ []

-- 1 is the last element, and -1 the first
abbrev pub side_tokens : Side → List Token
side_tokens First = number (signed_decimal (neg_ℤ (pos 1))) ∷ []
side_tokens Last = number (signed_decimal (pos 1)) ∷ []

-- any operand stands for a field that is removed; it is an empty text
abbrev pub operand_tokens : Operator → List Token
operand_tokens (AddToSet value) = tokens_of value
operand_tokens (Inc n) = number (signed_decimal n) ∷ []
operand_tokens (Max value) = tokens_of value
operand_tokens (Min value) = tokens_of value
operand_tokens (Mul n) = number (signed_decimal n) ∷ []
operand_tokens (Pop side) = side_tokens side
operand_tokens (Push value) = tokens_of value
operand_tokens (Rename target) = string (dotted target) ∷ []
operand_tokens (Set value) = tokens_of value
operand_tokens Unset = string [] ∷ []

abbrev pub is_of : List ℕ → Action → Bool
is_of name action = same_name name (operator_name action.operator)

abbrev pub action_tokens : Action → List Token
action_tokens action = key (dotted action.path) ∷ operand_tokens action.operator

-- an operator with its actions, as a member; nothing where it has none
abbrev pub operator_tokens : List Action → List ℕ → List Token
operator_tokens actions name =
    cond (list_any (is_of name) actions)
    (key name ∷ begin_object ∷ (flat_map action_tokens (filter (is_of name) actions) ++ end_object ∷ [])) []

-- an update's operators in byte order of their names; one without actions is a `$set` of nothing
abbrev pub update_tokens : List Action → List Token
update_tokens [] = object_tokens ((codes "$set", object_tokens []) ∷ [])
update_tokens (action ∷ actions) =
    begin_object ∷ (flat_map (operator_tokens (action ∷ actions)) operator_names ++ end_object ∷ [])

abbrev pub command_tokens : Command → List Token
command_tokens (ask.Insert document) = object_tokens ((codes "insert", document_tokens document) ∷ [])
command_tokens (ask.Update filter update) =
    object_tokens ((codes "update", document_tokens filter) ∷ (codes "with", update_tokens update) ∷ [])
command_tokens (ask.Delete filter) = object_tokens ((codes "delete", document_tokens filter) ∷ [])
command_tokens (ask.Find filter) = object_tokens ((codes "find", document_tokens filter) ∷ [])
command_tokens (ask.Count filter) = object_tokens ((codes "count", document_tokens filter) ∷ [])
command_tokens ask.Abort = object_tokens ((codes "abort", boolean true ∷ []) ∷ [])
