-- The update that a JSON value is, or its first fault.
use Rattle.std.specs.Prelude.{ℕ, ℤ, pos, neg_ℤ, Bool, false, cond, not, ◌&&◌, ◌==◌, List, [], ◌∷◌, ◌++◌, length, nat_lt, codes, Option, Some, None, Result, Ok, Err}
use Rattle.std.specs.List.{list_all, list_any, slice_split, flat_map}
use Rattle.std.specs.Ordering.{int_eq}
use Rattle.serde_json.specs.Data.{Data, null, boolean, number, string, array, object, Members, no_members, member}
use Rattle.resh_value.specs.Names.{same_name}
use Rattle.resh_value.specs.Outcome.{◌>>=◌, in_err}
use Rattle.resh_value.specs.Paths.{to_name}
use Rattle.resh_value.specs.FromJson.{walked_value, is_dollar_name, fault_at as value_fault_at, under as value_under}
use Rattle.resh_value.specs.Limits.{dot}
use Rattle.resh_value.specs.Walk.{Walked, as_kind, at_step as walked_at, ends}
use Rattle.resh_value.specs.declared.fault.ValueFaultKind.{ValueFaultKind}
use Rattle.resh_value.specs.declared.value.Value.{Value, out-Value}
use Rattle.resh_value.specs.declared.value.Value.TheOpen.{Value-F}
use Rattle.resh_value.specs.declared.walk_fault.WalkFault.{WalkFault}
use Rattle.resh_value.specs.declared.walk_fault.WalkFault.TheVariants.{At, NoMemory as NoRoom}
use Rattle.resh_ops.specs.Paths.{Path, dotted, is_related}
use Rattle.resh_ops.specs.Updates.{paths_of}
use Rattle.resh_ops.specs.declared.faults.UpdateFault.{UpdateFault}
use Rattle.resh_ops.specs.declared.faults.UpdateFault.TheVariants.{UnknownOperator, Conflict, IdPath, BadOperand, Value as InValue, NoMemory}
use Rattle.resh_ops.specs.declared.faults.UpdateFaultKind.{UpdateFaultKind}
use Rattle.resh_ops.specs.declared.faults.UpdateFaultKind.TheVariants as unread
use Rattle.resh_ops.specs.declared.kind.Kind.{Kind}
use Rattle.resh_ops.specs.declared.kind.Kind.TheVariants.{AddToSet as ToAddToSet, Inc as ToInc, Max as ToMax, Min as ToMin, Mul as ToMul, Pop as ToPop, Push as ToPush, Rename as ToRename, Set as ToSet, Unset as ToUnset}
use Rattle.resh_ops.specs.declared.operator.Action.{Action}
use Rattle.resh_ops.specs.declared.operator.Operator.{Operator}
use Rattle.resh_ops.specs.declared.operator.Operator.TheVariants.{AddToSet, Inc, Max, Min, Mul, Pop, Push, Rename, Set, Unset}
use Rattle.resh_ops.specs.declared.operator.Side.TheVariants.{First, Last}

abbrev pub Read : Type 0 → Type 0
Read A = Walked UpdateFaultKind A

-- a path's text is names joined by dots, none empty and none beginning with `$`
abbrev pub names_in : List ℕ → Path
names_in text = slice_split (λ b. b == dot) text

abbrev pub is_step : List ℕ → Bool
is_step name = nat_lt 0 (length name) && not (is_dollar_name name)

abbrev pub begins_with_id : Path → Bool
begins_with_id [] = false
begins_with_id (name ∷ rest) = same_name name (codes "_id")

-- the path with these names, where `named` is the path that a bad one is reported with
abbrev pub path_with : List ℕ → Path → Read Path
path_with named names =
    cond (list_all is_step names) (cond (begins_with_id names) (ends unread.IdPath) (Ok names))
    (ends (unread.BadOperand named))

-- the path of a text
abbrev pub path_of : List ℕ → List ℕ → Read Path
path_of named text = path_with named (names_in text)

-- the operator of a name
abbrev pub kind_of : List ℕ → Option Kind
kind_of name =
    cond (same_name name (codes "$addToSet")) (Some ToAddToSet)
    (cond (same_name name (codes "$inc")) (Some ToInc)
    (cond (same_name name (codes "$max")) (Some ToMax)
    (cond (same_name name (codes "$min")) (Some ToMin)
    (cond (same_name name (codes "$mul")) (Some ToMul)
    (cond (same_name name (codes "$pop")) (Some ToPop)
    (cond (same_name name (codes "$push")) (Some ToPush)
    (cond (same_name name (codes "$rename")) (Some ToRename)
    (cond (same_name name (codes "$set")) (Some ToSet)
    (cond (same_name name (codes "$unset")) (Some ToUnset) None)))))))))

-- any value is an operand; its fault is the update's
abbrev pub with_value : (Value → Operator) → Walked ValueFaultKind Value → Read Operator
with_value operator read = in_err (as_kind unread.Value) read >>= λ value. Ok (operator value)

-- an operand of one kind; any other, also one that is no value, is bad
abbrev pub of_kind : List ℕ → (Value-F Value → Read Operator) → Walked ValueFaultKind Value → Read Operator
of_kind path f (Ok value) = f (out-Value value)
of_kind path f (Err fault) = ends (unread.BadOperand path)

abbrev pub with_number : List ℕ → (ℤ → Operator) → Value-F Value → Read Operator
with_number path operator (Value-F.Int n) = Ok (operator n)
with_number path operator other = ends (unread.BadOperand path)

-- 1 is the last element, and -1 the first
abbrev pub with_side : List ℕ → Value-F Value → Read Operator
with_side path (Value-F.Int n) =
    cond (int_eq n (pos 1)) (Ok (Pop Last))
    (cond (int_eq n (neg_ℤ (pos 1))) (Ok (Pop First)) (ends (unread.BadOperand path)))
with_side path other = ends (unread.BadOperand path)

abbrev pub with_target : List ℕ → Value-F Value → Read Operator
with_target path (Value-F.Text text) = path_of path text >>= λ target. Ok (Rename target)
with_target path other = ends (unread.BadOperand path)

abbrev pub operator_with : Kind → List ℕ → Walked ValueFaultKind Value → Read Operator
operator_with ToAddToSet path read = with_value AddToSet read
operator_with ToInc path read = of_kind path (with_number path Inc) read
operator_with ToMax path read = with_value Max read
operator_with ToMin path read = with_value Min read
operator_with ToMul path read = of_kind path (with_number path Mul) read
operator_with ToPop path read = of_kind path (with_side path) read
operator_with ToPush path read = with_value Push read
operator_with ToRename path read = of_kind path (with_target path) read
operator_with ToSet path read = with_value Set read
operator_with ToUnset path read = with_value (λ value. Unset) read

-- an operator at the path of this text
abbrev pub action_in : Kind → List ℕ → Data → Read Action
action_in kind text d =
    path_of text text >>= λ path.
    walked_at (to_name text) (operator_with kind text (walked_value d)) >>= λ operator.
    Ok (record { path = path; operator = operator })

-- an operator at each of its paths
abbrev pub actions_in : Kind → Members → Read (List Action)
actions_in kind no_members = Ok []
actions_in kind (member text d ds) =
    action_in kind text d >>= λ action.
    actions_in kind ds >>= λ actions.
    Ok (action ∷ actions)

abbrev pub operator_in : List ℕ → Option Kind → Data → Read (List Action)
operator_in name None d = ends (unread.UnknownOperator name)
operator_in name (Some kind) (object ds) = walked_at (to_name name) (actions_in kind ds)
operator_in name (Some kind) null = ends (unread.BadOperand name)
operator_in name (Some kind) (boolean b) = ends (unread.BadOperand name)
operator_in name (Some kind) (number n) = ends (unread.BadOperand name)
operator_in name (Some kind) (string text) = ends (unread.BadOperand name)
operator_in name (Some kind) (array items) = ends (unread.BadOperand name)

-- all operators with their paths, in the order of their names
abbrev pub operators_in : Members → Read (List Action)
operators_in no_members = Ok []
operators_in (member name d ds) =
    operator_in name (kind_of name) d >>= λ actions.
    operators_in ds >>= λ more.
    Ok (actions ++ more)

-- the first path that equals, begins or extends an earlier one, where `before` stand before `paths`
abbrev pub first_conflict : List Path → List Path → Option Path
first_conflict before [] = None
first_conflict before (path ∷ paths) =
    cond (list_any (is_related path) before) (Some path) (first_conflict (before ++ path ∷ []) paths)

abbrev pub apart_only : List Action → Option Path → Read (List Action)
apart_only actions None = Ok actions
apart_only actions (Some path) = ends (unread.Conflict (dotted path))

abbrev pub without_conflict : List Action → Read (List Action)
without_conflict actions = apart_only actions (first_conflict [] (flat_map paths_of actions))

-- the update of a JSON value
abbrev pub walked_update : Data → Read (List Action)
walked_update (object no_members) = ends (unread.BadOperand [])
walked_update (object (member name d ds)) = operators_in (member name d ds) >>= without_conflict
walked_update null = ends (unread.BadOperand [])
walked_update (boolean b) = ends (unread.BadOperand [])
walked_update (number n) = ends (unread.BadOperand [])
walked_update (string text) = ends (unread.BadOperand [])
walked_update (array items) = ends (unread.BadOperand [])

-- the fault that is answered: only that of a value tells its place in the JSON value
abbrev pub fault_at : UpdateFaultKind → List ℕ → UpdateFault
fault_at (unread.UnknownOperator name) place = UnknownOperator name
fault_at (unread.Conflict path) place = Conflict path
fault_at unread.IdPath place = IdPath
fault_at (unread.BadOperand path) place = BadOperand path
fault_at (unread.Value found) place = InValue (value_fault_at found place)

abbrev pub fault_of : WalkFault UpdateFaultKind → UpdateFault
fault_of (At place found) = fault_at found place
fault_of NoRoom = NoMemory

abbrev pub update_of : Data → Result (List Action) UpdateFault
update_of d = in_err fault_of (walked_update d)

-- a fault that is answered, as it is seen from the path's beginning
abbrev pub under : List ℕ → UpdateFault → UpdateFault
under step (InValue fault) = InValue (value_under step fault)
under step (UnknownOperator name) = UnknownOperator name
under step (Conflict path) = Conflict path
under step IdPath = IdPath
under step (BadOperand path) = BadOperand path
under step NoMemory = NoMemory

abbrev pub at_step : {A : Type 0} → List ℕ → Result A UpdateFault → Result A UpdateFault
at_step step r = in_err (under step) r
