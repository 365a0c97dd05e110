-- What the walk has read, and what is left of it.
use Rattle.std.proofs.Common.{◌≡◌, ℕ, ◌≤◌, arith, String, Global, List, [], ◌∷◌, ◌++◌, length, Ok, Err, refl, sym, ap, ◌∙◌, append_assoc, append-nil}
use Rattle.serde_json.specs.Data.{Data, Members, member, object}
use Rattle.serde_json.specs.View.{members_view}
use Rattle.serde_json.specs.declared.value.Value.{Value as Json}
use Rattle.resh_value.specs.Outcome.{and_then}
use Rattle.resh_ops.specs.Reading.{Read, action_in, actions_in, operator_in, operators_in, kind_of, walked_update, without_conflict}
use Rattle.resh_value.specs.declared.walk_fault.WalkFault.{WalkFault}
use Rattle.resh_ops.specs.declared.faults.UpdateFaultKind.{UpdateFaultKind}
use Rattle.resh_ops.specs.declared.kind.Kind.{Kind}
use Rattle.resh_ops.specs.declared.operator.Action.{Action}

abbrev Entry : Type 0
Entry = String Global × Json

-- these, and then what the rest gives
abbrev pub after : List Action → Read (List Action) → Read (List Action)
after done rest = and_then (λ actions. Ok (done ++ actions)) rest

pub after_all : (done : List Action) → after done (Ok []) ≡ Ok done
after_all done = ap Ok (append-nil done)

after_more : (done more : List Action) (rest : Read (List Action)) → after done (and_then (λ actions. Ok (more ++ actions)) rest) ≡ after (done ++ more) rest
after_more done more (Ok actions) = ap Ok (sym (append_assoc done more actions))
after_more done more (Err fault) = refl

pub action_read : (kind : Kind) (done : List Action) (text : List ℕ) (d : Data) (ds : Members) (action : Action) → action_in kind text d ≡ Ok action
    → after done (actions_in kind (member text d ds)) ≡ after (done ++ action ∷ []) (actions_in kind ds)
action_read kind done text d ds action is = rw is (after_more done (action ∷ []) (actions_in kind ds))

pub action_fault : (kind : Kind) (done : List Action) (text : List ℕ) (d : Data) (ds : Members) (fault : WalkFault UpdateFaultKind) → action_in kind text d ≡ Err fault
    → after done (actions_in kind (member text d ds)) ≡ Err fault
action_fault kind done text d ds fault is = rw is refl

pub operator_read : (done : List Action) (name : List ℕ) (d : Data) (ds : Members) (more : List Action) → operator_in name (kind_of name) d ≡ Ok more
    → after done (operators_in (member name d ds)) ≡ after (done ++ more) (operators_in ds)
operator_read done name d ds more is =
    ap (λ r. after done (and_then (λ actions. and_then (λ rest. Ok (actions ++ rest)) (operators_in ds)) r)) is ∙ after_more done more (operators_in ds)

pub operator_fault : (done : List Action) (name : List ℕ) (d : Data) (ds : Members) (fault : WalkFault UpdateFaultKind) → operator_in name (kind_of name) d ≡ Err fault
    → after done (operators_in (member name d ds)) ≡ Err fault
operator_fault done name d ds fault is =
    ap (λ r. after done (and_then (λ actions. and_then (λ rest. Ok (actions ++ rest)) (operators_in ds)) r)) is

-- an object with a name has operators
pub some_members : (es : List Entry) → 1 ≤ length es → walked_update (object (members_view es)) ≡ and_then without_conflict (operators_in (members_view es))
some_members [] some = absurd (omega arith)
some_members (e ∷ es) some = refl
