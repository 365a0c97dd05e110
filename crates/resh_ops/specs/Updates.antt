-- What an update makes of a document: its operators one after another, or the first fault.
use Rattle.std.specs.Prelude.{◌≡◌, ℕ, false, cond, nat_lt, List, [], ◌∷◌, length, codes, Result, Ok, Err}
use Rattle.std.specs.List.{All}
use Rattle.resh_value.specs.Names.{same_name}
use Rattle.resh_value.specs.Outcome.{and_then}
use Rattle.resh_value.specs.Text.{document_text}
use Rattle.resh_value.specs.Depth.{document_levels}
use Rattle.resh_value.specs.declared.value.Value.{Value}
use Rattle.resh_ops.specs.Paths.{Document, Path, Reached, is_scalar, reach, write, erase, dotted}
use Rattle.resh_ops.specs.Operators.{does}
use Rattle.resh_ops.specs.declared.doing.Doing.{Doing}
use Rattle.resh_ops.specs.declared.doing.Doing.TheVariants.{Keeps, Writes, Erases, Moves, Fails}
use Rattle.resh_ops.specs.declared.doing.Refusal.{Refusal}
use Rattle.resh_ops.specs.declared.doing.Refusal.TheVariants as refused
use Rattle.resh_ops.specs.declared.faults.ChangeFault.{ChangeFault}
use Rattle.resh_ops.specs.declared.faults.ChangeFault.TheVariants.{NotNumber, OutOfRange, NotArray, ThroughScalar, TooLarge, TooDeep}
use Rattle.resh_ops.specs.declared.operator.Action.{Action}
use Rattle.resh_ops.specs.declared.operator.Operator.{Operator}
use Rattle.resh_ops.specs.declared.operator.Operator.TheVariants.{AddToSet, Inc, Max, Min, Mul, Pop, Push, Rename, Set, Unset}

abbrev pub Made : Type 0
Made = Result Document ChangeFault

-- a refusal, which names the path
abbrev pub fault_of : Refusal → List ℕ → ChangeFault
fault_of refused.NotNumber path = NotNumber path
fault_of refused.OutOfRange path = OutOfRange path
fault_of refused.NotArray path = NotArray path
fault_of refused.ThroughScalar path = ThroughScalar path

-- a value on its way to another path
abbrev pub moved_to : Path → Value → Document → Reached → Made
moved_to target value rest reached =
    cond (is_scalar reached) (Err (ThroughScalar (dotted target))) (Ok (write target value rest))

abbrev pub done_at : Path → Document → Doing → Made
done_at path document Keeps = Ok document
done_at path document (Writes value) = Ok (write path value document)
done_at path document Erases = Ok (erase path document)
done_at path document (Moves target value) = moved_to target value (erase path document) (reach target document)
done_at path document (Fails refusal) = Err (fault_of refusal (dotted path))

-- the document after one action
abbrev pub acted : Action → Document → Made
acted action document = done_at action.path document (does action.operator (reach action.path document))

-- the document after all actions, one after another
abbrev pub acted_all : List Action → Document → Made
acted_all [] document = Ok document
acted_all (action ∷ actions) document = and_then (acted_all actions) (acted action document)

-- a text within the limit, and at most 32 levels
abbrev pub within_limits : ℕ → Document → Made
within_limits limit document =
    cond (nat_lt limit (length (document_text document))) (Err TooLarge)
    (cond (nat_lt 32 (document_levels document)) (Err TooDeep) (Ok document))

-- the document after an update
abbrev pub updated : ℕ → List Action → Document → Made
updated limit actions document = and_then (within_limits limit) (acted_all actions document)

-- a path has a name, and doesn't begin with `_id`
pub data IsPath : Path → Type 0 where
  path : (name : List ℕ) (rest : Path) → same_name name (codes "_id") ≡ false → IsPath (name ∷ rest)

-- the path at which an action also writes
abbrev pub other_path : Operator → List Path
other_path (Rename target) = target ∷ []
other_path (AddToSet value) = []
other_path (Inc n) = []
other_path (Max value) = []
other_path (Min value) = []
other_path (Mul n) = []
other_path (Pop side) = []
other_path (Push value) = []
other_path (Set value) = []
other_path Unset = []

-- the paths that an action names, in their order
abbrev pub paths_of : Action → List Path
paths_of action = action.path ∷ other_path action.operator

abbrev pub HasPaths : Action → Type 0
HasPaths action = All IsPath (paths_of action)

-- every path of an update is one
abbrev pub IsUpdate : List Action → Type 0
IsUpdate actions = All HasPaths actions
