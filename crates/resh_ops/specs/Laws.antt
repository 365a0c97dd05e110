-- What holds of every update.
use Rattle.std.specs.Prelude.{◌≡◌, ℕ, ◌^◌, ℤ, pos, neg_ℤ, ◌≤ℤ◌, ◌<ℤ◌, false, List, [], ◌∷◌, codes, Ok}
use Rattle.std.specs.List.{list_any}
use Rattle.resh_value.specs.Names.{HasRisingNames}
use Rattle.resh_value.specs.Lookup.{field_of}
use Rattle.resh_value.specs.declared.value.Value.{Value}
use Rattle.resh_value.specs.declared.value.Value.TheVariants.{Int}
use Rattle.resh_ops.specs.Paths.{Document, Path, here, reach, is_related}
use Rattle.resh_ops.specs.Operators.{does}
use Rattle.resh_ops.specs.Updates.{acted, acted_all, updated, paths_of, IsUpdate}
use Rattle.resh_ops.specs.Changes.{assigned, unset}
use Rattle.resh_ops.specs.declared.doing.Doing.TheVariants.{Writes, Fails}
use Rattle.resh_ops.specs.declared.doing.Refusal.TheVariants.{OutOfRange}
use Rattle.resh_ops.specs.declared.operator.Action.{Action}
use Rattle.resh_ops.specs.declared.operator.Operator.{Operator}
use Rattle.resh_ops.specs.declared.operator.Operator.TheVariants.{Set}

-- a value that is set stands at its path
abbrev pub SetReadsBack : Type 0
SetReadsBack = (name : List ℕ) (rest : Path) (value : Value) (document after : Document)
    → acted (record { path = name ∷ rest; operator = Set value }) document ≡ Ok after
    → reach (name ∷ rest) after ≡ here value

-- an action leaves what each path reaches that isn't related to one of its own
abbrev pub KeepsUnrelated : Type 0
KeepsUnrelated = (action : Action) (document after : Document) (other : Path)
    → acted action document ≡ Ok after → list_any (is_related other) (paths_of action) ≡ false
    → reach other after ≡ reach other document

-- an update leaves the `_id`
abbrev pub KeepsId : Type 0
KeepsId = (limit : ℕ) (actions : List Action) (document after : Document)
    → IsUpdate actions → updated limit actions document ≡ Ok after
    → field_of after (codes "_id") ≡ field_of document (codes "_id")

-- the same of actions without limits on their result
abbrev pub ActionsKeepId : Type 0
ActionsKeepId = (actions : List Action) (document after : Document)
    → IsUpdate actions → acted_all actions document ≡ Ok after
    → field_of after (codes "_id") ≡ field_of document (codes "_id")

-- where a change would name no field, the documents are the same
abbrev pub EmptyChangeKeeps : Type 0
EmptyChangeKeeps = (before after : Document) → HasRisingNames before → HasRisingNames after
    → assigned before after ≡ [] → unset before after ≡ [] → after ≡ before

-- a number of 64 bits with its sign
pub record HasWidth (n : ℤ) : Type 0 where
  pub least : neg_ℤ (pos (2 ^ 63)) ≤ℤ n
  pub below : n <ℤ pos (2 ^ 63)

-- an operator on numbers writes what 64 bits hold, and refuses the rest
pub record StaysInWidth (operator : ℤ → Operator) (result : ℤ → ℤ → ℤ) : Type 0 where
  pub written : (m n : ℤ) → HasWidth (result m n) → does (operator n) (here (Int m)) ≡ Writes (Int (result m n))
  pub refused : (m n : ℤ) → (HasWidth (result m n) → ⊥) → does (operator n) (here (Int m)) ≡ Fails OutOfRange
