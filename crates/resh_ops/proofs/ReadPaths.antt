-- The paths of an update that was read.
use Rattle.std.proofs.Common.{◌≡◌, ◌==◌, ℕ, ℤ, pos, neg_ℤ, Option, Some, None, ◌≤◌, Bool, true, false, cond, List, [], ◌∷◌, ◌++◌, length, Result, Ok, Err, refl, ap, subst, arith}
use Rattle.std.specs.List.{All, list_all, flat_map}
use Rattle.std.specs.Ordering.{int_eq}
use Rattle.std.proofs.lemmas.List.Elements.{All-nil, All-cons, All-same, All-append}
use Rattle.std.proofs.lemmas.List.Splits.{length-slice_split}
use Rattle.serde_json.specs.Data.{Data, null, boolean, number, string, array, object, Members, no_members, member}
use Rattle.resh_value.specs.Outcome.{and_then, in_err}
use Rattle.resh_value.specs.FromJson.{walked_value}
use Rattle.resh_value.specs.Walk.{Walked, under, at_step, ends}
use Rattle.resh_value.specs.Limits.{dot}
use Rattle.resh_value.specs.Paths.{to_name}
use Rattle.resh_value.specs.declared.fault.ValueFaultKind.{ValueFaultKind}
use Rattle.resh_value.specs.declared.value.Value.{Value, out-Value}
use Rattle.resh_value.specs.declared.value.Value.TheOpen.{Value-F}
use Rattle.resh_ops.specs.Paths.{Path}
use Rattle.resh_ops.specs.Updates.{IsPath, path, other_path, paths_of, HasPaths, IsUpdate}
use Rattle.resh_ops.specs.Reading.{Read, names_in, is_step, begins_with_id, path_of, with_value, of_kind, with_number, with_side, with_target, operator_with, action_in, actions_in, operator_in, operators_in, kind_of, walked_update, without_conflict, apart_only, first_conflict}
use Rattle.resh_ops.specs.declared.faults.UpdateFaultKind.TheVariants.{IdPath, BadOperand}
use Rattle.resh_ops.specs.declared.kind.Kind.{Kind}
use Rattle.resh_ops.specs.declared.kind.Kind.TheVariants.{AddToSet as ToAddToSet, Inc as ToInc, Max as ToMax, Min as ToMin, Mul as ToMul, Pop as ToPop, Push as ToPush, Rename as ToRename, Set as ToSet, Unset as ToUnset}
use Rattle.resh_ops.specs.declared.operator.Action.{Action}
use Rattle.resh_ops.specs.declared.operator.Operator.{Operator}
use Rattle.resh_ops.specs.declared.operator.Operator.TheVariants.{AddToSet, Inc, Max, Min, Mul, Pop, Push, Rename, Set, Unset}
use Rattle.resh_ops.specs.declared.operator.Side.TheVariants.{First, Last}

Ok-and_then : {A B E : Type 0} (f : A → Result B E) (r : Result A E) (b : B) → and_then f r ≡ Ok b → (a : A) × (r ≡ Ok a) × (f a ≡ Ok b)
Ok-and_then f (Ok a) b is = (a, refl, is)
Ok-and_then f (Err e) b is = cc

Ok-in_err : {A E D : Type 0} (g : E → D) (r : Result A E) (a : A) → in_err g r ≡ Ok a → r ≡ Ok a
Ok-in_err g (Ok x) a is = let same : x ≡ a = cc in ap Ok same
Ok-in_err g (Err e) a is = cc

named_path : (names : Path) → 1 ≤ length names → begins_with_id names ≡ false → IsPath names
named_path [] some other = absurd (omega arith)
named_path (name ∷ rest) some other = path name rest other

accepted : (good id : Bool) (names p : Path) (named : List ℕ) → cond good (cond id (ends IdPath) (Ok names)) (ends (BadOperand named)) ≡ Ok p → (id ≡ false) × (names ≡ p)
accepted true true names p named is = cc
accepted true false names p named is = let same : names ≡ p = cc in (refl, same)
accepted false id names p named is = cc

path_is_path : (named text : List ℕ) (p : Path) → path_of named text ≡ Ok p → IsPath p
path_is_path named text p is =
    let names = names_in text in
    let s = accepted (list_all is_step names) (begins_with_id names) names p named is in
    let some = length-slice_split (λ (b : ℕ). b == dot) text in
    subst IsPath s.1 (named_path names (omega arith) s.0)

none_other : (o : Operator) → other_path o ≡ [] → All IsPath (other_path o)
none_other o none = All-same IsPath (other_path o) [] none (All-nil IsPath)

-- an operator that any value gives has one path alone
from_value : (operator : Value → Operator) (r : Walked ValueFaultKind Value) (o : Operator) → ((v : Value) → other_path (operator v) ≡ []) → with_value operator r ≡ Ok o → All IsPath (other_path o)
from_value operator (Ok v) o none is = let same : operator v ≡ o = cc in subst (λ (x : Operator). All IsPath (other_path x)) same (none_other (operator v) (none v))
from_value operator (Err fault) o none is = cc

from_kind : (named : List ℕ) (f : Value-F Value → Read Operator) (r : Walked ValueFaultKind Value) (o : Operator)
    → ((v : Value-F Value) → f v ≡ Ok o → All IsPath (other_path o)) → of_kind named f r ≡ Ok o → All IsPath (other_path o)
from_kind named f (Ok v) o each is = each (out-Value v) is
from_kind named f (Err fault) o each is = cc

from_number : (named : List ℕ) (operator : ℤ → Operator) (o : Operator) → ((n : ℤ) → other_path (operator n) ≡ []) → (v : Value-F Value) → with_number named operator v ≡ Ok o → All IsPath (other_path o)
from_number named operator o none (Value-F.Int n) is = let same : operator n ≡ o = cc in subst (λ (x : Operator). All IsPath (other_path x)) same (none_other (operator n) (none n))
from_number named operator o none other is = cc

from_side : (named : List ℕ) (o : Operator) (last first : Bool) → cond last (Ok (Pop Last)) (cond first (Ok (Pop First)) (ends (BadOperand named))) ≡ Ok o → All IsPath (other_path o)
from_side named o true first is = let same : Pop Last ≡ o = cc in subst (λ (x : Operator). All IsPath (other_path x)) same (All-nil IsPath)
from_side named o false true is = let same : Pop First ≡ o = cc in subst (λ (x : Operator). All IsPath (other_path x)) same (All-nil IsPath)
from_side named o false false is = cc

from_end : (named : List ℕ) (o : Operator) (v : Value-F Value) → with_side named v ≡ Ok o → All IsPath (other_path o)
from_end named o (Value-F.Int n) is = from_side named o (int_eq n (pos 1)) (int_eq n (neg_ℤ (pos 1))) is
from_end named o other is = cc

from_target : (named : List ℕ) (o : Operator) (v : Value-F Value) → with_target named v ≡ Ok o → All IsPath (other_path o)
from_target named o (Value-F.Text text) is =
    let s = Ok-and_then (λ (target : Path). let r : Read Operator = Ok (Rename target) in r) (path_of named text) o is in
    let same : Rename s.0 ≡ o = cc in
    subst (λ (x : Operator). All IsPath (other_path x)) same (All-cons IsPath s.0 [] (path_is_path named text s.0 s.1) (All-nil IsPath))
from_target named o other is = cc

operator_paths : (kind : Kind) (named : List ℕ) (r : Walked ValueFaultKind Value) (o : Operator) → operator_with kind named r ≡ Ok o → All IsPath (other_path o)
operator_paths ToAddToSet named r o is = from_value AddToSet r o (λ v. refl) is
operator_paths ToInc named r o is = from_kind named (with_number named Inc) r o (from_number named Inc o (λ n. refl)) is
operator_paths ToMax named r o is = from_value Max r o (λ v. refl) is
operator_paths ToMin named r o is = from_value Min r o (λ v. refl) is
operator_paths ToMul named r o is = from_kind named (with_number named Mul) r o (from_number named Mul o (λ n. refl)) is
operator_paths ToPop named r o is = from_kind named (with_side named) r o (from_end named o) is
operator_paths ToPush named r o is = from_value Push r o (λ v. refl) is
operator_paths ToRename named r o is = from_kind named (with_target named) r o (from_target named o) is
operator_paths ToSet named r o is = from_value Set r o (λ v. refl) is
operator_paths ToUnset named r o is = from_value (λ v. Unset) r o (λ v. refl) is

abbrev action_of : Path → Operator → Read Action
action_of p o = Ok (record { path = p; operator = o })

action_paths : (kind : Kind) (text : List ℕ) (d : Data) (a : Action) → action_in kind text d ≡ Ok a → HasPaths a
action_paths kind text d a is =
    let read = at_step (to_name text) (operator_with kind text (walked_value d)) in
    let s = Ok-and_then (λ (p : Path). and_then (action_of p) read) (path_of text text) a is in
    let t = Ok-and_then (action_of s.0) read a s.2 in
    let whole : Action = record { path = s.0; operator = t.0 } in
    let same : whole ≡ a = cc in
    subst HasPaths same (All-cons IsPath s.0 (other_path t.0) (path_is_path text text s.0 s.1)
    (operator_paths kind text (walked_value d) t.0 (Ok-in_err (under (to_name text)) (operator_with kind text (walked_value d)) t.0 t.1)))

actions_paths : (kind : Kind) (ds : Members) (all : List Action) → actions_in kind ds ≡ Ok all → IsUpdate all
actions_paths kind no_members all is = let same : ◌≡◌ {A = List Action} [] all = cc in subst IsUpdate same (All-nil HasPaths)
actions_paths kind (member text d ds) all is =
    let more = λ (a : Action) (rest : List Action). let r : Read (List Action) = Ok (a ∷ rest) in r in
    let s = Ok-and_then (λ (a : Action). and_then (more a) (actions_in kind ds)) (action_in kind text d) all is in
    let t = Ok-and_then (more s.0) (actions_in kind ds) all s.2 in
    let same : s.0 ∷ t.0 ≡ all = cc in
    subst IsUpdate same (All-cons HasPaths s.0 t.0 (action_paths kind text d s.0 s.1) (actions_paths kind ds t.0 t.1))

operator_in_paths : (name : List ℕ) (kind : Option Kind) (d : Data) (all : List Action) → operator_in name kind d ≡ Ok all → IsUpdate all
operator_in_paths name None d all is = cc
operator_in_paths name (Some kind) (object ds) all is = actions_paths kind ds all (Ok-in_err (under (to_name name)) (actions_in kind ds) all is)
operator_in_paths name (Some kind) null all is = cc
operator_in_paths name (Some kind) (boolean b) all is = cc
operator_in_paths name (Some kind) (number n) all is = cc
operator_in_paths name (Some kind) (string text) all is = cc
operator_in_paths name (Some kind) (array items) all is = cc

operators_paths : (ds : Members) (all : List Action) → operators_in ds ≡ Ok all → IsUpdate all
operators_paths no_members all is = let same : ◌≡◌ {A = List Action} [] all = cc in subst IsUpdate same (All-nil HasPaths)
operators_paths (member name d ds) all is =
    let more = λ (actions rest : List Action). let r : Read (List Action) = Ok (actions ++ rest) in r in
    let s = Ok-and_then (λ (actions : List Action). and_then (more actions) (operators_in ds)) (operator_in name (kind_of name) d) all is in
    let t = Ok-and_then (more s.0) (operators_in ds) all s.2 in
    let same : s.0 ++ t.0 ≡ all = cc in
    subst IsUpdate same (All-append HasPaths s.0 t.0 (operator_in_paths name (kind_of name) d s.0 s.1) (operators_paths ds t.0 t.1))

apart_paths : (actions all : List Action) (conflict : Option Path) → apart_only actions conflict ≡ Ok all → actions ≡ all
apart_paths actions all None is = cc
apart_paths actions all (Some p) is = cc

-- what is read is an update
pub update_has_paths : (d : Data) (all : List Action) → walked_update d ≡ Ok all → IsUpdate all
update_has_paths (object no_members) all is = cc
update_has_paths (object (member name d ds)) all is =
    let s = Ok-and_then without_conflict (operators_in (member name d ds)) all is in
    subst IsUpdate (apart_paths s.0 all (first_conflict [] (flat_map paths_of s.0)) s.2) (operators_paths (member name d ds) s.0 s.1)
update_has_paths null all is = cc
update_has_paths (boolean b) all is = cc
update_has_paths (number n) all is = cc
update_has_paths (string text) all is = cc
update_has_paths (array items) all is = cc
