-- An update leaves rising names.
use Rattle.std.proofs.Common.{◌≡◌, ℕ, Bool, true, false, cond, List, [], ◌∷◌, unwrap_or, Result, Ok, Err, refl, subst}
use Rattle.resh_value.specs.Lookup.{field_of}
use Rattle.resh_value.specs.Names.{HasRisingNames}
use Rattle.resh_value.specs.Outcome.{and_then}
use Rattle.resh_value.specs.declared.value.Value.{Value}
use Rattle.resh_value.specs.declared.value.Value.TheVariants.{Doc}
use Rattle.resh_value.proofs.FieldLaws.{HasRisingNames-with_field, HasRisingNames-without_field}
use Rattle.resh_ops.specs.Operators.{does}
use Rattle.resh_ops.specs.Paths.{Document, Path, dotted, embedded, erase, is_scalar, reach, write}
use Rattle.resh_ops.specs.Updates.{acted, acted_all, done_at, updated}
use Rattle.resh_ops.specs.declared.doing.Doing.{Doing}
use Rattle.resh_ops.specs.declared.doing.Doing.TheVariants.{Keeps, Writes, Erases, Moves, Fails}
use Rattle.resh_ops.specs.declared.faults.ChangeFault.{ChangeFault}
use Rattle.resh_ops.specs.declared.faults.ChangeFault.TheVariants.{ThroughScalar}
use Rattle.resh_ops.specs.declared.operator.Action.{Action}
use Rattle.resh_ops.proofs.ActionLaws.{updated-acted}

write_rises : (path : Path) (value : Value) (d : Document) → HasRisingNames d → HasRisingNames (write path value d)
write_rises [] value d s = s
write_rises (name ∷ []) value d s = HasRisingNames-with_field d name value s
write_rises (name ∷ next ∷ rest) value d s = HasRisingNames-with_field d name (Doc (write (next ∷ rest) value (unwrap_or (embedded (field_of d name)) []))) s

erase_rises : (path : Path) (d : Document) → HasRisingNames d → HasRisingNames (erase path d)
erase_rises [] d s = s
erase_rises (name ∷ []) d s = HasRisingNames-without_field d name s
erase_rises (name ∷ next ∷ rest) d s = HasRisingNames-with_field d name (Doc (erase (next ∷ rest) (unwrap_or (embedded (field_of d name)) []))) s

abbrev ok : Document → Result Document ChangeFault
ok d = Ok d

same_ok : (a b : Document) → HasRisingNames a → ok a ≡ ok b → HasRisingNames b
same_ok a b s e = let same : a ≡ b = cc in subst (λ d. HasRisingNames d) same s

done_rises : (path : Path) (d e : Document) → HasRisingNames d → (doing : Doing) → done_at path d doing ≡ Ok e → HasRisingNames e
done_rises path d e s Keeps is = same_ok d e s is
done_rises path d e s (Writes value) is = same_ok (write path value d) e (write_rises path value d s) is
done_rises path d e s Erases is = same_ok (erase path d) e (erase_rises path d s) is
done_rises path d e s (Moves target value) is = by (is_scalar (reach target d)) is
  where
    by : (b : Bool) → cond b (Err (ThroughScalar (dotted target))) (Ok (write target value (erase path d))) ≡ Ok e → HasRisingNames e
    by true h = cc
    by false h = same_ok (write target value (erase path d)) e (write_rises target value (erase path d) (erase_rises path d s)) h
done_rises path d e s (Fails refusal) is = cc

all_rise : (u : List Action) (d e : Document) → HasRisingNames d → acted_all u d ≡ Ok e → HasRisingNames e
all_rise [] d e s is = same_ok d e s is
all_rise (action ∷ actions) d e s is = by (λ x. all_rise actions x e) (acted action d) refl is
  where
    by : ((x : Document) → HasRisingNames x → acted_all actions x ≡ Ok e → HasRisingNames e) → (r : Result Document ChangeFault) → acted action d ≡ r → and_then (acted_all actions) r ≡ Ok e → HasRisingNames e
    by onward (Ok x) had h = onward x (done_rises action.path d x s (does action.operator (reach action.path d)) had) h
    by onward (Err fault) had h = cc

pub updates_rise : (limit : ℕ) (u : List Action) (d e : Document) → HasRisingNames d → updated limit u d ≡ Ok e → HasRisingNames e
updates_rise limit u d e s is = all_rise u d e s (updated-acted limit u d e is)
