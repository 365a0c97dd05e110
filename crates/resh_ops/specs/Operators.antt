-- What each operator does, by what stands at its path.
use Rattle.std.specs.Prelude.{◌^◌, ℤ, pos, neg_ℤ, int_lt, ◌+ℤ◌, ◌*ℤ◌, Bool, cond, not, ◌&&◌, List, [], ◌∷◌, ◌++◌, take, drop, length, ◌-◌}
use Rattle.std.specs.List.{list_any}
use Rattle.std.specs.Ordering.{is_lt, is_gt}
use Rattle.resh_value.specs.Order.{compare_of, is_same}
use Rattle.resh_value.specs.declared.value.Value.{Value, out-Value}
use Rattle.resh_value.specs.declared.value.Value.TheVariants.{Int, List as Array}
use Rattle.resh_value.specs.declared.value.Value.TheOpen.{Value-F}
use Rattle.resh_ops.specs.Paths.{Reached, here, missing, scalar}
use Rattle.resh_ops.specs.declared.doing.Doing.{Doing}
use Rattle.resh_ops.specs.declared.doing.Doing.TheVariants.{Keeps, Writes, Erases, Moves, Fails}
use Rattle.resh_ops.specs.declared.doing.Refusal.TheVariants.{NotNumber, OutOfRange, NotArray, ThroughScalar}
use Rattle.resh_ops.specs.declared.operator.Operator.{Operator}
use Rattle.resh_ops.specs.declared.operator.Operator.TheVariants.{AddToSet, Inc, Max, Min, Mul, Pop, Push, Rename, Set, Unset}
use Rattle.resh_ops.specs.declared.operator.Side.{Side}
use Rattle.resh_ops.specs.declared.operator.Side.TheVariants.{First, Last}

-- by whether the field is missing or there; a path through a value that is no document is a fault
abbrev pub where_it_leads : Doing → (Value → Doing) → Reached → Doing
where_it_leads at_missing at_value missing = at_missing
where_it_leads at_missing at_value (here value) = at_value value
where_it_leads at_missing at_value scalar = Fails ThroughScalar

-- on the number, or the array, that the field holds
abbrev pub on_number : (ℤ → Doing) → Value-F Value → Doing
on_number f (Value-F.Int n) = f n
on_number f other = Fails NotNumber

abbrev pub on_array : (List Value → Doing) → Value-F Value → Doing
on_array f (Value-F.List items) = f items
on_array f other = Fails NotArray

-- numbers have 64 bits with their sign
abbrev pub is_i64 : ℤ → Bool
is_i64 n = not (int_lt n (neg_ℤ (pos (2 ^ 63)))) && int_lt n (pos (2 ^ 63))

abbrev pub writes_number : ℤ → Doing
writes_number n = cond (is_i64 n) (Writes (Int n)) (Fails OutOfRange)

-- the array without the element at that end
abbrev pub popped : Side → List Value → List Value
popped First items = drop 1 items
popped Last items = take (length items - 1) items

-- the array with the value at its end, and the array with the value in it
abbrev pub pushes : Value → List Value → Doing
pushes value items = Writes (Array (items ++ value ∷ []))

abbrev pub adds : Value → List Value → Doing
adds value items = cond (list_any (λ item. is_same item value) items) Keeps (pushes value items)

-- a path through a value that is no document leads to a missing field
abbrev pub unsets : Reached → Doing
unsets (here value) = Erases
unsets missing = Keeps
unsets scalar = Keeps

-- the table of the operators
abbrev pub does : Operator → Reached → Doing
does (AddToSet value) = where_it_leads (Writes (Array (value ∷ []))) (λ old. on_array (adds value) (out-Value old))
does (Inc n) = where_it_leads (Writes (Int n)) (λ old. on_number (λ m. writes_number (m +ℤ n)) (out-Value old))
does (Max value) = where_it_leads (Writes value) (λ old. cond (is_lt (compare_of old value)) (Writes value) Keeps)
does (Min value) = where_it_leads (Writes value) (λ old. cond (is_gt (compare_of old value)) (Writes value) Keeps)
does (Mul n) = where_it_leads (Writes (Int (pos 0))) (λ old. on_number (λ m. writes_number (m *ℤ n)) (out-Value old))
does (Pop side) = where_it_leads Keeps (λ old. on_array (λ items. Writes (Array (popped side items))) (out-Value old))
does (Push value) = where_it_leads (Writes (Array (value ∷ []))) (λ old. on_array (pushes value) (out-Value old))
does (Rename target) = where_it_leads Keeps (λ old. Moves target old)
does (Set value) = where_it_leads (Writes value) (λ old. Writes value)
does Unset = unsets
