-- Results that are `Ok`, taken apart.
use Rattle.std.proofs.Common.{◌≡◌, ℕ, ◌^◌, ◌≤◌, Bool, true, false, cond, List, Option, Some, None, Result, Ok, Err, refl, ap, subst, arith}
use Rattle.std.specs.Prelude.{◌&&◌, nat_lt, nat_le}
use Rattle.std.proofs.lemmas.Bool.Decides.{nat_tests}
use Rattle.serde_json.specs.Data.{unsigned, negative, float, Data, null, boolean, number, string, array, object, Members}
use Rattle.serde_json.specs.Find.{get_member}
use Rattle.resh_value.specs.Outcome.{and_then, in_err}
use Rattle.resh_value.specs.Paths.{to_name}
use Rattle.resh_value.specs.Walk.{ends}
use Rattle.resh_config.specs.declared.faults.FaultKind.TheVariants.{OverLimit, WrongKind}
use Rattle.resh_value.specs.Walk.{under}
use Rattle.resh_config.specs.Faults.{Read}
use Rattle.resh_config.specs.Walk.{unlisted, listed_only, row_with, required, optional, field, field_or, number_in, accept}
use Rattle.resh_config.proofs.SortedMembers.{IsTidy, HasTidy, tidy_member}

pub Ok-and_then : {A B E : Type 0} (f : A → Result B E) (r : Result A E) (b : B) → and_then f r ≡ Ok b → (a : A) × (r ≡ Ok a) × (f a ≡ Ok b)
Ok-and_then f (Ok a) b is = (a, refl, is)
Ok-and_then f (Err e) b is = cc

pub Ok-in_err : {A E D : Type 0} (g : E → D) (r : Result A E) (a : A) → in_err g r ≡ Ok a → r ≡ Ok a
Ok-in_err g (Ok x) a is = let same : x ≡ a = cc in ap Ok same
Ok-in_err g (Err e) a is = cc

pub Ok-cond : {A E : Type 0} (b : Bool) (e : E) (r : Result A E) (a : A) → cond b (Err e) r ≡ Ok a → (b ≡ false) × (r ≡ Ok a)
Ok-cond true e r a is = cc
Ok-cond false e r a is = (refl, is)

pub same_in_Ok : {A E : Type 0} (x y : A) → ◌≡◌ {A = Result A E} (Ok x) (Ok y) → x ≡ y
same_in_Ok x y e = cc

pub Ok-required : {A : Type 0} (name : List ℕ) (read : Data → Read A) (o : Option Data) (a : A) → required name read o ≡ Ok a → (d : Data) × (read d ≡ Ok a)
Ok-required name read None a is = cc
Ok-required name read (Some d) a is = (d, Ok-in_err (under (to_name name)) (read d) a is)

-- a field that has to be there was read, from a member that is tidy
pub Ok-field : {A : Type 0} (ds : Members) (name : List ℕ) (read : Data → Read A) (a : A) → HasTidy ds → field ds name read ≡ Ok a → (d : Data) × IsTidy d × (read d ≡ Ok a)
Ok-field ds name read a tidy is = by (get_member name ds) refl is
  where
    by : (o : Option Data) → get_member name ds ≡ o → required name read o ≡ Ok a → (d : Data) × IsTidy d × (read d ≡ Ok a)
    by None found e = cc
    by (Some d) found e = (d, tidy_member name ds d tidy found, Ok-in_err (under (to_name name)) (read d) a e)

-- what the default has and whatever is read, a field has that may be missing
pub optional_keeps : {A : Type 0} (P : A → Type 0) (default : A) (name : List ℕ) (read : Data → Read A) → P default → ((d : Data) (a : A) → read d ≡ Ok a → P a)
    → (o : Option Data) (a : A) → optional default name read o ≡ Ok a → P a
optional_keeps P default name read h each None a is = let same : default ≡ a = cc in subst P same h
optional_keeps P default name read h each (Some d) a is = each d a (Ok-in_err (under (to_name name)) (read d) a is)

-- and where what is read has to be tidy
pub field_or_keeps : {A : Type 0} (P : A → Type 0) (default : A) (ds : Members) (name : List ℕ) (read : Data → Read A) → P default
    → ((d : Data) (a : A) → IsTidy d → read d ≡ Ok a → P a) → (a : A) → HasTidy ds → field_or default ds name read ≡ Ok a → P a
field_or_keeps P default ds name read h each a tidy is = by (get_member name ds) refl is
  where
    by : (o : Option Data) → get_member name ds ≡ o → optional default name read o ≡ Ok a → P a
    by None found e = let same : default ≡ a = cc in subst P same h
    by (Some d) found e = each d a (tidy_member name ds d tidy found) (Ok-in_err (under (to_name name)) (read d) a e)

-- an object's members were read
pub Ok-row_with : (names : List (List ℕ)) (d : Data) (ds : Members) → IsTidy d → row_with names d ≡ Ok ds → HasTidy ds
Ok-row_with names (object es) ds tidy is = by (unlisted names es) is
  where
    by : (o : Option (List ℕ)) → listed_only o es ≡ Ok ds → HasTidy ds
    by None e = let same : es ≡ ds = cc in subst HasTidy same tidy.1
    by (Some name) e = cc
Ok-row_with names null ds tidy is = cc
Ok-row_with names (boolean b) ds tidy is = cc
Ok-row_with names (number n) ds tidy is = cc
Ok-row_with names (string text) ds tidy is = cc
Ok-row_with names (array items) ds tidy is = cc

-- what is accepted is good
pub Ok-accept : {A : Type 0} (b : Bool) (a c : A) → accept b a ≡ Ok c → (b ≡ true) × (a ≡ c)
Ok-accept true a c is = let same : a ≡ c = cc in (refl, same)
Ok-accept false a c is = cc

-- a number that was read lies between its limits
pub number_between : (low high : ℕ) (d : Data) (n : ℕ) → number_in low high d ≡ Ok n → (low ≤ n) × (n ≤ high)
number_between low high (number (unsigned m)) n is = by (nat_lt m (2 ^ 63)) is
  where
    within : (b c : Bool) → nat_le low m ≡ b → nat_le m high ≡ c → cond (b && c) (Ok m) (ends (OverLimit high)) ≡ Ok n → (low ≤ n) × (n ≤ high)
    within true true p q e = let same : m ≡ n = cc in (grind (arith, nat_tests), grind (arith, nat_tests))
    within true false p q e = cc
    within false c p q e = cc

    by : (b : Bool) → cond b (cond (nat_le low m && nat_le m high) (Ok m) (ends (OverLimit high))) (ends WrongKind) ≡ Ok n → (low ≤ n) × (n ≤ high)
    by true e = within (nat_le low m) (nat_le m high) refl refl e
    by false e = cc
number_between low high (number (negative z)) n is = cc
number_between low high (number (float x)) n is = cc
number_between low high null n is = cc
number_between low high (boolean b) n is = cc
number_between low high (string text) n is = cc
number_between low high (array items) n is = cc
number_between low high (object ds) n is = cc
