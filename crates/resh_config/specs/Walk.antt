-- The walk through a JSON value: kinds, names, numbers, lists, and the first fault on the way.
use Rattle.std.specs.Prelude.{◌≡◌, ◌≢◌, MatchResult, ℕ, ◌+◌, ◌^◌, Bool, cond, ◌&&◌, nat_lt, nat_le, List, [], ◌∷◌, ◌++◌, length, Option, Some, None, Ok, Err}
use Rattle.std.specs.List.{list_any}
use Rattle.serde_json.specs.Data.{Num, unsigned, negative, float, Data, null, boolean, number, string, array, object, Items, no_items, item, Members, no_members, member}
use Rattle.serde_json.specs.Find.{get_member}
use Rattle.resh_value.specs.Names.{same_name}
use Rattle.resh_value.specs.Outcome.{and_then}
use Rattle.resh_value.specs.Paths.{to_name, to_place}
use Rattle.resh_value.specs.Walk.{ends, at_step}
use Rattle.resh_value.specs.declared.walk_fault.WalkFault.TheVariants.{NoMemory}
use Rattle.resh_config.specs.Faults.{Read}
use Rattle.resh_config.specs.declared.faults.FaultKind.TheVariants.{Missing, WrongKind, UnknownName, OverLimit}

-- what is read first, and what is read after it
infixl 10 ◌>>=◌
abbrev pub ◌>>=◌ : {A B : Type 0} → Read A → (A → Read B) → Read B
r >>= next = and_then next r

-- the answer, as it is seen, is the one wanted, but for want of memory
abbrev pub GivesSeen : {A B : Type 0} → (A → B) → Read A → Read B → Type 0
GivesSeen seen answer wanted =
    MatchResult answer (λ x. wanted ≡ Ok (seen x)) (λ e. e ≢ NoMemory → wanted ≡ Err e)

-- the first name that isn't listed, in byte order
abbrev pub unlisted : List (List ℕ) → Members → Option (List ℕ)
unlisted names no_members = None
unlisted names (member name d ds) = cond (list_any (same_name name) names) (unlisted names ds) (Some name)

abbrev pub listed_only : Option (List ℕ) → Members → Read Members
listed_only None ds = Ok ds
listed_only (Some name) ds = at_step (to_name name) (ends UnknownName)

-- the members of an object that has no other names than these
abbrev pub row_with : List (List ℕ) → Data → Read Members
row_with names (object ds) = listed_only (unlisted names ds) ds
row_with names null = ends WrongKind
row_with names (boolean b) = ends WrongKind
row_with names (number n) = ends WrongKind
row_with names (string text) = ends WrongKind
row_with names (array items) = ends WrongKind

-- a member that has to be there, and one that may be missing
abbrev pub required : {A : Type 0} → List ℕ → (Data → Read A) → Option Data → Read A
required name read None = at_step (to_name name) (ends Missing)
required name read (Some d) = at_step (to_name name) (read d)

abbrev pub optional : {A : Type 0} → A → List ℕ → (Data → Read A) → Option Data → Read A
optional default name read None = Ok default
optional default name read (Some d) = at_step (to_name name) (read d)

abbrev pub field : {A : Type 0} → Members → List ℕ → (Data → Read A) → Read A
field ds name read = required name read (get_member name ds)

abbrev pub field_or : {A : Type 0} → A → Members → List ℕ → (Data → Read A) → Read A
field_or default ds name read = optional default name read (get_member name ds)

-- a whole number from `low` to `high`
abbrev pub number_within : ℕ → ℕ → Num → Read ℕ
number_within low high (unsigned n) =
    cond (nat_lt n (2 ^ 63)) (cond (nat_le low n && nat_le n high) (Ok n) (ends (OverLimit high)))
    (ends WrongKind)
number_within low high (negative z) = ends (OverLimit high)
number_within low high (float x) = ends WrongKind

abbrev pub number_in : ℕ → ℕ → Data → Read ℕ
number_in low high (number n) = number_within low high n
number_in low high null = ends WrongKind
number_in low high (boolean b) = ends WrongKind
number_in low high (string text) = ends WrongKind
number_in low high (array items) = ends WrongKind
number_in low high (object ds) = ends WrongKind

abbrev pub text_in : Data → Read (List ℕ)
text_in (string text) = Ok text
text_in null = ends WrongKind
text_in (boolean b) = ends WrongKind
text_in (number n) = ends WrongKind
text_in (array items) = ends WrongKind
text_in (object ds) = ends WrongKind

abbrev pub count : Items → ℕ
count no_items = 0
count (item d ds) = count ds + 1

-- the items of a list one after another, each read with those before it in sight
abbrev pub items_from : {A : Type 0} → (List A → Data → Read A) → List A → Items → Read (List A)
items_from read before no_items = Ok before
items_from read before (item d ds) =
    at_step (to_place (length before)) (read before d) >>= λ a. items_from read (before ++ a ∷ []) ds

-- a list of at most so many items
abbrev pub list_in : {A : Type 0} → ℕ → (List A → Data → Read A) → Data → Read (List A)
list_in limit read (array ds) = cond (nat_lt limit (count ds)) (ends (OverLimit limit)) (items_from read [] ds)
list_in limit read null = ends WrongKind
list_in limit read (boolean b) = ends WrongKind
list_in limit read (number n) = ends WrongKind
list_in limit read (string text) = ends WrongKind
list_in limit read (object ds) = ends WrongKind

-- an empty list is of the wrong kind here
abbrev pub some_of : {A : Type 0} → List A → Read (List A)
some_of [] = ends WrongKind
some_of (a ∷ as') = Ok (a ∷ as')

-- the content is accepted where it is good
abbrev pub accept : {A : Type 0} → Bool → A → Read A
accept good a = cond good (Ok a) (ends WrongKind)
