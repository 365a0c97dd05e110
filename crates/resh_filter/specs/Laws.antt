-- What filters match.
use Rattle.std.specs.Prelude.{◌≡◌, ◌↔◌, ℕ, true, List, [], Some, None}
use Rattle.std.specs.List.{All}
use Rattle.resh_value.specs.Lookup.{field_of, without_field}
use Rattle.resh_value.specs.Names.{HasRisingNames}
use Rattle.resh_value.specs.declared.value.Value.{Value}
use Rattle.resh_value.specs.declared.value.Value.TheVariants.{Null}
use Rattle.resh_filter.specs.Filters.{HasValues, matches}

-- a filter matches exactly where the document has each of its values
abbrev pub MatchesByName : Type 0
MatchesByName = (filter document : List (List ℕ × Value)) → HasRisingNames filter → (matches filter document ≡ true)
    ↔ HasValues document filter

-- fields that all stand in a document match it
abbrev pub MatchesOwnFields : Type 0
MatchesOwnFields = (fields document : List (List ℕ × Value))
    → All (λ field. field_of document field.0 ≡ Some field.1) fields → matches fields document ≡ true

abbrev pub MatchesItself : Type 0
MatchesItself = (document : List (List ℕ × Value)) → HasRisingNames document → matches document document ≡ true

-- a null under a name that the document lacks may as well not be there
abbrev pub NullIsMissing : Type 0
NullIsMissing = (filter document : List (List ℕ × Value)) (name : List ℕ) → field_of filter name ≡ Some Null
    → field_of document name ≡ None
    → matches filter document ≡ matches (without_field filter name) document

abbrev pub EmptyMatchesAll : Type 0
EmptyMatchesAll = (document : List (List ℕ × Value)) → matches [] document ≡ true
