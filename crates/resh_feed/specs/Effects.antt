-- What the items of a feed make of a slot: of the document that one donor has, or hasn't, under one `_id`.
use Rattle.std.specs.Prelude.{◌≡◌, ℕ, ⊤, Bool, true, false, cond, List, [], ◌∷◌, Option, Some, None}
use Rattle.std.specs.Option.{option_map}
use Rattle.resh_value.specs.Change.{changed}
use Rattle.resh_value.specs.Lookup.{id_of}
use Rattle.resh_value.specs.Names.{HasRisingNames}
use Rattle.resh_value.specs.Order.{is_same}
use Rattle.resh_value.specs.declared.value.Value.{Value}
use Rattle.resh_oplog.specs.declared.entry.What.{What}
use Rattle.resh_oplog.specs.declared.entry.What.TheVariants.{Insert, Update, Delete, Final}
use Rattle.resh_feed.specs.Items.{Document}

-- an insert sets a slot
abbrev pub set_to : Document → Option Document → Option Document
set_to document before = Some document

-- an update changes a filled slot
abbrev pub changed_by : Document → List (List ℕ) → Option Document → Option Document
changed_by assign unset before = option_map (changed assign unset) before

-- a delete empties it
abbrev pub emptied : Option Document → Option Document
emptied before = None

-- what an item makes of the slot of its `_id`
abbrev pub effect_of : What → Option Document → Option Document
effect_of (Insert document) before = set_to document before
effect_of (Update id change) before = changed_by change.assign change.unset before
effect_of (Delete id) before = emptied before
effect_of Final before = before

-- the item writes the `_id`
abbrev pub writes : Value → What → Bool
writes id (Insert document) = is_same id (id_of document)
writes id (Update own change) = is_same id own
writes id (Delete own) = is_same id own
writes id Final = false

-- what one item makes of the slot of an `_id`
abbrev pub turn : Value → What → Option Document → Option Document
turn id what before = cond (writes id what) (effect_of what before) before

-- what items make of it, one after another
abbrev pub effects_on : Value → List What → Option Document → Option Document
effects_on id [] before = before
effects_on id (what ∷ whats) before = effects_on id whats (turn id what before)

-- the names of what an item has rise
abbrev pub IsFormed : What → Type 0
IsFormed (Insert document) = HasRisingNames document
IsFormed (Update id change) = HasRisingNames change.assign
IsFormed (Delete id) = ⊤
IsFormed Final = ⊤

abbrev pub AreFormed : List What → Type 0
AreFormed [] = ⊤
AreFormed (what ∷ whats) = IsFormed what × AreFormed whats

abbrev pub IsFormedSlot : Option Document → Type 0
IsFormedSlot None = ⊤
IsFormedSlot (Some document) = HasRisingNames document
