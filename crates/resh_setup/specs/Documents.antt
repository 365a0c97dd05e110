-- The documents and filters of a setup, and the commands that its clients ask.
use Rattle.std.specs.Prelude.{◌≡◌, ◌≤◌, ℕ, Bool, true, false, cond, not, ◌&&◌, ◌==◌, List, [], ◌∷◌, ◌++◌, length, codes, Option, Some, None}
use Rattle.std.specs.List.{list_any}
use Rattle.std.specs.Ordering.{is_eq}
use Rattle.resh_value.specs.Depth.{document_levels}
use Rattle.resh_value.specs.Limits.{text_limit}
use Rattle.resh_value.specs.Lookup.{field_of, value_under}
use Rattle.resh_value.specs.Names.{HasRisingNames}
use Rattle.resh_value.specs.Order.{compare_of, kind}
use Rattle.resh_value.specs.Text.{document_text}
use Rattle.resh_value.specs.Whole.{IsWhole}
use Rattle.resh_value.specs.declared.value.Value.{Value}
use Rattle.resh_chunks.specs.Chunks.{Chunks, owner_of}
use Rattle.resh_filter.specs.Filters.{is_dotted}
use Rattle.resh_ops.specs.Updates.{IsUpdate}
use Rattle.resh_ops.specs.declared.operator.Action.{Action}
use Rattle.resh_command.specs.declared.command.Command.{Command}
use Rattle.resh_command.specs.declared.command.Command.TheVariants.{Insert, Update, Delete, Find, Count, Abort}

abbrev pub Document : Type 0
Document = List (List ℕ × Value)

-- an `_id` is there, and is no array
abbrev pub is_id : Option Value → Bool
is_id None = false
is_id (Some v) = not (kind v == 4)

-- a document is whole, its `_id` is no array, and it has a text of at most 16,384 bytes and at most 32 levels
pub record IsStored (document : Document) : Type 0 where
  pub whole : IsWhole document
  pub id : is_id (field_of document (codes "_id")) ≡ true
  pub short : length (document_text document) ≤ text_limit
  pub shallow : document_levels document ≤ 32

-- a filter's names rise and have no dot
pub record IsFilter (filter : Document) : Type 0 where
  pub rising : HasRisingNames filter
  pub undotted : list_any (λ field. is_dotted field.0) filter ≡ false
  pub shallow : document_levels filter ≤ 32

-- what a client may ask
pub data IsCommand : Command → Type 0 where
  inserts : (document : Document) → IsStored document → IsCommand (Insert document)
  updates : (filter : Document) (update : List Action) → IsFilter filter → IsUpdate update
      → IsCommand (Update filter update)
  deletes : (filter : Document) → IsFilter filter → IsCommand (Delete filter)
  finds : (filter : Document) → IsFilter filter → IsCommand (Find filter)
  counts : (filter : Document) → IsFilter filter → IsCommand (Count filter)
  aborts : IsCommand Abort

-- two documents of one shard and one `_id`
abbrev pub same_place : Chunks → Document → Document → Bool
same_place chunks a b =
    (owner_of chunks a == owner_of chunks b)
    && is_eq (compare_of (value_under a (codes "_id")) (value_under b (codes "_id")))

-- the first row whose shard and `_id` an earlier row has, from the rows that `before` precede
abbrev pub first_same : Chunks → List Document → List Document → Option ℕ
first_same chunks before [] = None
first_same chunks before (d ∷ ds) =
    cond (list_any (same_place chunks d) before) (Some (length before)) (first_same chunks (before ++ d ∷ []) ds)
