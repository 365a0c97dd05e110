-- What a command does to the collection, the collection after it, and the reply.
use Rattle.std.specs.Prelude.{ℕ, Bool, cond, not, ◌&&◌, ◌==◌, List, ◌∷◌, length, take, filter, codes, Option, Some, None, is_some, Result, Ok, Err}
use Rattle.std.specs.List.{list_all}
use Rattle.std.specs.Ordering.{is_eq}
pub use Rattle.resh_value.specs.Limits.{text_limit}
use Rattle.resh_value.specs.Lookup.{field_of, id_of}
use Rattle.resh_value.specs.Order.{compare_documents}
use Rattle.resh_chunks.specs.Chunks.{Chunks, owner_of}
use Rattle.resh_filter.specs.Filters.{matches}
use Rattle.resh_ops.specs.Updates.{updated}
use Rattle.resh_ops.specs.declared.faults.ChangeFault.{ChangeFault}
use Rattle.resh_command.specs.declared.command.Command.{Command}
use Rattle.resh_command.specs.declared.command.Command.TheVariants.{Insert, Update, Delete, Find, Count, Abort}
use Rattle.resh_command.specs.declared.reply.Reply.{Reply}
use Rattle.resh_command.specs.declared.reply.Reply.TheVariants.{Inserted, Duplicate, Matched, NotFound, Deleted, Found, Counted, NoKey, Refused, AbortTooLate}
use Rattle.resh_bag.specs.Bag.{Bag, Document, held, put, without, documents}

-- what a command does: a document comes to a shard, one stands in the place of another, one goes, or nothing but a
-- reply
pub data Doing : Type 0 where
  adds : ℕ → Document → Doing
  replaces : ℕ → Document → ℕ → Document → Doing
  removes : ℕ → Document → Doing
  says : Reply → Doing

-- an insert puts the document where its shard doesn't hold the `_id`
abbrev pub insert_doing : ℕ → Document → Option Document → Doing
insert_doing shard document None = adds shard document
insert_doing shard document (Some other) = says Duplicate

-- the filter has `_id` and each field of the map's pattern
abbrev pub has_key : Chunks → Document → Bool
has_key chunks filter = list_all (λ name. is_some (field_of filter name)) (codes "_id" ∷ chunks.pattern)

-- the document of the filter's `_id` on the shard of the filter's key, where it matches the whole filter
abbrev pub matching : Document → Option Document → Option Document
matching filter None = None
matching filter (Some document) = cond (matches filter document) (Some document) None

abbrev pub hit : Chunks → Bag → Document → Option Document
hit chunks bag filter = matching filter (held bag (owner_of chunks filter) (id_of filter))

abbrev pub on_hit : (Document → Doing) → Option Document → Doing
on_hit f None = says NotFound
on_hit f (Some document) = f document

abbrev pub with_key : Chunks → Document → Doing → Doing
with_key chunks filter doing = cond (has_key chunks filter) doing (says NoKey)

-- the result stands where its owner is, unless another shard holds the `_id` there
abbrev pub result_doing : Chunks → Bag → ℕ → Document → Result Document ChangeFault → Doing
result_doing chunks bag shard document (Err fault) = says (Refused fault)
result_doing chunks bag shard document (Ok result) =
    cond (not (owner_of chunks result == shard) && is_some (held bag (owner_of chunks result) (id_of result)))
    (says Duplicate) (replaces shard document (owner_of chunks result) result)

-- the documents that match, by `_id` and shard
abbrev pub matching_all : Bag → Document → List Document
matching_all bag f = filter (matches f) (documents bag)

abbrev pub doing : Chunks → Bag → Command → Doing
doing chunks bag (Insert document) = insert_doing (owner_of chunks document) document
    (held bag (owner_of chunks document) (id_of document))
doing chunks bag (Update f update) = with_key chunks f (on_hit
    (λ document. result_doing chunks bag (owner_of chunks f) document (updated text_limit update document))
    (hit chunks bag f))
doing chunks bag (Delete f) = with_key chunks f (on_hit (λ document. removes (owner_of chunks f) document)
    (hit chunks bag f))
doing chunks bag (Find f) = says (Found (length (matching_all bag f)) (take 10 (matching_all bag f)))
doing chunks bag (Count f) = says (Counted (length (matching_all bag f)))
doing chunks bag Abort = says AbortTooLate

-- the collection after it
abbrev pub bag_after : Bag → Doing → Bag
bag_after bag (adds shard document) = put bag shard document
bag_after bag (replaces shard document target result) = put (without bag shard (id_of document)) target result
bag_after bag (removes shard document) = without bag shard (id_of document)
bag_after bag (says reply) = bag

-- the reply to it
abbrev pub reply_of : Doing → Reply
reply_of (adds shard document) = Inserted
reply_of (replaces shard document target result) = Matched (not (is_eq (compare_documents document result)))
reply_of (removes shard document) = Deleted
reply_of (says reply) = reply
