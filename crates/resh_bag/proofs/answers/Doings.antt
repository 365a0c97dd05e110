-- What a command can do: a fact of each of its doings.
use Rattle.std.proofs.Common.{◌≢◌, ℕ, Bool, true, false, cond, Option, Some, None, Result, Ok, Err, eqb, not, ◌&&◌}
use Rattle.std.specs.Option.{is_some}
use Rattle.resh_chunks.specs.Chunks.{Chunks, owner_of}
use Rattle.resh_ops.specs.Updates.{updated}
use Rattle.resh_ops.specs.declared.faults.ChangeFault.{ChangeFault}
use Rattle.resh_command.specs.declared.command.Command.{Command}
use Rattle.resh_command.specs.declared.command.Command.TheVariants.{Insert, Update, Delete, Find, Count, Abort}
use Rattle.resh_command.specs.declared.reply.Reply.{Reply}
use Rattle.resh_command.specs.declared.reply.Reply.TheVariants.{AbortAccepted, Duplicate}
use Rattle.resh_value.specs.Lookup.{id_of}
use Rattle.resh_bag.specs.Bag.{Bag, Document, held}
use Rattle.resh_bag.specs.Answer.{Doing, adds, replaces, removes, says, doing, insert_doing, result_doing, on_hit, has_key, hit, with_key, text_limit}

module _ (chunks : Chunks) (bag : Bag) (P : Doing → Type 0)
    (added : (d : Document) → P (adds (owner_of chunks d) d))
    (replaced : (shard : ℕ) (d e : Document) → P (replaces shard d (owner_of chunks e) e))
    (removed : (shard : ℕ) (d : Document) → P (removes shard d))
    (said : (reply : Reply) → reply ≢ AbortAccepted → P (says reply)) where
  inserted : (d : Document) (found : Option Document) → P (insert_doing (owner_of chunks d) d found)
  inserted d None = added d
  inserted d (Some other) = said _ (λ e. cc)

  either : (b : Bool) (one other : Doing) → P one → P other → P (cond b one other)
  either true one other p q = p
  either false one other p q = q

  on_each : (f : Document → Doing) → ((d : Document) → P (f d)) → (found : Option Document) → P (on_hit f found)
  on_each f each None = said _ (λ e. cc)
  on_each f each (Some d) = each d

  keyed : (filter : Document) (one : Doing) → P one → P (with_key chunks filter one)
  keyed filter one p = either (has_key chunks filter) one _ p (said _ (λ e. cc))

  resulted : (shard : ℕ) (d : Document) (result : Result Document ChangeFault) → P (result_doing chunks bag shard d result)
  resulted shard d (Err fault) = said _ (λ e. cc)
  resulted shard d (Ok e) =
      either (not (eqb (owner_of chunks e) shard) && is_some (held bag (owner_of chunks e) (id_of e))) _ _ (said Duplicate (λ e. cc)) (replaced shard d e)

  pub each_doing : (command : Command) → P (doing chunks bag command)
  each_doing (Insert d) = inserted d (held bag (owner_of chunks d) (id_of d))
  each_doing (Update f update) =
      keyed f _ (on_each (λ d. result_doing chunks bag (owner_of chunks f) d (updated text_limit update d)) (λ d. resulted (owner_of chunks f) d (updated text_limit update d)) (hit chunks bag f))
  each_doing (Delete f) = keyed f _ (on_each (λ d. removes (owner_of chunks f) d) (λ d. removed (owner_of chunks f) d) (hit chunks bag f))
  each_doing (Find f) = said _ (λ e. cc)
  each_doing (Count f) = said _ (λ e. cc)
  each_doing Abort = said _ (λ e. cc)
