-- A donor that makes a write tells each recipient what it logs for it, and nothing behind a final entry.
use Rattle.std.proofs.Common.{◌≡◌, ◌<◌, ℕ, false, cond, List, [], ◌++◌, sym, ap, ◌∙◌}
use Rattle.resh_cells.specs.declared.cluster.ShardCell.{ShardCell}
use Rattle.resh_feed.specs.Items.{Document, has_final, up_to_final}
use Rattle.resh_oplog.specs.Logs.{is_for}
use Rattle.resh_oplog.specs.declared.entry.Entry.{Entry}
use Rattle.resh_progress.specs.Kinds.{ToDonate}
use Rattle.resh_progress.specs.Tellings.{has}
use Rattle.resh_shard.specs.Shards.{wrote}
use Rattle.resh_shard.specs.Writes.{contents, entries_of}
use Rattle.resh_shard.specs.declared.act.Write.{Write}
use Rattle.resh_stamp.specs.declared.stamp.Stamp.{Stamp}
use Rattle.resh_story.specs.Laws.{entries_to}
use Rattle.resh_story.specs.Stories.{entries_for}
use Rattle.resh_story.proofs.Entries.{NoFinal, all_of_it, has_none, later_none, no_final, some_none, writes_none}
use Rattle.resh_story.proofs.Feeding.{feeds_grow}
use Rattle.resh_invariant.specs.Frames.{Grows, longer, untold}
use Rattle.resh_invariant.specs.Sources.{source_by}
use Rattle.resh_write_rows.proofs.Sealing.{has_up_to, up_to_more}

-- the cell once a write was made
abbrev pub written_cell : Stamp → ℕ → Write → ShardCell → ShardCell
written_cell stamp part w cell = record cell { shard = wrote stamp part w cell.shard }

module _ (stamp : Stamp) (part : ℕ) (w : Write) (cell : ShardCell) (time r : ℕ) where
  abbrev before : List Entry
  before = entries_for cell.shard time r

  abbrev new : List Entry
  new = entries_to r stamp part w cell.shard

  -- no entry of a write is final
  new_told : up_to_final new ≡ new
  new_told = all_of_it new (some_none (λ (e : Entry). is_for r e.to) (entries_of cell.shard.names cell.shard.log.donor stamp part (contents cell.shard.new_map w))
      (writes_none cell.shard.log.donor stamp cell.shard.new_map w cell.shard.names part))

  pub told_now : time < stamp.time → up_to_final (entries_for (wrote stamp part w cell.shard) time r) ≡ up_to_final before ++ cond (has_final before) [] new
  told_now lt =
      ap up_to_final (feeds_grow.logged stamp part w cell.shard time r lt) ∙ up_to_more before new
      ∙ ap (λ l. up_to_final before ++ cond (has_final before) [] l) new_told

  pub tells_more : time < stamp.time → (documents other : List Document) → other ≡ documents
      → Grows (source_by time cell documents r) (source_by time (written_cell stamp part w cell) other r)
  tells_more lt documents other same =
      longer (cond (has_final before) [] new) (λ off. off) same (told_now lt) (λ ended. ap (λ t. cond t [] new) (sym (has_up_to before) ∙ ended))

  -- what is told to nobody may change
  pub tells_else : (documents other : List Document) → has cell.donor.told ToDonate ≡ false → has_final cell.shard.log.entries ≡ false
      → Grows (source_by time cell documents r) (source_by time (written_cell stamp part w cell) other r)
  tells_else documents other off unsealed =
      let none : NoFinal before = later_none time r cell.shard.log.entries (no_final cell.shard.log.entries unsealed) in
      untold off (ap has_final (all_of_it before none) ∙ has_none before none)
