-- A donor that isn't blocked and makes a write of its own.
use Rattle.std.proofs.Common.{◌≡◌, ◌≤◌, ◌<◌, ◌==◌, ◌&&◌, ◌++◌, inr, ℕ, nat_lt, nat_le, Bool, true, false, cond, List, [], length, refl, sym, ap, subst, ◌∙◌, ◌^◌, arith, rules}
use Rattle.resh_cells.specs.declared.cluster.ShardCell.{ShardCell}
use Rattle.resh_chunks.specs.Chunks.{owner_of}
use Rattle.resh_feed.specs.Feeds.{items_of, whats}
use Rattle.resh_feed.specs.Items.{Document, has_final, up_to_final}
use Rattle.resh_model.specs.Orders.{Fate}
use Rattle.resh_oplog.specs.Logs.{is_for}
use Rattle.resh_oplog.specs.declared.entry.Entry.{Entry}
use Rattle.resh_oplog.specs.declared.entry.What.{What}
use Rattle.resh_oplog.specs.declared.entry.What.TheVariants.{Insert}
use Rattle.resh_progress.specs.Kinds.{ToBlock, ToDonate, ToInstall}
use Rattle.resh_progress.specs.Tellings.{has}
use Rattle.resh_setup.specs.declared.setup.Setup.{Setup}
use Rattle.resh_shard.specs.Shards.{Shard, wrote}
use Rattle.resh_shard.specs.declared.act.Which.TheVariants.{Old}
use Rattle.resh_shard.specs.declared.act.Write.{Write}
use Rattle.resh_stamp.specs.declared.stamp.Stamp.{Stamp}
use Rattle.resh_story.specs.Laws.{entries_to}
use Rattle.resh_story.specs.Stories.{HasStory, clones_of, entries_for}
use Rattle.resh_story.specs.Writing.{IsWriteAt, MayWrite}
use Rattle.resh_story.proofs.Feeding.{feeds_grow, keeps_finals}
use Rattle.resh_story.proofs.Keeping.{keeps_naming, keeps_story}
use Rattle.resh_story.proofs.Logging.{keeps_log}
use Rattle.resh_story.proofs.Writes.{same_floor}
use Rattle.resh_versions.specs.Standing.{standing}
use Rattle.resh_invariant.specs.Courses.{Course, IsStage, which_by}
use Rattle.resh_invariant.specs.Donors.{IsDonorKept}
use Rattle.resh_invariant.specs.Items.{AreItemsOf, HasItems, IsItemOf}
use Rattle.resh_invariant.specs.Sources.{feed_by, source_by}
use Rattle.resh_invariant.proofs.Going.{GoesOrEnds, goes_or_ends}
use Rattle.resh_invariant.proofs.Ones.{never}
use Rattle.resh_write_rows.specs.Owned.{AreOwn}
use Rattle.resh_write_rows.proofs.Fed.{AreDocuments, fed, fed_documents, filter_all, final_all}
use Rattle.resh_write_rows.proofs.Sealing.{has_more, nothing_more}
use Rattle.resh_write_rows.proofs.Serving.{late_prepared, still_free, unblocked, undonated}
use Rattle.resh_write_rows.proofs.Storing.{wrote_items}
use Rattle.resh_write_rows.proofs.Telling.{told_now, written_cell}

within : (a b : ℕ) → nat_le a b ≡ true → a ≤ b
within a b e = search (arith, rules)

is_within : (a b : ℕ) → a ≤ b → nat_le a b ≡ true
is_within a b le = search (arith, rules)

-- the documents that a shard tells of a time, as far as its versions tell them, else those that were told before
abbrev pub told_after : Shard → ℕ → (ℕ → List Document) → ℕ → List Document
told_after shard time before r = cond (nat_le shard.versions.floor time) (clones_of shard time r) (before r)

module _ (setup : Setup) (s : ℕ) (course : Course) (mark : Bool) (time : ℕ) (clones : ℕ → List Document) (clock : ℕ) (cell : ShardCell)
    (kept : IsDonorKept setup s course mark time clones clock cell) (stamp : Stamp) (lt : clock < stamp.time)
    (part : ℕ) (w : Write) (acts : IsWriteAt cell.shard w) where
  abbrev after : Shard
  after = wrote stamp part w cell.shard

  abbrev told : ℕ → List Document
  told = told_after after course.fetch_time clones

  abbrev told_feed : ℕ → List What
  told_feed r = feed_by (source_by course.fetch_time (written_cell stamp part w cell) (told r) r)

  way : GoesOrEnds cell.donor
  way = goes_or_ends course.phase course.decision mark cell.donor kept.donor

  as_low : after.versions.floor ≡ cell.shard.versions.floor
  as_low = same_floor cell.shard.versions stamp.time w

  -- a donor that was told the fetch time is past it
  pub is_later : has cell.donor.told ToDonate ≡ true → course.fetch_time < stamp.time
  is_later on = let past = kept.past on in omega (arith, past, lt)

  blocked_later : has cell.donor.told ToBlock ≡ true → course.fetch_time < stamp.time
  blocked_later on = by (has cell.donor.told ToDonate) refl
    where
      by : (t : Bool) → has cell.donor.told ToDonate ≡ t → course.fetch_time < stamp.time
      by true e = is_later e
      by false e = never (sym on ∙ undonated cell.donor way e)

  -- one that wasn't told it logged no final entry
  pub unsealed : has cell.donor.told ToDonate ≡ false → has_final cell.shard.log.entries ≡ false
  unsealed off = kept.unsealed (undonated cell.donor way off)

  pub told_alike : course.fetch_time < stamp.time → (r : ℕ) → r < length setup.shards → told r ≡ clones r
  told_alike early r r_in = by (nat_le after.versions.floor course.fetch_time) refl
    where
      by : (t : Bool) → nat_le after.versions.floor course.fetch_time ≡ t → cond t (clones_of after course.fetch_time r) (clones r) ≡ clones r
      by true e =
          feeds_grow.clones stamp part w cell.shard course.fetch_time r kept.story.dated.filed acts early
          ∙ sym (kept.cloned (subst (λ n. n ≤ course.fetch_time) as_low (within after.versions.floor course.fetch_time e)) r r_in)
      by false e = refl

  -- behind a final entry it tells nothing more
  sealed_now : has cell.donor.told ToBlock ≡ true → (r : ℕ) → r < length setup.shards → has_final (entries_for after course.fetch_time r) ≡ true
  sealed_now on r r_in =
      ap has_final (feeds_grow.logged stamp part w cell.shard course.fetch_time r (blocked_later on))
      ∙ has_more (entries_for cell.shard course.fetch_time r) (entries_to r stamp part w cell.shard) (kept.sealed on r r_in)

  same_entries : has cell.donor.told ToBlock ≡ true → (r : ℕ) → r < length setup.shards
      → up_to_final (entries_for after course.fetch_time r) ≡ up_to_final (entries_for cell.shard course.fetch_time r)
  same_entries on r r_in =
      told_now stamp part w cell course.fetch_time r (blocked_later on)
      ∙ ap (λ t. up_to_final (entries_for cell.shard course.fetch_time r) ++ cond t [] (entries_to r stamp part w cell.shard)) (kept.sealed on r r_in)
      ∙ nothing_more (up_to_final (entries_for cell.shard course.fetch_time r))

  fed_before : has cell.donor.told ToBlock ≡ true → (r : ℕ) → r < length setup.shards → AreItemsOf setup.old_map s (told_feed r)
  fed_before on r r_in =
      subst (λ ds. AreItemsOf setup.old_map s (whats (items_of ds (up_to_final (entries_for after course.fetch_time r))))) (sym (told_alike (blocked_later on) r r_in))
      (subst (λ es. AreItemsOf setup.old_map s (whats (items_of (clones r) es))) (sym (same_entries on r r_in)) (kept.items r r_in))

  module _ (own : cell.shard.which ≡ Old → AreOwn setup.old_map s w) where
    -- as long as the new map isn't in force, what it has, logs and tells are items of its own
    items_now : has cell.donor.told ToInstall ≡ false → HasItems setup.old_map s after.versions after.log.entries
    items_now off = wrote_items setup.old_map s stamp part w cell.shard kept.story.dated.filed acts (own (kept.serves.which ∙ ap which_by off)) (kept.stored off)

    told_items : has cell.donor.told ToInstall ≡ false → (r : ℕ) → r < length setup.shards → AreDocuments setup.old_map s (told r)
    told_items off r r_in = by (nat_le after.versions.floor course.fetch_time)
      where
        by : (t : Bool) → AreDocuments setup.old_map s (cond t (clones_of after course.fetch_time r) (clones r))
        by true = filter_all (λ d. IsItemOf setup.old_map s (Insert d)) (λ d. owner_of after.new_map d == r) (standing after.versions course.fetch_time)
            ((items_now off).documents course.fetch_time)
        by false = fed_documents setup.old_map s (clones r) (up_to_final (entries_for cell.shard course.fetch_time r)) (kept.items r r_in)

    fed_now : has cell.donor.told ToInstall ≡ false → (r : ℕ) → r < length setup.shards → AreItemsOf setup.old_map s (told_feed r)
    fed_now off r r_in =
        fed setup.old_map s (told r) (up_to_final (entries_for after course.fetch_time r)) (told_items off r r_in)
        (final_all (λ (e : Entry). IsItemOf setup.old_map s e.what) (entries_for after course.fetch_time r)
        (filter_all (λ (e : Entry). IsItemOf setup.old_map s e.what) (λ (e : Entry). nat_lt course.fetch_time e.stamp.time && is_for r e.to) after.log.entries (items_now off).entries))

    fed_either : (r : ℕ) → r < length setup.shards → AreItemsOf setup.old_map s (told_feed r)
    fed_either r r_in = by (has cell.donor.told ToInstall) (has cell.donor.told ToBlock) refl refl
      where
        by : (a b : Bool) → has cell.donor.told ToInstall ≡ a → has cell.donor.told ToBlock ≡ b → AreItemsOf setup.old_map s (told_feed r)
        by false b e k = fed_now e r r_in
        by true true e k = fed_before k r r_in
        by true false e k = never (sym e ∙ unblocked cell.donor way k)

    module _ (fate : Fate) (stage : IsStage course.phase course.decision fate) (few : part ≤ 1) (free : cell.shard.blocked ≡ false)
        (later : ℕ) (le : time ≤ later) (then : ℕ) (set : then ≡ stamp.time) (node : stamp.node < 2 ^ 32) where
      may : MayWrite stamp cell.shard after
      may = inr (part, w, few, acts, refl)

      -- where it wasn't told to block its writes it logs no final entry
      still_unsealed : has cell.donor.told ToBlock ≡ false → has_final after.log.entries ≡ false
      still_unsealed off = keeps_finals.writes stamp cell.shard after (kept.unsealed off) may

      pub donor_writes : IsDonorKept setup s course mark later told then (written_cell stamp part w cell)
      donor_writes = record {
        of = record { number = kept.of.number; old_map = kept.of.old_map; new_map = kept.of.new_map; limit = kept.of.limit };
        donor = kept.donor;
        serves = record { names = kept.serves.names; blocked = kept.serves.blocked; which = kept.serves.which };
        story = subst (λ t. HasStory t after) (sym set) (keeps_story.writes clock stamp cell.shard after kept.story lt may);
        log = keeps_log.writes clock stamp cell.shard after kept.log kept.story lt node may;
        stored = λ off. items_now off;
        prepared = λ on.
            let was = kept.prepared on in
            let since = was.1 in
            (was.0, omega (arith, since, le), keeps_naming.writes was.0 stamp cell.shard after was.2 (kept.serves.names ∙ on) may);
        named = λ none late. keeps_naming.writes course.fetch_time stamp cell.shard after (kept.named none late)
            (kept.serves.names ∙ late_prepared course.phase course.decision fate mark cell.donor stage kept.donor none late) may;
        past = λ on. let early = is_later on in omega (arith, early, set);
        floor = λ going. subst (λ n. n ≤ course.fetch_time) (sym as_low) (kept.floor going);
        cloned = λ low r r_in. ap (λ t. cond t (clones_of after course.fetch_time r) (clones r)) (is_within after.versions.floor course.fetch_time low);
        unsealed = λ off. still_unsealed off;
        whole = λ going r. keeps_finals.whole after course.fetch_time r (still_unsealed (still_free cell.donor way going (sym kept.serves.blocked ∙ free)));
        sealed = λ on r r_in. sealed_now on r r_in;
        items = λ r r_in. fed_either r r_in;
      }
