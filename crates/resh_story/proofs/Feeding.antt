-- What a write and blocking leave of a shard's feeds, and what a whole feed tells.
use Rattle.std.proofs.Common.{◌≡◌, ◌≤◌, ◌<◌, ◌⊎◌, inl, inr, ⊎_elim, ◌||◌, ℕ, Bool, true, false, cond, nat_lt, List, [], ◌∷◌, ◌++◌, filter, None, refl, sym, ap, subst, ◌∙◌}
use Rattle.std.proofs.lemmas.Bool.{cases_lt}
use Rattle.std.proofs.lemmas.List.{append-nil, append_assoc, map-append}
use Rattle.resh_stamp.specs.declared.stamp.Stamp.{Stamp}
use Rattle.resh_oplog.specs.Logs.{is_for}
use Rattle.resh_oplog.specs.declared.entry.Entry.{Entry}
use Rattle.resh_feed.specs.Effects.{effects_on}
use Rattle.resh_feed.specs.Feeds.{items_of, whats}
use Rattle.resh_feed.specs.Items.{has_final, is_final, up_to_final}
use Rattle.resh_versions.specs.Standing.{IsFiled}
use Rattle.resh_versions.proofs.KeptLists.{keeps_lists}
use Rattle.resh_shard.specs.Shards.{Shard, blocked_at, final_entry, wrote}
use Rattle.resh_shard.specs.Writes.{contents, entries_of}
use Rattle.resh_shard.specs.declared.act.Write.{Write}
use Rattle.resh_shard.proofs.Effects.{written_filed}
use Rattle.resh_shard.proofs.Logged.{entries_have_contents}
use Rattle.resh_cloner.specs.Cloning.{comes_to}
use Rattle.resh_cloner.proofs.Cloned.{stays_cloned}
use Rattle.resh_story.specs.Laws.{FeedsEnd, FeedsGrow, FeedsTell, KeepsFinals, entries_to, final_to}
use Rattle.resh_story.specs.Stories.{IsWholeFeed, clones_of, entries_for, feed_from}
use Rattle.resh_story.specs.Writing.{IsWriteAt, MayWrite}
use Rattle.resh_story.proofs.Entries.{AreBy, NoFinal, all_both, all_of_it, below, by_later, final_for, finals, finals_by, has_none, later_more, later_none, no_final, none_later, of_later, past_final, some_none, writes_none}
use Rattle.resh_story.proofs.Slots.{inserts, items_say, said}
use Rattle.resh_story.proofs.Writes.{id_in, unseen_before, write_of, write_stands}

-- what stands and what is later once a write was made
module _ (stamp : Stamp) (part : ℕ) (w : Write) (shard : Shard) (time r : ℕ) (lt : time < stamp.time) where
  same_clones : IsFiled shard.versions.chains → IsWriteAt shard w → clones_of (wrote stamp part w shard) time r ≡ clones_of shard time r
  same_clones filed is =
      ap (filter (comes_to shard.new_map r))
      (keeps_lists.alike (wrote stamp part w shard).versions shard.versions time None
      (written_filed shard.new_map (id_in w) shard.versions stamp.time filed w (write_of shard w is) (write_stands shard w is)) filed
      (λ q. unseen_before shard.versions stamp.time w time q lt))

  abbrev more : List Entry
  more = entries_of shard.names shard.log.donor stamp part (contents shard.new_map w)

  more_entries : entries_for (wrote stamp part w shard) time r ≡ entries_for shard time r ++ entries_to r stamp part w shard
  more_entries =
      later_more time r shard.log.entries more
      ∙ ap (λ l. entries_for shard time r ++ l) (of_later shard.log.donor stamp shard.names time r lt part (contents shard.new_map w))

-- the feed, where entries come behind those that have no final one
module _ (one other : Shard) (time r : ℕ) (same : clones_of other time r ≡ clones_of one time r) (more : List Entry)
    (grown : entries_for other time r ≡ entries_for one time r ++ more) (open_log : NoFinal one.log.entries) (ends : up_to_final more ≡ more) where
  pub fed_more : feed_from other time r ≡ feed_from one time r ++ said more
  fed_more =
      let none : NoFinal (entries_for one time r) = later_none time r one.log.entries open_log in
      let all : up_to_final (entries_for one time r) ≡ entries_for one time r = all_of_it (entries_for one time r) none in
      let cut : up_to_final (entries_for other time r) ≡ entries_for one time r ++ more =
      ap up_to_final grown ∙ past_final (entries_for one time r) more none ∙ ap (λ l. entries_for one time r ++ l) ends in
      (λ i. whats (items_of (same i) (cut i)))
      ∙ items_say (clones_of one time r) (entries_for one time r ++ more)
      ∙ ap (λ l. inserts (clones_of one time r) ++ l) (map-append (λ (e : Entry). e.what) (entries_for one time r) more)
      ∙ sym (append_assoc (inserts (clones_of one time r)) (said (entries_for one time r)) (said more))
      ∙ ap (λ l. l ++ said more) (sym (items_say (clones_of one time r) (entries_for one time r)))
      ∙ ap (λ l. whats (items_of (clones_of one time r) l) ++ said more) (sym all)

pub feeds_grow : FeedsGrow
feeds_grow = record {
  clones = λ stamp part w shard time r filed is lt. same_clones stamp part w shard time r lt filed is;
  logged = λ stamp part w shard time r lt. more_entries stamp part w shard time r lt;
  fed = λ stamp part w shard time r filed is lt names none.
      fed_more shard (wrote stamp part w shard) time r (same_clones stamp part w shard time r lt filed is) (entries_to r stamp part w shard)
      (more_entries stamp part w shard time r lt) (no_final shard.log.entries none)
      (all_of_it (entries_to r stamp part w shard) (some_none (λ (e : Entry). is_for r e.to) (more stamp part w shard time r lt) (writes_none shard.log.donor stamp shard.new_map w shard.names part)))
      ∙ ap (λ b. feed_from shard time r ++ said (filter (λ (e : Entry). is_for r e.to) (entries_of b shard.log.donor stamp part (contents shard.new_map w)))) names
      ∙ ap (λ l. feed_from shard time r ++ l) (entries_have_contents.destined shard.log.donor stamp part r (contents shard.new_map w));
}

-- blocking
module _ (stamp : Stamp) (shard : Shard) (time r : ℕ) where
  abbrev last : List Entry
  last = finals shard.log.donor stamp 0 shard.new_map.shards

  ends_logged : time < stamp.time → entries_for (blocked_at stamp shard) time r ≡ entries_for shard time r ++ final_to r stamp shard
  ends_logged lt =
      later_more time r shard.log.entries last
      ∙ ap (λ l. entries_for shard time r ++ l) (final_for shard.log.donor stamp time r lt shard.new_map.shards)

  single : up_to_final (final_to r stamp shard) ≡ final_to r stamp shard
  single = by (nat_lt r shard.new_map.shards)
    where
      by : (b : Bool) → up_to_final (cond b (final_entry shard.log.donor stamp r ∷ []) []) ≡ cond b (final_entry shard.log.donor stamp r ∷ []) []
      by true = refl
      by false = refl

  ends_fed : time < stamp.time → has_final shard.log.entries ≡ false → feed_from (blocked_at stamp shard) time r ≡ feed_from shard time r ++ said (final_to r stamp shard)
  ends_fed lt none =
      fed_more shard (blocked_at stamp shard) time r refl (final_to r stamp shard) (ends_logged lt) (no_final shard.log.entries none) single

  -- the feed is whole at the end
  ends_whole : has_final shard.log.entries ≡ false → IsWholeFeed (blocked_at stamp shard) time r
  ends_whole none =
      let open_log : NoFinal (entries_for shard time r) = later_none time r shard.log.entries (no_final shard.log.entries none) in
      ⊎_elim
      (λ (lt : time < stamp.time). ap up_to_final (ends_logged lt) ∙ past_final (entries_for shard time r) (final_to r stamp shard) open_log
      ∙ ap (λ l. entries_for shard time r ++ l) single ∙ sym (ends_logged lt))
      (λ (le : stamp.time ≤ time).
      let same : entries_for (blocked_at stamp shard) time r ≡ entries_for shard time r =
      later_more time r shard.log.entries last
      ∙ ap (λ l. entries_for shard time r ++ l) (none_later time r last (by_stamp le))
      ∙ append-nil (entries_for shard time r) in
      ap up_to_final same ∙ all_of_it (entries_for shard time r) open_log ∙ sym same)
      (cases_lt time stamp.time)
    where
      by_stamp : stamp.time ≤ time → AreBy time last
      by_stamp le = by_later stamp.time time last le (finals_by shard.log.donor stamp 0 shard.new_map.shards)

  seals : time < stamp.time → r < shard.new_map.shards → has_final (entries_for (blocked_at stamp shard) time r) ≡ true
  seals lt within =
      ap has_final (ends_logged lt) ∙ ap (λ b. has_final (entries_for shard time r ++ cond b (final_entry shard.log.donor stamp r ∷ []) [])) (below r shard.new_map.shards within)
      ∙ last_one (entries_for shard time r)
    where
      last_one : (es : List Entry) → has_final (es ++ final_entry shard.log.donor stamp r ∷ []) ≡ true
      last_one [] = refl
      last_one (e ∷ es) = ap (λ b. is_final e.what || b) (last_one es) ∙ or_true (is_final e.what)
        where
          or_true : (b : Bool) → (b || true) ≡ true
          or_true true = refl
          or_true false = refl

pub feeds_end : FeedsEnd
feeds_end = record {
  pruned = λ floor time r shard filed le. stays_cloned.pruning shard.versions shard.new_map time r None floor filed le;
  logged = λ stamp shard time r lt. ends_logged stamp shard time r lt;
  fed = λ stamp shard time r lt none. ends_fed stamp shard time r lt none;
}

writes_no_final : (stamp : Stamp) (one other : Shard) → has_final one.log.entries ≡ false → MayWrite stamp one other → has_final other.log.entries ≡ false
writes_no_final stamp one other none (inl same) = subst (λ (s : Shard). has_final s.log.entries ≡ false) (sym same) none
writes_no_final stamp one other none (inr (part, w, few, is, same)) =
    subst (λ (s : Shard). has_final s.log.entries ≡ false) (sym same)
    (has_none (one.log.entries ++ entries_of one.names one.log.donor stamp part (contents one.new_map w))
    (all_both (λ (e : Entry). is_final e.what ≡ false) one.log.entries (entries_of one.names one.log.donor stamp part (contents one.new_map w))
    (no_final one.log.entries none) (writes_none one.log.donor stamp one.new_map w one.names part)))

pub keeps_finals : KeepsFinals
keeps_finals = record {
  writes = writes_no_final;
  whole = λ shard time r none. all_of_it (entries_for shard time r) (later_none time r shard.log.entries (no_final shard.log.entries none));
  blocks = λ stamp shard time r none. ends_whole stamp shard time r none;
  seals = λ stamp shard time r lt within. seals stamp shard time r lt within;
}

pub feeds_tell : FeedsTell
feeds_tell clock time r shard id has floor named whole =
    ap (λ l. effects_on id (whats (items_of (clones_of shard time r) l)) None) whole ∙ has.story time floor named r id
