-- One write keeps a shard's story, whether its entries name recipients or not.
use Rattle.std.proofs.Common.{◌≡◌, ◌≢◌, ◌≤◌, ◌<◌, ◌⊎◌, inl, inr, ⊎_elim, ℕ, max, Bool, true, false, cond, nat_lt, List, [], ◌∷◌, ◌++◌, filter, Option, Some, None, is_some, ◌&&◌, refl, sym, ap, subst, ◌∙◌, arith}
use Rattle.std.proofs.lemmas.Bool.{cases_lt}
use Rattle.std.proofs.lemmas.List.{append-nil}
use Rattle.std.specs.List.{AllByRecursion, fold}
use Rattle.resh_value.specs.Lookup.{id_of}
use Rattle.resh_value.specs.declared.value.Value.{Value}
use Rattle.resh_stamp.specs.declared.stamp.Stamp.{Stamp}
use Rattle.resh_oplog.specs.Logs.{is_for, later_entries}
use Rattle.resh_oplog.specs.declared.entry.Entry.{Entry}
use Rattle.resh_oplog.specs.declared.entry.What.{What}
use Rattle.resh_oplog.specs.declared.entry.What.TheVariants.{Insert, Update, Delete, Final}
use Rattle.resh_feed.specs.Effects.{effects_on, turn}
use Rattle.resh_feed.specs.Items.{is_final}
use Rattle.resh_versions.specs.Chains.{Document, IsStored, version}
use Rattle.resh_versions.specs.Standing.{IsFiled, chain_of, now}
use Rattle.resh_versions.specs.declared.version.Version.{Version}
use Rattle.resh_versions.proofs.Pruning.{prunes_unseen}
use Rattle.resh_versions.proofs.Storing.{stores_last}
use Rattle.resh_versions.proofs.WriteLaws.{adds_version, keeps_filed, starts_empty}
use Rattle.resh_shard.specs.Laws.{comes, whats_for}
use Rattle.resh_shard.specs.Shards.{Shard, blocked_at, installed, opened, pruned_to, with_loaded, wrote}
use Rattle.resh_shard.specs.Writes.{contents, entries_of}
use Rattle.resh_shard.specs.declared.act.Write.{Write}
use Rattle.resh_shard.proofs.Effects.{same_or, written_filed, written_here, written_there, wrote_elsewhere, wrote_here}
use Rattle.resh_shard.proofs.Logged.{entries_have_contents}
use Rattle.resh_story.specs.Laws.{KeepsNaming, KeepsStory, OpensStory}
use Rattle.resh_story.specs.Stories.{HasStory, IsDated, IsNamedAfter, entries_for, held_for, told_from}
use Rattle.resh_story.specs.Writing.{IsWriteAt, MayWrite}
use Rattle.resh_story.proofs.Entries.{AreBy, all_back, all_both, all_final, all_front, all_named, all_weaker, are_by, below, by_later, finals, finals_by, finals_named, is_below, later_more, of_later, unnamed_never}
use Rattle.resh_story.proofs.Slots.{is_to, said}
use Rattle.resh_story.proofs.Telling.{dated_alone, seen_grown, seen_late}
use Rattle.resh_story.proofs.Writes.{id_in, same_floor, unseen_before, write_of, write_stands, write_was, written_up_to}

-- one write
module _ (clock : ℕ) (stamp : Stamp) (shard : Shard) (has : HasStory clock shard) (lt : clock < stamp.time) (part : ℕ) (w : Write) (is : IsWriteAt shard w) where
  abbrev next : Shard
  next = wrote stamp part w shard

  abbrev more : List Entry
  more = entries_of shard.names shard.log.donor stamp part (contents shard.new_map w)

  next_filed : IsFiled next.versions.chains
  next_filed = written_filed shard.new_map (id_in w) shard.versions stamp.time has.dated.filed w (write_of shard w is) (write_stands shard w is)

  next_dated : IsDated stamp.time next
  next_dated = record {
    filed = next_filed;
    up_to = written_up_to shard.versions stamp.time clock has.dated.up_to (omega (arith, lt)) w;
    floor = let same = same_floor shard.versions stamp.time w in let was = has.dated.floor in omega (arith, same, was, lt);
    logged = all_both (λ (e : Entry). e.stamp.time ≤ stamp.time) shard.log.entries more
        (by_later clock stamp.time shard.log.entries (omega (arith, lt)) has.dated.logged)
        (are_by shard.log.donor stamp shard.names part (contents shard.new_map w));
  }

  -- what is logged of it has its effect
  module _ (r : ℕ) (q : Value) where
    logs_it : effects_on q (whats_for (is_to r) (contents shard.new_map w)) (held_for shard r q) ≡ held_for next r q
    logs_it = ⊎_elim
        (λ (same : q ≡ id_in w). subst (λ k. effects_on k (whats_for (is_to r) (contents shard.new_map w)) (held_for shard r k) ≡ held_for next r k) (sym same)
        (ap (λ o. effects_on (id_in w) (whats_for (is_to r) (contents shard.new_map w)) (comes (is_to r) shard.new_map o)) (write_was shard w is)
        ∙ wrote_here shard.new_map (is_to r) (id_in w) w (write_of shard w is)
        ∙ ap (comes (is_to r) shard.new_map) (sym (written_here shard.new_map (id_in w) shard.versions stamp.time w (write_of shard w is)))))
        (λ (ne : q ≢ id_in w). wrote_elsewhere shard.new_map (is_to r) (id_in w) q ne w (write_of shard w is) (held_for shard r q)
        ∙ ap (comes (is_to r) shard.new_map) (sym (written_there shard.new_map (id_in w) shard.versions stamp.time w (write_of shard w is) q ne)))
        (same_or q (id_in w))

    -- seen from a time before it
    module _ (t : ℕ) (earlier : t < stamp.time) (floor : next.versions.floor ≤ t) (named : IsNamedAfter t (shard.log.entries ++ more)) where
      names : shard.names ≡ true
      names = by shard.names refl
        where
          by : (b : Bool) → shard.names ≡ b → shard.names ≡ true
          by true e = e
          by false e = absurd (unnamed_never shard.log.donor stamp shard.new_map w t part earlier
              (subst (λ b. IsNamedAfter t (entries_of b shard.log.donor stamp part (contents shard.new_map w))) e
              (all_back (λ (e : Entry). nat_lt t e.stamp.time ≡ true → is_some e.to ≡ true) shard.log.entries more named)))

      says : said (later_entries t r more) ≡ whats_for (is_to r) (contents shard.new_map w)
      says =
          ap said (of_later shard.log.donor stamp shard.names t r earlier part (contents shard.new_map w))
          ∙ ap (λ b. said (filter (λ (e : Entry). is_for r e.to) (entries_of b shard.log.donor stamp part (contents shard.new_map w)))) names
          ∙ entries_have_contents.destined shard.log.donor stamp part r (contents shard.new_map w)

      seen_before : effects_on q (told_from next t r) None ≡ held_for next r q
      seen_before =
          seen_grown shard next has.dated.filed next_filed t r q refl (unseen_before shard.versions stamp.time w t q earlier) (later_entries t r more) (later_more t r shard.log.entries more)
          ∙ ap (effects_on q (said (later_entries t r more))) (has.story t (let same = same_floor shard.versions stamp.time w in omega (arith, same, floor))
          (all_front (λ (e : Entry). nat_lt t e.stamp.time ≡ true → is_some e.to ≡ true) shard.log.entries more named) r q)
          ∙ ap (λ l. effects_on q l (held_for shard r q)) says
          ∙ logs_it

  pub write_keeps : HasStory stamp.time next
  write_keeps = record {
    dated = next_dated;
    story = λ t floor named r q. ⊎_elim
        (λ (earlier : t < stamp.time). seen_before r q t earlier floor named)
        (λ (late : stamp.time ≤ t). seen_late stamp.time next next_dated t late r q)
        (cases_lt t stamp.time);
  }

-- a later clock
pub waits : (clock time : ℕ) (shard : Shard) → HasStory clock shard → clock ≤ time → HasStory time shard
waits clock time shard has le = record {
  dated = record {
    filed = has.dated.filed;
    up_to = λ q. all_weaker (λ (x : Version). x.time ≤ clock) (λ (x : Version). x.time ≤ time) (λ x h. omega (arith, h, le)) (chain_of shard.versions q) (has.dated.up_to q);
    floor = let was = has.dated.floor in omega (arith, was, le);
    logged = by_later clock time shard.log.entries le has.dated.logged;
  };
  story = has.story;
}

pub writes : (clock : ℕ) (stamp : Stamp) (one other : Shard) → HasStory clock one → clock < stamp.time → MayWrite stamp one other → HasStory stamp.time other
writes clock stamp one other has lt (inl same) = subst (HasStory stamp.time) (sym same) (waits clock stamp.time one has (omega (arith, lt)))
writes clock stamp one other has lt (inr (part, w, few, is, same)) = subst (HasStory stamp.time) (sym same) (write_keeps clock stamp one has lt part w is)

-- readings from an earlier time on are given up
pub prunes : (clock time : ℕ) (shard : Shard) → HasStory clock shard → time ≤ clock → HasStory clock (pruned_to time shard)
prunes clock time shard has le = record {
  dated = record {
    filed = pruned_filed;
    up_to = prunes_unseen.up_to shard.versions time clock has.dated.up_to;
    floor = most shard.versions.floor time clock has.dated.floor le;
    logged = has.dated.logged;
  };
  story = λ t floor named r q.
      seen_grown shard (pruned_to time shard) has.dated.filed pruned_filed t r q refl (prunes_unseen.readings shard.versions time t q floor) [] (sym (append-nil (entries_for shard t r)))
      ∙ has.story t (first_of shard.versions.floor time t floor) named r q
      ∙ ap (comes (is_to r) shard.new_map) (sym (prunes_unseen.now shard.versions time q));
}
  where
    pruned_filed : IsFiled (pruned_to time shard).versions.chains
    pruned_filed = keeps_filed.pruned shard.versions time has.dated.filed

    most : (a b c : ℕ) → a ≤ c → b ≤ c → max a b ≤ c
    most a b c h k = omega (arith, h, k)

    first_of : (a b c : ℕ) → max a b ≤ c → a ≤ c
    first_of a b c h = omega (arith, h)

-- final entries change no slot
finals_leave : (q : Value) (es : List Entry) → AllByRecursion (λ entry. is_final entry.what ≡ true) es → (s : Option Document) → effects_on q (said es) s ≡ s
finals_leave q [] all s = refl
finals_leave q (e ∷ es) all s = ap (effects_on q (said es)) (one e.what all.0) ∙ finals_leave q es all.1 s
  where
    one : (what : What) → is_final what ≡ true → turn q what s ≡ s
    one (Insert d) h = cc
    one (Update id change) h = cc
    one (Delete id) h = cc
    one Final h = refl

some_final : (p : Entry → Bool) (es : List Entry) → AllByRecursion (λ entry. is_final entry.what ≡ true) es → AllByRecursion (λ entry. is_final entry.what ≡ true) (filter p es)
some_final p [] h = tt
some_final p (e ∷ es) h = by (p e) (some_final p es h.1)
  where
    by : (b : Bool) → AllByRecursion (λ entry. is_final entry.what ≡ true) (filter p es) → AllByRecursion (λ entry. is_final entry.what ≡ true) (cond b (e ∷ filter p es) (filter p es))
    by true rest = (h.0, rest)
    by false rest = rest

module _ (clock : ℕ) (stamp : Stamp) (shard : Shard) (has : HasStory clock shard) (le : clock ≤ stamp.time) where
  abbrev last : List Entry
  last = finals shard.log.donor stamp 0 shard.new_map.shards

  blocked_dated : IsDated stamp.time (blocked_at stamp shard)
  blocked_dated = record {
    filed = has.dated.filed;
    up_to = (waits clock stamp.time shard has le).dated.up_to;
    floor = (waits clock stamp.time shard has le).dated.floor;
    logged = all_both (λ (e : Entry). e.stamp.time ≤ stamp.time) shard.log.entries last (by_later clock stamp.time shard.log.entries le has.dated.logged) (finals_by shard.log.donor stamp 0 shard.new_map.shards);
  }

  pub blocks : HasStory stamp.time (blocked_at stamp shard)
  blocks = record {
    dated = blocked_dated;
    story = λ t floor named r q.
        seen_grown shard (blocked_at stamp shard) has.dated.filed has.dated.filed t r q refl refl (later_entries t r last) (later_more t r shard.log.entries last)
        ∙ ap (effects_on q (said (later_entries t r last))) (has.story t floor (all_front (λ (e : Entry). nat_lt t e.stamp.time ≡ true → is_some e.to ≡ true) shard.log.entries last named) r q)
        ∙ finals_leave q (later_entries t r last) (some_final (λ (e : Entry). nat_lt t e.stamp.time && is_for r e.to) last (all_final shard.log.donor stamp 0 shard.new_map.shards)) (held_for shard r q);
  }

-- only given documents, and no reading before
pub installs : (clock time : ℕ) (documents : List Document) (shard : Shard) → HasStory clock shard → clock ≤ time → AllByRecursion IsStored documents
    → HasStory time (installed time documents shard)
installs clock time documents shard has le whole = dated_alone time (installed time documents shard)
    (record {
      filed = stores_last.filed time documents whole;
      up_to = stores_last.up_to time documents;
      floor = omega arith;
      logged = by_later clock time shard.log.entries le has.dated.logged;
    }) (omega arith)

pub keeps_story : KeepsStory
keeps_story = record {
  writes = writes;
  prepares = λ clock shard has. record {
    dated = record { filed = has.dated.filed; up_to = has.dated.up_to; floor = has.dated.floor; logged = has.dated.logged };
    story = has.story;
  };
  prunes = prunes;
  blocks = λ clock stamp shard has le. blocks clock stamp shard has le;
  installs = installs;
  releases = λ clock shard has. record {
    dated = record { filed = has.dated.filed; up_to = has.dated.up_to; floor = has.dated.floor; logged = has.dated.logged };
    story = has.story;
  };
  waits = waits;
}

-- documents that are loaded at the first time
loaded : (documents : List Document) (shard : Shard) → AllByRecursion IsStored documents → IsDated 0 shard → IsDated 0 (fold with_loaded shard documents)
loaded [] shard whole dated = dated
loaded (d ∷ ds) shard whole dated = loaded ds (with_loaded shard d) whole.1 (record {
  filed = keeps_filed.added shard.versions (id_of d) (version 0 (Some d)) dated.filed (record { whole = whole.0; named = refl });
  up_to = adds_version.up_to shard.versions (id_of d) (version 0 (Some d)) 0 dated.up_to (omega arith);
  floor = dated.floor;
  logged = dated.logged;
})

pub opens_story : OpensStory
opens_story id old_map new_map limit documents whole = dated_alone 0 (fold with_loaded (opened id old_map new_map limit) documents)
    (loaded documents (opened id old_map new_map limit) whole (record { filed = keeps_filed.empty; up_to = starts_empty.up_to 0 0; floor = omega arith; logged = tt })) (omega arith)

-- names
named_by : (time : ℕ) (es : List Entry) → AreBy time es → IsNamedAfter time es
named_by time es = all_weaker (λ (e : Entry). e.stamp.time ≤ time) (λ (e : Entry). nat_lt time e.stamp.time ≡ true → is_some e.to ≡ true)
    (λ e le late. let lt : time < e.stamp.time = is_below time e.stamp.time late in absurd (omega (arith, le, lt))) es

named_from : (time later : ℕ) (log : List Entry) → IsNamedAfter time log → time ≤ later → IsNamedAfter later log
named_from time later log named le =
    all_weaker (λ (e : Entry). nat_lt time e.stamp.time ≡ true → is_some e.to ≡ true) (λ (e : Entry). nat_lt later e.stamp.time ≡ true → is_some e.to ≡ true)
    (λ e h late. h (below time e.stamp.time (let lt : later < e.stamp.time = is_below later e.stamp.time late in omega (arith, le, lt)))) log named

writes_name : (time : ℕ) (stamp : Stamp) (one other : Shard) → IsNamedAfter time one.log.entries → one.names ≡ true → MayWrite stamp one other → IsNamedAfter time other.log.entries
writes_name time stamp one other named on (inl same) = subst (λ (s : Shard). IsNamedAfter time s.log.entries) (sym same) named
writes_name time stamp one other named on (inr (part, w, few, is, same)) =
    subst (λ (s : Shard). IsNamedAfter time s.log.entries) (sym same)
    (all_both (λ (e : Entry). nat_lt time e.stamp.time ≡ true → is_some e.to ≡ true) one.log.entries (entries_of one.names one.log.donor stamp part (contents one.new_map w)) named
    (subst (λ b. IsNamedAfter time (entries_of b one.log.donor stamp part (contents one.new_map w))) (sym on) (all_named one.log.donor stamp time part (contents one.new_map w))))

pub keeps_naming : KeepsNaming
keeps_naming = record {
  starts = λ clock shard has. named_by clock shard.log.entries has.dated.logged;
  stays = named_from;
  writes = writes_name;
  blocks = λ time stamp shard named. all_both (λ (e : Entry). nat_lt time e.stamp.time ≡ true → is_some e.to ≡ true) shard.log.entries (finals shard.log.donor stamp 0 shard.new_map.shards)
      named (finals_named shard.log.donor stamp time 0 shard.new_map.shards);
}
