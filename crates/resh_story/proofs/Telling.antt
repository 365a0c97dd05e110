-- What is told from a time after which there is nothing, and from one at which the same stood.
use Rattle.std.proofs.Common.{◌≡◌, ◌≤◌, ℕ, List, ◌++◌, None, sym, ap, ◌∙◌, arith}
use Rattle.std.proofs.lemmas.List.{map-append}
use Rattle.resh_value.specs.declared.value.Value.{Value}
use Rattle.resh_oplog.specs.declared.entry.Entry.{Entry}
use Rattle.resh_feed.specs.Effects.{effects_on}
use Rattle.resh_feed.proofs.Fitting.{effects_append}
use Rattle.resh_versions.specs.Standing.{IsFiled, at, chain_of}
use Rattle.resh_versions.specs.declared.version.Version.{Version}
use Rattle.resh_versions.proofs.WriteLaws.{reads_now}
use Rattle.resh_shard.specs.Laws.{comes}
use Rattle.resh_shard.specs.Shards.{Shard}
use Rattle.resh_story.specs.Stories.{HasStory, IsDated, clones_of, entries_for, held_for, told_from}
use Rattle.resh_story.proofs.Entries.{all_weaker, by_later, none_later}
use Rattle.resh_story.proofs.Slots.{clone_leaves, inserts, is_to, items_leave, said}

-- seen from a time on after which there is nothing
module _ (clock : ℕ) (shard : Shard) (dated : IsDated clock shard) (t : ℕ) (le : clock ≤ t) (r : ℕ) (q : Value) where
  pub seen_late : effects_on q (told_from shard t r) None ≡ held_for shard r q
  seen_late =
      items_leave q (clones_of shard t r) (entries_for shard t r) None
      ∙ ap (λ l. effects_on q (said l) (effects_on q (inserts (clones_of shard t r)) None)) (none_later t r shard.log.entries (by_later clock t shard.log.entries le dated.logged))
      ∙ clone_leaves shard.versions dated.filed t q shard.new_map r
      ∙ ap (comes (is_to r) shard.new_map) (reads_now shard.versions t q
      (all_weaker (λ (x : Version). x.time ≤ clock) (λ (x : Version). x.time ≤ t) (λ x h. omega (arith, h, le)) (chain_of shard.versions q) (dated.up_to q)))

-- seen from a time at which the same stood, with more entries behind
module _ (one other : Shard) (filed : IsFiled one.versions.chains) (filed_too : IsFiled other.versions.chains) (t r : ℕ) (q : Value)
    (same_map : other.new_map ≡ one.new_map) (same : at other.versions t q ≡ at one.versions t q) (more : List Entry)
    (grown : entries_for other t r ≡ entries_for one t r ++ more) where
  pub seen_grown : effects_on q (told_from other t r) None ≡ effects_on q (said more) (effects_on q (told_from one t r) None)
  seen_grown =
      let clones : effects_on q (inserts (clones_of other t r)) None ≡ effects_on q (inserts (clones_of one t r)) None =
      clone_leaves other.versions filed_too t q other.new_map r ∙ (λ i. comes (is_to r) (same_map i) (same i))
      ∙ sym (clone_leaves one.versions filed t q one.new_map r) in
      items_leave q (clones_of other t r) (entries_for other t r) None
      ∙ (λ i. effects_on q (said (grown i)) (clones i))
      ∙ ap (λ l. effects_on q l (effects_on q (inserts (clones_of one t r)) None)) (map-append (λ (e : Entry). e.what) (entries_for one t r) more)
      ∙ effects_append q (said (entries_for one t r)) (said more) (effects_on q (inserts (clones_of one t r)) None)
      ∙ ap (effects_on q (said more)) (sym (items_leave q (clones_of one t r) (entries_for one t r) None))

-- what is dated up to the first time that can be read has its story
pub dated_alone : (clock : ℕ) (shard : Shard) → IsDated clock shard → clock ≤ shard.versions.floor → HasStory clock shard
dated_alone clock shard dated le = record {
  dated = dated;
  story = λ t floor named r q. seen_late clock shard dated t (omega (arith, le, floor)) r q;
}
