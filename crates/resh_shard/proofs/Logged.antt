-- What a log has more after a command.
use Rattle.std.proofs.Common.{◌≡◌, ◌≤◌, ◌+◌, ◌==◌, ℕ, Bool, true, false, cond, List, [], ◌∷◌, length, map, filter, refl, sym, ap, arith}
use Rattle.std.proofs.lemmas.List.{append-nil}
use Rattle.std.specs.List.{range_with_len}
use Rattle.resh_value.specs.declared.value.ShardId.{ShardId}
use Rattle.resh_stamp.specs.declared.stamp.Stamp.{Stamp}
use Rattle.resh_oplog.specs.Logs.{is_for, mark_of}
use Rattle.resh_oplog.specs.declared.entry.Entry.{Entry}
use Rattle.resh_oplog.specs.declared.entry.What.{What}
use Rattle.resh_shard.specs.Decisions.{decided, done_by}
use Rattle.resh_shard.specs.Laws.{EntriesHaveContents, LogGrows, contents_by, whats_for}
use Rattle.resh_shard.specs.Shards.{Shard}
use Rattle.resh_shard.specs.Writes.{contents, entry_of, entries_of, with_entries}
use Rattle.resh_shard.specs.declared.act.Decision.{Decision}
use Rattle.resh_shard.specs.declared.act.Decision.TheVariants.{Writes, Leaves, Says}
use Rattle.resh_shard.specs.declared.act.Write.{Write}
use Rattle.resh_shard.specs.declared.act.Write.TheVariants.{Puts, Takes, Turns, Rekeys}

module _ (shard : Shard) where
  grown : (stamp : Stamp) (x : Decision) → (done_by stamp x shard).log ≡ with_entries shard.log (entries_of shard.names shard.log.donor stamp 0 (contents_by shard x))
  grown stamp (Writes w reply) = refl
  grown stamp (Leaves to d) = ap (λ es. record shard.log { entries = es }) (sym (append-nil shard.log.entries))
  grown stamp (Says reply) = ap (λ es. record shard.log { entries = es }) (sym (append-nil shard.log.entries))

  two : (w : Write) → length (contents shard.new_map w) ≤ 2
  two (Puts d) = omega arith
  two (Takes d) = omega arith
  two (Turns d c e) = omega arith
  two (Rekeys d e) = omega arith

  few : (x : Decision) → length (contents_by shard x) ≤ 2
  few (Writes w reply) = two w
  few (Leaves to d) = omega arith
  few (Says reply) = omega arith

marks : (names : Bool) (donor : ShardId) (stamp : Stamp) (part : ℕ) (cs : List (ℕ × What))
    → map mark_of (entries_of names donor stamp part cs) ≡ map (λ part. record { stamp = stamp; part = part }) (range_with_len part (length cs))
marks names donor stamp part [] = refl
marks names donor stamp part (c ∷ cs) = ap (λ l. record { stamp = stamp; part = part } ∷ l) (marks names donor stamp (part + 1) cs)

pub log_grows : LogGrows
log_grows = record {
  log = λ shard stamp doing. grown shard stamp (decided shard doing);
  few = λ shard doing. few shard (decided shard doing);
  marks = marks;
}

module _ (donor : ShardId) (stamp : Stamp) where
  all : (names : Bool) (part : ℕ) (cs : List (ℕ × What)) → map (λ entry. entry.what) (entries_of names donor stamp part cs) ≡ whats_for (λ shard. true) cs
  all names part [] = refl
  all names part (c ∷ cs) = ap (λ l. c.1 ∷ l) (all names (part + 1) cs)

  destined : (part recipient : ℕ) (cs : List (ℕ × What)) → map (λ entry. entry.what) (filter (λ entry. is_for recipient entry.to) (entries_of true donor stamp part cs)) ≡ whats_for (λ shard. shard == recipient) cs
  destined part recipient [] = refl
  destined part recipient (c ∷ cs) = by (c.0 == recipient) (destined (part + 1) recipient cs)
    where
      by : (b : Bool) → map (λ (entry : Entry). entry.what) (filter (λ entry. is_for recipient entry.to) (entries_of true donor stamp (part + 1) cs)) ≡ whats_for (λ shard. shard == recipient) cs
          → map (λ (entry : Entry). entry.what) (cond b (entry_of true donor stamp part c ∷ filter (λ entry. is_for recipient entry.to) (entries_of true donor stamp (part + 1) cs)) (filter (λ entry. is_for recipient entry.to) (entries_of true donor stamp (part + 1) cs)))
          ≡ map (λ (w : ℕ × What). w.1) (cond b (c ∷ filter (λ w. w.0 == recipient) cs) (filter (λ w. w.0 == recipient) cs))
      by true rest = ap (λ l. c.1 ∷ l) rest
      by false rest = rest

  unnamed : (part recipient : ℕ) (cs : List (ℕ × What)) → filter (λ entry. is_for recipient entry.to) (entries_of false donor stamp part cs) ≡ []
  unnamed part recipient [] = refl
  unnamed part recipient (c ∷ cs) = unnamed (part + 1) recipient cs

pub entries_have_contents : EntriesHaveContents
entries_have_contents = record {
  all = λ names donor stamp part cs. all donor stamp names part cs;
  destined = λ donor stamp part recipient cs. destined donor stamp part recipient cs;
  unnamed = λ donor stamp part recipient cs. unnamed donor stamp part recipient cs;
}
