-- A write of a shard's own leaves items of its own.
use Rattle.std.proofs.Common.{◌≡◌, ◌≢◌, ◌≤◌, ◌<◌, ◌⊎◌, inl, inr, ⊎_elim, ℕ, Bool, true, false, cond, List, [], ◌∷◌, Option, Some, None, is_some, IfSome, refl, sym, ap, subst, ◌∙◌}
use Rattle.std.proofs.lemmas.Bool.{cases_lt}
use Rattle.std.specs.List.{AllByRecursion, Contains}
use Rattle.resh_value.specs.Lookup.{id_of}
use Rattle.resh_value.specs.declared.value.ShardId.{ShardId}
use Rattle.resh_value.specs.declared.value.Value.{Value}
use Rattle.resh_chunks.specs.Chunks.{Chunks}
use Rattle.resh_stamp.specs.declared.stamp.Stamp.{Stamp}
use Rattle.resh_oplog.specs.declared.entry.Entry.{Entry}
use Rattle.resh_oplog.specs.declared.entry.What.TheVariants.{Insert}
use Rattle.resh_place.proofs.Lists.{no_member}
use Rattle.resh_versions.specs.Chains.{Document, version}
use Rattle.resh_versions.specs.Standing.{IsFiled, VersionsOf, at, now, pushed, standing, with_removal, with_version}
use Rattle.resh_versions.specs.declared.version.Version.{Version}
use Rattle.resh_versions.proofs.Listing.{first_or_later, first_there, later_there, stands_by_reading}
use Rattle.resh_versions.proofs.WriteLaws.{adds_version}
use Rattle.resh_shard.specs.Shards.{Shard, wrote}
use Rattle.resh_shard.specs.Writes.{contents, entries_of, written}
use Rattle.resh_shard.specs.declared.act.Write.{Write}
use Rattle.resh_shard.specs.declared.act.Write.TheVariants.{Puts, Takes, Turns, Rekeys}
use Rattle.resh_shard.proofs.Effects.{after, same_or, written_filed}
use Rattle.resh_story.specs.Writing.{IsWriteAt}
use Rattle.resh_story.proofs.Entries.{all_both}
use Rattle.resh_story.proofs.Writes.{id_in, write_of, write_stands}
use Rattle.resh_invariant.specs.Items.{HasItems, IsItemOf}
use Rattle.resh_write_rows.specs.Owned.{AreOwn}
use Rattle.resh_write_rows.proofs.Fed.{AreDocuments, AreEntries}

all_there : {X : Type 0} (P : X → Type 0) (xs : List X) → ((x : X) → Contains xs x → P x) → AllByRecursion P xs
all_there P [] each = tt
all_there P (x ∷ xs) each = (each x (first_there x xs), all_there P xs (λ y there. each y (later_there x xs y there)))

one_of : {X : Type 0} (P : X → Type 0) (xs : List X) → AllByRecursion P xs → (x : X) → Contains xs x → P x
one_of P [] all x there = absurd (no_member x there)
one_of P (y ∷ ys) all x there = by (first_or_later y ys x there) (one_of P ys all.1 x)
  where
    by : (y ≡ x) ⊎ Contains ys x → (Contains ys x → P x) → P x
    by (inl same) rest = subst P same all.0
    by (inr later) rest = rest later

-- a reading once a version was added is that version, or what was read before
put_reads : (v : VersionsOf) (id : Value) (x : Version) (t : ℕ) (q : Value)
    → (at (with_version v id x) t q ≡ x.document) ⊎ (at (with_version v id x) t q ≡ at v t q)
put_reads v id x t q = ⊎_elim
    (λ (lt : t < x.time). inr (adds_version.before v id q x t lt))
    (λ (le : x.time ≤ t). ⊎_elim
    (λ (same : q ≡ id). inl (ap (at (with_version v id x) t) same ∙ adds_version.from_then v id x t le))
    (λ (ne : q ≢ id). inr (adds_version.elsewhere v id q x t ne)) (same_or q id))
    (cases_lt t x.time)

-- with a removal, or without
abbrev removed : VersionsOf → ℕ → Value → Bool → VersionsOf
removed v time id b = record v { chains = cond b (pushed v.chains id (version time None)) v.chains }

take_reads : (v : VersionsOf) (time : ℕ) (id : Value) (t : ℕ) (q : Value)
    → (at (with_removal v time id) t q ≡ None) ⊎ (at (with_removal v time id) t q ≡ at v t q)
take_reads v time id t q = by (is_some (now v id))
  where
    by : (b : Bool) → (at (removed v time id b) t q ≡ None) ⊎ (at (removed v time id b) t q ≡ at v t q)
    by true = put_reads v id (version time None) t q
    by false = inr refl

-- once a write was made
reads : (v : VersionsOf) (time : ℕ) (w : Write) (t : ℕ) (q : Value) → (at (written v time w) t q ≡ after w) ⊎ (at (written v time w) t q ≡ at v t q)
reads v time (Puts d) t q = put_reads v (id_of d) (version time (Some d)) t q
reads v time (Takes d) t q = take_reads v time (id_of d) t q
reads v time (Turns d change e) t q = put_reads v (id_of e) (version time (Some e)) t q
reads v time (Rekeys d e) t q = put_reads v (id_of e) (version time (Some e)) t q

some_same : (a b : Document) → Some a ≡ Some b → a ≡ b
some_same a b e = cc

none_some : (d : Document) → None ≡ Some d → ⊥
none_some d e = cc

module _ (old : Chunks) (s : ℕ) where
  own_after : (w : Write) → AreOwn old s w → IfSome (after w) (λ d. IsItemOf old s (Insert d))
  own_after (Puts d) own = own
  own_after (Takes d) own = tt
  own_after (Turns d change e) own = own.0
  own_after (Rekeys d e) own = own

  own_entries : (names : Bool) (donor : ShardId) (stamp : Stamp) (part : ℕ) (new : Chunks) (w : Write) → AreOwn old s w
      → AreEntries old s (entries_of names donor stamp part (contents new w))
  own_entries names donor stamp part new (Puts d) own = (own, tt)
  own_entries names donor stamp part new (Takes d) own = (tt, tt)
  own_entries names donor stamp part new (Turns d change e) own = (own.1, tt)
  own_entries names donor stamp part new (Rekeys d e) own = (tt, (own, tt))

  module _ (v : VersionsOf) (items : (t : ℕ) → AreDocuments old s (standing v t)) where
    -- what is read is the written document, or was read before
    item : (t : ℕ) (o : Option Document) (d : Document) (read : Option Document) → read ≡ Some d → IfSome o (λ e. IsItemOf old s (Insert e))
        → (read ≡ o) ⊎ (read ≡ at v t (id_of d)) → IsItemOf old s (Insert d)
    item t (Some e) d read is own (inl same) = subst (λ x. IsItemOf old s (Insert x)) (some_same e d (sym same ∙ is)) own
    item t None d read is own (inl same) = absurd (none_some d (sym same ∙ is))
    item t o d read is own (inr same) = one_of (λ d. IsItemOf old s (Insert d)) (standing v t) (items t) d
        (stands_by_reading.listed v t None (id_of d) d (sym same ∙ is) refl)

    written_items : (time : ℕ) (w : Write) → AreOwn old s w → IsFiled (written v time w).chains → (t : ℕ) → AreDocuments old s (standing (written v time w) t)
    written_items time w own filed t = all_there (λ d. IsItemOf old s (Insert d)) (standing (written v time w) t)
        (λ d there. item t (after w) d (at (written v time w) t (id_of d)) (stands_by_reading.read (written v time w) t None d filed there).0
        (own_after w own) (reads v time w t (id_of d)))

  pub wrote_items : (stamp : Stamp) (part : ℕ) (w : Write) (shard : Shard) → IsFiled shard.versions.chains → IsWriteAt shard w → AreOwn old s w
      → HasItems old s shard.versions shard.log.entries → HasItems old s (wrote stamp part w shard).versions (wrote stamp part w shard).log.entries
  wrote_items stamp part w shard filed is own items = record {
    documents = written_items shard.versions items.documents stamp.time w own
        (written_filed shard.new_map (id_in w) shard.versions stamp.time filed w (write_of shard w is) (write_stands shard w is));
    entries = all_both (λ (e : Entry). IsItemOf old s e.what) shard.log.entries (entries_of shard.names shard.log.donor stamp part (contents shard.new_map w)) items.entries
        (own_entries shard.names shard.log.donor stamp part shard.new_map w own);
  }
