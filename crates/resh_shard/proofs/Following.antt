-- Entries that may come behind others: of a later stamp, or of the same one with a later part.
use Rattle.std.proofs.Common.{◌≡◌, ◌<◌, ◌≤◌, ◌+◌, ◌-◌, ℕ, true, ◌&&◌, List, [], ◌∷◌, ◌++◌, length, map, take, Option, Some, None, refl, sym, ap, ◌∙◌, arith, Less, Equal, Greater}
use Rattle.std.proofs.lemmas.List.{append_assoc, length-append}
use Rattle.std.proofs.lemmas.List.FromFn.{length-map-range_with_len, map-range_with_len_more}
use Rattle.std.specs.Cmp.{nat_cmp_is}
use Rattle.std.specs.List.{last_or, range_with_len}
use Rattle.std.specs.Option.{option_map}
use Rattle.std.specs.Ordering.{is_lt, nat_cmp, ordering_then}
use Rattle.std.specs.declared.cmp.Ordering.{Ordering}
use Rattle.resh_stamp.specs.Times.{stamp_cmp}
use Rattle.resh_stamp.specs.declared.stamp.Mark.{Mark}
use Rattle.resh_stamp.specs.declared.stamp.Stamp.{Stamp}
use Rattle.resh_oplog.specs.Logs.{LogOf, fits, is_above, is_whole, last_mark, mark_of}
use Rattle.resh_oplog.specs.declared.entry.Entry.{Entry}
use Rattle.resh_value.specs.Lookup.{id_of}
use Rattle.resh_versions.specs.Chains.{Document, version}
use Rattle.resh_versions.specs.Standing.{IsFiled}
use Rattle.resh_versions.proofs.WriteLaws.{takes_back}
use Rattle.resh_shard.specs.Shards.{Shard, final_entry, is_later, undone_in, without_entries, wrote}
use Rattle.resh_shard.specs.Writes.{contents, entries_of, with_entries}
use Rattle.resh_shard.specs.declared.act.Write.TheVariants.{Puts}

abbrev at : Stamp → ℕ → Mark
at stamp part = record { stamp = stamp; part = part }

-- a later stamp
pub later_above : (last : Option Mark) (stamp : Stamp) (part : ℕ) → is_later last stamp ≡ true → is_above last (at stamp part) ≡ true
later_above None stamp part later = refl
later_above (Some mark) stamp part later = by (stamp_cmp mark.stamp stamp) later
  where
    by : (r : Ordering) → is_lt r ≡ true → is_lt (ordering_then r (nat_cmp mark.part part)) ≡ true
    by Less e = refl
    by Equal e = cc
    by Greater e = cc

-- a later part
pub part_above : (stamp : Stamp) (a b : ℕ) → a < b → is_above (Some (at stamp a)) (at stamp b) ≡ true
part_above stamp a b lt =
    λ i. is_lt (ordering_then (ordering_then (sym (nat_cmp_is stamp.time stamp.time Equal refl) i) (sym (nat_cmp_is stamp.node stamp.node Equal refl) i)) (sym (nat_cmp_is a b Less lt) i))

last_of_more : (o : Option Entry) (es : List Entry) (e : Entry) → last_or o (es ++ e ∷ []) ≡ Some e
last_of_more o [] e = refl
last_of_more o (x ∷ es) e = last_of_more (Some x) es e

pub last_mark_more : (es : List Entry) (e : Entry) → last_mark (es ++ e ∷ []) ≡ Some (mark_of e)
last_mark_more es e = ap (option_map mark_of) (last_of_more None es e)

-- the second of two entries of one stamp
pub second_fits : (es : List Entry) (first second : Entry) (stamp : Stamp) → mark_of first ≡ at stamp 0 → mark_of second ≡ at stamp 1 → is_whole second.what ≡ true
    → fits (es ++ first ∷ []) second ≡ true
second_fits es first second stamp a b whole =
    (λ i. is_above (last_mark_more es first i) (mark_of second) && whole i) ∙ (λ i. is_above (Some (a i)) (b i) && true) ∙ ap (λ t. t && true) (part_above stamp 0 1 (omega arith))

-- what is put at the end is what is taken back
pub taken_back : (es more : List Entry) → take (length (es ++ more) - length more) (es ++ more) ≡ es
taken_back es more = ap (λ n. take n (es ++ more)) (omega (arith, length-append es more)) ∙ front es
  where
    front : (es : List Entry) → take (length es) (es ++ more) ≡ es
    front [] = refl
    front (e ∷ es) = ap (λ l. e ∷ l) (front es)

-- final entries, one more at a time
module _ (log : LogOf) (stamp : Stamp) where
  abbrev finals : ℕ → List Entry
  finals n = map (final_entry log.donor stamp) (range_with_len 0 n)

  module _ (n : ℕ) (before : LogOf) (was : before ≡ with_entries log (finals n)) where
    pub finals_more : (after : LogOf) → after ≡ with_entries before (final_entry before.donor stamp n ∷ []) → after ≡ with_entries log (finals (n + 1))
    finals_more after is =
        is ∙ (λ i. with_entries (was i) (final_entry (was i).donor stamp n ∷ []))
        ∙ ap (λ es. record log { entries = es })
        (append_assoc log.entries (finals n) (final_entry log.donor stamp n ∷ [])
        ∙ ap (λ es. log.entries ++ es) (sym (map-range_with_len_more (final_entry log.donor stamp) 0 n n (omega arith))))

    pub finals_next : (after : LogOf) → after ≡ with_entries before (final_entry before.donor stamp n ∷ []) → is_above (last_mark after.entries) (at stamp (n + 1)) ≡ true
    finals_next after is =
        ap (λ (l : LogOf). is_above (last_mark l.entries) (at stamp (n + 1))) is
        ∙ ap (λ m. is_above m (at stamp (n + 1))) (last_mark_more before.entries (final_entry before.donor stamp n)) ∙ part_above stamp n (n + 1) (omega arith)

    pub finals_there : n ≤ length before.entries
    finals_there =
        let long : length before.entries ≡ length log.entries + n =
        ap (λ (l : LogOf). length l.entries) was ∙ length-append log.entries (finals n) ∙ ap (λ k. length log.entries + k) (length-map-range_with_len (final_entry log.donor stamp) 0 n) in
        omega (arith, long)

    pub finals_undone : without_entries n before ≡ log
    finals_undone =
        ap (without_entries n) was
        ∙ ap (λ k. record log { entries = take (length (log.entries ++ finals n) - k) (log.entries ++ finals n) }) (sym (length-map-range_with_len (final_entry log.donor stamp) 0 n))
        ∙ ap (λ es. record log { entries = es }) (taken_back log.entries (finals n))

-- a document that was put is taken back
pub undone_put : (s : Shard) (stamp : Stamp) (part : ℕ) (d : Document) → IsFiled s.versions.chains → undone_in (id_of d) (wrote stamp part (Puts d) s) ≡ s
undone_put s stamp part d are =
    λ i. record s {
      versions = takes_back s.versions (id_of d) (version stamp.time (Some d)) are i;
      log = record s.log { entries = taken_back s.log.entries (entries_of s.names s.log.donor stamp part (contents s.new_map (Puts d))) i };
    }
