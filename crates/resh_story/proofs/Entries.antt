-- Entries of a write and final entries, among those of a later time for a recipient.
use Rattle.std.proofs.Common.{◌≡◌, ◌≢◌, ◌≤◌, ◌<◌, ◌+◌, ◌==◌, ◌&&◌, ◌||◌, ◌⊎◌, ⊎_elim, ℕ, zero, suc, Bool, true, false, cond, nat_lt, List, [], ◌∷◌, ◌++◌, map, filter, refl, sym, ap, ◌∙◌, arith, rules}
use Rattle.std.proofs.lemmas.Bool.{cases_lt}
use Rattle.std.proofs.lemmas.Bool.Decides.{eqb_tells}
use Rattle.std.proofs.lemmas.List.Elements.{filter-append}
use Rattle.std.specs.List.{AllByRecursion, range_with_len}
use Rattle.resh_value.specs.Lookup.{id_of}
use Rattle.resh_value.specs.declared.value.ShardId.{ShardId}
use Rattle.resh_chunks.specs.Chunks.{Chunks, owner_of}
use Rattle.resh_stamp.specs.declared.stamp.Stamp.{Stamp}
use Rattle.resh_oplog.specs.Logs.{is_for, later_entries}
use Rattle.resh_oplog.specs.declared.entry.Entry.{Entry}
use Rattle.resh_oplog.specs.declared.entry.What.{What}
use Rattle.resh_oplog.specs.declared.entry.What.TheVariants.{Insert, Update, Delete}
use Rattle.resh_feed.specs.Items.{has_final, is_final, up_to_final}
use Rattle.resh_shard.specs.Shards.{final_entry}
use Rattle.resh_shard.specs.Writes.{contents, entries_of, recipient}
use Rattle.resh_shard.specs.declared.act.Write.{Write}
use Rattle.resh_shard.specs.declared.act.Write.TheVariants.{Puts, Takes, Turns, Rekeys}
use Rattle.resh_story.specs.Stories.{IsNamedAfter}

-- numbers
pub below : (a b : ℕ) → a < b → nat_lt a b ≡ true
below a b h = search (arith, rules)

pub not_below : (a b : ℕ) → b ≤ a → nat_lt a b ≡ false
not_below a b h = search (arith, rules)

pub is_below : (a b : ℕ) → nat_lt a b ≡ true → a < b
is_below a b h = search (arith, rules)

apart : (a b : ℕ) → a ≢ b → (a == b) ≡ false
apart a b ne = ⊎_elim (λ k. absurd (ne k.1)) (λ k. k.0) (eqb_tells a b)

-- lists
pub all_front : {X : Type 0} (P : X → Type 0) (a b : List X) → AllByRecursion P (a ++ b) → AllByRecursion P a
all_front P [] b h = tt
all_front P (x ∷ xs) b h = (h.0, all_front P xs b h.1)

pub all_back : {X : Type 0} (P : X → Type 0) (a b : List X) → AllByRecursion P (a ++ b) → AllByRecursion P b
all_back P [] b h = h
all_back P (x ∷ xs) b h = all_back P xs b h.1

pub all_both : {X : Type 0} (P : X → Type 0) (a b : List X) → AllByRecursion P a → AllByRecursion P b → AllByRecursion P (a ++ b)
all_both P [] b h k = k
all_both P (x ∷ xs) b h k = (h.0, all_both P xs b h.1 k)

pub all_weaker : {X : Type 0} (P Q : X → Type 0) → ((x : X) → P x → Q x) → (xs : List X) → AllByRecursion P xs → AllByRecursion Q xs
all_weaker P Q more [] h = tt
all_weaker P Q more (x ∷ xs) h = (more x h.0, all_weaker P Q more xs h.1)

-- entries up to a time
abbrev pub AreBy : ℕ → List Entry → Type 0
AreBy time entries = AllByRecursion (λ entry. entry.stamp.time ≤ time) entries

pub by_later : (time later : ℕ) (es : List Entry) → time ≤ later → AreBy time es → AreBy later es
by_later time later es le =
    all_weaker (λ (e : Entry). e.stamp.time ≤ time) (λ (e : Entry). e.stamp.time ≤ later) (λ e h. omega (arith, le, h)) es

pub none_later : (time r : ℕ) (es : List Entry) → AreBy time es → later_entries time r es ≡ []
none_later time r [] all = refl
none_later time r (e ∷ es) all =
    ap (λ b. cond (b && is_for r e.to) (e ∷ later_entries time r es) (later_entries time r es)) (not_below time e.stamp.time all.0)
    ∙ none_later time r es all.1

pub later_more : (time r : ℕ) (a b : List Entry) → later_entries time r (a ++ b) ≡ later_entries time r a ++ later_entries time r b
later_more time r a b = filter-append (λ (e : Entry). nat_lt time e.stamp.time && is_for r e.to) a b

-- no entry is final
abbrev pub NoFinal : List Entry → Type 0
NoFinal entries = AllByRecursion (λ entry. is_final entry.what ≡ false) entries

pub no_final : (es : List Entry) → has_final es ≡ false → NoFinal es
no_final [] h = tt
no_final (e ∷ es) h = by (is_final e.what) refl (λ k. no_final es k) h
  where
    by : (b : Bool) → is_final e.what ≡ b → (has_final es ≡ false → NoFinal es) → has_final (e ∷ es) ≡ false → (is_final e.what ≡ false) × NoFinal es
    by true is rest k = absurd (let off : true ≡ false = sym (λ i. is i || has_final es) ∙ k in cc)
    by false is rest k = (is, rest (sym (λ i. is i || has_final es) ∙ k))

pub has_none : (es : List Entry) → NoFinal es → has_final es ≡ false
has_none [] h = refl
has_none (e ∷ es) h = (λ i. h.0 i || has_final es) ∙ has_none es h.1

pub some_none : (p : Entry → Bool) (es : List Entry) → NoFinal es → NoFinal (filter p es)
some_none p [] h = tt
some_none p (e ∷ es) h = by (p e) (some_none p es h.1)
  where
    by : (b : Bool) → NoFinal (filter p es) → NoFinal (cond b (e ∷ filter p es) (filter p es))
    by true rest = (h.0, rest)
    by false rest = rest

pub past_final : (a b : List Entry) → NoFinal a → up_to_final (a ++ b) ≡ a ++ up_to_final b
past_final [] b h = refl
past_final (e ∷ es) b h = ap (λ t. e ∷ cond t [] (up_to_final (es ++ b))) h.0 ∙ ap (λ l. e ∷ l) (past_final es b h.1)

pub all_of_it : (a : List Entry) → NoFinal a → up_to_final a ≡ a
all_of_it [] h = refl
all_of_it (e ∷ es) h = ap (λ t. e ∷ cond t [] (up_to_final es)) h.0 ∙ ap (λ l. e ∷ l) (all_of_it es h.1)

pub later_none : (time r : ℕ) (es : List Entry) → NoFinal es → NoFinal (later_entries time r es)
later_none time r es = some_none (λ (e : Entry). nat_lt time e.stamp.time && is_for r e.to) es

-- the entries of a write
module _ (donor : ShardId) (stamp : Stamp) where
  pub of_later : (names : Bool) (time r : ℕ) → time < stamp.time → (part : ℕ) (cs : List (ℕ × What))
      → later_entries time r (entries_of names donor stamp part cs) ≡ filter (λ entry. is_for r entry.to) (entries_of names donor stamp part cs)
  of_later names time r lt part [] = refl
  of_later names time r lt part (c ∷ cs) =
      ap (λ b. cond (b && is_for r first.to) (first ∷ later_entries time r rest) (later_entries time r rest)) (below time stamp.time lt)
      ∙ ap (λ l. cond (is_for r first.to) (first ∷ l) l) (of_later names time r lt (part + 1) cs)
    where
      first : Entry
      first = record { stamp = stamp; part = part; donor = donor; to = recipient names c.0; what = c.1 }

      rest : List Entry
      rest = entries_of names donor stamp (part + 1) cs

  pub are_by : (names : Bool) (part : ℕ) (cs : List (ℕ × What)) → AreBy stamp.time (entries_of names donor stamp part cs)
  are_by names part [] = tt
  are_by names part (c ∷ cs) = (omega arith, are_by names (part + 1) cs)

  pub all_named : (time part : ℕ) (cs : List (ℕ × What)) → IsNamedAfter time (entries_of true donor stamp part cs)
  all_named time part [] = tt
  all_named time part (c ∷ cs) = (λ h. refl, all_named time (part + 1) cs)

  -- what isn't named isn't among entries that are
  none_unnamed : (time part : ℕ) → time < stamp.time → (c : ℕ × What) (cs : List (ℕ × What)) → IsNamedAfter time (entries_of false donor stamp part (c ∷ cs)) → ⊥
  none_unnamed time part lt c cs h = let no : false ≡ true = h.0 (below time stamp.time lt) in cc

  pub unnamed_never : (new : Chunks) (w : Write) (time part : ℕ) → time < stamp.time → IsNamedAfter time (entries_of false donor stamp part (contents new w)) → ⊥
  unnamed_never new (Puts d) time part lt h = none_unnamed time part lt (owner_of new d, Insert d) [] h
  unnamed_never new (Takes d) time part lt h = none_unnamed time part lt (owner_of new d, Delete (id_of d)) [] h
  unnamed_never new (Turns d c e) time part lt h = none_unnamed time part lt (owner_of new d, Update (id_of d) c) [] h
  unnamed_never new (Rekeys d e) time part lt h = none_unnamed time part lt (owner_of new d, Delete (id_of d)) ((owner_of new e, Insert e) ∷ []) h

  pub writes_none : (new : Chunks) (w : Write) (names : Bool) (part : ℕ) → NoFinal (entries_of names donor stamp part (contents new w))
  writes_none new (Puts d) names part = (refl, tt)
  writes_none new (Takes d) names part = (refl, tt)
  writes_none new (Turns d c e) names part = (refl, tt)
  writes_none new (Rekeys d e) names part = (refl, (refl, tt))

  -- the final entries for recipients from one on
  abbrev pub finals : ℕ → ℕ → List Entry
  finals from n = map (final_entry donor stamp) (range_with_len from n)

  pub finals_by : (from n : ℕ) → AreBy stamp.time (finals from n)
  finals_by from zero = tt
  finals_by from (suc n) = (omega arith, finals_by (from + 1) n)

  pub finals_named : (time from n : ℕ) → IsNamedAfter time (finals from n)
  finals_named time from zero = tt
  finals_named time from (suc n) = (λ h. refl, finals_named time (from + 1) n)

  pub all_final : (from n : ℕ) → AllByRecursion (λ entry. is_final entry.what ≡ true) (finals from n)
  all_final from zero = tt
  all_final from (suc n) = (refl, all_final (from + 1) n)

  module _ (time r : ℕ) where
    abbrev among : ℕ → ℕ → List Entry
    among from n = later_entries time r (finals from n)

    none_for : (from n : ℕ) → r < from → among from n ≡ []
    none_for from zero lt = refl
    none_for from (suc n) lt =
        (λ i. cond (nat_lt time stamp.time && apart from r (λ e. omega (arith, lt, e)) i) (final_entry donor stamp from ∷ among (from + 1) n) (among (from + 1) n))
        ∙ off (nat_lt time stamp.time) ∙ none_for (from + 1) n (omega (arith, lt))
      where
        off : (b : Bool) → cond (b && false) (final_entry donor stamp from ∷ among (from + 1) n) (among (from + 1) n) ≡ among (from + 1) n
        off true = refl
        off false = refl

    past_for : (from n : ℕ) → from + n ≤ r → among from n ≡ []
    past_for from zero le = refl
    past_for from (suc n) le =
        (λ i. cond (nat_lt time stamp.time && apart from r (λ e. omega (arith, le, e)) i) (final_entry donor stamp from ∷ among (from + 1) n) (among (from + 1) n))
        ∙ off (nat_lt time stamp.time) ∙ past_for (from + 1) n (omega (arith, le))
      where
        off : (b : Bool) → cond (b && false) (final_entry donor stamp from ∷ among (from + 1) n) (among (from + 1) n) ≡ among (from + 1) n
        off true = refl
        off false = refl

    module _ (lt : time < stamp.time) where
      one_for : (from n : ℕ) → from ≤ r → r < from + n → among from n ≡ final_entry donor stamp r ∷ []
      one_for from zero le lt = absurd (omega (arith, le, lt))
      one_for from (suc n) le within =
          (λ i. cond (below time stamp.time lt i && (from == r)) (final_entry donor stamp from ∷ among (from + 1) n) (among (from + 1) n))
          ∙ ⊎_elim
          (λ k. (λ i. cond (k.0 i) (final_entry donor stamp from ∷ among (from + 1) n) (among (from + 1) n))
          ∙ (λ i. final_entry donor stamp (k.1 i) ∷ none_for (from + 1) n (let same = k.1 in omega (arith, same)) i))
          (λ k. (λ i. cond (k.0 i) (final_entry donor stamp from ∷ among (from + 1) n) (among (from + 1) n))
          ∙ one_for (from + 1) n (sooner k.1) (omega (arith, within))) (eqb_tells from r)
        where
          sooner : from ≢ r → from + 1 ≤ r
          sooner ne = ⊎_elim (λ (k : from < r). omega (arith, k)) (λ (k : r ≤ from). absurd (ne (omega (arith, k, le)))) (cases_lt from r)

      -- among those of all recipients
      pub final_for : (n : ℕ) → among 0 n ≡ cond (nat_lt r n) (final_entry donor stamp r ∷ []) []
      final_for n = ⊎_elim
          (λ (k : r < n). one_for 0 n (omega arith) (omega (arith, k)) ∙ sym (ap (λ b. cond b (final_entry donor stamp r ∷ []) []) (below r n k)))
          (λ (k : n ≤ r). past_for 0 n (omega (arith, k)) ∙ sym (ap (λ b. cond b (final_entry donor stamp r ∷ []) []) (not_below r n k)))
          (cases_lt r n)
