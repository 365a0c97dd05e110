-- The row of a clone that is read.
use Rattle.std.proofs.Common.{◌≡◌, ◌≤◌, ◌<◌, ⊎_elim, ℕ, Bool, true, false, not, ◌&&◌, cond, nat_lt, List, [], ◌∷◌, length, filter, take, Option, Some, None, refl, sym, ap, subst, ◌∙◌, arith, rules}
use Rattle.std.proofs.lemmas.Bool.{cases_lt}
use Rattle.std.proofs.lemmas.List.{length-take-le, take_all}
use Rattle.std.specs.FinMap.{entries}
use Rattle.std.specs.List.{AllByRecursion, cons_option}
use Rattle.resh_value.specs.Lookup.{id_of}
use Rattle.resh_value.specs.declared.value.Value.{Value}
use Rattle.resh_cells.specs.Cells.{link_in, shard_in, with_link}
use Rattle.resh_cells.specs.declared.cluster.Cluster.{Cluster}
use Rattle.resh_chunks.specs.Chunks.{Chunks}
use Rattle.resh_cloner.specs.Cloning.{clone_part, comes_to, left_after}
use Rattle.resh_cloner.proofs.Cloned.{clones_in_order}
use Rattle.resh_events.specs.rows.Clone as clone
use Rattle.resh_events.specs.rows.Clone.{are_last, donates, has_room, next_clones}
use Rattle.resh_feed.specs.Feeds.{is_past}
use Rattle.resh_fetcher.specs.Conditions.{may_clone}
use Rattle.resh_fetcher.specs.Laws.{AreListed, StandsOn}
use Rattle.resh_fetcher.specs.Links.{LinkOf, last_id, with_cloned}
use Rattle.resh_fetcher.specs.Standing.{LinkFits, next_documents}
use Rattle.resh_model.specs.Orders.{State}
use Rattle.resh_progress.specs.Kinds.{ToDonate}
use Rattle.resh_progress.specs.Tellings.{has}
use Rattle.resh_setup.specs.declared.setup.Setup.{Setup}
use Rattle.resh_versions.specs.Chains.{Chain, Document, chain_read}
use Rattle.resh_versions.specs.Standing.{IsFiled, VersionsOf, chains_above, documents_of, is_above}
use Rattle.resh_versions.proofs.Listing.{entry_read, named_entries}
use Rattle.resh_invariant.specs.Courses.{course_of}
use Rattle.resh_invariant.specs.Keeping.{Keeps}
use Rattle.resh_invariant.specs.Recipients.{IsLinkKept}
use Rattle.resh_invariant.specs.Sources.{Clones, sources_of}
use Rattle.resh_invariant.proofs.Going.{donating_not_over, donating_told, goes_or_ends}
use Rattle.resh_invariant.proofs.Ones.{both, link_keeps, link_there, never, off_of, row_there}

-- what is read above an `_id` is what stands past it among all that is read
module _ (time : Option ℕ) (after : Option Value) where
  past_above : (es : List (Value × Chain)) → AllByRecursion (λ e. (d : Document) → entry_read time e ≡ Some d → id_of d ≡ e.0) es
      → documents_of time (chains_above after es) ≡ filter (is_past after) (documents_of time es)
  past_above [] named = refl
  past_above (e ∷ es) named = by (chain_read time e.1) refl (is_above after e.0) refl (past_above es named.1)
    where
      past_is : (after : Option Value) (d : Document) → is_past after d ≡ is_above after (id_of d)
      past_is None d = refl
      past_is (Some id) d = refl

      passes : (d : Document) → chain_read time e.1 ≡ Some d → (t : Bool) → is_above after e.0 ≡ t → is_past after d ≡ t
      passes d is t above = past_is after d ∙ ap (is_above after) (named.0 d is) ∙ above

      by : (o : Option Document) → chain_read time e.1 ≡ o → (t : Bool) → is_above after e.0 ≡ t
          → documents_of time (chains_above after es) ≡ filter (is_past after) (documents_of time es)
          → documents_of time (cond t (e ∷ chains_above after es) (chains_above after es)) ≡ filter (is_past after) (documents_of time (e ∷ es))
      by None is true above rest =
          ap (λ o. cons_option o (documents_of time (chains_above after es))) is ∙ rest
          ∙ sym (ap (λ o. filter (is_past after) (cons_option o (documents_of time es))) is)
      by None is false above rest = rest ∙ sym (ap (λ o. filter (is_past after) (cons_option o (documents_of time es))) is)
      by (Some d) is true above rest =
          ap (λ o. cons_option o (documents_of time (chains_above after es))) is ∙ ap (λ l. d ∷ l) rest
          ∙ sym (ap (λ t. cond t (d ∷ filter (is_past after) (documents_of time es)) (filter (is_past after) (documents_of time es))) (passes d is true above))
          ∙ sym (ap (λ o. filter (is_past after) (cons_option o (documents_of time es))) is)
      by (Some d) is false above rest =
          rest
          ∙ sym (ap (λ t. cond t (d ∷ filter (is_past after) (documents_of time es)) (filter (is_past after) (documents_of time es))) (passes d is false above))
          ∙ sym (ap (λ o. filter (is_past after) (cons_option o (documents_of time es))) is)

both_ways : {X : Type 0} (p q : X → Bool) (xs : List X) → filter p (filter q xs) ≡ filter q (filter p xs)
both_ways p q [] = refl
both_ways p q (x ∷ xs) = by (p x) refl (q x) refl (both_ways p q xs)
  where
    by : (a : Bool) → p x ≡ a → (b : Bool) → q x ≡ b → filter p (filter q xs) ≡ filter q (filter p xs)
        → filter p (cond b (x ∷ filter q xs) (filter q xs)) ≡ filter q (cond a (x ∷ filter p xs) (filter p xs))
    by true ea true eb rest = ap (λ t. cond t (x ∷ filter p (filter q xs)) (filter p (filter q xs))) ea ∙ ap (λ l. x ∷ l) rest ∙ sym (ap (λ t. cond t (x ∷ filter q (filter p xs)) (filter q (filter p xs))) eb)
    by true ea false eb rest = rest ∙ sym (ap (λ t. cond t (x ∷ filter q (filter p xs)) (filter q (filter p xs))) eb)
    by false ea true eb rest = ap (λ t. cond t (x ∷ filter p (filter q xs)) (filter p (filter q xs))) ea ∙ rest
    by false ea false eb rest = rest

pub left_past : (versions : VersionsOf) (new_map : Chunks) (time r : ℕ) (after : Option Value) → IsFiled versions.chains
    → left_after versions new_map time r after ≡ filter (is_past after) (clone_part versions new_map time r)
left_past versions new_map time r after filed =
    ap (filter (comes_to new_map r)) (past_above (Some time) after (entries versions.chains) (named_entries versions (Some time) filed) ∙ ap (λ es. filter (is_past after) (documents_of (Some time) es)) (sym (all_above (entries versions.chains))))
    ∙ both_ways (comes_to new_map r) (is_past after) (documents_of (Some time) (chains_above None (entries versions.chains)))
  where
    all_above : (es : List (Value × Chain)) → chains_above None es ≡ es
    all_above [] = refl
    all_above (e ∷ es) = ap (λ l. e ∷ l) (all_above es)

-- a batch that isn't full is the last one
last_taken : {X : Type 0} (n : ℕ) (xs : List X) → nat_lt (length (take n xs)) n ≡ nat_lt (length xs) n
last_taken n xs =
    ⊎_elim
    (λ (lt : length xs < n). ap (λ l. nat_lt (length l) n) (take_all n xs (omega (arith, lt))))
    (λ (le : n ≤ length xs). ap (λ k. nat_lt k n) (length-take-le n xs le) ∙ not_below n n (omega arith) ∙ sym (not_below (length xs) n le))
    (cases_lt (length xs) n)
  where
    not_below : (a b : ℕ) → b ≤ a → nat_lt a b ≡ false
    not_below a b le = search (arith, rules)

module _ (stands : StandsOn) (setup : Setup) (state : State) (clones : Clones) (cluster : Cluster) (keeps : Keeps setup state clones cluster)
    (r d : ℕ) (is : clone.may cluster r d ≡ true) where
  abbrev l : LinkOf
  l = (link_in cluster r d).link

  tests : (l.is_open ≡ true) × (l.read_out ≡ false) × (donates (shard_in cluster d).donor.phase ≡ true)
  tests =
      let all = both (may_clone l && donates (shard_in cluster d).donor.phase) (has_room l) is in
      let some = both (may_clone l) (donates (shard_in cluster d).donor.phase) all.0 in
      let first = both l.is_open (not l.read_out) some.0 in
      (first.0, off_of l.read_out first.1, some.1)

  r_in : r < length setup.shards
  r_in = row_there setup state clones cluster keeps r d tests.0

  d_in : d < length setup.shards
  d_in = link_there setup state clones cluster keeps r d tests.0

  kept : IsLinkKept setup r d (course_of cluster.control) (shard_in cluster r).donor (sources_of clones cluster r d) (link_in cluster r d)
  kept = (keeps.recipients r r_in).each_link d d_in

  told : has (shard_in cluster d).donor.told ToDonate ≡ true
  told = donating_told (shard_in cluster d).donor (goes_or_ends cluster.control.phase cluster.control.decision _ (shard_in cluster d).donor (keeps.donors d d_in).donor) tests.2

  same_clones : clones d r ≡ clone_part (shard_in cluster d).shard.versions (shard_in cluster d).shard.new_map cluster.control.fetch_time r
  same_clones = (keeps.donors d d_in).cloned ((keeps.donors d d_in).floor (donating_not_over (shard_in cluster d).donor.phase tests.2)) r r_in

  listed : AreListed (clones d r)
  listed = subst AreListed (sym same_clones) (clones_in_order.rise (shard_in cluster d).shard.versions (shard_in cluster d).shard.new_map cluster.control.fetch_time r None (keeps.donors d d_in).story.dated.filed)

  left_is : left_after (shard_in cluster d).shard.versions (shard_in cluster d).shard.new_map l.fetch_time r (last_id l) ≡ next_documents l (clones d r)
  left_is =
      ap (λ t. left_after (shard_in cluster d).shard.versions (shard_in cluster d).shard.new_map t r (last_id l)) (kept.reads (kept.opened tests.0)).time
      ∙ left_past (shard_in cluster d).shard.versions (shard_in cluster d).shard.new_map cluster.control.fetch_time r (last_id l) (keeps.donors d d_in).story.dated.filed
      ∙ ap (filter (is_past (last_id l))) (sym same_clones)

  abbrev got : List Document
  got = clone.got cluster r d

  fits : LinkFits setup.lanes (clones d r) (sources_of clones cluster r d).entries (with_cloned l (clone.got cluster r d) (are_last l (clone.got cluster r d)))
  fits =
      subst (λ t. LinkFits setup.lanes (clones d r) (sources_of clones cluster r d).entries (with_cloned l (clone.got cluster r d) t))
      (sym (last_taken l.batch (left_after (shard_in cluster d).shard.versions (shard_in cluster d).shard.new_map l.fetch_time r (last_id l))))
      (subst (λ xs. LinkFits setup.lanes (clones d r) (sources_of clones cluster r d).entries (with_cloned l (take l.batch xs) (nat_lt (length xs) l.batch))) (sym left_is)
      (stands.cloned setup.lanes (clones d r) (sources_of clones cluster r d).entries l listed tests.1 (kept.reads (kept.opened tests.0)).fits))

  pub clone_keeps : Keeps setup state clones (clone.change cluster r d)
  clone_keeps =
      link_keeps setup state clones cluster keeps r d (with_link (λ l. with_cloned l (clone.got cluster r d) (are_last l (clone.got cluster r d))) (link_in cluster r d))
      (λ _ _. record {
        owned = record { recipient = kept.owned.recipient; donor = kept.owned.donor; lanes = kept.owned.lanes; batch = kept.owned.batch };
        cuts = kept.cuts;
        started = kept.started;
        opened = kept.opened;
        reads = λ on. record { time = (kept.reads on).time; fits = fits };
        sent = kept.sent;
        untold = λ off. never (sym told ∙ off);
        unused = λ none off. never (sym (kept.opened tests.0) ∙ off);
      })
      (λ _ _ l l_in. (keeps.recipients r r_in).behind d l d_in l_in) (λ done. done)
