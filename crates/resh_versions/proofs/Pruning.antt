-- What pruned chains have, and what a map files under each `_id` after its chains were pruned.
use Rattle.std.proofs.Common.{◌≡◌, ℕ, ◌≤◌, max, Bool, true, false, not, cond, ◌&&◌, ◌||◌, T, List, [], ◌∷◌, filter, Option, Some, None, unwrap_or, is_some, IfSome, refl, ap, sym, ◌∙◌, subst, arith, Less, Equal, Greater, is_eq}
use Rattle.std.proofs.lemmas.Bool.{leb-true, le-leb}
use Rattle.std.proofs.lemmas.Map.Views.{tells_apart}
use Rattle.std.specs.BTreeMap.{IsOrdered}
use Rattle.std.specs.FinMap.{entries, entries_sorted, entries-from_sorted, find, from_sorted, get, get-entries, get-from_sorted, is_sorted}
use Rattle.std.specs.FinMap.Entries.{below_all}
use Rattle.std.specs.List.{AllByRecursion, fold, list_any}
use Rattle.std.specs.Map.Calls.{RetainsPairs}
use Rattle.std.specs.Ordering.{eq_by_cmp, is_lt}
use Rattle.std.specs.declared.cmp.Ordering.{Ordering}
use Rattle.resh_value.specs.Order.{compare_of}
use Rattle.resh_value.specs.OrderLaws.{compare_same}
use Rattle.resh_value.specs.declared.value.Value.{Value}
use Rattle.resh_value.proofs.MapEntries.{both_hold, hold_both, in_order}
use Rattle.resh_versions.specs.Chains.{Document, Chain, has_versions, newest, is_by, chain_at, pruned_chain}
use Rattle.resh_versions.specs.Laws.{PrunesUnseen}
use Rattle.resh_versions.specs.Standing.{Chains, IsChainOf, IsFiled, IsKept, StandsUnder, chain_in, filed, pruned_chains, pruned_entries}
use Rattle.resh_versions.specs.declared.version.Version.{Version}
use Rattle.resh_versions.proofs.Filing.{Tree, found}

-- a test that passes every version that isn't later than a time reads the same of the pruned chain
module _ (time : ℕ) (p : Version → Bool) (passes : (v : Version) → is_by time v ≡ true → p v ≡ true) where
  covered : (a : Option Document) (vs : Chain) → list_any (is_by time) vs ≡ true → fold (λ (d : Option Document) (w : Version). w.document) a (filter p vs) ≡ newest (filter p vs)
  covered a [] some = cc
  covered a (w ∷ ws) some = by (p w) (is_by time w) refl refl (covered a ws)
    where
      by : (b c : Bool) → p w ≡ b → is_by time w ≡ c → (list_any (is_by time) ws ≡ true → fold (λ (d : Option Document) (x : Version). x.document) a (filter p ws) ≡ newest (filter p ws))
          → fold (λ (d : Option Document) (x : Version). x.document) a (cond b (w ∷ filter p ws) (filter p ws)) ≡ newest (cond b (w ∷ filter p ws) (filter p ws))
      by true c e f rest = refl
      by false true e f rest = absurd (apart (sym (passes w f) ∙ e))
        where
          apart : true ≡ false → ⊥
          apart x = cc
      by false false e f rest = rest (ap (λ b. b || list_any (is_by time) ws) (sym f) ∙ some)

  pub reads_pruned : (chain : Chain) → newest (filter p (pruned_chain time chain)) ≡ newest (filter p chain)
  reads_pruned [] = refl
  reads_pruned (v ∷ vs) = by (list_any (is_by time) vs) (is_by time v) (is_some v.document) refl refl refl (reads_pruned vs)
    where
      kept : (b : Bool) → p v ≡ b → newest (cond b (v ∷ filter p vs) (filter p vs)) ≡ newest (filter p (v ∷ vs))
      kept b e = ap (λ c. newest (cond c (v ∷ filter p vs) (filter p vs))) (sym e)

      none : (d : Option Document) → is_some d ≡ false → d ≡ None
      none None e = refl
      none (Some d) e = cc

      by : (a b d : Bool) → list_any (is_by time) vs ≡ a → is_by time v ≡ b → is_some v.document ≡ d → newest (filter p (pruned_chain time vs)) ≡ newest (filter p vs)
          → newest (filter p (cond a (pruned_chain time vs) (cond (b && not d) vs (v ∷ vs)))) ≡ newest (filter p (v ∷ vs))
      by true b d some e f rest = rest ∙ past (p v)
        where
          past : (c : Bool) → newest (filter p vs) ≡ newest (cond c (v ∷ filter p vs) (filter p vs))
          past true = sym (covered v.document vs some)
          past false = refl
      by false true true any e f rest = refl
      by false true false any e f rest = ap (λ (o : Option Document). fold (λ (x : Option Document) (w : Version). w.document) o (filter p vs)) (sym (none v.document f)) ∙ kept true (passes v e)
      by false false d any e f rest = refl

pub chain_at_pruned : (time t : ℕ) (chain : Chain) → time ≤ t → chain_at t (pruned_chain time chain) ≡ chain_at t chain
chain_at_pruned time t chain le = reads_pruned time (is_by t) (λ v e. le-leb v.time t (omega (arith, leb-true v.time time e, le))) chain

all_pass : (chain : Chain) → filter (λ v. true) chain ≡ chain
all_pass [] = refl
all_pass (v ∷ vs) = ap (λ c. v ∷ c) (all_pass vs)

pub newest_pruned : (time : ℕ) (chain : Chain) → newest (pruned_chain time chain) ≡ newest chain
newest_pruned time chain = ap newest (sym (all_pass (pruned_chain time chain))) ∙ reads_pruned time (λ v. true) (λ v e. refl) chain ∙ ap newest (all_pass chain)

-- what holds of each version of a chain holds of each that pruning leaves
pub pruned_has : (P : Version → Type 0) (time : ℕ) (chain : Chain) → AllByRecursion P chain → AllByRecursion P (pruned_chain time chain)
pruned_has P time [] all = tt
pruned_has P time (v ∷ vs) all = by (list_any (is_by time) vs) (is_by time v && not (is_some v.document)) (pruned_has P time vs all.1)
  where
    by : (a b : Bool) → AllByRecursion P (pruned_chain time vs) → AllByRecursion P (cond a (pruned_chain time vs) (cond b vs (v ∷ vs)))
    by true b rest = rest
    by false true rest = all.1
    by false false rest = all

-- a closure that prunes each chain and keeps those with versions leaves the pruned entries
pub pruned_pairs : {F : Type 0} (T : F → Value → Chain → Bool → Chain → F → Type 0) (I : F → Type 0) (time : ℕ)
    → ((f : F) (k : Value) (v : Chain) (b : Bool) (w : Chain) (g : F) → I f → T f k v b w g → (b ≡ has_versions w) × (w ≡ pruned_chain time v) × I g)
    → (f : F) (es kept : List (Value × Chain)) → I f → RetainsPairs T f es kept → kept ≡ pruned_entries time es
pruned_pairs T I time says f [] kept i r = r
pruned_pairs T I time says f (e ∷ es) kept i r =
    let s = says f e.0 e.1 r.0 r.1 r.2 i r.4 in
    let rest = pruned_pairs T I time says r.2 es r.3 s.2 r.5 in
    r.6 ∙ (λ j. cond ((s.0 ∙ ap has_versions s.1) j) ((e.0, s.1 j) ∷ rest j) (rest j))

-- what a pruned chain shows, nothing where it has no versions
abbrev shown : ℕ → Option Chain → Option Chain
shown time None = None
shown time (Some chain) = cond (has_versions (pruned_chain time chain)) (Some (pruned_chain time chain)) None

module _ (time : ℕ) where
  below_pruned : (k : Value) (es : List (Value × Chain)) → T (below_all compare_of k es) → T (below_all compare_of k (pruned_entries time es))
  below_pruned k [] t = tt
  below_pruned k (e ∷ es) t =
      let parts = both_hold _ _ t in
      by (has_versions (pruned_chain time e.1)) parts.0 (below_pruned k es parts.1)
    where
      by : (b : Bool) → T (is_lt (compare_of k e.0)) → T (below_all compare_of k (pruned_entries time es)) → T (below_all compare_of k (cond b ((e.0, pruned_chain time e.1) ∷ pruned_entries time es) (pruned_entries time es)))
      by true here rest = hold_both _ _ here rest
      by false here rest = rest

  pub pruned_in_order : (es : List (Value × Chain)) → T (is_sorted compare_of es) → T (is_sorted compare_of (pruned_entries time es))
  pruned_in_order [] t = tt
  pruned_in_order (e ∷ es) t =
      let parts = both_hold _ _ t in
      by (has_versions (pruned_chain time e.1)) (below_pruned e.0 es parts.0) (pruned_in_order es parts.1)
    where
      by : (b : Bool) → T (below_all compare_of e.0 (pruned_entries time es)) → T (is_sorted compare_of (pruned_entries time es)) → T (is_sorted compare_of (cond b ((e.0, pruned_chain time e.1) ∷ pruned_entries time es) (pruned_entries time es)))
      by true here rest = hold_both _ _ here rest
      by false here rest = rest

  not_above : (k : Value) (es : List (Value × Chain)) → T (below_all compare_of k es) → find compare_of k es ≡ None
  not_above k [] t = refl
  not_above k (e ∷ es) t = let parts = both_hold _ _ t in by (compare_of k e.0) parts.0 (not_above k es parts.1)
    where
      by : (r : Ordering) → T (is_lt r) → find compare_of k es ≡ None → cond (is_eq r) (Some e.1) (find compare_of k es) ≡ None
      by Less t rest = rest
      by Equal t rest = absurd t
      by Greater t rest = absurd t

  pub find_pruned : (q : Value) (es : List (Value × Chain)) → T (is_sorted compare_of es) → find compare_of q (pruned_entries time es) ≡ shown time (find compare_of q es)
  find_pruned q [] t = refl
  find_pruned q (e ∷ es) t =
      let parts = both_hold _ _ t in
      by (has_versions (pruned_chain time e.1)) (eq_by_cmp compare_of q e.0) refl refl (find_pruned q es parts.1) (λ same. subst (λ k. find compare_of k es ≡ None) (sym (tells_apart compare_same q e.0 same)) (not_above e.0 es parts.0))
    where
      by : (b s : Bool) → has_versions (pruned_chain time e.1) ≡ b → eq_by_cmp compare_of q e.0 ≡ s → find compare_of q (pruned_entries time es) ≡ shown time (find compare_of q es)
          → (eq_by_cmp compare_of q e.0 ≡ true → find compare_of q es ≡ None)
          → find compare_of q (cond b ((e.0, pruned_chain time e.1) ∷ pruned_entries time es) (pruned_entries time es)) ≡ shown time (cond s (Some e.1) (find compare_of q es))
      by true true h f rest none = ap (λ c. cond c (Some (pruned_chain time e.1)) (find compare_of q (pruned_entries time es))) f ∙ sym (ap (λ c. cond c (Some (pruned_chain time e.1)) None) h)
      by true false h f rest none = ap (λ c. cond c (Some (pruned_chain time e.1)) (find compare_of q (pruned_entries time es))) f ∙ rest
      by false true h f rest none = rest ∙ ap (shown time) (none f) ∙ sym (ap (λ c. cond c (Some (pruned_chain time e.1)) None) h)
      by false false h f rest none = rest

  -- what pruned chains have under an `_id`
  pub get_pruned : (chains : Chains) (id : Value) → get (pruned_chains time chains) id ≡ shown time (get chains id)
  get_pruned chains id =
      get-from_sorted compare_of (pruned_entries time (entries chains)) id (pruned_in_order (entries chains) (entries_sorted chains))
      ∙ find_pruned id (entries chains) (entries_sorted chains) ∙ ap (shown time) (sym (get-entries chains id))

  pub chain_in_pruned : (chains : Chains) (id : Value) → chain_in (pruned_chains time chains) id ≡ pruned_chain time (chain_in chains id)
  chain_in_pruned chains id = ap (λ r. unwrap_or r []) (get_pruned chains id) ∙ by (get chains id)
    where
      whole : (c : Chain) → unwrap_or (cond (has_versions c) (Some c) None) [] ≡ c
      whole [] = refl
      whole (v ∷ vs) = refl

      by : (r : Option Chain) → unwrap_or (shown time r) [] ≡ pruned_chain time (unwrap_or r [])
      by None = refl
      by (Some c) = whole (pruned_chain time c)

  has_chain : (c : Chain) (id : Value) (chain : Chain) (b : Bool) → has_versions c ≡ b → AllByRecursion (λ v. IfSome v.document (StandsUnder id)) c → cond b (Some c) None ≡ Some chain → IsChainOf id chain
  has_chain [] id chain true h named e = cc
  has_chain (v ∷ vs) id chain true h named e = subst (IsChainOf id) (ap (λ r. unwrap_or r chain) e) (record { filled = λ none. cc; stand = named })
  has_chain c id chain false h named e = absurd (apart e)
    where
      apart : None ≡ Some chain → ⊥
      apart x = cc

  -- pruned chains are still their `_id`s'
  pub pruned_filed : (chains : Chains) → IsFiled chains → IsFiled (pruned_chains time chains)
  pruned_filed chains are id chain e = by (get chains id) refl (sym (get_pruned chains id) ∙ e)
    where
      apart : None ≡ Some chain → ⊥
      apart x = cc

      by : (r : Option Chain) → get chains id ≡ r → shown time (get chains id) ≡ Some chain → IsChainOf id chain
      by None none s = absurd (apart (sym (ap (shown time) none) ∙ s))
      by (Some c) found s = has_chain (pruned_chain time c) id chain _ refl (pruned_has _ time c (are id c found).stand) (sym (ap (shown time) found) ∙ s)

  -- the map after its chains were pruned
  pub pruned_kept : (m n : Tree) → IsKept m → IsOrdered compare_of n → n.entries ≡ pruned_entries time m.entries → (filed n ≡ pruned_chains time (filed m)) × IsKept n
  pruned_kept m n k s is = (same, record { ordered = s; filed = subst IsFiled (sym same) (pruned_filed (filed m) k.filed) })
    where
      same : filed n ≡ pruned_chains time (filed m)
      same = ap from_sorted (is ∙ ap (pruned_entries time) (sym (entries-from_sorted compare_of m.entries (in_order compare_of m.entries k.ordered))))

pub prunes_unseen : PrunesUnseen
prunes_unseen = record {
  readings = λ s time t id le. ap (chain_at t) (chain_in_pruned (max s.floor time) s.chains id) ∙ chain_at_pruned (max s.floor time) t (chain_in s.chains id) le;
  now = λ s time id. ap newest (chain_in_pruned (max s.floor time) s.chains id) ∙ newest_pruned (max s.floor time) (chain_in s.chains id);
  up_to = λ s time t all id. subst (AllByRecursion (λ (v : Version). v.time ≤ t)) (sym (chain_in_pruned (max s.floor time) s.chains id)) (pruned_has (λ v. v.time ≤ t) (max s.floor time) (chain_in s.chains id) (all id));
}
