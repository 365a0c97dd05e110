-- What a map of chains files under each `_id`, and what it files after a write.
use Rattle.std.proofs.Common.{◌≡◌, ◌≢◌, ℕ, Bool, true, false, cond, [], ◌∷◌, ◌++◌, Option, Some, None, Bor, unwrap_or, is_some, IfSome, IsSome, refl, sym, ap, ◌∙◌, subst}
use Rattle.std.proofs.lemmas.Map.Views.{tells_apart}
use Rattle.std.specs.BTreeMap as tree
use Rattle.std.specs.BTreeMap.{BTreeMap, IsOrdered, Updates, WritesThrough, is_at}
use Rattle.std.specs.Cmp.{eq_by_cmp_equiv}
use Rattle.std.specs.FinMap.{empty, entries, entries-from_sorted, get, get-empty, insert, remove, from_sorted, get-from_sorted, get-insert, get-remove, same_map}
use Rattle.std.specs.List.{AllByRecursion}
use Rattle.std.specs.List.Sorted.{IsStrictlySortedBy}
use Rattle.std.specs.Map.{lookup, keys_of}
use Rattle.std.specs.Option.{option_copied}
use Rattle.std.specs.Ordering.{eq_by_cmp}
use Rattle.resh_value.specs.Lookup.{id_of}
use Rattle.resh_value.specs.Order.{compare_of}
use Rattle.resh_value.specs.OrderLaws.{compare_total, compare_same}
use Rattle.resh_value.proofs.MapEntries.{find_lookup, in_order}
use Rattle.resh_value.specs.declared.value.Value.{Value}
use Rattle.resh_versions.specs.Chains.{Chain, Document, IsStored, has_versions, newest, version, without_newest}
use Rattle.resh_versions.proofs.ChainLaws.{pushed_has, taken_has}
use Rattle.resh_versions.specs.Standing.{Chains, IsChainOf, IsFiled, IsKept, StandsUnder, chain_in, filed, pushed, popped, with_chain, with_first}
use Rattle.resh_versions.specs.declared.version.Version.{Version}

abbrev pub Tree : Type 0
Tree = BTreeMap Value Chain

abbrev pub found : Tree → Value → Option Chain
found m id = tree.get compare_of m id

-- what the map finds is what it files
pub get_filed : (m : Tree) (id : Value) → IsOrdered compare_of m → get (filed m) id ≡ found m id
get_filed m id s = get-from_sorted compare_of m.entries id (in_order compare_of m.entries s) ∙ find_lookup compare_of id m.entries

pub chain_in_filed : (m : Tree) (id : Value) (chain : Option Chain) → IsOrdered compare_of m → found m id ≡ chain → chain_in (filed m) id ≡ unwrap_or chain []
chain_in_filed m id chain s is = ap (λ r. unwrap_or r []) (get_filed m id s ∙ is)

pub same_chains : (a b : Chains) → ((id : Value) → get a id ≡ get b id) → a ≡ b
same_chains a b is = same_map compare_total compare_same a b is

filed_by : (m : Tree) (chains : Chains) → IsOrdered compare_of m → ((id : Value) → found m id ≡ get chains id) → filed m ≡ chains
filed_by m chains s is = same_chains _ _ (λ id. get_filed m id s ∙ is id)

abbrev pub AreChains : (Value → Option Chain) → Type 0
AreChains f = (id : Value) (chain : Chain) → f id ≡ Some chain → IsChainOf id chain

pub kept_by : (m : Tree) → IsOrdered compare_of m → AreChains (found m) → IsKept m
kept_by m s are = record { ordered = s; filed = λ id chain is. are id chain (sym (get_filed m id s) ∙ is) }

found_are : (m : Tree) → IsKept m → AreChains (found m)
found_are m k id chain is = k.filed id chain (get_filed m id k.ordered ∙ is)

pub turned : (id q : Value) → is_at (compare_of id) q ≡ eq_by_cmp compare_of q id
turned id q = (eq_by_cmp_equiv compare_total).symm id q

abbrev pub SetsAt : Value → Option Chain → (Value → Option Chain) → (Value → Option Chain) → Type 0
SetsAt id w f g = (q : Value) → g q ≡ cond (is_at (compare_of id) q) w (f q)

pub are_after : (id : Value) (w : Option Chain) (f g : Value → Option Chain) → SetsAt id w f g → AreChains f → ((chain : Chain) → w ≡ Some chain → IsChainOf id chain) → AreChains g
are_after id w f g sets are new q chain is = by (is_at (compare_of id) q) refl
  where
    by : (b : Bool) → is_at (compare_of id) q ≡ b → IsChainOf q chain
    by true e = subst (λ k. IsChainOf k chain) (tells_apart compare_same id q e) (new chain (sym (sets q ∙ ap (λ t. cond t w (f q)) e) ∙ is))
    by false e = are q chain (sym (sets q ∙ ap (λ t. cond t w (f q)) e) ∙ is)

-- the map with a chain written, in the place of what stood there or new
pub written : (m n : Tree) (id : Value) (chain : Chain) → IsKept m → IsOrdered compare_of n → SetsAt id (Some chain) (found m) (found n) → IsChainOf id chain → (filed n ≡ insert (filed m) id chain) × IsKept n
written m n id chain k s sets is = (
  filed_by n _ s (λ q. sets q ∙ (λ i. cond (turned id q i) (Some chain) (sym (get_filed m q k.ordered) i)) ∙ sym (get-insert compare_total (filed m) id chain q)),
  kept_by n s (are_after id (Some chain) (found m) (found n) sets (found_are m k) (λ c e. subst (IsChainOf id) (ap (λ r. unwrap_or r chain) e) is)),
)

-- the map with the chain of an `_id` taken out
pub taken : (m n : Tree) (id : Value) → IsKept m → IsOrdered compare_of n → SetsAt id None (found m) (found n) → (filed n ≡ remove (filed m) id) × IsKept n
taken m n id k s sets = (
  filed_by n _ s (λ q. sets q ∙ (λ i. cond (turned id q i) None (sym (get_filed m q k.ordered) i)) ∙ sym (get-remove compare_total (filed m) id q)),
  kept_by n s (are_after id None (found m) (found n) sets (found_are m k) (λ c e. cc)),
)

-- the entries of the map are those of what it files
pub kept_entries : (m : Tree) (chains : Chains) → IsKept m → filed m ≡ chains → m.entries ≡ entries chains
kept_entries m chains k is = sym (entries-from_sorted compare_of m.entries (in_order compare_of m.entries k.ordered)) ∙ ap entries is

-- the map with the same entries
pub same_entries : (m n : Tree) → IsKept m → n.entries ≡ m.entries → (filed n ≡ filed m) × IsKept n
same_entries m n k is = (ap from_sorted is, kept_by n (subst (λ es. IsStrictlySortedBy compare_of (keys_of es)) (sym is) k.ordered) (λ id chain e. found_are m k id chain (sym (ap (lookup (is_at (compare_of id))) is) ∙ e)))

-- what a chain with one more version has
pub longer : (id : Value) (chain : Chain) (v : Version) → AllByRecursion (λ w. IfSome w.document (StandsUnder id)) chain → IfSome v.document (StandsUnder id) → IsChainOf id (chain ++ v ∷ [])
longer id chain v named new = record { filled = never chain; stand = pushed_has (StandsUnder id) chain v named new }
  where
    never : (c : Chain) → c ++ v ∷ [] ≢ []
    never [] e = cc
    never (w ∷ ws) e = cc

-- the map after a version was put behind those of an `_id`, or was its first
module _ (m n : Tree) (id : Value) (v : Version) (k : IsKept m) (named : IfSome v.document (StandsUnder id)) where
  pub pushed_found : (chain left : Chain) → Some chain ≡ found m id → left ≡ chain ++ v ∷ [] → WritesThrough compare_of (compare_of id) m left n → (filed n ≡ pushed (filed m) id v) × IsKept n
  pushed_found chain left is e w =
      let r = written m n id left k w.4 (w.3 (some chain (sym is))).0 (subst (IsChainOf id) (sym e) (longer id chain v (found_are m k id chain (sym is)).stand named)) in
      (r.0 ∙ ap (insert (filed m) id) (e ∙ ap (λ c. c ++ v ∷ []) (sym (chain_in_filed m id (Some chain) k.ordered (sym is)))), r.1)
    where
      some : (c : Chain) → found m id ≡ Some c → IsSome (found m id)
      some c e = subst IsSome (sym e) refl

  pub pushed_new : (first : Chain) (o : Tree) → None ≡ found m id → first ≡ v ∷ [] → o ≡ m → IsOrdered compare_of n → Updates compare_of o n id (Some first) → (filed n ≡ pushed (filed m) id v) × IsKept n
  pushed_new first o is e same s u =
      let r = written m n id first k s (subst (λ t. SetsAt id (Some first) (found t) (found n)) same u.0) (subst (IsChainOf id) (sym e) (longer id [] v tt named)) in
      (r.0 ∙ ap (insert (filed m) id) (e ∙ ap (λ c. c ++ v ∷ []) (sym (chain_in_filed m id None k.ordered (sym is)))), r.1)

-- where the map finds nothing, nothing stands
pub none_stands : (m : Tree) (id : Value) → IsKept m → None ≡ found m id → is_some (newest (chain_in (filed m) id)) ≡ true → ⊥
none_stands m id k is some = let never : false ≡ true = sym (ap (λ c. is_some (newest c)) (chain_in_filed m id None k.ordered (sym is))) ∙ some in cc

-- the map after the last version of an `_id` was taken out
module _ (m n : Tree) (id : Value) (chain left : Chain) (k : IsKept m) (is : Some chain ≡ found m id) (shorter : left ≡ without_newest chain) (w : WritesThrough compare_of (compare_of id) m left n) where
  some : IsSome (found m id)
  some = subst IsSome is refl

  with_left : popped (filed m) id ≡ with_chain (filed m) id left
  with_left = ap (λ c. with_chain (filed m) id (without_newest c)) (chain_in_filed m id (Some chain) k.ordered (sym is)) ∙ ap (with_chain (filed m) id) (sym shorter)

  left_named : AllByRecursion (λ v. IfSome v.document (StandsUnder id)) left
  left_named = subst (AllByRecursion (λ (v : Version). IfSome v.document (StandsUnder id))) (sym shorter) (taken_has (StandsUnder id) _ chain (found_are m k id chain (sym is)).stand)

  pub popped_shorter : has_versions left ≡ true → (filed n ≡ popped (filed m) id) × IsKept n
  popped_shorter filled =
      let r = written m n id left k w.4 (w.3 some).0 (record { filled = never left filled; stand = left_named }) in
      (r.0 ∙ sym (with_left ∙ by left filled), r.1)
    where
      never : (c : Chain) → has_versions c ≡ true → c ≢ []
      never [] has e = cc
      never (v ∷ vs) has e = cc

      by : (c : Chain) → has_versions c ≡ true → with_chain (filed m) id c ≡ insert (filed m) id c
      by [] has = cc
      by (v ∷ vs) has = refl

  pub popped_gone : (o : Tree) → has_versions left ≡ false → IsOrdered compare_of o → SetsAt id None (found n) (found o) → (filed o ≡ popped (filed m) id) × IsKept o
  popped_gone o none s sets =
      let r = taken m o id k s (λ q. sets q ∙ ap (cond (is_at (compare_of id) q) None) ((w.3 some).0 q) ∙ twice (is_at (compare_of id) q) (found m q)) in
      (r.0 ∙ sym (with_left ∙ ap (with_chain (filed m) id) (gone left none)), r.1)
    where
      gone : (c : Chain) → has_versions c ≡ false → c ≡ []
      gone [] e = refl
      gone (v ∷ vs) e = cc

      twice : (b : Bool) (r : Option Chain) → cond b None (cond b (Some left) r) ≡ cond b None r
      twice true r = refl
      twice false r = refl

pub popped_none : (m : Tree) (id : Value) → IsKept m → None ≡ found m id → filed m ≡ popped (filed m) id
popped_none m id k is =
    same_chains _ _ (λ q. by q (eq_by_cmp compare_of q id) refl ∙ sym (get-remove compare_total (filed m) id q)) ∙ sym (ap (λ c. with_chain (filed m) id (without_newest c)) (chain_in_filed m id None k.ordered (sym is)))
  where
    by : (q : Value) (b : Bool) → eq_by_cmp compare_of q id ≡ b → get (filed m) q ≡ cond (eq_by_cmp compare_of q id) None (get (filed m) q)
    by q true e = ap (get (filed m)) (sym (tells_apart compare_same id q (turned id q ∙ e))) ∙ get_filed m id k.ordered ∙ sym is ∙ sym (ap (λ b. cond b None (get (filed m) q)) e)
    by q false e = sym (ap (λ b. cond b None (get (filed m) q)) e)

-- a map without entries keeps no chain
pub kept_none : (m : Tree) → IsOrdered compare_of m → m.entries ≡ [] → (filed m ≡ empty) × IsKept m
kept_none m s none = (
  filed_by m empty s (λ id. nothing id ∙ sym (get-empty compare_of id)),
  kept_by m s (λ id chain e. absurd (not_some chain (sym (nothing id) ∙ e))),
)
  where
    nothing : (id : Value) → found m id ≡ None
    nothing id = ap (lookup (is_at (compare_of id))) none

    not_some : (chain : Chain) → None ≡ Some chain → ⊥
    not_some chain e = cc

-- the documents of a chain of an `_id` may stand under it
pub chain_stands : (chains : Chains) (id : Value) → IsFiled chains → AllByRecursion (λ v. IfSome v.document (StandsUnder id)) (chain_in chains id)
chain_stands chains id are = by (get chains id) refl
  where
    by : (r : Option Chain) → get chains id ≡ r → AllByRecursion (λ v. IfSome v.document (StandsUnder id)) (unwrap_or r [])
    by None e = tt
    by (Some chain) e = (are id chain e).stand

pub found_chain : (m : Tree) (id : Value) → IsKept m → (r : Option (Bor Chain)) → option_copied r ≡ found m id → IfSome r (λ chain. IsChainOf id chain.now)
found_chain m id k None is = tt
found_chain m id k (Some chain) is = found_are m k id chain.now (sym is)

-- the documents of a chain of an `_id` have it
pub chain_named : (chains : Chains) (id : Value) → IsFiled chains → AllByRecursion (λ v. IfSome v.document (λ d. id_of d ≡ id)) (chain_in chains id)
chain_named chains id are = all_named (chain_in chains id) (chain_stands chains id are)
  where
    one : (d : Option Document) → IfSome d (StandsUnder id) → IfSome d (λ x. id_of x ≡ id)
    one None h = tt
    one (Some d) h = h.named

    all_named : (c : Chain) → AllByRecursion (λ v. IfSome v.document (StandsUnder id)) c → AllByRecursion (λ v. IfSome v.document (λ d. id_of d ≡ id)) c
    all_named [] all = tt
    all_named (v ∷ vs) all = (one v.document all.0, all_named vs all.1)

-- a document from a time on, in the place of what an `_id` had
pub stored_first : (m n : Tree) (time : ℕ) (id : Value) (d : Document) (chain : Chain) → IsKept m → IsOrdered compare_of n → SetsAt id (Some chain) (found m) (found n) → chain ≡ version time (Some d) ∷ [] → id ≡ id_of d → IsStored d
    → (filed n ≡ with_first time (filed m) d) × IsKept n
stored_first m n time id d chain k s sets is named whole =
    let alone : IsChainOf id chain = subst (IsChainOf id) (sym is) (longer id [] (version time (Some d)) tt (record { whole = whole; named = sym named })) in
    let r = written m n id chain k s sets alone in
    (r.0 ∙ (λ i. insert (filed m) (named i) (is i)), r.1)
