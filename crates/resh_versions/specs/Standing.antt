-- What stood at a time: each `_id` has its versions.
use Rattle.std.specs.Prelude.{◌≡◌, ◌≢◌, ◌≤◌, ℕ, max, Bool, true, cond, not, List, [], ◌∷◌, ◌++◌, map, filter, Option, Some, None, unwrap_or, is_some, IfSome, refl}
use Rattle.std.specs.BTreeMap.{BTreeMap, IsOrdered}
use Rattle.std.specs.Coded.{Coded, code_by, coded×, coded_list, coded_ℕ}
use Rattle.std.specs.FinMap.{FinMap, code, empty, entries, from_sorted, get, insert, remove}
use Rattle.std.specs.List.{AllByRecursion, filter_map, fold}
use Rattle.std.specs.Ordering.{is_lt}
use Rattle.resh_value.specs.Lookup.{id_of}
use Rattle.resh_value.specs.Order.{compare_of, is_same}
use Rattle.resh_value.specs.contracts.value.Value as value
use Rattle.resh_value.specs.declared.value.Value.{Value}
use Rattle.resh_versions.specs.contracts.version.Version as one_version
use Rattle.resh_versions.specs.declared.version.Version.{Version}
use Rattle.resh_versions.specs.Chains.{Chain, Document, IsStored, chain_at, chain_read, has_versions, newest, pruned_chain, version, without_newest}

abbrev pub Chains : Type 0
Chains = FinMap compare_of Chain

-- all chains by `_id`, and the time from which on readings are answered
pub record VersionsOf : Type 0 where
  pub chains : Chains
  pub floor : ℕ

-- versions are stored as the pair of their parts
abbrev pub versions_code : Coded VersionsOf
versions_code =
    code_by (Chains × ℕ) (coded× (code value.the_row.coded (coded_list one_version.the_row.coded)) coded_ℕ)
    (λ s. (s.chains, s.floor)) (λ p. record { chains = p.0; floor = p.1 }) (λ _. refl)

abbrev pub chain_in : Chains → Value → Chain
chain_in chains id = unwrap_or (get chains id) []

abbrev pub chain_of : VersionsOf → Value → Chain
chain_of versions id = chain_in versions.chains id

abbrev pub at : VersionsOf → ℕ → Value → Option Document
at versions time id = chain_at time (chain_of versions id)

abbrev pub now : VersionsOf → Value → Option Document
now versions id = newest (chain_of versions id)

abbrev pub is_above : Option Value → Value → Bool
is_above None id = true
is_above (Some after) id = is_lt (compare_of after id)

-- the chains whose `_id`s are above one, if one is given, by `_id`
abbrev pub chains_above : Option Value → List (Value × Chain) → List (Value × Chain)
chains_above after es = filter (λ e. is_above after e.0) es

-- the documents that chains have at a time, or now
abbrev pub documents_of : Option ℕ → List (Value × Chain) → List Document
documents_of time es = filter_map (λ e. chain_read time e.1) es

-- what an `_id` has at a time, or now where none is given
abbrev pub read : VersionsOf → Option ℕ → Value → Option Document
read versions time id = chain_read time (chain_of versions id)

-- the documents at a time, or now, whose `_id`s are above one, if one is given, by `_id`
abbrev pub read_after : VersionsOf → Option ℕ → Option Value → List Document
read_after versions time after = documents_of time (chains_above after (entries versions.chains))

-- the documents at a time above an `_id`
abbrev pub standing_after : VersionsOf → ℕ → Option Value → List Document
standing_after versions time after = read_after versions (Some time) after

-- the documents now above an `_id`
abbrev pub standing_now : VersionsOf → Option Value → List Document
standing_now versions after = read_after versions None after

-- the documents at a time up to an `_id`, by `_id`
abbrev pub standing_up_to : VersionsOf → ℕ → Value → List Document
standing_up_to versions time last =
    documents_of (Some time) (filter (λ e. not (is_above (Some last) e.0)) (entries versions.chains))

-- the documents at a time by `_id`
abbrev pub standing : VersionsOf → ℕ → List Document
standing versions time = standing_after versions time None

-- one more version of an `_id`
abbrev pub pushed : Chains → Value → Version → Chains
pushed chains id v = insert chains id (chain_in chains id ++ v ∷ [])

abbrev pub with_version : VersionsOf → Value → Version → VersionsOf
with_version versions id v = record { chains = pushed versions.chains id v; floor = versions.floor }

-- where a document stands under an `_id`, nothing does from a time on
abbrev pub with_removal : VersionsOf → ℕ → Value → VersionsOf
with_removal versions time id =
    let removed = pushed versions.chains id (version time None) in
    record versions { chains = cond (is_some (now versions id)) removed versions.chains }

-- a chain in the place of the one of an `_id`; no `_id` has a chain without versions
abbrev pub with_chain : Chains → Value → Chain → Chains
with_chain chains id [] = remove chains id
with_chain chains id (v ∷ vs) = insert chains id (v ∷ vs)

-- without the last version of an `_id`
abbrev pub popped : Chains → Value → Chains
popped chains id = with_chain chains id (without_newest (chain_in chains id))

abbrev pub without_last : VersionsOf → Value → VersionsOf
without_last versions id = record { chains = popped versions.chains id; floor = versions.floor }

abbrev pub pruned_entries : ℕ → List (Value × Chain) → List (Value × Chain)
pruned_entries time es = filter (λ e. has_versions e.1) (map (λ e. (e.0, pruned_chain time e.1)) es)

-- every chain pruned, and those without versions gone
abbrev pub pruned_chains : ℕ → Chains → Chains
pruned_chains time chains = from_sorted (pruned_entries time (entries chains))

-- readings are answered from a time on, or as before where that is later, and what none of them can give is gone
abbrev pub pruned : ℕ → VersionsOf → VersionsOf
pruned time versions =
    let floor = max versions.floor time in record { chains = pruned_chains floor versions.chains; floor = floor }

-- a document alone under its `_id`, from a time on
abbrev pub with_first : ℕ → Chains → Document → Chains
with_first time chains document = insert chains (id_of document) (version time (Some document) ∷ [])

-- documents alone, each under its `_id` from a time on, of several of one `_id` the last one; no earlier time is read
abbrev pub stored_from : ℕ → List Document → VersionsOf
stored_from time documents = record { chains = fold (with_first time) empty documents; floor = time }

-- the last one of an `_id` among documents
abbrev pub last_of : List Document → Value → Option Document
last_of documents id =
    fold (λ before document. cond (is_same id (id_of document)) (Some document) before) None documents

-- no version is later
abbrev pub IsUpTo : ℕ → VersionsOf → Type 0
IsUpTo time versions = (id : Value) → AllByRecursion (λ v. v.time ≤ time) (chain_of versions id)

-- a document that may stand under an `_id`: it can be stored, and has that `_id`
pub record StandsUnder (id : Value) (document : Document) : Type 0 where
  pub whole : IsStored document
  pub named : id_of document ≡ id

-- a chain of an `_id` has versions, and its documents may stand there
pub record IsChainOf (id : Value) (chain : Chain) : Type 0 where
  pub filled : chain ≢ []
  pub stand : AllByRecursion (λ v. IfSome v.document (StandsUnder id)) chain

-- each chain is one of its `_id`
abbrev pub IsFiled : Chains → Type 0
IsFiled chains = (id : Value) (chain : Chain) → get chains id ≡ Some chain → IsChainOf id chain

-- the chains that a map keeps
abbrev pub filed : BTreeMap Value Chain → Chains
filed m = from_sorted m.entries

-- a map keeps its chains by rising `_id`, each under its own
pub record IsKept (m : BTreeMap Value Chain) : Type 0 where
  pub ordered : IsOrdered compare_of m
  pub filed : IsFiled (filed m)
