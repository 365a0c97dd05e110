-- What a shard has of its documents once readings of earlier times are given up.
use Rattle.std.proofs.Common.{◌≡◌, ◌⊎◌, inl, inr, ℕ, max, Bool, true, false, cond, not, ◌&&◌, List, [], ◌∷◌, filter, Option, Some, None, refl, sym, ap, subst, ◌∙◌}
use Rattle.std.specs.List.{AllByRecursion, Contains, list_any}
use Rattle.std.specs.Prelude.{is_some}
use Rattle.resh_value.specs.Lookup.{id_of}
use Rattle.resh_value.specs.declared.value.Value.{Value}
use Rattle.resh_chunks.specs.Chunks.{Chunks}
use Rattle.resh_oplog.specs.declared.entry.Entry.{Entry}
use Rattle.resh_oplog.specs.declared.entry.What.TheVariants.{Insert}
use Rattle.resh_place.proofs.Lists.{no_member}
use Rattle.resh_versions.specs.Chains.{Chain, Document, chain_at, is_by, newest, pruned_chain}
use Rattle.resh_versions.specs.Standing.{VersionsOf, IsFiled, at, chain_of, pruned, standing}
use Rattle.resh_versions.specs.declared.version.Version.{Version}
use Rattle.resh_versions.proofs.Listing.{first_or_later, first_there, later_there, stands_by_reading}
use Rattle.resh_versions.proofs.Pruning.{chain_in_pruned, pruned_filed}
use Rattle.resh_invariant.specs.Items.{HasItems, IsItemOf}

-- a reading of a pruned chain is that of the chain, or nothing
abbrev Unless : Option Document → Option Document → Type 0
Unless now before = (now ≡ None) ⊎ (now ≡ before)

behind : (v : Version) (o : Option Document) (chain : Chain) → o ≡ newest chain → Unless o (newest (v ∷ chain))
behind v o [] e = inl e
behind v o (w ∷ ws) e = inr e

reads_one : (t : ℕ) (v : Version) (vs : Chain) (o : Option Document) → Unless o (chain_at t vs) → Unless o (chain_at t (v ∷ vs))
reads_one t v vs o (inl none) = inl none
reads_one t v vs o (inr same) = by (is_by t v)
  where
    by : (b : Bool) → Unless o (newest (cond b (v ∷ filter (is_by t) vs) (filter (is_by t) vs)))
    by true = behind v o (filter (is_by t) vs) same
    by false = inr same

reads_pruned : (time t : ℕ) (chain : Chain) → Unless (chain_at t (pruned_chain time chain)) (chain_at t chain)
reads_pruned time t [] = inr refl
reads_pruned time t (v ∷ vs) = by (list_any (is_by time) vs) (is_by time v && not (is_some v.document)) (reads_pruned time t vs)
  where
    by : (a b : Bool) → Unless (chain_at t (pruned_chain time vs)) (chain_at t vs)
        → Unless (chain_at t (cond a (pruned_chain time vs) (cond b vs (v ∷ vs)))) (chain_at t (v ∷ vs))
    by true b rest = reads_one t v vs (chain_at t (pruned_chain time vs)) rest
    by false true rest = reads_one t v vs (chain_at t vs) (inr refl)
    by false false rest = inr refl

all_there : {X : Type 0} (P : X → Type 0) (xs : List X) → ((x : X) → Contains xs x → P x) → AllByRecursion P xs
all_there P [] each = tt
all_there P (x ∷ xs) each = (each x (first_there x xs), all_there P xs (λ y there. each y (later_there x xs y there)))

one_of : {X : Type 0} (P : X → Type 0) (xs : List X) → AllByRecursion P xs → (x : X) → Contains xs x → P x
one_of P [] all x there = absurd (no_member x there)
one_of P (y ∷ ys) all x there = by (first_or_later y ys x there) (one_of P ys all.1 x)
  where
    by : (y ≡ x) ⊎ Contains ys x → (Contains ys x → P x) → P x
    by (inl same) rest = subst P same all.0
    by (inr later) rest = rest later

-- all that it still has are items as before
pub pruned_items : (old : Chunks) (donor time : ℕ) (versions : VersionsOf) (log : List Entry) → IsFiled versions.chains
    → HasItems old donor versions log → HasItems old donor (pruned time versions) log
pruned_items old donor time versions log filed items = record {
  documents = λ t. all_there (λ d. IsItemOf old donor (Insert d)) (standing (pruned time versions) t) (λ d there. here t d
      (stands_by_reading.read (pruned time versions) t None d (pruned_filed (max versions.floor time) versions.chains filed) there).0
      (subst (λ c. Unless (chain_at t c) (at versions t (id_of d))) (sym (chain_in_pruned (max versions.floor time) versions.chains (id_of d)))
      (reads_pruned (max versions.floor time) t (chain_of versions (id_of d)))));
  entries = items.entries;
}
  where
    nothing_is : (d : Document) → None ≡ Some d → ⊥
    nothing_is d e = cc

    here : (t : ℕ) (d : Document) → at (pruned time versions) t (id_of d) ≡ Some d → Unless (at (pruned time versions) t (id_of d)) (at versions t (id_of d))
        → IsItemOf old donor (Insert d)
    here t d is (inl none) = absurd (nothing_is d (sym none ∙ is))
    here t d is (inr same) = one_of (λ d. IsItemOf old donor (Insert d)) (standing versions t) (items.documents t) d
        (stands_by_reading.listed versions t None (id_of d) d (sym same ∙ is) refl)
