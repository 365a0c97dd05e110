-- A change between two documents leads from the one to the other, and one that names no field of a key keeps the owner.
use Rattle.std.proofs.Common.{◌≡◌, ℕ, Bool, true, false, ◌||◌, List, [], ◌∷◌, Option, Some, None, is_some, unwrap_or, refl, sym, ap, ◌∙◌}
use Rattle.resh_value.specs.Change.{changed, changed_value, is_among, is_named}
use Rattle.resh_value.specs.Lookup.{field_of, value_under}
use Rattle.resh_value.specs.Names.{HasRisingNames}
use Rattle.resh_value.specs.declared.value.Value.{Value}
use Rattle.resh_value.specs.declared.value.Value.TheVariants.{Null}
use Rattle.resh_value.proofs.ChangeLaws.{field_of-changed}
use Rattle.resh_chunks.specs.Chunks.{Chunks, owner, owner_of}
use Rattle.resh_chunks.specs.Pattern.{key_of}
use Rattle.resh_ops.specs.Changes.{assigned, unset}
use Rattle.resh_versions.specs.Chains.{Document}
use Rattle.resh_shard.specs.Decisions.{names_one}
use Rattle.resh_shard.specs.Differences.{change_between}
use Rattle.resh_ops.proofs.Differences.{HasRisingNames-assigned, leads_on}

pub neither : (a b : Bool) → (a || b) ≡ false → (a ≡ false) × (b ≡ false)
neither false b h = (refl, h)
neither true b h = cc

module _ (d e : Document) (s : HasRisingNames d) (t : HasRisingNames e) where
  pub leads_to : changed (assigned d e) (unset d e) d ≡ e
  leads_to = (leads_on d e s t).made

  same_under : (q : List ℕ) → is_named (assigned d e) (unset d e) q ≡ false → field_of e q ≡ field_of d q
  same_under q off =
      let parts = neither (is_some (field_of (assigned d e) q)) (is_among (unset d e) q) off in
      ap (λ x. field_of x q) (sym leads_to) ∙ field_of-changed (assigned d e) (unset d e) d q (HasRisingNames-assigned d e s t) s
      ∙ ap (λ b. changed_value (field_of (assigned d e) q) b (field_of d q)) parts.1 ∙ by (field_of (assigned d e) q) parts.0
    where
      by : (o : Option Value) → is_some o ≡ false → changed_value o false (field_of d q) ≡ field_of d q
      by None h = refl
      by (Some v) h = cc

  same_key : (pattern : List (List ℕ)) → names_one pattern (change_between d e) ≡ false → key_of pattern e ≡ key_of pattern d
  same_key [] off = refl
  same_key (name ∷ names) off =
      let parts = neither (is_named (assigned d e) (unset d e) name) (names_one names (change_between d e)) off in
      let first : value_under e name ≡ value_under d name = ap (λ o. unwrap_or o Null) (same_under name parts.0) in
      let rest = same_key names parts.1 in
      λ i. first i ∷ rest i

  pub same_owner : (chunks : Chunks) → names_one chunks.pattern (change_between d e) ≡ false → owner_of chunks e ≡ owner_of chunks d
  same_owner chunks off = ap (owner chunks) (same_key chunks.pattern off)
