-- A write that is a shard's own, and what the two documents of a change keep.
use Rattle.std.proofs.Common.{◌≡◌, ◌&&◌, Bool, true, false, not, List, [], ◌∷◌, codes, refl, sym, ap, subst, ◌∙◌}
use Rattle.std.specs.List.{list_all, list_any}
use Rattle.resh_value.specs.Change.{is_named}
use Rattle.resh_value.specs.Lookup.{field_of}
use Rattle.resh_value.specs.Whole.{IsWhole}
use Rattle.resh_value.proofs.WholeLaws.{rising_decides}
use Rattle.resh_chunks.specs.Chunks.{Chunks}
use Rattle.resh_ops.specs.Changes.{assigned, unset}
use Rattle.resh_ops.proofs.Differences.{HasRisingNames-assigned, unnamed}
use Rattle.resh_rules.specs.Laws.{NamesOthers}
use Rattle.resh_shard.specs.Decisions.{names_key, names_one}
use Rattle.resh_shard.specs.Differences.{change_between}
use Rattle.resh_shard.specs.Shards.{Shard}
use Rattle.resh_shard.specs.declared.act.Write.TheVariants.{Turns}
use Rattle.resh_shard.proofs.Turned.{leads_to, neither, same_owner}
use Rattle.resh_story.specs.Writing.{IsWriteAt, MayReplace}
use Rattle.resh_versions.specs.Chains.{Document}

-- a name that none of some is, is not each of them
none_of : {X : Type 0} (p : X → Bool) (xs : List X) → list_any p xs ≡ false → list_all (λ x. not (p x)) xs ≡ true
none_of p [] off = refl
none_of p (x ∷ xs) off =
    let parts = neither (p x) (list_any p xs) off in
    ap (λ b. not b && list_all (λ y. not (p y)) xs) parts.0 ∙ none_of p xs parts.1

module _ (shard : Shard) (d e : Document) (is : MayReplace shard d e) (was : IsWhole d) (now : IsWhole e) (off : names_key shard (change_between d e) ≡ false) where
  keys : (names_one shard.old_map.pattern (change_between d e) ≡ false) × (names_one shard.new_map.pattern (change_between d e) ≡ false)
  keys = neither (names_one shard.old_map.pattern (change_between d e)) (names_one shard.new_map.pattern (change_between d e)) off

  -- the change is one of what the shard holds
  pub turns_at : IsWriteAt shard (Turns d (change_between d e) e)
  turns_at = (
    is,
    sym (leads_to d e was.rising now.rising),
    same_owner d e was.rising now.rising shard.new_map keys.1,
    (rising_decides (assigned d e)).1 (HasRisingNames-assigned d e was.rising now.rising),
  )

  -- it names neither `_id` nor a field of the old key
  pub names_others : (old : Chunks) → shard.old_map ≡ old → field_of e (codes "_id") ≡ field_of d (codes "_id") → NamesOthers old (assigned d e) (unset d e)
  names_others old of same = record {
    id = unnamed d e (assigned d e) (unset d e) refl refl was.rising now.rising (codes "_id") same;
    key = subst (λ m. list_all (λ name. not (is_named (assigned d e) (unset d e) name)) m.pattern ≡ true) of
        (none_of (λ name. is_named (assigned d e) (unset d e) name) shard.old_map.pattern keys.0);
  }
