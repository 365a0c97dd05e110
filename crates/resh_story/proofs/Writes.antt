-- What is done, taken in and taken out is a write of what a shard holds; what such a write is of, and when it is seen.
use Rattle.std.proofs.Common.{◌≡◌, ◌≤◌, ◌<◌, ◌==◌, inl, inr, ℕ, Bool, true, false, cond, Option, Some, None, is_some, IfSome, refl, sym, ap, subst, ◌∙◌, arith}
use Rattle.std.specs.Ordering.{is_eq}
use Rattle.resh_value.specs.Lookup.{id_of}
use Rattle.resh_value.specs.Order.{compare_documents}
use Rattle.resh_value.specs.Whole.{IsWhole, is_whole}
use Rattle.resh_value.specs.declared.value.Value.{Value}
use Rattle.resh_value.proofs.WholeLaws.{rising_decides, whole_decides}
use Rattle.resh_ops.specs.Changes.{assigned}
use Rattle.resh_ops.proofs.Differences.{HasRisingNames-assigned}
use Rattle.resh_stamp.specs.declared.stamp.Stamp.{Stamp}
use Rattle.resh_command.specs.declared.reply.Reply.TheVariants.{Matched}
use Rattle.resh_versions.specs.Chains.{Document, version}
use Rattle.resh_versions.specs.Standing.{IsFiled, IsUpTo, StandsUnder, VersionsOf, at, chain_of, now}
use Rattle.resh_versions.specs.declared.version.Version.{Version}
use Rattle.resh_versions.proofs.WriteLaws.{adds_version, removes_one}
use Rattle.resh_bag.specs.Answer.{Doing, adds, replaces, removes, says}
use Rattle.resh_shard.specs.Decisions.{decided_turn, done, done_by, names_key, names_one, turned}
use Rattle.resh_shard.specs.Differences.{change_between}
use Rattle.resh_shard.specs.Shards.{Shard, taken_in, taken_out, taken_out_at, wrote}
use Rattle.resh_shard.specs.Writes.{shard_id, written}
use Rattle.resh_shard.specs.declared.act.Decision.TheVariants.{Writes, Leaves, Says}
use Rattle.resh_shard.specs.declared.act.Write.{Write}
use Rattle.resh_shard.specs.declared.act.Write.TheVariants.{Puts, Takes, Turns, Rekeys}
use Rattle.resh_shard.proofs.Effects.{IsWriteOf, after, before}
use Rattle.resh_shard.proofs.Held.{stands_named, stands_whole}
use Rattle.resh_shard.proofs.Turned.{leads_to, neither, same_owner}
use Rattle.resh_story.specs.Laws.{WritesOnce}
use Rattle.resh_story.specs.Writing.{IsDoingAt, IsWriteAt, MayReplace, MayWrite}
use Rattle.resh_story.proofs.Entries.{all_weaker}

-- the `_id` of a write
abbrev pub id_in : Write → Value
id_in (Puts d) = id_of d
id_in (Takes d) = id_of d
id_in (Turns d change e) = id_of d
id_in (Rekeys d e) = id_of d

module _ (shard : Shard) where
  pub write_of : (w : Write) → IsWriteAt shard w → IsWriteOf shard.new_map (id_in w) w
  write_of (Puts d) is = refl
  write_of (Takes d) is = refl
  write_of (Turns d change e) is = (refl, is.0.2, is.1, is.2)
  write_of (Rekeys d e) is = (refl, is.2)

  pub write_was : (w : Write) → IsWriteAt shard w → now shard.versions (id_in w) ≡ before w
  write_was (Puts d) is = is.1
  write_was (Takes d) is = is
  write_was (Turns d change e) is = is.0.0
  write_was (Rekeys d e) is = is.0

  pub write_stands : (w : Write) → IsWriteAt shard w → IfSome (after w) (StandsUnder (id_in w))
  write_stands (Puts d) is = record { whole = is.0; named = refl }
  write_stands (Takes d) is = tt
  write_stands (Turns d change e) is = record { whole = is.0.1; named = is.0.2 }
  write_stands (Rekeys d e) is = record { whole = is.1; named = is.2 }

-- the versions after a write
module _ (v : VersionsOf) (time : ℕ) where
  -- seen from an earlier time
  pub unseen_before : (w : Write) (t : ℕ) (q : Value) → t < time → at (written v time w) t q ≡ at v t q
  unseen_before (Puts d) t q lt = adds_version.before v (id_of d) q (version time (Some d)) t lt
  unseen_before (Takes d) t q lt = removes_one.before v time t (id_of d) q lt
  unseen_before (Turns d change e) t q lt = adds_version.before v (id_of e) q (version time (Some e)) t lt
  unseen_before (Rekeys d e) t q lt = adds_version.before v (id_of e) q (version time (Some e)) t lt

  pub same_floor : (w : Write) → (written v time w).floor ≡ v.floor
  same_floor (Puts d) = refl
  same_floor (Takes d) = refl
  same_floor (Turns d change e) = refl
  same_floor (Rekeys d e) = refl

  up_to_then : (clock : ℕ) → IsUpTo clock v → clock ≤ time → IsUpTo time v
  up_to_then clock up le q =
      all_weaker (λ (x : Version). x.time ≤ clock) (λ (x : Version). x.time ≤ time) (λ x h. omega (arith, h, le)) (chain_of v q) (up q)

  pub written_up_to : (clock : ℕ) → IsUpTo clock v → clock ≤ time → (w : Write) → IsUpTo time (written v time w)
  written_up_to clock up le (Puts d) = adds_version.up_to v (id_of d) (version time (Some d)) time (up_to_then clock up le) (omega arith)
  written_up_to clock up le (Takes d) = removes_one.up_to v time time (id_of d) (up_to_then clock up le) (omega arith)
  written_up_to clock up le (Turns d change e) = adds_version.up_to v (id_of e) (version time (Some e)) time (up_to_then clock up le) (omega arith)
  written_up_to clock up le (Rekeys d e) = adds_version.up_to v (id_of e) (version time (Some e)) time (up_to_then clock up le) (omega arith)

-- what is done of a command
module _ (stamp : Stamp) (shard : Shard) (filed : IsFiled shard.versions.chains) where
  as_write : (w : Write) → IsWriteAt shard w → MayWrite stamp shard (wrote stamp 0 w shard)
  as_write w is = inr (0, w, omega arith, is, refl)

  turned_is : (d e : Document) → MayReplace shard d e → IsWriteAt shard (turned shard d e)
  turned_is d e is = by (names_key shard (change_between d e)) refl
    where
      by : (b : Bool) → names_key shard (change_between d e) ≡ b
          → IsWriteAt shard (cond (names_key shard (change_between d e)) (Rekeys d e) (Turns d (change_between d e) e))
      by true k = subst (λ b. IsWriteAt shard (cond b (Rekeys d e) (Turns d (change_between d e) e))) (sym k) is
      by false k =
          let rises : IsWhole d = (whole_decides d).0 (stands_whole shard.versions filed (id_of d) d is.0) in
          let rises_too : IsWhole e = (whole_decides e).0 is.1 in
          let parts = neither (names_one shard.old_map.pattern (change_between d e)) (names_one shard.new_map.pattern (change_between d e)) k in
          subst (λ b. IsWriteAt shard (cond b (Rekeys d e) (Turns d (change_between d e) e))) (sym k) (
            is,
            sym (leads_to d e rises.rising rises_too.rising),
            same_owner d e rises.rising rises_too.rising shard.new_map parts.1,
            (rising_decides (assigned d e)).1 (HasRisingNames-assigned d e rises.rising rises_too.rising),
          )

  turn_does : (d e : Document) → MayReplace shard d e → MayWrite stamp shard (done_by stamp (decided_turn shard d e) shard)
  turn_does d e is = by (is_eq (compare_documents d e))
    where
      by : (b : Bool) → MayWrite stamp shard (done_by stamp (cond b (Says (Matched false)) (Writes (turned shard d e) (Matched true))) shard)
      by true = inl refl
      by false = as_write (turned shard d e) (turned_is d e is)

  pub does : (doing : Doing) → IsDoingAt shard doing → MayWrite stamp shard (done stamp doing shard)
  does (adds n d) is = as_write (Puts d) is
  does (removes n d) is = as_write (Takes d) is
  does (says reply) is = inl refl
  does (replaces n d t e) is = by (t == n)
    where
      by : (b : Bool) → MayWrite stamp shard (done_by stamp (cond b (decided_turn shard d e) (Leaves (shard_id t) e)) shard)
      by true = turn_does d e is
      by false = inl refl

  pub takes_out : (id : Value) → MayWrite stamp shard (taken_out stamp id shard)
  takes_out id = by (now shard.versions id) refl
    where
      by : (o : Option Document) → now shard.versions id ≡ o → MayWrite stamp shard (taken_out_at stamp o shard)
      by None e = inl refl
      by (Some d) e = as_write (Takes d) (ap (now shard.versions) (stands_named shard.versions filed id d e) ∙ e)

pub takes_in : (stamp : Stamp) (d : Document) (shard : Shard) → is_whole d ≡ true → MayWrite stamp shard (taken_in stamp d shard)
takes_in stamp d shard whole = by (now shard.versions (id_of d)) refl
  where
    by : (o : Option Document) → now shard.versions (id_of d) ≡ o → MayWrite stamp shard (cond (is_some o) shard (wrote stamp 1 (Puts d) shard))
    by (Some e) found = inl refl
    by None free = inr (1, Puts d, omega arith, (whole, free), refl)

pub writes_once : WritesOnce
writes_once = record {
  does = λ stamp doing shard filed is. does stamp shard filed doing is;
  takes_in = λ stamp d shard whole. takes_in stamp d shard whole;
  takes_out = λ stamp id shard filed. takes_out stamp shard filed id;
}
