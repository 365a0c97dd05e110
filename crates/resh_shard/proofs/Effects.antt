-- What a write leaves of what stands, and what its contents in the log make of a slot.
use Rattle.std.proofs.Common.{◌≡◌, ◌≢◌, ◌⊎◌, inl, inr, ℕ, Bool, true, false, cond, [], ◌∷◌, map, Option, Some, None, option_map, IfSome, refl, sym, ap, subst, ◌∙◌, Less, Equal, Greater}
use Rattle.std.specs.Ordering.{is_eq}
use Rattle.std.specs.declared.cmp.Ordering.{Ordering}
use Rattle.resh_value.specs.Change.{changed}
use Rattle.resh_value.specs.Lookup.{id_of}
use Rattle.resh_value.specs.Order.{compare_of, is_same}
use Rattle.resh_value.specs.OrderLaws.{compare_itself, compare_same}
use Rattle.resh_value.specs.declared.value.Value.{Value}
use Rattle.resh_chunks.specs.Chunks.{Chunks, owner_of}
use Rattle.resh_oplog.specs.declared.entry.What.{What}
use Rattle.resh_oplog.specs.declared.entry.What.TheVariants.{Insert, Update, Delete}
use Rattle.resh_feed.specs.Effects.{effects_on}
use Rattle.resh_versions.specs.Chains.{Document, version}
use Rattle.resh_versions.specs.Standing.{IsFiled, StandsUnder, VersionsOf, now}
use Rattle.resh_versions.proofs.WriteLaws.{adds_version, keeps_filed, removes_one}
use Rattle.resh_shard.specs.Laws.{comes, whats_for}
use Rattle.resh_shard.specs.Writes.{contents, written}
use Rattle.resh_shard.specs.declared.act.Write.{Write}
use Rattle.resh_shard.specs.declared.act.Write.TheVariants.{Puts, Takes, Turns, Rekeys}

pub same_or : (a b : Value) → (a ≡ b) ⊎ (a ≢ b)
same_or a b = by (compare_of a b) refl
  where
    apart : (r : Ordering) → compare_of a b ≡ r → r ≢ Equal → a ≢ b
    apart r e ne same = ne (sym e ∙ sym (ap (compare_of a) same) ∙ compare_itself a)

    by : (r : Ordering) → compare_of a b ≡ r → (a ≡ b) ⊎ (a ≢ b)
    by Equal e = inl (compare_same a b e)
    by Less e = inr (apart Less e (λ k. cc))
    by Greater e = inr (apart Greater e (λ k. cc))

same_as : (a b : Value) → a ≡ b → is_same a b ≡ true
same_as a b same = subst (λ x. is_same a x ≡ true) same (ap is_eq (compare_itself a))

not_same : (a b : Value) → a ≢ b → is_same a b ≡ false
not_same a b ne = by (compare_of a b) refl
  where
    by : (r : Ordering) → compare_of a b ≡ r → is_eq r ≡ false
    by Equal e = absurd (ne (compare_same a b e))
    by Less e = refl
    by Greater e = refl

abbrev pub before : Write → Option Document
before (Puts d) = None
before (Takes d) = Some d
before (Turns d c e) = Some d
before (Rekeys d e) = Some d

abbrev pub after : Write → Option Document
after (Puts d) = Some d
after (Takes d) = None
after (Turns d c e) = Some e
after (Rekeys d e) = Some e

-- a write of the document of an `_id`; a change makes the result and leaves the new owner
abbrev pub IsWriteOf : Chunks → Value → Write → Type 0
IsWriteOf new id (Puts d) = id_of d ≡ id
IsWriteOf new id (Takes d) = id_of d ≡ id
IsWriteOf new id (Turns d c e) = (id_of d ≡ id) × (id_of e ≡ id) × (e ≡ changed c.assign c.unset d) × (owner_of new e ≡ owner_of new d)
IsWriteOf new id (Rekeys d e) = (id_of d ≡ id) × (id_of e ≡ id)

module _ (new : Chunks) (id : Value) (v : VersionsOf) (time : ℕ) where
  put_here : (d : Document) → id_of d ≡ id → now (written v time (Puts d)) id ≡ Some d
  put_here d is = ap (now (written v time (Puts d))) (sym is) ∙ adds_version.now_there v (id_of d) (version time (Some d))

  pub written_here : (w : Write) → IsWriteOf new id w → now (written v time w) id ≡ after w
  written_here (Puts d) is = put_here d is
  written_here (Takes d) is = ap (now (written v time (Takes d))) (sym is) ∙ removes_one.now_there v time (id_of d)
  written_here (Turns d c e) is = put_here e is.1
  written_here (Rekeys d e) is = put_here e is.1

  put_there : (d : Document) → id_of d ≡ id → (q : Value) → q ≢ id → now (written v time (Puts d)) q ≡ now v q
  put_there d is q ne = adds_version.now_elsewhere v (id_of d) q (version time (Some d)) (λ k. ne (k ∙ is))

  pub written_there : (w : Write) → IsWriteOf new id w → (q : Value) → q ≢ id → now (written v time w) q ≡ now v q
  written_there (Puts d) is q ne = put_there d is q ne
  written_there (Takes d) is q ne = removes_one.now_elsewhere v time (id_of d) q (λ k. ne (k ∙ is))
  written_there (Turns d c e) is q ne = put_there e is.1 q ne
  written_there (Rekeys d e) is q ne = put_there e is.1 q ne

  put_filed : IsFiled v.chains → (d : Document) → id_of d ≡ id → StandsUnder id d → IsFiled (written v time (Puts d)).chains
  put_filed are d is whole = keeps_filed.added v (id_of d) (version time (Some d)) are (record { whole = whole.whole; named = refl })

  pub written_filed : IsFiled v.chains → (w : Write) → IsWriteOf new id w → IfSome (after w) (StandsUnder id) → IsFiled (written v time w).chains
  written_filed are (Puts d) is whole = put_filed are d is whole
  written_filed are (Takes d) is whole = removes_one.filed v time (id_of d) are
  written_filed are (Turns d c e) is whole = put_filed are e is.1 whole
  written_filed are (Rekeys d e) is whole = put_filed are e is.1 whole

module _ (new : Chunks) (passes : ℕ → Bool) (id : Value) where
  -- the slot of the written `_id`
  pub wrote_here : (w : Write) → IsWriteOf new id w → effects_on id (whats_for passes (contents new w)) (comes passes new (before w)) ≡ comes passes new (after w)
  wrote_here (Puts d) is = by (passes (owner_of new d))
    where
      by : (b : Bool) → effects_on id (map (λ (w : ℕ × What). w.1) (cond b ((owner_of new d, Insert d) ∷ []) [])) None ≡ cond b (Some d) None
      by true = ap (λ t. cond t (Some d) None) (same_as id (id_of d) (sym is))
      by false = refl
  wrote_here (Takes d) is = by (passes (owner_of new d))
    where
      by : (b : Bool) → effects_on id (map (λ (w : ℕ × What). w.1) (cond b ((owner_of new d, Delete (id_of d)) ∷ []) [])) (cond b (Some d) None) ≡ None
      by true = ap (λ t. cond t None (Some d)) (same_as id (id_of d) (sym is))
      by false = refl
  wrote_here (Turns d c e) is =
      by (passes (owner_of new d)) ∙ ap (λ n. cond (passes n) (Some e) None) (sym is.3)
    where
      by : (b : Bool) → effects_on id (map (λ (w : ℕ × What). w.1) (cond b ((owner_of new d, Update (id_of d) c) ∷ []) [])) (cond b (Some d) None) ≡ cond b (Some e) None
      by true = ap (λ t. cond t (Some (changed c.assign c.unset d)) (Some d)) (same_as id (id_of d) (sym is.0)) ∙ ap Some (sym is.2)
      by false = refl
  wrote_here (Rekeys d e) is = by (passes (owner_of new d)) (passes (owner_of new e))
    where
      by : (b c : Bool) → effects_on id (map (λ (w : ℕ × What). w.1) (cond b ((owner_of new d, Delete (id_of d)) ∷ cond c ((owner_of new e, Insert e) ∷ []) []) (cond c ((owner_of new e, Insert e) ∷ []) []))) (cond b (Some d) None) ≡ cond c (Some e) None
      by true true = ap (λ t. cond t (Some e) (cond (is_same id (id_of d)) None (Some d))) (same_as id (id_of e) (sym is.1))
      by true false = ap (λ t. cond t None (Some d)) (same_as id (id_of d) (sym is.0))
      by false true = ap (λ t. cond t (Some e) None) (same_as id (id_of e) (sym is.1))
      by false false = refl

  -- and of another
  module _ (q : Value) (ne : q ≢ id) where
    off : (k : Value) → k ≡ id → is_same q k ≡ false
    off k is = not_same q k (λ same. ne (same ∙ is))

    pub wrote_elsewhere : (w : Write) → IsWriteOf new id w → (s : Option Document) → effects_on q (whats_for passes (contents new w)) s ≡ s
    wrote_elsewhere (Puts d) is s = by (passes (owner_of new d))
      where
        by : (b : Bool) → effects_on q (map (λ (w : ℕ × What). w.1) (cond b ((owner_of new d, Insert d) ∷ []) [])) s ≡ s
        by true = ap (λ t. cond t (Some d) s) (off (id_of d) is)
        by false = refl
    wrote_elsewhere (Takes d) is s = by (passes (owner_of new d))
      where
        by : (b : Bool) → effects_on q (map (λ (w : ℕ × What). w.1) (cond b ((owner_of new d, Delete (id_of d)) ∷ []) [])) s ≡ s
        by true = ap (λ t. cond t None s) (off (id_of d) is)
        by false = refl
    wrote_elsewhere (Turns d c e) is s = by (passes (owner_of new d))
      where
        by : (b : Bool) → effects_on q (map (λ (w : ℕ × What). w.1) (cond b ((owner_of new d, Update (id_of d) c) ∷ []) [])) s ≡ s
        by true = ap (λ t. cond t (option_map (changed c.assign c.unset) s) s) (off (id_of d) is.0)
        by false = refl
    wrote_elsewhere (Rekeys d e) is s = by (passes (owner_of new d)) (passes (owner_of new e))
      where
        by : (b c : Bool) → effects_on q (map (λ (w : ℕ × What). w.1) (cond b ((owner_of new d, Delete (id_of d)) ∷ cond c ((owner_of new e, Insert e) ∷ []) []) (cond c ((owner_of new e, Insert e) ∷ []) []))) s ≡ s
        by true true = ap (λ t. cond t (Some e) (cond (is_same q (id_of d)) None s)) (off (id_of e) is.1) ∙ ap (λ t. cond t None s) (off (id_of d) is.0)
        by true false = ap (λ t. cond t None s) (off (id_of d) is.0)
        by false true = ap (λ t. cond t (Some e) s) (off (id_of e) is.1)
        by false false = refl
