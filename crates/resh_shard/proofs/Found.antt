-- A command's doing on a shard, as a write of one document or as a reply alone.
use Rattle.std.proofs.Common.{◌≡◌, ◌≢◌, ◌==◌, ◌⊎◌, inl, inr, ⊎_elim, ℕ, Bool, true, false, cond, [], ◌∷◌, Some, None, IfSome, refl, sym, ap, subst, ◌∙◌, Less, Equal, Greater}
use Rattle.std.proofs.lemmas.Bool.{eqb-true}
use Rattle.std.proofs.lemmas.Bool.Decides.{eqb_tells}
use Rattle.std.specs.Ordering.{is_eq}
use Rattle.std.specs.declared.cmp.Ordering.{Ordering}
use Rattle.resh_value.specs.Lookup.{id_of}
use Rattle.resh_value.specs.Order.{compare_documents}
use Rattle.resh_value.specs.OrderLaws.{documents_same}
use Rattle.resh_value.specs.Whole.{IsWhole, is_whole}
use Rattle.resh_value.specs.declared.value.Value.{Value}
use Rattle.resh_value.proofs.WholeLaws.{whole_decides}
use Rattle.resh_ops.specs.Updates.{updated}
use Rattle.resh_feed.specs.Effects.{effects_on}
use Rattle.resh_versions.specs.Chains.{Document}
use Rattle.resh_versions.specs.Standing.{IsFiled, StandsUnder, VersionsOf, now, standing_now}
use Rattle.resh_command.specs.declared.command.Command.{Command}
use Rattle.resh_command.specs.declared.command.Command.TheVariants.{Insert, Update, Delete, Find, Count, Abort}
use Rattle.resh_command.specs.declared.reply.Reply.{Reply}
use Rattle.resh_command.specs.declared.reply.Reply.TheVariants.{Deleted, Inserted, Matched}
use Rattle.resh_bag.specs.Answer.{Doing, adds, replaces, removes, says, bag_after, doing, hit, on_hit, result_doing, text_limit, with_key}
use Rattle.resh_bag.specs.Bag.{Bag, held, without}
use Rattle.resh_bag.specs.Parts.{bag_over}
use Rattle.resh_bag.specs.WholeLaws.{BringsWhole, HoldsWhole}
use Rattle.resh_bag.proofs.answers.Finding.{doings_find}
use Rattle.resh_bag.proofs.bags.BagLaws.{puts_one, removes_one, same_by_place}
use Rattle.resh_bag.proofs.bags.WholeHeld.{stays_whole, update_keeps_id}
use Rattle.resh_bag.proofs.shards.ByShard.{same_number}
use Rattle.resh_chunks.specs.Chunks.{owner_of}
use Rattle.resh_stamp.specs.declared.stamp.Stamp.{Stamp}
use Rattle.resh_shard.specs.Decisions.{IsAsked, decided, decided_turn, done, done_by, doing_on, names_key, names_one, turned}
use Rattle.resh_shard.specs.Differences.{change_between}
use Rattle.resh_shard.specs.Laws.{ChangesNothingElse, DoesAsCollection, HoldsAsCollection, LogsItsEffect, Serves, comes, contents_by, contents_of, whats_for}
use Rattle.resh_shard.specs.Shards.{Shard, bag_of, documents_of, map_of, number_of, wrote}
use Rattle.resh_shard.specs.Writes.{contents, shard_id, written}
use Rattle.resh_shard.specs.declared.act.Decision.{Decision}
use Rattle.resh_shard.specs.declared.act.Decision.TheVariants.{Writes, Leaves, Says}
use Rattle.resh_shard.specs.declared.act.Write.{Write}
use Rattle.resh_shard.specs.declared.act.Write.TheVariants.{Puts, Takes, Turns, Rekeys}
use Rattle.resh_shard.proofs.Effects.{IsWriteOf, after, before, same_or, written_filed, written_here, written_there, wrote_elsewhere, wrote_here}
use Rattle.resh_shard.proofs.Held.{held_elsewhere, held_here, stands_named, stands_whole}
use Rattle.resh_shard.proofs.Turned.{leads_to, neither, same_owner}

-- a bag that holds what stands on one shard, and nothing elsewhere, is that shard's
pub own_is : (n : ℕ) (v : VersionsOf) → IsFiled v.chains → (bag : Bag) → ((q : Value) → now v q ≡ held bag n q) → ((t : ℕ) → t ≢ n → (q : Value) → held bag t q ≡ None)
    → bag_over (λ number. standing_now v None) (n ∷ []) ≡ bag
own_is n v are bag here elsewhere =
    same_by_place own bag (λ t q. ⊎_elim
    (λ k. subst (λ x. held own x q ≡ held bag x q) k.1 (held_here v are n q ∙ here q))
    (λ k. held_elsewhere (standing_now v None) n t (λ e. k.1 (sym e)) q ∙ sym (elsewhere t (λ e. k.1 (sym e)) q)) (eqb_tells n t))
  where
    own : Bag
    own = bag_over (λ number. standing_now v None) (n ∷ [])

module _ (shard : Shard) where
  abbrev n : ℕ
  n = number_of shard

  abbrev bag : Bag
  bag = bag_of shard

  -- a doing that writes one document
  pub record IsWrite (x : Doing) : Type 0 where
    pub w : Write
    pub reply : Reply
    pub is : decided shard x ≡ Writes w reply
    pub id : Value
    pub of : IsWriteOf shard.new_map id w
    pub was : now shard.versions id ≡ before w
    pub whole : IfSome (after w) (StandsUnder id)
    pub here : held (bag_after bag x) n id ≡ after w
    pub there : (q : Value) → q ≢ id → held (bag_after bag x) n q ≡ held bag n q
    pub elsewhere : (t : ℕ) → t ≢ n → (q : Value) → held (bag_after bag x) t q ≡ None

  -- a doing that is a reply alone
  pub record IsReply (x : Doing) : Type 0 where
    pub reply : Reply
    pub is : decided shard x ≡ Says reply
    pub same : bag_after bag x ≡ bag

  module _ (are : IsFiled shard.versions.chains) where
    nothing : (t : ℕ) → t ≢ n → (q : Value) → held bag t q ≡ None
    nothing t ne q = held_elsewhere (documents_of shard) n t ne q

    is_now : (q : Value) → held bag n q ≡ now shard.versions q
    is_now q = held_here shard.versions are n q

    added : (d : Document) → is_whole d ≡ true → now shard.versions (id_of d) ≡ None → IsWrite (adds n d)
    added d whole free = record {
      w = Puts d;
      reply = Inserted;
      is = refl;
      id = id_of d;
      of = refl;
      was = free;
      whole = record { whole = whole; named = refl };
      here = puts_one.there bag n d;
      there = λ q ne. puts_one.elsewhere bag n n d q (inr ne);
      elsewhere = λ t ne q. puts_one.elsewhere bag n t d q (inl ne) ∙ nothing t ne q;
    }

    removed : (d : Document) → now shard.versions (id_of d) ≡ Some d → IsWrite (removes n d)
    removed d found = record {
      w = Takes d;
      reply = Deleted;
      is = refl;
      id = id_of d;
      of = refl;
      was = found;
      whole = tt;
      here = removes_one.there bag n (id_of d);
      there = λ q ne. removes_one.elsewhere bag n n (id_of d) q (inr ne);
      elsewhere = λ t ne q. removes_one.elsewhere bag n t (id_of d) q (inl ne) ∙ nothing t ne q;
    }

    module _ (d e : Document) (found : now shard.versions (id_of d) ≡ Some d) (wd : IsWhole d) (we : IsWhole e) (ids : id_of e ≡ id_of d) where
      abbrev x : Doing
      x = replaces n d n e

      there_after : (q : Value) → q ≢ id_of d → held (bag_after bag x) n q ≡ held bag n q
      there_after q ne = puts_one.elsewhere (without bag n (id_of d)) n n e q (inr (λ k. ne (k ∙ ids))) ∙ removes_one.elsewhere bag n n (id_of d) q (inr ne)

      here_after : held (bag_after bag x) n (id_of d) ≡ Some e
      here_after = ap (held (bag_after bag x) n) (sym ids) ∙ puts_one.there (without bag n (id_of d)) n e

      none_after : (t : ℕ) → t ≢ n → (q : Value) → held (bag_after bag x) t q ≡ None
      none_after t ne q = puts_one.elsewhere (without bag n (id_of d)) n t e q (inl ne) ∙ removes_one.elsewhere bag n t (id_of d) q (inl ne) ∙ nothing t ne q

      stays_here : decided shard x ≡ decided_turn shard d e
      stays_here = ap (λ b. cond b (decided_turn shard d e) (Leaves (shard_id n) e)) (same_number n)

      as_write : (w : Write) → decided shard x ≡ Writes w (Matched true) → IsWriteOf shard.new_map (id_of d) w → before w ≡ Some d → after w ≡ Some e → IsWrite x
      as_write w is of was will = record {
        w = w;
        reply = Matched true;
        is = is;
        id = id_of d;
        of = of;
        was = found ∙ sym was;
        whole = subst (λ o. IfSome o (StandsUnder (id_of d))) (sym will) (record { whole = (whole_decides e).1 we; named = ids });
        here = here_after ∙ sym will;
        there = there_after;
        elsewhere = none_after;
      }

      written_by : is_eq (compare_documents d e) ≡ false → IsWrite x
      written_by differ = by (names_key shard (change_between d e)) refl
        where
          as_turn : (b : Bool) → names_key shard (change_between d e) ≡ b → decided shard x ≡ Writes (cond b (Rekeys d e) (Turns d (change_between d e) e)) (Matched true)
          as_turn b is =
              stays_here ∙ ap (λ b. cond b (Says (Matched false)) (Writes (turned shard d e) (Matched true))) differ
              ∙ ap (λ b. Writes (cond b (Rekeys d e) (Turns d (change_between d e) e)) (Matched true)) is

          by : (b : Bool) → names_key shard (change_between d e) ≡ b → IsWrite x
          by true is = as_write (Rekeys d e) (as_turn true is) (refl, ids) refl refl
          by false is =
              let parts = neither (names_one shard.old_map.pattern (change_between d e)) (names_one shard.new_map.pattern (change_between d e)) is in
              as_write (Turns d (change_between d e) e) (as_turn false is) (refl, ids, sym (leads_to d e wd.rising we.rising), same_owner d e wd.rising we.rising shard.new_map parts.1) refl refl

      unchanged : d ≡ e → is_eq (compare_documents d e) ≡ true → IsReply x
      unchanged same tie = record {
        reply = Matched false;
        is = stays_here ∙ ap (λ b. cond b (Says (Matched false)) (Writes (turned shard d e) (Matched true))) tie;
        same = same_by_place (bag_after bag x) bag (λ t q. ⊎_elim
            (λ k. subst (λ m. held (bag_after bag x) m q ≡ held bag m q) k.1 (at q (same_or q (id_of d))))
            (λ k. none_after t (λ e. k.1 (sym e)) q ∙ sym (nothing t (λ e. k.1 (sym e)) q)) (eqb_tells n t));
      }
        where
          at : (q : Value) → (q ≡ id_of d) ⊎ (q ≢ id_of d) → held (bag_after bag x) n q ≡ held bag n q
          at q (inl k) = subst (λ i. held (bag_after bag x) n i ≡ held bag n i) (sym k) (here_after ∙ ap Some (sym same) ∙ sym (is_now (id_of d) ∙ found))
          at q (inr ne) = there_after q ne

      replaced : IsWrite x ⊎ IsReply x
      replaced = by (compare_documents d e) refl
        where
          by : (r : Ordering) → compare_documents d e ≡ r → IsWrite x ⊎ IsReply x
          by Equal f = inr (unchanged (documents_same d e f) (ap is_eq f))
          by Less f = inl (written_by (ap is_eq f))
          by Greater f = inl (written_by (ap is_eq f))

    -- what is found stands on this shard
    at_shard : (m : ℕ) (q : Value) (d : Document) → held bag m q ≡ Some d → m ≡ n
    at_shard m q d is = ⊎_elim (λ k. sym k.1) (λ k. absurd (let off : None ≡ Some d = sym (nothing m (λ e. k.1 (sym e)) q) ∙ is in cc)) (eqb_tells n m)

    stands : (m : ℕ) (q : Value) (d : Document) → held bag m q ≡ Some d → now shard.versions (id_of d) ≡ Some d
    stands m q d is =
        let there : now shard.versions q ≡ Some d = sym (is_now q) ∙ (λ i. held bag (sym (at_shard m q d is) i) q) ∙ is in
        ap (now shard.versions) (stands_named shard.versions are q d there) ∙ there

    holds_whole : HoldsWhole bag
    holds_whole m q d is = (whole_decides d).0 (stands_whole shard.versions are (id_of d) d (stands m q d is))

  does_as : (command : Command) → shard.limit ≡ text_limit → doing_on shard command ≡ doing (map_of shard) bag command
  does_as (Insert d) is = refl
  does_as (Update f u) is =
      ap (λ l. with_key (map_of shard) f (on_hit (λ d. result_doing (map_of shard) bag (owner_of (map_of shard) f) d (updated l u d)) (hit (map_of shard) bag f))) is
  does_as (Delete f) is = refl
  does_as (Find f) is = refl
  does_as (Count f) is = refl
  does_as Abort is = refl

  module _ (command : Command) (h : Serves shard command) where
    by_doing : (y : Doing) → doing_on shard command ≡ y → IsWrite y ⊎ IsReply y
    by_doing y is = by y (sym (does_as command h.limit) ∙ is) (λ to d e. h.stays to d (ap (decided shard) is ∙ e))
      where
        by : (y : Doing) → doing (map_of shard) bag command ≡ y → ((to : _) (d : Document) → decided shard y ≢ Leaves to d) → IsWrite y ⊎ IsReply y
        by (adds m d) e stays =
            let a = doings_find.added (map_of shard) bag command m d e in
            let asked = subst (IsAsked shard) a.is h.asked in
            let mn : m ≡ n = a.owner ∙ asked.1 in
            inl (subst (λ k. IsWrite (adds k d)) (sym mn) (added h.filed d asked.0 (sym (is_now h.filed (id_of d)) ∙ (λ i. held bag (sym mn i) (id_of d)) ∙ a.free)))
        by (removes m d) e stays =
            let r = doings_find.removed (map_of shard) bag command m d e in
            inl (subst (λ k. IsWrite (removes k d)) (sym (at_shard h.filed m _ d r.hit.there)) (removed h.filed d (stands h.filed m _ d r.hit.there)))
        by (replaces m d t f) e stays =
            let r = doings_find.replaced (map_of shard) bag command m d t f e in
            let mn = at_shard h.filed m _ d r.hit.there in
            let found = stands h.filed m _ d r.hit.there in
            let tm : t ≡ m = stayed (t == m) refl in
            let whole_after = stays_whole.does (map_of shard) bag command (holds_whole h.filed) h.brings in
            let wf : IsWhole f = whole_after t (id_of f) f (ap (λ z. held (bag_after bag z) t (id_of f)) e ∙ puts_one.there (without bag m (id_of d)) t f) in
            let ids = update_keeps_id (map_of shard) bag r.filter r.update m d t f (subst BringsWhole r.is h.brings) (ap (doing (map_of shard) bag) (sym r.is) ∙ e) in
            let wd = (whole_decides d).0 (stands_whole shard.versions h.filed (id_of d) d found) in
            let path : replaces n d n f ≡ replaces m d t f = λ i. replaces (sym mn i) d (sym (tm ∙ mn) i) f in
            subst (λ z. IsWrite z ⊎ IsReply z) path (replaced h.filed d f found wd wf ids)
          where
            stayed : (b : Bool) → (t == m) ≡ b → t ≡ m
            stayed true k = eqb-true t m k
            stayed false k = absurd (stays (shard_id t) f (ap (λ b. cond b (decided_turn shard d f) (Leaves (shard_id t) f)) k))
        by (says reply) e stays = inr (record { reply = reply; is = refl; same = refl })

    found : IsWrite (doing_on shard command) ⊎ IsReply (doing_on shard command)
    found = by_doing (doing_on shard command) refl

    holds_on : (stamp : Stamp) → bag_of (done stamp (doing_on shard command) shard) ≡ bag_after bag (doing_on shard command)
    holds_on stamp = ⊎_elim
        (λ k. ap (λ x. bag_of (done_by stamp x shard)) k.is
        ∙ own_is n (written shard.versions stamp.time k.w) (written_filed shard.new_map k.id shard.versions stamp.time h.filed k.w k.of k.whole) (bag_after bag (doing_on shard command))
        (λ q. ⊎_elim
        (λ same. subst (λ i. now (written shard.versions stamp.time k.w) i ≡ held (bag_after bag (doing_on shard command)) n i) (sym same) (written_here shard.new_map k.id shard.versions stamp.time k.w k.of ∙ sym k.here))
        (λ ne. written_there shard.new_map k.id shard.versions stamp.time k.w k.of q ne ∙ sym (is_now h.filed q) ∙ sym (k.there q ne)) (same_or q k.id))
        k.elsewhere)
        (λ k. ap (λ x. bag_of (done_by stamp x shard)) k.is ∙ sym k.same) found

    filed_on : (stamp : Stamp) → IsFiled (done stamp (doing_on shard command) shard).versions.chains
    filed_on stamp = ⊎_elim
        (λ k. subst (λ x. IsFiled (done_by stamp x shard).versions.chains) (sym k.is) (written_filed shard.new_map k.id shard.versions stamp.time h.filed k.w k.of k.whole))
        (λ k. subst (λ x. IsFiled (done_by stamp x shard).versions.chains) (sym k.is) h.filed) found

    effect_on : (passes : ℕ → Bool) (q : Value) → effects_on q (whats_for passes (contents_of shard (doing_on shard command))) (comes passes shard.new_map (held bag n q))
        ≡ comes passes shard.new_map (held (bag_after bag (doing_on shard command)) n q)
    effect_on passes q = ⊎_elim
        (λ k. ap (λ x. effects_on q (whats_for passes (contents_by shard x)) (comes passes shard.new_map (held bag n q))) k.is ∙ ⊎_elim
        (λ same. subst (λ i. effects_on i (whats_for passes (contents shard.new_map k.w)) (comes passes shard.new_map (held bag n i)) ≡ comes passes shard.new_map (held (bag_after bag (doing_on shard command)) n i)) (sym same)
        (ap (λ o. effects_on k.id (whats_for passes (contents shard.new_map k.w)) (comes passes shard.new_map o)) (is_now h.filed k.id ∙ k.was)
        ∙ wrote_here shard.new_map passes k.id k.w k.of ∙ ap (comes passes shard.new_map) (sym k.here)))
        (λ ne. wrote_elsewhere shard.new_map passes k.id q ne k.w k.of (comes passes shard.new_map (held bag n q)) ∙ ap (comes passes shard.new_map) (sym (k.there q ne))) (same_or q k.id))
        (λ k. ap (λ x. effects_on q (whats_for passes (contents_by shard x)) (comes passes shard.new_map (held bag n q))) k.is ∙ ap (λ b. comes passes shard.new_map (held b n q)) (sym k.same)) found

pub does_as_collection : DoesAsCollection
does_as_collection shard command is = does_as shard command is

pub holds_as_collection : HoldsAsCollection
holds_as_collection shard stamp command h = holds_on shard command h stamp

pub logs_its_effect : LogsItsEffect
logs_its_effect shard command h passes id = effect_on shard command h passes id

-- what is left as it was, whatever is decided
left : {X : Type 0} (part : Shard → X) → ((stamp : Stamp) (w : Write) (s : Shard) → part (wrote stamp 0 w s) ≡ part s) → (shard : Shard) (stamp : Stamp) (x : Decision) → part (done_by stamp x shard) ≡ part shard
left part each shard stamp (Writes w reply) = each stamp w shard
left part each shard stamp (Leaves to d) = refl
left part each shard stamp (Says reply) = refl

pub changes_nothing_else : ChangesNothingElse
changes_nothing_else = record {
  number = λ shard stamp doing. left (λ s. s.log.donor) (λ stamp w s. refl) shard stamp (decided shard doing);
  old_map = λ shard stamp doing. left (λ s. s.old_map) (λ stamp w s. refl) shard stamp (decided shard doing);
  new_map = λ shard stamp doing. left (λ s. s.new_map) (λ stamp w s. refl) shard stamp (decided shard doing);
  which = λ shard stamp doing. left (λ s. s.which) (λ stamp w s. refl) shard stamp (decided shard doing);
  blocked = λ shard stamp doing. left (λ s. s.blocked) (λ stamp w s. refl) shard stamp (decided shard doing);
  names = λ shard stamp doing. left (λ s. s.names) (λ stamp w s. refl) shard stamp (decided shard doing);
  filed = λ shard stamp command h. filed_on shard command h stamp;
}
