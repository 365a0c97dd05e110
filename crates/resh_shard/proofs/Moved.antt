-- The two halves of a move, and what other shards hold.
use Rattle.std.proofs.Common.{◌≡◌, ◌≢◌, ◌==◌, ◌||◌, ◌&&◌, ◌⊎◌, inl, inr, ⊎_elim, ℕ, Bool, true, false, cond, List, [], ◌∷◌, Some, None, Ok, is_some, not, refl, sym, ap, subst, ◌∙◌}
use Rattle.std.proofs.lemmas.Bool.Decides.{eqb_tells}
use Rattle.resh_value.specs.Lookup.{id_of}
use Rattle.resh_value.specs.Whole.{is_whole}
use Rattle.resh_value.specs.declared.value.Value.{Value}
use Rattle.resh_stamp.specs.declared.stamp.Stamp.{Stamp}
use Rattle.resh_versions.specs.Chains.{Document}
use Rattle.resh_versions.specs.Standing.{IsFiled, now}
use Rattle.resh_chunks.specs.Chunks.{Chunks, owner_of}
use Rattle.resh_filter.specs.Filters.{matches}
use Rattle.resh_ops.specs.Updates.{updated}
use Rattle.resh_ops.specs.declared.operator.Action.{Action}
use Rattle.resh_command.specs.declared.command.Command.TheVariants.{Update}
use Rattle.resh_command.specs.declared.reply.Reply.{Reply}
use Rattle.resh_command.specs.declared.reply.Reply.TheVariants.{Duplicate, NoKey}
use Rattle.resh_bag.proofs.answers.Finding.{doings_find}
use Rattle.resh_bag.specs.Answer.{Doing, replaces, says, bag_after, doing, has_key, hit, matching, on_hit, result_doing, text_limit, with_key}
use Rattle.resh_bag.specs.Bag.{Bag, held, put, without}
use Rattle.resh_bag.specs.Parts.{is_among, of_id}
use Rattle.resh_bag.proofs.bags.BagLaws.{puts_one, removes_one, same_by_place}
use Rattle.resh_bag.proofs.shards.ByShard.{held_over, same_number}
use Rattle.resh_shard.specs.Laws.{LeavesOthers, MovesAsCollection, MovesInHalves, bag_of_both}
use Rattle.resh_shard.specs.Decisions.{doing_on}
use Rattle.resh_shard.specs.Shards.{Shard, bag_of, documents_of, map_of, number_of, taken_in, taken_out, taken_out_at, wrote}
use Rattle.resh_shard.specs.declared.act.Write.TheVariants.{Puts, Takes}
use Rattle.resh_shard.proofs.Effects.{same_or, written_filed, written_here, written_there}
use Rattle.resh_shard.proofs.Held.{held_here, of_id_now}
use Rattle.resh_shard.proofs.Found.{does_as_collection}

unequal : (a b : ℕ) → a ≢ b → (a == b) ≡ false
unequal a b ne = ⊎_elim (λ k. absurd (ne k.1)) (λ k. k.0) (eqb_tells a b)

module _ (one other : Shard) where
  abbrev both : Bag
  both = bag_of_both one other

  abbrev shards : List ℕ
  shards = number_of one ∷ number_of other ∷ []

  abbrev own : ℕ → List Document
  own number = cond (number == number_of one) (documents_of one) (documents_of other)

  at_one : IsFiled one.versions.chains → (q : Value) → held both (number_of one) q ≡ now one.versions q
  at_one are q =
      held_over own shards (number_of one) q
      ∙ ap (λ b. cond (b || ((number_of other == number_of one) || false)) (of_id q (own (number_of one))) None) (same_number (number_of one))
      ∙ ap (λ b. of_id q (cond b (documents_of one) (documents_of other))) (same_number (number_of one)) ∙ of_id_now one.versions are q

  at_other : number_of one ≢ number_of other → IsFiled other.versions.chains → (q : Value) → held both (number_of other) q ≡ now other.versions q
  at_other apart are q =
      held_over own shards (number_of other) q
      ∙ ap (λ b. cond ((number_of one == number_of other) || (b || false)) (of_id q (own (number_of other))) None) (same_number (number_of other))
      ∙ ap (λ b. cond (b || true) (of_id q (own (number_of other))) None) (unequal (number_of one) (number_of other) apart)
      ∙ ap (λ b. of_id q (cond b (documents_of one) (documents_of other))) (unequal (number_of other) (number_of one) (λ e. apart (sym e))) ∙ of_id_now other.versions are q

  at_none : (t : ℕ) → number_of one ≢ t → number_of other ≢ t → (q : Value) → held both t q ≡ None
  at_none t a b q =
      held_over own shards t q
      ∙ (λ i. cond (unequal (number_of one) t a i || (unequal (number_of other) t b i || false)) (of_id q (own t)) None)

module _ (from to : Shard) (stamp : Stamp) (d e : Document) (filed : IsFiled from.versions.chains) (filed_to : IsFiled to.versions.chains) (whole : is_whole e ≡ true)
    (apart : number_of from ≢ number_of to) where
  abbrev out : Shard
  out = wrote stamp 0 (Takes d) from

  abbrev come : Shard
  come = wrote stamp 1 (Puts e) to

  abbrev moved : Bag
  moved = put (without (bag_of_both from to) (number_of from) (id_of d)) (number_of to) e

  filed_out : IsFiled out.versions.chains
  filed_out = written_filed from.new_map (id_of d) from.versions stamp.time filed (Takes d) refl tt

  filed_in : IsFiled come.versions.chains
  filed_in = written_filed to.new_map (id_of e) to.versions stamp.time filed_to (Puts e) refl (record { whole = whole; named = refl })

  at_from : (q : Value) → held (bag_of_both out come) (number_of from) q ≡ held moved (number_of from) q
  at_from q =
      at_one out come filed_out q ∙ by (same_or q (id_of d))
      ∙ sym (puts_one.elsewhere (without (bag_of_both from to) (number_of from) (id_of d)) (number_of to) (number_of from) e q (inl apart))
    where
      by : (q ≡ id_of d) ⊎ (q ≢ id_of d) → now out.versions q ≡ held (without (bag_of_both from to) (number_of from) (id_of d)) (number_of from) q
      by (inl same) =
          subst (λ i. now out.versions i ≡ held (without (bag_of_both from to) (number_of from) (id_of d)) (number_of from) i) (sym same)
          (written_here from.new_map (id_of d) from.versions stamp.time (Takes d) refl ∙ sym (removes_one.there (bag_of_both from to) (number_of from) (id_of d)))
      by (inr ne) =
          written_there from.new_map (id_of d) from.versions stamp.time (Takes d) refl q ne ∙ sym (at_one from to filed q)
          ∙ sym (removes_one.elsewhere (bag_of_both from to) (number_of from) (number_of from) (id_of d) q (inr ne))

  at_to : (q : Value) → held (bag_of_both out come) (number_of to) q ≡ held moved (number_of to) q
  at_to q = at_other out come apart filed_in q ∙ by (same_or q (id_of e))
    where
      by : (q ≡ id_of e) ⊎ (q ≢ id_of e) → now come.versions q ≡ held moved (number_of to) q
      by (inl same) =
          subst (λ i. now come.versions i ≡ held moved (number_of to) i) (sym same)
          (written_here to.new_map (id_of e) to.versions stamp.time (Puts e) refl ∙ sym (puts_one.there (without (bag_of_both from to) (number_of from) (id_of d)) (number_of to) e))
      by (inr ne) =
          written_there to.new_map (id_of e) to.versions stamp.time (Puts e) refl q ne ∙ sym (at_other from to apart filed_to q)
          ∙ sym (removes_one.elsewhere (bag_of_both from to) (number_of from) (number_of to) (id_of d) q (inl (λ k. apart (sym k))))
          ∙ sym (puts_one.elsewhere (without (bag_of_both from to) (number_of from) (id_of d)) (number_of to) (number_of to) e q (inr ne))

  beside : (t : ℕ) → number_of from ≢ t → number_of to ≢ t → (q : Value) → held (bag_of_both out come) t q ≡ held moved t q
  beside t a b q =
      at_none out come t a b q
      ∙ sym (puts_one.elsewhere (without (bag_of_both from to) (number_of from) (id_of d)) (number_of to) t e q (inl (λ k. b (sym k)))
      ∙ removes_one.elsewhere (bag_of_both from to) (number_of from) t (id_of d) q (inl (λ k. a (sym k))) ∙ at_none from to t a b q)

  halves : bag_of_both out come ≡ moved
  halves = same_by_place (bag_of_both out come) moved (λ t q. ⊎_elim
      (λ k. subst (λ m. held (bag_of_both out come) m q ≡ held moved m q) k.1 (at_from q))
      (λ k. ⊎_elim (λ l. subst (λ m. held (bag_of_both out come) m q ≡ held moved m q) l.1 (at_to q)) (λ l. beside t k.1 l.1 q) (eqb_tells (number_of to) t))
      (eqb_tells (number_of from) t))

  pub together : now from.versions (id_of d) ≡ Some d → now to.versions (id_of e) ≡ None
      → bag_of_both (taken_out stamp (id_of d) from) (taken_in stamp e to) ≡ bag_after (bag_of_both from to) (replaces (number_of from) d (number_of to) e)
  together found free = (λ i. bag_of_both (taken_out_at stamp (found i) from) (cond (is_some (free i)) to (wrote stamp 1 (Puts e) to))) ∙ halves

pub moves_in_halves : MovesInHalves
moves_in_halves = record {
  logged = λ new_map d e. refl;
  held = λ from to stamp d e filed filed_to whole apart found free. together from to stamp d e filed filed_to whole apart found free;
}

pub leaves_others : LeavesOthers
leaves_others own changed shards shard other id same apart =
    held_over changed shards other id ∙ ap (λ ds. cond (is_among shards other) (of_id id ds) None) (same other apart) ∙ sym (held_over own shards other id)

-- an update that does something has the key
has_its_key : (map : Chunks) (f : Document) (x y : Doing) → with_key map f x ≡ y → ((reply : Reply) → says reply ≢ y) → has_key map f ≡ true
has_its_key map f x y is works = by (has_key map f) refl
  where
    by : (b : Bool) → has_key map f ≡ b → has_key map f ≡ true
    by true h = h
    by false h = absurd (works NoKey (sym (ap (λ b. cond b x (says NoKey)) h) ∙ is))

module _ (from to : Shard) (f : Document) (u : List Action) (d e : Document) (limit : from.limit ≡ text_limit) (filed : IsFiled from.versions.chains) (filed_to : IsFiled to.versions.chains)
    (apart : number_of from ≢ number_of to) (is : doing_on from (Update f u) ≡ replaces (number_of from) d (number_of to) e) where
  abbrev map : Chunks
  map = map_of from

  abbrev two : Bag
  two = bag_of_both from to

  abbrev goes : Doing
  goes = replaces (number_of from) d (number_of to) e

  does : doing map (bag_of from) (Update f u) ≡ goes
  does = sym (does_as_collection from (Update f u) limit) ∙ is

  moved_doing : doing map two (Update f u) ≡ cond (is_some (now to.versions (id_of e))) (says Duplicate) goes
  moved_doing =
      let r = doings_find.replaced map (bag_of from) (Update f u) (number_of from) d (number_of to) e does in
      let one : Update r.filter r.update ≡ Update f u = sym r.is in
      let rf : r.filter ≡ f = cc in
      let ru : r.update ≡ u = cc in
      let key = has_its_key map f (on_hit (λ x. result_doing map (bag_of from) (owner_of map f) x (updated text_limit u x)) (hit map (bag_of from) f)) goes does (λ reply k. cc) in
      let owned : number_of from ≡ owner_of map f = r.hit.owner ∙ ap (owner_of map) rf in
      let stood : now from.versions (id_of f) ≡ Some d =
      sym (held_here from.versions filed (number_of from) (id_of f)) ∙ ap (λ x. held (bag_of from) (number_of from) (id_of x)) (sym rf) ∙ r.hit.there in
      let there : held two (owner_of map f) (id_of f) ≡ Some d = ap (λ k. held two k (id_of f)) (sym owned) ∙ at_one from to filed (id_of f) ∙ stood in
      let passes : matches f d ≡ true = ap (λ x. matches x d) (sym rf) ∙ r.hit.passes in
      let hits : hit map two f ≡ Some d = ap (matching f) there ∙ ap (λ b. cond b (Some d) None) passes in
      let made : updated text_limit u d ≡ Ok e = ap (λ x. updated text_limit x d) (sym ru) ∙ r.made in
      let comes : number_of to ≡ owner_of map e = r.owner in
      ap (λ b. cond b (on_hit (λ x. result_doing map two (owner_of map f) x (updated text_limit u x)) (hit map two f)) (says NoKey)) key
      ∙ ap (on_hit (λ x. result_doing map two (owner_of map f) x (updated text_limit u x))) hits
      ∙ ap (result_doing map two (owner_of map f) d) made
      ∙ (λ i. cond (not (sym comes i == sym owned i) && is_some (held two (sym comes i) (id_of e))) (says Duplicate) (replaces (sym owned i) d (sym comes i) e))
      ∙ ap (λ b. cond (not b && is_some (held two (number_of to) (id_of e))) (says Duplicate) goes) (unequal (number_of to) (number_of from) (λ k. apart (sym k)))
      ∙ ap (λ o. cond (is_some o) (says Duplicate) goes) (at_other from to apart filed_to (id_of e))

pub moves_as_collection : MovesAsCollection
moves_as_collection from to f u d e limit filed filed_to apart is = moved_doing from to f u d e limit filed filed_to apart is
