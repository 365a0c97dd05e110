-- A collection of whole documents stays so.
use Rattle.std.proofs.Common.{◌≡◌, ◌≢◌, ◌==◌, inl, inr, ⊎_elim, ℕ, Bool, true, false, cond, List, [], ◌∷◌, Some, None, Ok, is_some, unwrap_or, refl, sym, ap, subst, ◌∙◌, arith, Less, Equal, Greater}
use Rattle.std.proofs.lemmas.Bool.Decides.{eqb_tells}
use Rattle.std.specs.List.{AllByRecursion, Contains}
use Rattle.std.specs.Ordering.{is_eq}
use Rattle.std.specs.declared.cmp.Ordering.{Ordering}
use Rattle.resh_value.specs.Lookup.{id_of}
use Rattle.resh_value.specs.Order.{compare_of}
use Rattle.resh_value.specs.OrderLaws.{compare_itself, compare_same}
use Rattle.resh_value.specs.Whole.{IsWhole}
use Rattle.resh_value.specs.declared.value.Value.{Value}
use Rattle.resh_value.specs.declared.value.Value.TheVariants.{Null}
use Rattle.resh_chunks.specs.Chunks.{Chunks}
use Rattle.resh_ops.proofs.ActionLaws.{keeps_id}
use Rattle.resh_ops.proofs.Rising.{updates_rise}
use Rattle.resh_ops.specs.Updates.{IsUpdate, updated}
use Rattle.resh_ops.specs.declared.operator.Action.{Action}
use Rattle.resh_command.specs.declared.command.Command.{Command}
use Rattle.resh_command.specs.declared.command.Command.TheVariants.{Update}
use Rattle.resh_bag.specs.Answer.{Doing, adds, replaces, removes, says, bag_after, doing, text_limit}
use Rattle.resh_bag.specs.Bag.{Bag, Document, held, opening_bag, put, without}
use Rattle.resh_bag.specs.WholeLaws.{HoldsWhole, BringsWhole, StaysWhole, UpdateKeepsId}
use Rattle.resh_bag.proofs.Lists.{first_or_later}
use Rattle.resh_bag.proofs.answers.Finding.{doings_find}
use Rattle.resh_bag.proofs.bags.BagLaws.{removes_one}
use Rattle.resh_bag.proofs.bags.Opening.{opens_placed}
use Rattle.resh_bag.proofs.shards.ByShard.{put_at}

some_same : {X : Type 0} (x y : X) → Some x ≡ Some y → x ≡ y
some_same x y e = cc

each_whole : (ds : List Document) (d : Document) → AllByRecursion IsWhole ds → Contains ds d → IsWhole d
each_whole [] d all (n, within, is) = absurd (omega (arith, within))
each_whole (x ∷ xs) d all there = ⊎_elim (λ same. subst IsWhole same all.0) (λ later. each_whole xs d all.1 later) (first_or_later x xs d there)

pub opens : (map : Chunks) (ds : List Document) → AllByRecursion IsWhole ds → HoldsWhole (opening_bag map ds)
opens map ds all shard id d is = each_whole ds d all (opens_placed.only map ds shard id d is)

module _ (bag : Bag) (whole : HoldsWhole bag) where
  after_put : (s : ℕ) (d : Document) → IsWhole d → HoldsWhole (put bag s d)
  after_put s d is t q x there = by (s == t) (is_eq (compare_of q (id_of d))) (sym (put_at bag s d q t) ∙ there)
    where
      by : (b c : Bool) → cond b (cond c (Some d) (held bag t q)) (held bag t q) ≡ Some x → IsWhole x
      by true true e = subst IsWhole (some_same d x e) is
      by true false e = whole t q x e
      by false c e = whole t q x e

  after_without : (s : ℕ) (i : Value) → HoldsWhole (without bag s i)
  after_without s i t q x there = ⊎_elim (λ k. here k.1 (compare_of q i) refl) (λ k. whole t q x (sym (removes_one.elsewhere bag s t i q (inl (λ same. k.1 (sym same)))) ∙ there)) (eqb_tells s t)
    where
      apart : (r : Ordering) → compare_of q i ≡ r → r ≢ Equal → IsWhole x
      apart r e differs = whole t q x (sym (removes_one.elsewhere bag s t i q (inr (λ same. differs (sym e ∙ sym (ap (compare_of q) same) ∙ compare_itself q)))) ∙ there)

      here : s ≡ t → (r : Ordering) → compare_of q i ≡ r → IsWhole x
      here same Equal e =
          absurd (let none : None ≡ Some x = sym (removes_one.there bag s i) ∙ (λ k. held (without bag s i) (same k) (sym (compare_same q i e) k)) ∙ there in cc)
      here same Less e = apart Less e (λ off. cc)
      here same Greater e = apart Greater e (λ off. cc)

-- an update leaves a whole document whole
updated_whole : (u : List Action) (d e : Document) → IsUpdate u → IsWhole d → updated text_limit u d ≡ Ok e → IsWhole e
updated_whole u d e is whole made = record {
  rising = updates_rise text_limit u d e whole.rising made;
  id = ap is_some (keeps_id text_limit u d e is made) ∙ whole.id;
}

module _ (chunks : Chunks) (bag : Bag) (command : Command) (whole : HoldsWhole bag) (brings : BringsWhole command) where
  does_whole : (x : Doing) → doing chunks bag command ≡ x → HoldsWhole (bag_after bag x)
  does_whole (adds s d) is = after_put bag whole s d (let found = doings_find.added chunks bag command s d is in subst BringsWhole found.is brings)
  does_whole (removes s d) is = after_without bag whole s (id_of d)
  does_whole (says reply) is = whole
  does_whole (replaces s d t e) is =
      let found = doings_find.replaced chunks bag command s d t e is in
      after_put (without bag s (id_of d)) (after_without bag whole s (id_of d)) t e
      (updated_whole found.update d e (subst BringsWhole found.is brings) (whole s (id_of found.filter) d found.hit.there) found.made)

  pub does : HoldsWhole (bag_after bag (doing chunks bag command))
  does = does_whole (doing chunks bag command) refl

pub stays_whole : StaysWhole
stays_whole = record {
  opens = λ map ds all. opens map ds all;
  does = λ chunks bag command whole brings. does chunks bag command whole brings;
}

pub update_keeps_id : UpdateKeepsId
update_keeps_id chunks bag f u s d t e is does_so =
    let found = doings_find.replaced chunks bag (Update f u) s d t e does_so in
    let same : u ≡ found.update = let whole : Update f u ≡ Update found.filter found.update = found.is in cc in
    ap (λ o. unwrap_or o Null) (keeps_id text_limit found.update d e (subst IsUpdate same is) found.made)
