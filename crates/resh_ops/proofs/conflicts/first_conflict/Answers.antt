use Rattle.std.proofs.Common.{◌∙◌, ap, sym, subst, List, map}
use Rattle.std.specs.List.{list_any}
use Rattle.resh_ops.specs.Apart.{AreApart}
use Rattle.resh_ops.specs.Paths.{is_related}
use Rattle.resh_ops.proofs.Neighbours.{Key, any_inserted, apart_more, same_more, holds_more}
use Rattle.resh_ops.proofs.conflicts.first_conflict.Goals as goal

pub loop-path-preserved : goal.loop-path-preserved
loop-path-preserved c =
    let l = c.loop-path in
    let free = sym (l.invariant.holds (is_related c.path-item.result.now)) ∙ sym c.is_related_to_one.ensures ∙ c.if-is_related_to_one.false in
    let keys = c.in_ok-insert.ensures.keys in
    record {
      same = same_more c.args.paths.now l.path-index c.path-item.result c.loop-path-test.true c.path-item.is (map (λ (k : Key). k.now) c.args.paths.now) free l.invariant.same;
      holds = λ f. ap (λ (ks : List Key). list_any f (map (λ (k : Key). k.now) ks)) keys ∙ holds_more c.args.paths.now l.path-index c.path-item.result c.loop-path-test.true c.path-item.is l.taken.keys f (l.invariant.holds f);
      apart = subst (λ (ks : List Key). AreApart (map (λ (k : Key). k.now) ks)) (sym keys)
          (apart_more (map (λ (k : Key). k.now) l.taken.keys) _ c.path-item.result.now (λ f. any_inserted f l.taken.keys c.path-item.result) l.invariant.apart (sym c.is_related_to_one.ensures ∙ c.if-is_related_to_one.false));
    }
