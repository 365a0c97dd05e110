use Rattle.std.proofs.Common.{rules, arith, ◌≡◌, true, ap, sym, subst, ◌∙◌}
use Rattle.resh_oplog.specs.Logs.{IsLog, LogOf, fits}
use Rattle.resh_oplog.proofs.Rising.{one_more}
use Rattle.resh_oplog.proofs.log.Log.push.Goals as goal

pub invariant_of-self-2 : goal.invariant_of-self-2
invariant_of-self-2 c =
    let fit : fits c.self.inside.entries.items c.args.entry ≡ true =
    ap (λ (l : LogOf). fits l.entries c.args.entry) c.self.view_is ∙ c.requires in
    subst IsLog (sym c.in_ok-push.ensures.items) (one_more c.self.inside.entries.items c.args.entry c.self.invariant fit (record { node = first_of (search (rules, arith), grind (rules, arith)); part = first_of (search (rules, arith), grind (rules, arith)) }))
