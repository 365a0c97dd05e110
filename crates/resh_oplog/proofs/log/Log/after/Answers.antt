use Rattle.std.proofs.Common.{rules, tests, ◌≡◌, List, take, filter, sym, ap, ◌∙◌, subst, IfOk, true}
use Rattle.std.proofs.lemmas.List.Elements.{All-filter, All-take}
use Rattle.std.proofs.lemmas.List.Sorted.{IsPartitionPoint-from_clause}
use Rattle.std.proofs.lemmas.Result.{IfOk-weaker}
use Rattle.resh_oplog.specs.Logs.{AreWhole, IsRising, LogOf, entries_after, is_for, is_whole}
use Rattle.resh_oplog.specs.declared.entry.Entry.{Entry}
use Rattle.resh_oplog.proofs.Reading.{is_read, parted, after_point}
use Rattle.resh_oplog.proofs.log.Log.after.Goals as goal

-- the entries above the mark for the recipient are read
read : (c : goal.After-copies_for) → IfOk c.copies_for.result (λ entries. entries ≡ take c.args.most (entries_after c.args.mark c.args.to.0 c.args.self.now.entries))
read c =
    let es : List Entry = c.as_slice-entries.result.now in
    let rising : IsRising es = subst IsRising (sym c.as_slice-entries.ensures.value) c.self.invariant.rising in
    let point = IsPartitionPoint-from_clause (is_read c.args.mark) es _ c.partition_point-start.ensures.partitioned (parted c.args.mark es rising) (λ a r q k. search (rules, tests)) in
    let same = after_point c.args.mark c.args.to.0 es _ c.partition_point-start.ensures.bound point in
    let all : es ≡ c.args.self.now.entries = c.as_slice-entries.ensures.value ∙ ap (λ (l : LogOf). l.entries) c.self.view_is in
    subst (λ rest. IfOk c.copies_for.result (λ entries. entries ≡ take c.args.most rest)) (ap (filter (λ e. is_for c.args.to.0 e.to)) c.split_at.ensures.back ∙ same ∙ ap (entries_after c.args.mark c.args.to.0) all) c.copies_for.ensures

pub returns-clause-first : goal.returns-clause-first
returns-clause-first c = read c

pub returns-clause-whole : goal.returns-clause-whole
returns-clause-whole c =
    let all : AreWhole c.args.self.now.entries = subst (λ (l : LogOf). AreWhole l.entries) c.self.view_is c.self.invariant.whole in
    IfOk-weaker c.copies_for.result _ _ (λ entries is. subst AreWhole (sym is) (All-take (λ (e : Entry). is_whole e.what ≡ true) c.args.most _ (All-filter _ (λ (e : Entry). is_whole e.what ≡ true) _ all))) (read c)
