use Rattle.std.proofs.Common.{◌≡◌, true, List, length, min, ap, sym, subst, ◌∙◌, arith}
use Rattle.std.proofs.lemmas.List.{length-take}
use Rattle.std.specs.List.{All}
use Rattle.resh_oplog.specs.Logs.{is_whole}
use Rattle.resh_oplog.specs.declared.entry.Entry.{Entry}
use Rattle.resh_feed.specs.Items.{up_to_final}
use Rattle.resh_fetcher.specs.Links.{LinkOf}
use Rattle.resh_fetcher.proofs.Cutting.{cut_again, cut_fewer, cut_keeps}
use Rattle.resh_fetcher.proofs.link.Link.fetch.Goals as goal

pub returns-clause-most : goal.returns-clause-most
returns-clause-most c =
    let batch : c.self.inside.state.batch ≡ c.args.self.now.batch = ap (λ (l : LinkOf). l.batch) c.self.view_is in
    let few : length c.in_ok-entries.entries ≡ min c.self.inside.state.batch _ = ap (λ (es : List Entry). length es) c.in_ok-entries.ensures.first ∙ length-take c.self.inside.state.batch _ in
    let fewer = cut_fewer c.in_ok-entries.entries in
    let result : length c.cut_behind_final.result ≡ length (up_to_final c.in_ok-entries.entries) = ap (λ (es : List Entry). length es) c.cut_behind_final.ensures in
    omega (arith, batch, few, fewer, result)

pub returns-clause-last : goal.returns-clause-last
returns-clause-last c = ap up_to_final c.cut_behind_final.ensures ∙ cut_again _ ∙ sym c.cut_behind_final.ensures

pub returns-clause-whole : goal.returns-clause-whole
returns-clause-whole c =
    subst (All (λ (entry : Entry). is_whole entry.what ≡ true)) (sym c.cut_behind_final.ensures)
    (cut_keeps (λ entry. is_whole entry.what ≡ true) c.in_ok-entries.entries c.in_ok-entries.ensures.whole)
