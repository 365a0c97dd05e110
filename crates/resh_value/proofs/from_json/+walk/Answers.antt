use Rattle.std.proofs.Common.{◌≡◌, ◌+◌, [], ◌∷◌, ◌++◌, drop, sym, ap, ◌∙◌, arith, string_bytes}
use Rattle.std.proofs.lemmas.List.{drop_more}
use Rattle.serde_json.specs.View.{view, items_view, members_view}
use Rattle.resh_value.specs.FromJson.{items_at, members_at}
use Rattle.resh_value.specs.Walk.{under}
use Rattle.resh_value.specs.Paths.{to_name}
use Rattle.resh_value.proofs.reading.Walked.{after, after_all, item_fault, member_read, member_fault}
use Rattle.resh_value.proofs.reading.RisingNames.{Entry, names_rise}
use Rattle.resh_value.proofs.from_json.+walk.Goals as goal

pub items_at-returns-in-Err : goal.items_at-returns-in-Err
items_at-returns-in-Err t c =
    let l = c.loop-place in
    let xs = c.deref-item-items.result.now in
    let x = c.item-item.result in
    let here : drop l.place xs ≡ x ∷ drop (l.place + 1) xs = drop_more xs l.place x (omega arith) ∙ ap (λ y. y ∷ drop (l.place + 1) xs) (sym c.item-item.is) in
    λ real.
    ap (λ ys. items_at c.args.level 0 (items_view ys)) (sym c.deref-item-items.ensures.value) ∙ (l.invariant ∙ (ap (λ ys. after l.values.items (items_at c.args.level l.place (items_view ys))) here
    ∙ item_fault c.args.level l.place l.values.items (view x) (items_view (drop (l.place + 1) xs)) c.in-Err.fault c.under_place.result c.in-Err.ensures c.under_place.ensures real))

pub members_at-loop-name-preserved : goal.members_at-loop-name-preserved
members_at-loop-name-preserved t c =
    let l = c.loop-name in
    let e : Entry = (c.in-Some.name.now, c.in-Some.member.now) in
    let rest = members_at c.args.level (members_view c.next.new.self) in
    let pushed : l.pairs.items ++ (string_bytes e.0, c.in-Ok.value) ∷ [] ≡ c.push.new.self.items =
    sym (c.in_ok-push-in-Ok.ensures.items ∙ ap (λ n. l.pairs.items ++ (n, c.in-Ok.value) ∷ []) (c.in_ok-of-in-Ok.ensures ∙ c.as_str.ensures.value)) in
    l.invariant ∙ (ap (λ es. after l.pairs.items (members_at c.args.level (members_view es))) c.in-Some.ensures.steps
    ∙ (member_read c.args.level l.pairs.items (string_bytes e.0) (view e.1) (members_view c.next.new.self) c.in-Ok.value c.in-Ok.ensures ∙ ap (λ ps. after ps rest) pushed))

pub members_at-from_pairs-requires : goal.members_at-from_pairs-requires
members_at-from_pairs-requires t c =
    let l = c.loop-name in
    names_rise c.args.level c.args.members.now.entries l.pairs.items c.iter-name-items.ensures.ordered
    (l.invariant ∙ (ap (λ es. after l.pairs.items (members_at c.args.level (members_view es))) c.in-None.ensures.steps.0 ∙ after_all l.pairs.items))

pub members_at-returns-in-Err : goal.members_at-returns-in-Err
members_at-returns-in-Err t c =
    let l = c.loop-name in
    let e : Entry = (c.in-Some.name.now, c.in-Some.member.now) in
    λ real. l.invariant ∙ (ap (λ es. after l.pairs.items (members_at c.args.level (members_view es))) c.in-Some.ensures.steps
    ∙ member_fault c.args.level l.pairs.items (string_bytes e.0) (view e.1) (members_view c.next.new.self) c.in-Err.fault c.under_name.result c.in-Err.ensures
    (λ r. c.under_name.ensures r ∙ ap (λ n. under (to_name n) c.in-Err.fault) c.as_str-in-Err.ensures.value) real)
