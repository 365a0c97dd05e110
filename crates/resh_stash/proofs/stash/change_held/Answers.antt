use Rattle.std.proofs.lemmas.Result.{MatchResult-from_err}
use Rattle.std.proofs.Common.{ℕ, List, Option, ◌≡◌, IsSome, Some, None, is_some, ap, sym, ◌∙◌, rules}
use Rattle.std.specs.FinMap.{insert}
use Rattle.std.specs.Option.{option_map_or}
use Rattle.indexmap.specs.IndexMap as table
use Rattle.resh_value.specs.Change.{changed}
use Rattle.resh_value.specs.declared.value.Value.{Value}
use Rattle.resh_stash.specs.Stored.{Document, Stored, gathered}
use Rattle.resh_stash.proofs.Gathered.{is_id, get_gathered, gathered_again, gathered_put}
use Rattle.resh_stash.proofs.stash.change_held.Goals as goal

-- what a change of the held document makes of them all
abbrev applied_to : Stored → Value → Document → List (List ℕ) → Option Document → Stored
applied_to documents id assign unset held = option_map_or (λ d. insert documents id (changed assign unset d)) held documents

pub returns-in_err-apply_change-in-Some-clause-unchanged : goal.returns-in_err-apply_change-in-Some-clause-unchanged
returns-in_err-apply_change-in-Some-clause-unchanged c =
    let held : IsSome (table.get is_id c.args.map.now c.args.id.now) = search rules in
    let same : table.get is_id c.args.map.now c.args.id.now ≡ Some c.apply_change.new.self = search rules in
    MatchResult-from_err c.from_residual.result _ _ c.from_residual.ensures.0 (λ _. gathered_again c.args.map.now.entries _ c.args.id.now c.apply_change.new.self same ((c.get_mut.follows.holds c.apply_change.new.self).3 held).0)

pub returns-in_ok-apply_change-in-Some-clause-held : goal.returns-in_ok-apply_change-in-Some-clause-held
returns-in_ok-apply_change-in-Some-clause-held c =
    let found : table.get is_id c.args.map.now c.args.id.now ≡ Some c.in-Some.held.now = search rules in
    ap is_some (sym (get_gathered c.args.map.now.entries c.args.id.now ∙ found))

pub returns-in_ok-apply_change-in-Some-clause-ok : goal.returns-in_ok-apply_change-in-Some-clause-ok
returns-in_ok-apply_change-in-Some-clause-ok c =
    let held : IsSome (table.get is_id c.args.map.now c.args.id.now) = search rules in
    let found : table.get is_id c.args.map.now c.args.id.now ≡ Some c.in-Some.held.now = search rules in
    let put = gathered_put c.args.map.now.entries _ c.args.id.now c.apply_change.new.self ((c.get_mut.follows.holds c.apply_change.new.self).3 held).0 in
    put ∙ ap (insert (gathered c.args.map.now.entries) c.args.id.now) c.in_ok-apply_change-in-Some.ensures.ok
    ∙ sym (ap (applied_to (gathered c.args.map.now.entries) c.args.id.now c.args.change.now.assign c.args.change.now.unset) (get_gathered c.args.map.now.entries c.args.id.now ∙ found))

pub returns-in-None-clause-held : goal.returns-in-None-clause-held
returns-in-None-clause-held c =
    let missing : table.get is_id c.args.map.now c.args.id.now ≡ None = search rules in
    ap is_some (sym (get_gathered c.args.map.now.entries c.args.id.now ∙ missing))

pub returns-in-None-clause-ok : goal.returns-in-None-clause-ok
returns-in-None-clause-ok c =
    let missing : table.get is_id c.args.map.now c.args.id.now ≡ None = search rules in
    ap (λ m. gathered m.entries) c.get_mut.follows.holds-at-none
    ∙ sym (ap (applied_to (gathered c.args.map.now.entries) c.args.id.now c.args.change.now.assign c.args.change.now.unset) (get_gathered c.args.map.now.entries c.args.id.now ∙ missing))

pub returns-in_err-apply_change-in-Some-clause-wanted : goal.returns-in_err-apply_change-in-Some-clause-wanted
returns-in_err-apply_change-in-Some-clause-wanted c =
    let found : table.get is_id c.args.map.now c.args.id.now ≡ Some c.in-Some.held.now = search rules in
    MatchResult-from_err c.from_residual.result _ _ c.from_residual.ensures.0 (λ _. ap is_some (get_gathered c.args.map.now.entries c.args.id.now ∙ found))
