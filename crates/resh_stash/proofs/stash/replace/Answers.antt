use Rattle.std.proofs.Common.{IsSome, ap, ◌∙◌, rules}
use Rattle.std.specs.FinMap.{insert}
use Rattle.indexmap.specs.IndexMap.{get}
use Rattle.resh_stash.specs.Stored.{gathered}
use Rattle.resh_stash.proofs.Gathered.{is_id, get_gathered, gathered_put}
use Rattle.resh_stash.proofs.stash.replace.Goals as goal

pub returns-in-Some-clause-replaced : goal.returns-in-Some-clause-replaced
returns-in-Some-clause-replaced c =
    let held : IsSome (get is_id c.args.map.now c.args.id.now) = search rules in
    let put = gathered_put c.args.map.now.entries _ c.args.id.now c.replace.new.dest ((c.get_mut.follows.holds c.replace.new.dest).3 held).0 in
    put ∙ ap (insert (gathered c.args.map.now.entries) c.args.id.now) c.replace.ensures.after

pub returns-in-Some-clause-before : goal.returns-in-Some-clause-before
returns-in-Some-clause-before c = get_gathered c.args.map.now.entries c.args.id.now ∙ search rules

pub returns-in-None-clause-missing : goal.returns-in-None-clause-missing
returns-in-None-clause-missing c = get_gathered c.args.map.now.entries c.args.id.now ∙ search rules
