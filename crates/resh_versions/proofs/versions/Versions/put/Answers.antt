use Rattle.std.proofs.Common.{◌∙◌, ap, Some}
use Rattle.resh_value.specs.Lookup.{id_of}
use Rattle.resh_versions.specs.Chains.{version}
use Rattle.resh_versions.specs.Standing.{VersionsOf, filed, popped, pushed}
use Rattle.resh_versions.proofs.WriteLaws.{takes_back}
use Rattle.resh_versions.proofs.versions.Versions.put.Goals as goal

pub returns-clause-undone : goal.returns-clause-undone
returns-clause-undone c =
    let id = id_of c.args.document in
    let v = version c.args.time (Some c.args.document) in
    let old : VersionsOf = record { chains = filed c.self.inside.chains; floor = c.self.inside.floor } in
    ap (λ chains. record { chains = popped chains id; floor = c.self.inside.floor }) (c.in_ok-push_version.ensures.ok ∙ ap (λ k. pushed old.chains k v) c.in_ok-id.ensures)
    ∙ takes_back old id v c.self.invariant.filed ∙ c.self.view_is
