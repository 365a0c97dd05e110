use Rattle.std.proofs.Common.{◌∙◌, ◌≡◌, None, ap, sym, subst}
use Rattle.std.proofs.lemmas.List.Elements.{All-from_recursion}
use Rattle.std.specs.List.{All}
use Rattle.std.specs.Option.{option_copied}
use Rattle.resh_versions.specs.Chains.{IsStored}
use Rattle.resh_versions.specs.Standing.{IsFiled, chains_above, documents_of, read_after}
use Rattle.resh_versions.proofs.Filing.{kept_entries}
use Rattle.resh_versions.proofs.Listing.{all_whole}
use Rattle.resh_versions.proofs.versions.Versions.walk_now.Goals as goal

listed : (c : goal.After-chains_above) → documents_of None c.chains_above.result ≡ read_after c.args.self.now None (option_copied c.args.after)
listed c =
    ap (documents_of None) (c.chains_above.ensures
    ∙ ap (chains_above (option_copied c.args.after)) (kept_entries c.self.inside.chains c.args.self.now.chains c.self.invariant (ap (λ s. s.chains) c.self.view_is)))

pub returns-clause-listed : goal.returns-clause-listed
returns-clause-listed c = listed c

pub returns-clause-whole : goal.returns-clause-whole
returns-clause-whole c =
    let are : IsFiled c.args.self.now.chains = subst (λ s. IsFiled s.chains) c.self.view_is c.self.invariant.filed in
    subst (All IsStored) (sym (listed c)) (All-from_recursion IsStored _ (all_whole c.args.self.now None are (option_copied c.args.after)))
