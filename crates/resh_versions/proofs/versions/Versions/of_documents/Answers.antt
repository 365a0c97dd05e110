use Rattle.std.proofs.Common.{◌≡◌, ◌∷◌, [], ◌∙◌, ap, sym, subst}
use Rattle.std.proofs.lemmas.List.Elements.{All-rest}
use Rattle.std.proofs.lemmas.List.Sums.{fold-append}
use Rattle.std.specs.FinMap.{empty}
use Rattle.std.specs.List.{All}
use Rattle.resh_versions.specs.Chains.{IsStored}
use Rattle.resh_versions.specs.Standing.{with_first}
use Rattle.resh_versions.proofs.Filing.{kept_none}
use Rattle.resh_versions.proofs.versions.Versions.of_documents.Goals as goal

pub loop-document-init : goal.loop-document-init
loop-document-init c =
    let none = kept_none c.new-chains.result c.new-chains.ensures.ordered c.new-chains.ensures.empty in
    let all : c.into_iter-document-iterator.result.rest.items ≡ c.args.documents = cc in
    record { kept = none.1; stored = none.0; whole = subst (All IsStored) (sym all) c.requires }

pub loop-document-preserved : goal.loop-document-preserved
loop-document-preserved c =
    record {
      kept = c.in_ok-store.ensures.kept;
      stored = c.in_ok-store.ensures.stored ∙ ap (λ chains. with_first c.args.time chains c.in-Some.document) c.loop-document.invariant.stored
          ∙ sym (fold-append (with_first c.args.time) empty c.loop-document.yielded (c.in-Some.document ∷ []));
      whole = All-rest IsStored c.in-Some.document _ _ c.in-Some.ensures.steps.0 c.loop-document.invariant.whole;
    }
