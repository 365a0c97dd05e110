use Rattle.std.proofs.Common.{◌≡◌}
use Rattle.std.specs.FinMap.{empty}
use Rattle.std.specs.List.{All, fold}
use Rattle.resh_versions.specs.Chains.{IsStored}
use Rattle.resh_versions.specs.Standing.{IsKept, filed, with_first}
use Rattle.resh_versions.proofs.versions.Versions.of_documents.Given as goal

abbrev pub invariant-loop-document : goal.invariant-loop-document
invariant-loop-document l = record {
  kept : IsKept l.chains;
  stored : filed l.chains ≡ fold (with_first l.time) empty l.yielded;
  whole : All IsStored l.document-iterator.rest.items;
}
