use Rattle.std.proofs.Common.{◌≡◌, ◌+◌, ◌≤◌, ◌++◌, reverse, length, vec_capacity}
use Rattle.indexmap.specs.IndexMap.{index_map_len, spare, values}
use Rattle.resh_stash.proofs.stash.move_all.Given as goal

abbrev pub invariant-loop-document : goal.invariant-loop-document
invariant-loop-document l = record {
  all : values l.documents ++ reverse l.list.items ≡ values l.initial.documents;
  fits : index_map_len l.documents + length l.list.items ≤ vec_capacity l.list;
  room : spare l.initial.documents ≤ spare l.documents;
}

abbrev pub decreases-loop-document : goal.decreases-loop-document
decreases-loop-document l = index_map_len l.documents
