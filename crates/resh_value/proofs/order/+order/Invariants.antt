use Rattle.std.proofs.Common.{◌≡◌, ◌+◌, ◌*◌, ◌≤◌, length, min}
use Rattle.std.proofs.cmp.SliceLoops.{Rest}
use Rattle.std.specs.Cmp.Lexicographic.{slice_cmp}
use Rattle.resh_value.specs.Depth.{levels_of}
use Rattle.resh_value.specs.Order.{compare_of, compare_fields}
use Rattle.resh_value.proofs.levels.Insides.{deepest, items_levels}
use Rattle.resh_value.proofs.order.+order.Given as goal

abbrev pub decreases-compare_values : goal.decreases-compare_values
decreases-compare_values l = 4 * levels_of l.a.now + 1

abbrev pub decreases-compare_contents : goal.decreases-compare_contents
decreases-compare_contents l = 4 * levels_of l.a.now

abbrev pub decreases-compare_documents : goal.decreases-compare_documents
decreases-compare_documents l = 4 * deepest l.fs.now + 3

abbrev pub decreases-compare_pair : goal.decreases-compare_pair
decreases-compare_pair l = 4 * levels_of l.f.now.1 + 2

abbrev pub decreases-compare_arrays : goal.decreases-compare_arrays
decreases-compare_arrays l = 4 * items_levels l.xs.now + 2

abbrev pub invariant-compare_documents-loop-i : goal.invariant-compare_documents-loop-i
invariant-compare_documents-loop-i l = (l.both ≡ min (length l.fs) (length l.gs)) × (l.i ≤ l.both) × Rest (slice_cmp compare_fields) l.fs l.gs l.i

abbrev pub invariant-compare_arrays-loop-i : goal.invariant-compare_arrays-loop-i
invariant-compare_arrays-loop-i l = (l.both ≡ min (length l.xs) (length l.ys)) × (l.i ≤ l.both) × Rest (slice_cmp compare_of) l.xs l.ys l.i
